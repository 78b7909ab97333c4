use Prim.Native.Nat.{◌+◌}
use native.Mathlib.Omega.{arith}
use lib.ListN.{length-set}
use Rattle.mask_tree.proofs.FunctionLaws.{group-within, raised-on}
use Rattle.mask_tree.proofs.Level.raise.Goals as goal

pub slice_bounds-mask_of-end : goal.slice_bounds-mask_of-end
slice_bounds-mask_of-end c = omega (arith, group-within c.loop-g.g c.args.self.count c.args.self.wide (omega arith))

pub loop-g-preserved : goal.loop-g-preserved
loop-g-preserved c =
    let within = group-within c.loop-g.g c.args.self.count c.args.self.wide (omega arith) in (
      omega (arith, length-set c.loop-g.m (c.args.self.first + c.loop-g.g) c.mask_of.result),
      raised-on _ _ _ _ _ _ _ c.loop-g.invariant.1 (omega arith) (omega (arith, within)) c.mask_of.ensures,
    )
