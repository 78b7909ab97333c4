use Prim.Native.Nat.{ℕ}
use mathlib.Core.Bool.{Bool, true, ◌&&◌}
use native.Mathlib.Omega.{arith}
use lib.ListN.{take, drop}
use lib.Dec.{eqb}
use Rattle.std.proofs.Common.{rules, tests}
use Rattle.std.proofs.lemmas.Iterator.{YieldsList-from_slice}
use Rattle.std.proofs.lemmas.Iterator.Consumers.{fold_from_yields_List}
use Rattle.model.specs.Layout.{snapshot_at, counts_width}
use Rattle.engine_legality.proofs.RangeLaws.{part-blank}
use Rattle.engine_legality.proofs.lanes.Lane.is_snapshot_blank.Goals as goal

pub returns : goal.returns
returns c =
    let ws = c.args.self.now.words.now in
    part-blank ws snapshot_at counts_width c.fold.result (omega arith)
    (fold_from_yields_List _ (λ (b : Bool) (x : ℕ). b && eqb x 0) true c.fold.result c.fold.ensures.ran
    (YieldsList-from_slice (take counts_width (drop snapshot_at ws)) cc) (λ b x r q k. search (rules, tests)))
