use Rattle.std.proofs.Common.{◌≡◌, ◌+◌, refl, ap, ◌∙◌, arith}
use Rattle.model.specs.Lists.{from, mask}
use Rattle.model.specs.Memory.{at, flag}
use Rattle.model.specs.Layout.{online_bit}
use Rattle.lanes.specs.Cabinet.{place_at, online_at}
use Rattle.masks.proofs.BitLaws.{mask-set, mask-clear}
use Rattle.lanes.proofs.cabinet.online_mask.Goals as goal
use Rattle.lanes.proofs.cabinet.online_mask.Goals.{then-is_set, else-is_set}

pub loop-p-init : goal.loop-p-init
unfolding mask from
loop-p-init c = (omega arith, refl)

pub loop-p-preserved : goal.loop-p-preserved
loop-p-preserved c =
    let m = c.args.cabinet.now in
    let p = c.loop-p.p in
    let z : place_at p ≡ 0 + place_at p = omega arith in
    let e : c.is_set.result ≡ online_at m 0 p = c.is_set.ensures ∙ ap (flag online_bit) (c.lane_flags.ensures ∙ ap (at m) z) in (
      omega arith,
      elim c.if-is_set.branch [
        | then-is_set w ↦ mask-set (online_at m 0) p _ _ (omega arith) c.loop-p.invariant.1 _ e w.if-is_set.true (w.online-is ∙ w.set_bit-online.ensures)
        | else-is_set w ↦ mask-clear (online_at m 0) p _ _ (omega arith) c.loop-p.invariant.1 _ e w.if-is_set.false w.online-is
      ],
    )
