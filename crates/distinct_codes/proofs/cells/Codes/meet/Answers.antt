-- A law for each way out: the cell is free, its holder has the code, or it has another.
use mathlib.Core.Path.{ap, sym, ◌∙◌, subst}
use native.Mathlib.Omega.{arith}
use Prim.Native.Nat.{ℕ}
use mathlib.Core.Bool.{true}
use mathlib.Core.List.{List}
use Rattle.distinct_codes.specs.Cells.{spread}
use Rattle.distinct_codes.specs.Met.{Meets}
use Rattle.distinct_codes.proofs.MeetLaws.{meet-free, meet-clash, meet-aside}
use Rattle.distinct_codes.proofs.cells.Codes.meet.Goals as goal
use mathlib.Core.Path.{refl}

pub returns-then-v-eq0 : goal.returns-then-v-eq0
returns-then-v-eq0 g c =
    let e = c.spread-p.ensures.cell ∙ ap (spread g.row.CELLS) c.code-code.ensures in
    meet-free _ _ _ _ _ c.requires.3 _ _ e refl c.if-v-eq0.true (omega (arith, c.requires.3.cells, c.spread-p.ensures.below)) c.requires.0

pub returns-then-code : goal.returns-then-code
returns-then-code g c =
    let e = c.spread-p.ensures.cell ∙ ap (spread g.row.CELLS) c.code-code.ensures in
    meet-clash _ _ _ _ _ c.requires.3 _ _ e refl c.if-v-eq0.false
    (sym c.code.ensures ∙ c.if-code.true ∙ c.code-code.ensures)

pub returns : goal.returns
returns g c =
    let e = c.spread-p.ensures.cell ∙ ap (spread g.row.CELLS) c.code-code.ensures in
    subst (λ (b : List ℕ). Meets c.args.slots g.row.CELLS c.args.i c.args.self.now.cells c.args.self.now.aside.items true c.args.self.now.cells b)
    (sym c.push.ensures.items)
    (meet-aside _ _ _ _ _ c.requires.3 _ _ e refl c.if-v-eq0.false
    (λ q. c.if-code.false (c.code.ensures ∙ q ∙ sym c.code-code.ensures)) c.requires.0)
