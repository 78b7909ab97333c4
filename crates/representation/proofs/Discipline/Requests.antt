-- To ask for a generation: the largest one raised, a period begun, and that neither depends on the queues.
use Prim.Native.Nat.{ℕ}
use mathlib.Core.Path.{◌≡◌, refl, ap}
use mathlib.Core.Bool.{Bool, true, false, cond}
use mathlib.Core.List.{List}
use Rattle.model.specs.Word.{later}
use Rattle.model.specs.State.{Queues, Lane, Engine}
use Rattle.model.specs.Engine.{fresh_lane, awaiting, is_pending, lane_at, set_queues, with_largest, with_lanes, with_global, at_lane, runs, started, requested}
use Rattle.laws.specs.ListLaws.{map-update}
use Rattle.laws.specs.Elements.{any_false, any-update-same}

-- the largest requested once g is
abbrev pub raised : ℕ → Engine → ℕ
raised g e = cond (later g e.largest) g e.largest

pub none-pending : (e : Engine) → runs e ≡ false → (i : ℕ) → (lane_at e i).pending ≡ false
none-pending e h = any_false fresh_lane is_pending e.lanes refl h

-- to ask for a generation and to change a queue are independent
pub requested-lane : (t i : ℕ) (q : Queues) (e : Engine) → requested t (at_lane i (set_queues q) e) ≡ at_lane i (set_queues q) (requested t e)
unfolding requested started
requested-lane t i q e = rw (any-update-same is_pending (set_queues q) e.lanes i (λ l. refl)) (go (runs e))
  where
    f : Engine
    f = with_largest (raised t e) (at_lane i (set_queues q) e)

    g : Engine
    g = with_largest (raised t e) e

    go : (b : Bool) → cond b f (started f) ≡ at_lane i (set_queues q) (cond b g (started g))
    go true = refl
    go false = ap (λ (ls : List Lane). with_lanes ls f) (map-update awaiting (set_queues q) e.lanes i (λ l. refl))

pub requested-global : (t : ℕ) (q : Queues) (e : Engine) → requested t (with_global q e) ≡ with_global q (requested t e)
unfolding requested started
requested-global t q e = go (runs e)
  where
    f : Engine
    f = with_largest (raised t e) (with_global q e)

    g : Engine
    g = with_largest (raised t e) e

    go : (b : Bool) → cond b f (started f) ≡ with_global q (cond b g (started g))
    go true = refl
    go false = refl
