-- The slots in done queues: what clock and off add to them. They are counted over the global queue and the lanes, by a count of the lanes that is a
-- parameter: of one lane, or of all.
use Prim.Native.Nat.{ℕ, ◌+◌, ◌<◌}
use mathlib.Core.Path.{◌≡◌, refl, ◌∙◌}
use mathlib.Core.Bool.{Bool, true, false, not, cond, ◌&&◌}
use mathlib.Core.List.{List, [], map, ◌++◌}
use native.Mathlib.Omega.{arith}
use lib.ListN.{length, get_or, length-append}
use Rattle.model.specs.Word.{up}
use Rattle.model.specs.Lists.{update}
use Rattle.model.specs.State.{unheld, Queues, Lane, Engine, is_held}
use Rattle.model.specs.Engine.{fresh_lane, lane_at, awaiting, emptied, set_pending, set_queues, with_current, with_largest, with_global, at_lane, runs, started}
use Rattle.model.specs.Engine.{ended, released, is_over, settled, settling, ready, target, batched, requested, advanced_lane, advanced_global, quiesced}
use Rattle.model.specs.Engine.{sampled, compared, clocked, clock_moves, taken, left_by, went_off, off_moves}
use Rattle.laws.specs.Tests.{cond_cases}
use Rattle.laws.specs.ListLaws.{length-update}
use Rattle.representation.proofs.Discipline.Frame.{ended-cases, frame-released, frame-advanced_lane, frame-advanced_global}

-- the slots in a lane's done queue
abbrev pub lane_done : Lane → ℕ
lane_done l = length l.queues.done

-- what settles is what done has more
settled-done : (g : ℕ) (q : Queues) → length (settled g q).done ≡ length q.done + settling g q
unfolding settled settling
settled-done g q = go (is_over g q)
  where
    done : Queues
    done = record { next = q.next; current = []; done = q.done ++ q.current; generation = 0 }

    go : (b : Bool) → length (cond b done q).done ≡ length q.done + cond b (length q.current) 0
    go true = length-append q.done q.current
    go false = omega arith

sampled-done : (l : Lane) → lane_done (sampled l) ≡ lane_done l
unfolding sampled
sampled-done l = cond_cases (λ (k : Lane). lane_done k ≡ lane_done l) (l.pending && not (is_held l.snapshot)) (λ t. refl) (λ t. refl)

-- what is counted over the lanes follows lane i's done queue, and knows of the others that they stay
module _ (i : ℕ) (part : List Lane → ℕ)
    (changed : (ls : List Lane) (f : Lane → Lane) → i < length ls
    → part (update ls i f) + lane_done (get_or ls i fresh_lane) ≡ part ls + lane_done (f (get_or ls i fresh_lane)))
    (awaits : (ls : List Lane) → part (map awaiting ls) ≡ part ls) where
  abbrev pub counted : Engine → ℕ
  counted e = length e.global.done + part e.lanes

  -- ---- periods move no slot

  counted-started : (e : Engine) → counted (started e) ≡ counted e
  unfolding started
  counted-started e = omega (arith, awaits e.lanes)

  counted-ended : (e : Engine) → counted (ended e) ≡ counted e
  counted-ended e = ended-cases (λ (f : Engine). counted f ≡ counted e) e (λ t. refl) (λ t. counted-started (with_current (up e.current) e))

  counted-requested : (g : ℕ) (e : Engine) → counted (requested g e) ≡ counted e
  unfolding requested
  counted-requested g e = cond_cases (λ (f : Engine). counted f ≡ counted e) (runs e) (λ t. refl) (λ t. counted-started (with_largest _ e))

  module _ (e : Engine) (known : i < length e.lanes) where
    counted-lane : (f : Lane → Lane) → lane_done (f (lane_at e i)) ≡ lane_done (lane_at e i) → counted (at_lane i f e) ≡ counted e
    counted-lane f h = omega (arith, changed e.lanes f known)

    counted-released : counted (released i e) ≡ counted e
    unfolding released
    counted-released = cond_cases (λ (f : Engine). counted f ≡ counted e) ((lane_at e i).pending && not (runs g)) (λ t. counted-ended g ∙ kept) (λ t. kept)
      where
        g : Engine
        g = at_lane i (set_pending false unheld) e

        kept : counted (at_lane i (set_pending false unheld) e) ≡ counted e
        kept = counted-lane (set_pending false unheld) refl

    -- ---- an advance moves what settles

    counted-advanced_lane : counted (advanced_lane i e) ≡ counted e + settling e.current (lane_at e i).queues
    unfolding advanced_lane
    counted-advanced_lane =
        cond_cases (λ (f : Engine). counted f ≡ counted e + settling e.current (lane_at e i).queues) (ready q)
        (λ t. counted-requested (target e) (at_lane i (set_queues (batched (target e) q)) e)
        ∙ omega (arith, changed e.lanes (set_queues (batched (target e) q)) known, settled-done e.current (lane_at e i).queues))
        (λ t. omega (arith, changed e.lanes (set_queues q) known, settled-done e.current (lane_at e i).queues))
      where
        q : Queues
        q = settled e.current (lane_at e i).queues

  counted-advanced_global : (e : Engine) → counted (advanced_global e) ≡ counted e + settling e.current e.global
  unfolding advanced_global
  counted-advanced_global e =
      cond_cases (λ (f : Engine). counted f ≡ counted e + settling e.current e.global) (ready q)
      (λ t. counted-requested (target e) (with_global (batched (target e) q) e) ∙ omega (arith, settled-done e.current e.global))
      (λ t. omega (arith, settled-done e.current e.global))
    where
      q : Queues
      q = settled e.current e.global

  -- ---- the calls

  module _ (e : Engine) (known : i < length e.lanes) where
    pub counted-clocked : counted (clocked i e) ≡ counted e + clock_moves i e
    unfolding clocked clock_moves
    counted-clocked =
        omega (
          arith,
          first,
          counted-advanced_lane f inside,
          counted-advanced_global g,
          counted-lane (advanced_global g) (omega (arith, inside, (frame-advanced_lane i f).size, (frame-advanced_global g).size)) sampled
              (sampled-done (lane_at (advanced_global g) i)),
        )
      where
        f : Engine
        f = compared i e

        g : Engine
        g = advanced_lane i f

        first : counted (compared i e) ≡ counted e
        first = cond_cases (λ (f : Engine). counted f ≡ counted e) (quiesced (lane_at e i)) (λ t. counted-released e known) (λ t. refl)

        inside : i < length (compared i e).lanes
        inside = cond_cases (λ (f : Engine). i < length f.lanes) (quiesced (lane_at e i)) (λ t. omega (arith, known, (frame-released i e).size)) (λ t. known)

    pub counted-went_off : counted (went_off i e) ≡ counted e + off_moves i e
    unfolding went_off off_moves
    counted-went_off =
        omega (
          arith,
          counted-advanced_global (left_by i e),
          counted-released h (omega (arith, known, length-update e.lanes i emptied)),
          changed e.lanes emptied known,
          length-append e.global.done (lane_at e i).queues.done,
        )
      where
        h : Engine
        h = at_lane i emptied (with_global (taken e.global (lane_at e i).queues) e)
