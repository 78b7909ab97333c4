-- A queue on its way: a law for each way out of the loop that walks it, and lists of steps one after the other.
use Prim.Native.Nat.{ℕ, ◌+◌, ◌*◌, ◌-◌, ◌≤◌, ◌<◌}
use mathlib.Core.Bool.{Bool, true, false}
use mathlib.Core.Path.{◌≡◌, refl, ap, sym, ◌∙◌, subst}
use mathlib.Core.List.{List, [], ◌∷◌, ◌++◌}
use native.Mathlib.Omega.{arith}
use lib.ListN.{get_or, set, length}
use lib.Dec.{eqb}
use borrow.Author.Tests.{eq-eqb, ne_eqb}
use Rattle.std.specs.Prelude.{Option, Some, None}
use Rattle.model.specs.Word.{none}
use Rattle.model.specs.Lists.{last}
use Rattle.model.specs.Layout.{last_offset, length_offset, slot_length, queue_link_at}
use Rattle.model.specs.Memory.{at}
use Rattle.distinct_codes.specs.declared.slots.Slots.{Slots}
use Rattle.slot_places.specs.declared.queue.Walked.{Walked}
use Rattle.slot_places.specs.declared.slots.Queued.{Queued}
use Rattle.slot_places.specs.Slots.{queued_fits}
use Rattle.slot_places.specs.WalkSteps.{Step, Outcome, met, run, slots_of, several, end_steps}
use Rattle.slot_places.specs.Walks.{links_of, queue_of, Counted, Runs, Walks, spoils, passes}
use Rattle.slot_places.proofs.WalkStepLaws.{going, run-append, several-done, several_from, several-start, several-next, Going, going_start, going-ends, going-astray}
use Rattle.slot_places.proofs.WalkStepLaws.{going-twice, going-unfit, going-left, going_on}

-- the last of a list, d where it has none
unfoldable pub last_from : ℕ → List ℕ → ℕ
last_from d [] = d
last_from d (x ∷ xs) = last_from x xs

last-from : (xs : List ℕ) → last_from none xs ≡ last xs
unfolding last_from last
last-from [] = refl
last-from (x ∷ xs) = go x xs
  where
    go : (x : ℕ) (xs : List ℕ) → last_from x xs ≡ last (x ∷ xs)
    go x [] = refl
    go x (y ∷ ys) = go y ys

module _ (t : Slots) where
  abbrev m : List ℕ
  m = t.memory.now

  -- ---- one queue

  module _ (kind : Queued) (from : ℕ) (s₀ : List ℕ) (left₀ : ℕ) where
    abbrev steps : List Step
    steps = links_of t kind from

    -- xs being the slots from here on: their last is that of all, and rest less their number is what is left at the end
    pub record Onward (l rest : ℕ) (xs : List ℕ) : Type 0 where
      pub ends : last_from l xs ≡ last (slots_of steps)
      pub counts : length (slots_of steps) + rest ≡ left₀ + length xs

    pub record Queueing (cur : ℕ) (s : List ℕ) (l rest : ℕ) : Type 0 where
      pub way : Going t (t.base + queue_link_at) (queued_fits m t.base t.count kind) (Onward l rest) (run steps s₀) cur s rest

    abbrev Out : Option Walked → List ℕ → Type 0
    Out = Walks t steps s₀ left₀

    pub queue-start : (cur : ℕ) → cur ≡ at m from → Counted t s₀ left₀ → Queueing cur s₀ none left₀
    queue-start cur e c =
        subst (λ (x : ℕ). Queueing x s₀ none left₀) (sym e)
        (record { way = going_start t _ _ (Onward none left₀) (at m from) s₀ left₀ c (record { ends = last-from (slots_of steps); counts = omega arith }) })

    module _ (cur : ℕ) (s : List ℕ) (l rest : ℕ) (w : Queueing cur s l rest) where
      pub queue-done : t.count ≤ cur → cur ≡ none → Out (Some (record { left = rest; last = l })) s
      unfolding last_from
      queue-done b e =
          let q = going-ends t _ _ _ _ _ _ _ w.way b e in
          passes q.0 w.way.counted q.1.ends (omega (arith, q.1.counts))

      pub queue-astray : t.count ≤ cur → (cur ≡ none → ⊥) → {u : List ℕ} → Out None u
      queue-astray b e = spoils (going-astray t _ _ _ _ _ _ _ w.way b e)

      module _ (b : cur < t.count) where
        pub queue-twice : (get_or s cur 0 ≡ 0 → ⊥) → {u : List ℕ} → Out None u
        queue-twice e = spoils (going-twice t _ _ _ _ _ _ _ w.way b e)

        module _ (z : get_or s cur 0 ≡ 0) where
          pub queue-unfit : (r : Bool) → r ≡ queued_fits m t.base t.count kind cur → r ≡ false → {u : List ℕ} → Out None u
          queue-unfit r q e = spoils (going-unfit t _ _ _ _ _ _ _ w.way b z r q e)

          pub queue-less : rest - 1 < rest
          queue-less = omega (arith, going-left t _ _ _ _ _ _ _ w.way b z)

          pub queue-on : (p : Bool) → p ≡ queued_fits m t.base t.count kind cur → p ≡ true → (x : ℕ)
              → x ≡ at m (t.base + slot_length * cur + queue_link_at)
              → Queueing x (set s cur met) cur (rest - 1)
          unfolding last_from
          queue-on p q g x y = record {
            way =
                going_on t _ _ _ _ _ _ _ w.way b z p q g x
                (y ∙ ap (at m) (let u : t.base + slot_length * cur + queue_link_at ≡ t.base + queue_link_at + slot_length * cur = omega arith in u))
                (Onward cur (rest - 1)) (λ xs t. record { ends = t.ends; counts = omega (arith, t.counts, queue-less) });
          }

    -- its last and its length are those given
    abbrev whole : List Step
    whole = queue_of t kind from

    abbrev ends : List Step
    ends = end_steps m t.base t.count from (slots_of steps)

    after : run whole s₀ ≡ going (run steps s₀) ends
    after = run-append steps ends s₀

    pub queue-bad : {u : List ℕ} → Out None u → {v : List ℕ} → Runs t whole s₀ None v
    unfolding going
    queue-bad (spoils q) = spoils (after ∙ ap (λ (o : Outcome). going o ends) q)

    -- a walk that was done
    record Done (v : Walked) (u : List ℕ) : Type 0 where
      painted_is : run whole s₀ ≡ run ends u
      counted : Counted t u v.left
      last_is : v.last ≡ last (slots_of steps)
      length_is : length (slots_of steps) + v.left ≡ left₀

    done : {v : Walked} {u : List ℕ} → Out (Some v) u → Done v u
    unfolding going
    done (passes q c d n) = record { painted_is = after ∙ ap (λ (o : Outcome). going o ends) q; counted = c; last_is = d; length_is = n }

    module _ (v : Walked) (u : List ℕ) (w : Out (Some v) u) where
      pub queue-fewer : v.left ≤ left₀
      queue-fewer = omega (arith, (done w).length_is)

      pub queue-wrong : (v.last ≡ at m (from + last_offset) → ⊥) → {x : List ℕ} → Runs t whole s₀ None x
      unfolding run
      queue-wrong h = spoils ((done w).painted_is ∙ rw (ne_eqb (last (slots_of steps)) (at m (from + last_offset)) (λ y. h ((done w).last_is ∙ y)), run))

      module _ (h : v.last ≡ at m (from + last_offset)) where
        last-told : eqb (last (slots_of steps)) (at m (from + last_offset)) ≡ true
        last-told = eq-eqb _ _ (sym (done w).last_is ∙ h)

        pub queue-miscounted : (left₀ - v.left ≡ at m (from + length_offset) → ⊥) → {x : List ℕ} → Runs t whole s₀ None x
        unfolding run
        queue-miscounted k =
            spoils ((done w).painted_is
            ∙ rw (last-told, ne_eqb (length (slots_of steps)) (at m (from + length_offset)) (λ y. k (omega (arith, y, (done w).length_is))), run))

        pub queue-good : left₀ - v.left ≡ at m (from + length_offset) → Runs t whole s₀ (Some v.left) u
        unfolding run
        queue-good k =
            passes ((done w).painted_is
            ∙ rw (last-told, eq-eqb (length (slots_of steps)) (at m (from + length_offset)) (omega (arith, k, (done w).length_is)), run)) (done w).counted

  -- ---- one list of steps after the other

  pub runs_none : (s : List ℕ) (left : ℕ) → Counted t s left → Runs t [] s (Some left) s
  unfolding run
  runs_none s left c = passes refl c

  module _ (ps qs : List Step) (s : List ℕ) where
    pub runs-fail : {u : List ℕ} → Runs t ps s None u → {v : List ℕ} → Runs t (ps ++ qs) s None v
    unfolding going
    runs-fail (spoils e) = spoils (run-append ps qs s ∙ ap (λ (o : Outcome). going o qs) e)

    pub runs_then : {x : ℕ} {u : List ℕ} → Runs t ps s (Some x) u → {r : Option ℕ} {v : List ℕ} → Runs t qs u r v → Runs t (ps ++ qs) s r v
    unfolding going
    runs_then (passes e c) (spoils h) = spoils (run-append ps qs s ∙ ap (λ (o : Outcome). going o qs) e ∙ h)
    runs_then (passes e c) (passes h d) = passes (run-append ps qs s ∙ ap (λ (o : Outcome). going o qs) e ∙ h) d

  pub runs-counted : (ps : List Step) (s : List ℕ) {x : ℕ} {u : List ℕ} → Runs t ps s (Some x) u → Counted t u x
  runs-counted ps s (passes e c) = c

  -- ---- several, at a, a + d, ..; n of them

  module _ (g : ℕ → List Step) (d a n : ℕ) where
    -- those from the i-th on give what all give from the marks s₀
    abbrev pub Rest : List ℕ → ℕ → List ℕ → Type 0
    Rest s₀ i s = (r : Option ℕ) (u : List ℕ) → Runs t (several_from g d a n i) s r u → Runs t (several g d a n) s₀ r u

    pub rest-start : (s₀ : List ℕ) → Rest s₀ 0 s₀
    rest-start s₀ r u w = subst (λ (ps : List Step). Runs t ps s₀ r u) (several-start g d a n) w

    pub rest-end : (s₀ s : List ℕ) (i left : ℕ) → Rest s₀ i s → n ≤ i → Counted t s left → Runs t (several g d a n) s₀ (Some left) s
    rest-end s₀ s i left f h c =
        f (Some left) s (subst (λ (ps : List Step). Runs t ps s (Some left) s) (sym (several-done g d (a + d * i) (n - i) (omega arith))) (runs_none s left c))

    module _ (s₀ s : List ℕ) (i : ℕ) (f : Rest s₀ i s) (h : i < n) where
      pub rest-fail : {u : List ℕ} → Runs t (g (a + d * i)) s None u → {v : List ℕ} → Runs t (several g d a n) s₀ None v
      rest-fail w {v} =
          f None v
          (subst (λ (ps : List Step). Runs t ps s None v) (sym (several-next g d a n i h)) (runs-fail (g (a + d * i)) (several_from g d a n (i + 1)) s w))

      pub rest-next : {x : ℕ} {u : List ℕ} → Runs t (g (a + d * i)) s (Some x) u → Rest s₀ (i + 1) u
      rest-next w r v z =
          f r v
          (subst (λ (ps : List Step). Runs t ps s r v) (sym (several-next g d a n i h)) (runs_then (g (a + d * i)) (several_from g d a n (i + 1)) s w z))
