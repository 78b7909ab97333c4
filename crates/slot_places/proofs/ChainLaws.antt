-- A chain on its way: a law for each way out of the loop that walks it, and lists of steps one after the other.
use Prim.Native.Nat.{ℕ, ◌+◌, ◌*◌, ◌-◌, ◌≤◌, ◌<◌}
use mathlib.Core.Bool.{Bool, true, false}
use mathlib.Core.Path.{◌≡◌, refl, ap, sym, ◌∙◌, subst}
use mathlib.Core.List.{List, [], ◌++◌}
use native.Mathlib.Omega.{arith}
use lib.ListN.{get_or, set, length}
use Rattle.std.specs.Prelude.{Option, Some, None}
use Rattle.model.specs.Word.{none}
use Rattle.model.specs.Layout.{heads_at, slot_length, chain_link_at}
use Rattle.model.specs.Memory.{at}
use Rattle.distinct_codes.specs.declared.slots.Slots.{Slots}
use Rattle.distinct_codes.specs.Cells.{spread, Held, held, meets}
use Rattle.distinct_codes.specs.Met.{code_of, Room, Meets}
use Rattle.distinct_codes.proofs.CellLaws.{meets-clash, meets-append}
use Rattle.slot_places.specs.Slots.{chained_fits}
use Rattle.slot_places.specs.WalkSteps.{Step, Outcome, met, run, slots_of, several}
use Rattle.slot_places.specs.Walks.{chain_of, Counted, Ready, enters_all, Enters, spoils, repeats, passes}
use Rattle.slot_places.proofs.WalkStepLaws.{going, run-append, slots_of-append, several-done, several_from, several-start, several-next, Going, going_start}
use Rattle.slot_places.proofs.WalkStepLaws.{going-ends, going-astray, going-twice, going_next, going-unfit, going-left, going_on}

module _ (t : Slots) (R : ℕ) where
  abbrev m : List ℕ
  m = t.memory.now

  abbrev enters : List ℕ → Held → Held
  enters = meets (code_of t) (spread R)

  -- ---- one chain

  module _ (k : ℕ) (s₀ k₀ a₀ : List ℕ) where
    abbrev steps : List Step
    steps = chain_of t k

    -- what the slots from here on leave is what all leave
    abbrev Onward : List ℕ → List ℕ → List ℕ → Type 0
    Onward l a xs = enters xs (held l a) ≡ enters_all t R steps k₀ a₀

    pub record Chaining (cur : ℕ) (s l a : List ℕ) (rest : ℕ) : Type 0 where
      pub way : Going t (t.base + chain_link_at) (chained_fits m t.base k) (Onward l a) (run steps s₀) cur s rest
      pub ready : Ready t R l a rest

    abbrev Out : Option ℕ → List ℕ → List ℕ → List ℕ → Type 0
    Out = Enters t R steps s₀ k₀ a₀

    module _ (cur : ℕ) (s l a : List ℕ) (rest : ℕ) (w : Chaining cur s l a rest) where
      pub chain-done : t.count ≤ cur → cur ≡ none → Out (Some rest) s l a
      unfolding meets
      chain-done b e =
          let q = going-ends t _ _ _ _ _ _ _ w.way b e in
          passes q.0 (sym q.1) w.way.counted w.ready

      pub chain-astray : t.count ≤ cur → (cur ≡ none → ⊥) → {u j b : List ℕ} → Out None u j b
      chain-astray b e = spoils (going-astray t _ _ _ _ _ _ _ w.way b e)

      module _ (b : cur < t.count) where
        pub chain-twice : (get_or s cur 0 ≡ 0 → ⊥) → {u j b : List ℕ} → Out None u j b
        chain-twice e = spoils (going-twice t _ _ _ _ _ _ _ w.way b e)

        module _ (z : get_or s cur 0 ≡ 0) where
          pub chain-unfit : (r : Bool) → r ≡ chained_fits m t.base k cur → r ≡ false → {u j b : List ℕ} → Out None u j b
          chain-unfit r q e = spoils (going-unfit t _ _ _ _ _ _ _ w.way b z r q e)

          some : 0 < rest
          some = omega (arith, going-left t _ _ _ _ _ _ _ w.way b z)

          -- what meeting the slot asks for
          pub chain-asks : (n : ℕ) → t.count ≤ n → (cur < t.count) × (length a < n) × Room t R l a
          chain-asks n h = (b, omega (arith, w.ready.most, some), w.ready.room)

          pub chain-less : rest - 1 < rest
          chain-less = omega (arith, some)

          module _ (r : Bool) (j d : List ℕ) (e : Meets t R cur l a r j d) where
            pub chain-repeats : r ≡ false → {u i b : List ℕ} → Out None u i b
            unfolding meets
            chain-repeats q =
                let x = going_next t _ _ _ _ _ _ _ w.way b in
                repeats (sym x.1 ∙ ap (enters x.0) (e.bad q) ∙ meets-clash _ _ x.0)

            pub chain-on : (p : Bool) → p ≡ chained_fits m t.base k cur → p ≡ true → r ≡ true → (x : ℕ)
                → x ≡ at m (t.base + slot_length * cur + chain_link_at)
                → Chaining x (set s cur met) j d (rest - 1)
            unfolding meets
            chain-on p q g h x y = record {
              way =
                  going_on t _ _ _ _ _ _ _ w.way b z p q g x
                  (y ∙ ap (at m) (let u : t.base + slot_length * cur + chain_link_at ≡ t.base + chain_link_at + slot_length * cur = omega arith in u))
                  (Onward j d) (λ xs t. ap (enters xs) (sym (e.good h)) ∙ t);
              ready = record { room = e.room; most = omega (arith, w.ready.most, e.most, some) };
            }

    pub chain-start : (cur left : ℕ) → cur ≡ at m (heads_at + k) → Counted t s₀ left → Ready t R k₀ a₀ left → Chaining cur s₀ k₀ a₀ left
    chain-start cur left e c r =
        subst (λ (x : ℕ). Chaining x s₀ k₀ a₀ left) (sym e)
        (record { way = going_start t _ _ (Onward k₀ a₀) (at m (heads_at + k)) s₀ left c refl; ready = r })

  -- ---- one list of steps after the other

  abbrev Result : List Step → List ℕ → List ℕ → List ℕ → Option ℕ → List ℕ → List ℕ → List ℕ → Type 0
  Result = Enters t R

  pub enters_none : (s l a : List ℕ) (left : ℕ) → Counted t s left → Ready t R l a left → Result [] s l a (Some left) s l a
  unfolding run slots_of meets
  enters_none s l a left c r = passes refl refl c r

  module _ (ps qs : List Step) (s l a : List ℕ) where
    both : enters_all t R (ps ++ qs) l a ≡ enters (slots_of qs) (enters_all t R ps l a)
    both = ap (λ (xs : List ℕ). enters xs (held l a)) (slots_of-append ps qs) ∙ meets-append _ _ (slots_of ps) (slots_of qs) _

    pub enters-fail : {u j b : List ℕ} → Result ps s l a None u j b → {v i c : List ℕ} → Result (ps ++ qs) s l a None v i c
    unfolding going
    enters-fail (spoils e) = spoils (run-append ps qs s ∙ ap (λ (o : Outcome). going o qs) e)
    enters-fail (repeats e) = repeats (both ∙ ap (enters (slots_of qs)) e ∙ meets-clash _ _ (slots_of qs))

    pub enters-then : {x : ℕ} {u j b : List ℕ} → Result ps s l a (Some x) u j b → {r : Option ℕ} {v i c : List ℕ} → Result qs u j b r v i c
        → Result (ps ++ qs) s l a r v i c
    unfolding going
    enters-then (passes e f c g) (spoils h) = spoils (run-append ps qs s ∙ ap (λ (o : Outcome). going o qs) e ∙ h)
    enters-then (passes e f c g) (repeats h) = repeats (both ∙ ap (enters (slots_of qs)) f ∙ h)
    enters-then (passes e f c g) (passes h i d k) =
        passes (run-append ps qs s ∙ ap (λ (o : Outcome). going o qs) e ∙ h) (both ∙ ap (enters (slots_of qs)) f ∙ i) d k

  pub enters-ready : (ps : List Step) (s l a : List ℕ) {x : ℕ} {u j b : List ℕ} → Result ps s l a (Some x) u j b → Counted t u x × Ready t R j b x
  enters-ready ps s l a (passes e f c g) = (c, g)

  -- ---- several, at a₀, a₀ + d, ..; n of them

  module _ (g : ℕ → List Step) (d a₀ n : ℕ) where
    -- those from the i-th on give what all give
    abbrev pub Rest : List ℕ → List ℕ → List ℕ → ℕ → List ℕ → List ℕ → List ℕ → Type 0
    Rest s₀ l₀ b₀ i s l b =
        (r : Option ℕ) (u j c : List ℕ) → Result (several_from g d a₀ n i) s l b r u j c → Result (several g d a₀ n) s₀ l₀ b₀ r u j c

    pub rest-start : (s l b : List ℕ) → Rest s l b 0 s l b
    rest-start s l b r u j c w = subst (λ (ps : List Step). Result ps s l b r u j c) (several-start g d a₀ n) w

    module _ (s₀ l₀ b₀ : List ℕ) (i : ℕ) (s l b : List ℕ) (f : Rest s₀ l₀ b₀ i s l b) where
      pub rest-end : (left : ℕ) → n ≤ i → Counted t s left → Ready t R l b left → Result (several g d a₀ n) s₀ l₀ b₀ (Some left) s l b
      rest-end left h e r =
          f (Some left) s l b
          (subst (λ (ps : List Step). Result ps s l b (Some left) s l b) (sym (several-done g d (a₀ + d * i) (n - i) (omega arith)))
          (enters_none s l b left e r))

      module _ (h : i < n) where
        pub rest-fail : (x : ℕ) → a₀ + d * i ≡ x → {u j c : List ℕ} → Result (g x) s l b None u j c → {v k e : List ℕ} → Result (several g d a₀ n) s₀ l₀ b₀ None v k e
        rest-fail x q {u} {j} {c} w {v} {k} {e} =
            f None v k e
            (subst (λ (ps : List Step). Result ps s l b None v k e) (sym (several-next g d a₀ n i h))
            (enters-fail (g (a₀ + d * i)) (several_from g d a₀ n (i + 1)) s l b (subst (λ (y : ℕ). Result (g y) s l b None u j c) (sym q) w)))

        pub rest-next : (x : ℕ) → a₀ + d * i ≡ x → {left : ℕ} {u j c : List ℕ} → Result (g x) s l b (Some left) u j c → Rest s₀ l₀ b₀ (i + 1) u j c
        rest-next x q {left} {u} {j} {c} w r v k e z =
            f r v k e
            (subst (λ (ps : List Step). Result ps s l b r v k e) (sym (several-next g d a₀ n i h))
            (enters-then (g (a₀ + d * i)) (several_from g d a₀ n (i + 1)) s l b (subst (λ (y : ℕ). Result (g y) s l b (Some left) u j c) (sym q) w) z))
