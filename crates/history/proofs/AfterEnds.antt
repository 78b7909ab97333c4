-- What an accepted end leaves of its lane, over every list: no section till the lane begins one; till it starts one no lookup, and no step that is accepted.
use Prim.Native.Nat.{ℕ, suc}
use mathlib.Core.Path.{◌≡◌, refl, sym, ap, subst, ◌∙◌}
use mathlib.Core.Logic.{⊎_elim}
use mathlib.Core.List.Memᴰ
use mathlib.Core.List.{List, [], ◌∷◌, ◌++◌, Memᴰ}
use borrow.Author.Tests.{eq-eqb}
use Rattle.model.specs.Rules.{Op, begin, end, start, Answer, fresh}
use Rattle.model.specs.Calls.{Call, set_up, on_state, left}
use Rattle.model.specs.Ledger.{Section, Search, Ledger, section_of, search_of, section_ended, search_struck, fed, fed_call, Event, ledger_from, ledger}
use Rattle.model.specs.Ledger.{events, Came, step_event, end_event, NoBegin, NoStart, AfterEnds}
use Rattle.laws.specs.Tests.{clash}
use Rattle.laws.specs.Elements.{of-drops}
use Rattle.history.proofs.CallsKeep.EveryCall.{fed_call-cases, fed_call-accepted}
use Rattle.history.proofs.OverLists.Answers.{Noted}
use Rattle.history.proofs.OverLists.OneList.{noted-list}
use Rattle.history.proofs.Demand3.{at-set-up}
use Rattle.history.proofs.Corollaries.{EveryList}

-- ---- the ledger

-- none of the sections is of lane i, and none of the lookups
abbrev NoSectionOf : ℕ → Ledger → Type 0
NoSectionOf i g = (x : Section) → Memᴰ x g.sections → x.lane ≡ i → ⊥

abbrev NoSearchOf : ℕ → Ledger → Type 0
NoSearchOf i g = (q : Search) → Memᴰ q g.searches → q.lane ≡ i → ⊥

-- what holds of the ledger after an event, whatever came before it, holds after the events that follow, if each of these keeps it
module _ (P : Ledger → Type 0) where
  abbrev Keeping : List Event → Type 0
  Keeping es = (e : Event) → Memᴰ e es → (k : ℕ) (g : Ledger) → P g → P (fed_call k e.call e.answer g)

  kept_from : (es : List Event) → Keeping es → (k : ℕ) (g : Ledger) → P g → P (ledger_from k g es)
  unfolding ledger_from
  kept_from [] f k g p = p
  kept_from (e ∷ es) f k g p = kept_from es (λ x m. f x (Memᴰ.tail m)) (suc k) _ (f e (Memᴰ.head refl) (suc k) g p)

  kept-after : (xs : List Event) (e : Event) (ys : List Event) (k : ℕ) (g : Ledger) → ((n : ℕ) (l : Ledger) → P (fed_call n e.call e.answer l))
      → Keeping ys → P (ledger_from k g (xs ++ e ∷ ys))
  unfolding ledger_from
  kept-after [] e ys k g f h = kept_from ys h (suc k) _ (f (suc k) g)
  kept-after (x ∷ xs) e ys k g f h = kept-after xs e ys (suc k) _ f h

-- the event of call o
made_of : (e : Event) (o : Op) {b : Op} → e.call ≡ on_state o → o ≡ b → e ≡ record { call = on_state b; answer = e.answer }
made_of e o c u = ap (λ (x : Call). record { call = x; answer = e.answer }) (c ∙ ap on_state u)

module _ (i : ℕ) where
  -- right after the end
  module _ (r : Answer) (z : r.status ≡ 0) (k : ℕ) (g : Ledger) where
    ended : fed_call k (on_state (end i)) r g ≡ search_struck i (section_ended i g)
    unfolding fed
    ended = fed_call-accepted k (end i) r g z

    section-ended : NoSectionOf i (fed_call k (on_state (end i)) r g)
    section-ended = rw ended (λ x m e. clash (eq-eqb x.lane i e) (of-drops (section_of i) x g.sections m).1)

    search-dropped : NoSearchOf i (fed_call k (on_state (end i)) r g)
    search-dropped = rw ended (λ q m e. clash (eq-eqb q.lane i e) (of-drops (search_of i) q g.searches m).1)

  -- a call that does not begin a section of the lane
  section-none : (e : Event) → ((a : Answer) → a.status ≡ 0 → e ≡ record { call = on_state (begin i); answer = a } → ⊥) → (k : ℕ) (g : Ledger)
      → NoSectionOf i g → NoSectionOf i (fed_call k e.call e.answer g)
  section-none e h k g p = fed_call-cases (NoSectionOf i) k e.call e.answer g p (λ o c z. record {
    same = p;
    made = λ x u. p;
    struck = λ x u. p;
    out = λ x l d. d;
    back = λ x. p;
    opened = λ j n u x m w. ⊎_elim
        (λ q. h e.answer z (made_of e o c (u ∙ ap (λ (y : ℕ). begin y) (sym (ap (λ (y : Section). y.lane) q) ∙ w)))) (λ d. p x d w)
        (Memᴰ.cases_cons m);
    ended = λ j u x m. p x (of-drops (section_of j) x g.sections m).0;
    noted = λ j x n u. p;
    dropped = λ j l u d. d;
  })

  -- a call that does not start a lookup of the lane
  search-none : (e : Event) → ((c : ℕ) (a : Answer) → a.status ≡ 0 → e ≡ record { call = on_state (start i c); answer = a } → ⊥) → (k : ℕ) (g : Ledger)
      → NoSearchOf i g → NoSearchOf i (fed_call k e.call e.answer g)
  search-none e h k g p = fed_call-cases (NoSearchOf i) k e.call e.answer g p (λ o c z. record {
    same = p;
    made = λ x u. p;
    struck = λ x u. p;
    out = λ x l d. d;
    back = λ x. p;
    opened = λ j n u. p;
    ended = λ j u. p;
    noted = λ j b n u q m w. ⊎_elim
        (λ y. h b e.answer z (made_of e o c (u ∙ ap (λ (y : ℕ). start y b) (sym (ap (λ (q : Search). q.lane) y) ∙ w))))
        (λ d. p q (of-drops (search_of j) q g.searches d).0 w) (Memᴰ.cases_cons m);
    dropped = λ j l u d q m. d q (of-drops (search_of j) q l.searches m).0;
  })

  module _ (before : List Event) (r : Answer) (z : r.status ≡ 0) (since : List Event) where
    no-section : NoBegin i since → NoSectionOf i (ledger (before ++ end_event i r ∷ since))
    no-section h = kept-after (NoSectionOf i) before (end_event i r) since 0 _ (section-ended r z)
        (λ e m. section-none e (λ a s q. h a s (subst (λ (x : Event). Memᴰ x since) q m)))

    no-search : NoStart i since → NoSearchOf i (ledger (before ++ end_event i r ∷ since))
    no-search h = kept-after (NoSearchOf i) before (end_event i r) since 0 _ (search-dropped r z)
        (λ e m. search-none e (λ c a s q. h c a s (subst (λ (x : Event). Memᴰ x since) q m)))

-- ---- the theorem

pub after-ends : EveryList (λ (h : List Event) (m : List ℕ). AfterEnds h)
after-ends m z ok ks s i r before since rest fine all = record {
  no_section = no-section i before r fine since;
  no_search = no-search i before r fine since;
  no_step = step-refused;
}
  where
    m₀ : List ℕ
    m₀ = left m (set_up z)

    h : List Event
    h = events m₀ ks

    es : List Event
    es = before ++ end_event i r ∷ since

    step-refused : NoStart i since → (a : Answer) (later : List Event) → rest ≡ step_event i a ∷ later → a.status ≡ 0 → ⊥
    step-refused f a later e w = no-search i before r fine since f q.noted q.is_noted q.of_lane
      where
        came : Came h (step_event i a)
        came = record { before = es; rest = later; all = all ∙ ap (λ (x : List Event). es ++ x) e }

        q : Noted (ledger es) i
        q = noted-list m₀ ks (fresh z) (at-set-up m z ok ks s) i a came w
