-- The three parts of the demand on one list, from the invariant at its events and at its end; and that an accepted step has its lookup noted.
use Prim.Native.Nat.{ℕ, ◌<◌}
use mathlib.Core.Path.{◌≡◌, sym, ap, subst, ◌∙◌}
use mathlib.Core.Bool.{true}
use mathlib.Core.List.Memᴰ
use mathlib.Core.List.{List, [], ◌∷◌, Memᴰ}
use native.Mathlib.Omega.{arith}
use lib.ListN.{length}
use Rattle.model.specs.State.{Product, State}
use Rattle.model.specs.Table.{blank, product, product_at}
use Rattle.model.specs.Rules.{Op, step, hand_back, Answer, answer}
use Rattle.model.specs.Memory.{wide, sizes, read_product, state}
use Rattle.model.specs.Calls.{Call, on_state, reply, left_all}
use Rattle.model.specs.Ledger.{Section, Search, Event, ledger_from, ledger, is_answer, events, Came, Explained, Holds, Kept, Returned, step_event, hand_back_event}
use Rattle.laws.specs.ListLaws.{get_or-map-below}
use Rattle.history.proofs.Ties.Invariant.{Invariant, Held}
use Rattle.history.proofs.OverLists.Answers.{Noted, Answered, Found, Ended, step-noted, step-answered, step-found, anchored-inside, hand_back-ended}
use Rattle.history.proofs.OverLists.Stands.{Stands, reply-on}
use Rattle.history.proofs.OverLists.ListInvariant.{At, Point, point, End, to_end}
use Rattle.history.proofs.OverLists.Instants.{past}
use Rattle.history.proofs.OverLists.OneSection.{OneSection, one-section}

-- ---- what a slot's words hold

-- the product of slot x in the state is in the words of slot x
holds-product : (s : State) (m : List ℕ) → Stands s m → (x : ℕ) (p : Product) → x < s.sizes.slots → product_at s.table.products x ≡ p
    → Holds m x p.code p.deposit p.material
unfolding state read_product
holds-product s m v x p h e = record {
  code = ap (wide m) (omega arith) ∙ ap (λ (q : Product). q.code) is;
  deposit = ap (λ (q : Product). q.deposit) is;
  material = ap (λ (q : Product). q.material) is;
}
  where
    inside : x < (sizes m).slots
    inside = subst (λ (t : State). x < t.sizes.slots) (sym v.read) h

    is : read_product m x ≡ p
    is = sym (get_or-map-below (read_product m) (sizes m).slots x blank inside)
        ∙ subst (λ (t : State). product_at t.table.products x ≡ p) (sym v.read) e

module _ (m : List ℕ) (ks : List Call) (s : State) where
  abbrev h : List Event
  h = events m ks

  -- the list at a call of it, with the state's answer
  pub record Moment (o : Op) (r : Answer) (before : List Event) : Type 0 where
    pub state : State
    pub memory : List ℕ
    pub calls : List Call
    pub at : At h before state memory (on_state o ∷ calls)
    pub is : answer state o ≡ r
    pub ends : left_all memory (on_state o ∷ calls) ≡ left_all m ks

  pub moment : At h [] s m ks → (o : Op) (r : Answer) (c : Came h (record { call = on_state o; answer = r })) → Moment o r c.before
  moment a o r c = go (point h ks [] s m a c.before c.rest _ c.all)
    where
      go : Point h c.before (record { call = on_state o; answer = r }) (left_all m ks) → Moment o r c.before
      go p = record {
        state = p.state;
        memory = p.memory;
        calls = p.calls;
        at = subst (λ (k : Call). At h c.before p.state p.memory (k ∷ p.calls)) call p.at;
        is = sym (reply-on p.at.stands o) ∙ (ap (reply p.memory) (sym call) ∙ ap (λ (e : Event). e.answer) p.is);
        ends = subst (λ (k : Call). left_all p.memory (k ∷ p.calls) ≡ left_all m ks) call p.ends;
      }
        where
          call : p.call ≡ on_state o
          call = ap (λ (e : Event). e.call) p.is

  pub noted-list : At h [] s m ks → (i : ℕ) (r : Answer) (c : Came h (step_event i r)) → r.status ≡ 0 → Noted (ledger c.before) i
  noted-list a i r c w = go (moment a (step i) r c)
    where
      go : Moment (step i) r c.before → Noted (ledger c.before) i
      go p = step-noted p.at.invariant i (rw p.is w)

  pub explained-list : At h [] s m ks → (i : ℕ) (r : Answer) (c : Came h (step_event i r)) → is_answer r ≡ true → Explained h i r c.before
  explained-list a i r c w = go (moment a (step i) r c)
    where
      go : Moment (step i) r c.before → Explained h i r c.before
      go p = record {
        noted = e.noted;
        is_noted = e.is_noted;
        of_lane = e.of_lane;
        instant = e.window.instant;
        not_before = e.window.not_before;
        not_after = e.window.not_after;
        whole = sym e.window.whole;
      }
        where
          e : Answered (past h) (length c.before) (ledger c.before) i r
          e = rw p.is at (step-answered p.at.invariant i (rw p.is w))

  -- what a step found, at the end of the list: the finder's section and the state that the memory then holds
  pub record FoundEnd (i : ℕ) (r : Answer) (before : List Event) : Type 0 where
    pub finder : Section
    pub is_open : Memᴰ finder (ledger before).sections
    pub of_lane : finder.lane ≡ i
    pub only_finder : (x : Section) → Memᴰ x (ledger before).sections → x.lane ≡ i → x ≡ finder
    pub state : State
    pub stands : Stands state (left_all m ks)
    pub invariant : Invariant (past h) (length h) state (ledger h)
    pub code : ℕ
    pub only : (q : Search) → Memᴰ q (ledger before).searches → q.lane ≡ i → q.code ≡ code
    pub held : Held (length h) state.table (ledger h) finder r.b (product code r.c r.d)

  pub found-end : At h [] s m ks → (i : ℕ) (r : Answer) (c : Came h (step_event i r)) → r.status ≡ 0 → r.a ≡ 1 → FoundEnd i r c.before
  unfolding ledger_from
  found-end a i r c b w = go (moment a (step i) r c)
    where
      one : OneSection (ledger c.before)
      one = one-section h ks [] s m a (λ a b l k e. absurd (Memᴰ.not-nil l)) c.before (step_event i r ∷ c.rest) c.all

      ends : (p : Moment (step i) r c.before) → Found (length c.before) p.state (ledger c.before) i r
          → End h c.before p.state (left_all p.memory (on_state (step i) ∷ p.calls)) → FoundEnd i r c.before
      ends p f n = record {
        finder = f.finder;
        is_open = f.is_open;
        of_lane = f.of_lane;
        only_finder = λ x o l. one x f.finder o f.is_open (l ∙ sym f.of_lane);
        state = n.state;
        stands = rw p.ends at n.stands;
        invariant = n.invariant;
        code = f.code;
        only = f.only;
        held = n.kept f.finder r.b (product f.code r.c r.d) f.held;
      }

      go : Moment (step i) r c.before → FoundEnd i r c.before
      go p = ends p (rw p.is at (step-found p.at.invariant i (rw p.is b) (rw p.is w)))
          (to_end h (on_state (step i) ∷ p.calls) c.before p.state p.memory p.at)

  -- while the finder's section is open, the words of the slot hold what was found
  pub found-holds : (i : ℕ) (r : Answer) (before : List Event) (f : FoundEnd i r before) → Memᴰ f.finder (ledger h).sections
      → (q : Search) → Memᴰ q (ledger before).searches → q.lane ≡ i → Holds (left_all m ks) r.b q.code r.c r.d
  found-holds i r before f z q j e =
      let d = f.held.holds z in
      let b = anchored-inside f.invariant f.finder r.b d.1 in
      rw (f.only q j e) (holds-product f.state (left_all m ks) f.stands r.b (product f.code r.c r.d) b d.0)

  pub kept-list : At h [] s m ks → (i : ℕ) (r : Answer) (c : Came h (step_event i r)) → r.status ≡ 0 → r.a ≡ 1
      → Kept h (left_all m ks) i r c.before
  kept-list a i r c b w = go (found-end a i r c b w)
    where
      go : FoundEnd i r c.before → Kept h (left_all m ks) i r c.before
      go f = record {
        finder = f.finder;
        is_open = f.is_open;
        of_lane = f.of_lane;
        holds = λ x o l q j e z. found-holds i r c.before f (rw (f.only_finder x o l) at z) q j e;
      }

  pub returned-list : At h [] s m ks → (i : ℕ) (r : Answer) (c : Came h (hand_back_event i r)) → r.status ≡ 0 → Returned r c.before
  returned-list a i r c b = go (moment a (hand_back i) r c)
    where
      go : Moment (hand_back i) r c.before → Returned r c.before
      go p = record { out = e.out; is_out = e.is_out; of_slot = e.of_slot; over = e.over }
        where
          e : Ended (ledger c.before) r.a
          e = rw p.is at (hand_back-ended p.at.invariant i (rw p.is b))
