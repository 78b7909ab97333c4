-- The invariant over a list of calls on a memory: it holds before each call of the list, and what was found before stays held to the end.
use Prim.Native.Nat.{ℕ, suc}
use mathlib.Core.Path.{◌≡◌, refl, sym, ap, subst, ◌∙◌}
use mathlib.Core.List.{List, [], ◌∷◌, ◌++◌, append-nil, nil≢cons, head-eq_of_cons-eq, tail-eq_of_cons-eq}
use lib.ListN.{length}
use lib.Seq.{append_snoc}
use Rattle.model.specs.State.{Sizes, Product, State}
use Rattle.model.specs.Rules.{Op, Answer, answer, next}
use Rattle.model.specs.Calls.{Call, set_up, on_state, reply, left, left_all}
use Rattle.model.specs.Ledger.{Section, Ledger, Event, fed_call, ledger, events, RefusesSetUps}
use Rattle.representation.proofs.CallsWellFormed.Next.{next-well_formed}
use Rattle.representation.proofs.MemoryCalls.{refused-keeps}
use Rattle.history.proofs.Ties.Invariant.{Invariant, Held}
use Rattle.history.proofs.CallsKeep.Respects.{Respects, held_kept, Keeps}
use Rattle.history.proofs.CallsKeep.Unseen.{keeps_same}
use Rattle.history.proofs.CallsKeep.EveryCall.{keeps-next}
use Rattle.history.proofs.CallsKeep.Lookups.{invariant-same, looking-next}
use Rattle.history.proofs.OverLists.Instants.{past, past-seam, ledger-snoc, length-snoc}
use Rattle.history.proofs.OverLists.Stands.{Stands, reply-on, stands-next}

-- the event of call k on memory m
abbrev pub event : List ℕ → Call → Event
event m k = record { call = k; answer = reply m k }

-- ---- the list, from any of its calls on

-- of the list h, the events `done` have happened; memory m holds state s, and the calls ks follow
pub record At (h done : List Event) (s : State) (m : List ℕ) (ks : List Call) : Type 0 where
  pub all : h ≡ done ++ events m ks
  pub stands : Stands s m
  pub refuses : RefusesSetUps m ks
  pub invariant : Invariant (past h) (length done) s (ledger done)

-- the state after a call; a set-up of the list is refused
abbrev pub after : State → Call → State
after s (set_up z) = s
after s (on_state o) = next s o

module _ (h : List Event) where
  module _ (done : List Event) (s : State) (m : List ℕ) (k : Call) (ks : List Call) (a : At h done s m (k ∷ ks)) where
    abbrev done' : List Event
    done' = done ++ (event m k ∷ [])

    all' : h ≡ done' ++ events (left m k) ks
    unfolding events
    all' = rw append_snoc a.all

    -- the ledger of the next instant is the one fed with this call
    pub past_next : past h (suc (length done)) ≡ ledger done'
    past_next = ap (past h) (sym (length-snoc done (event m k))) ∙ past-seam h done' (events (left m k) ks) all'

    -- from what is shown of the call
    later_of : (s' : State) (g' : Ledger) → ledger done' ≡ g' → Stands s' (left m k) → RefusesSetUps (left m k) ks
        → Invariant (past h) (suc (length done)) s' g' → At h done' s' (left m k) ks
    later_of s' g' e v r p = record { all = all'; stands = v; refuses = r; invariant = rw (length-snoc done (event m k), e) p }

  module _ (done : List Event) (s : State) (m : List ℕ) where
    -- a refused set-up is not seen
    pub ledger-set_up : (z : Sizes) → ledger (done ++ (event m (set_up z) ∷ [])) ≡ ledger done
    unfolding fed_call
    ledger-set_up z = ledger-snoc done (event m (set_up z))

    -- a call, with its state's answer
    pub ledger-call : (o : Op) → Stands s m
        → ledger (done ++ (event m (on_state o) ∷ [])) ≡ fed_call (suc (length done)) (on_state o) (answer s o) (ledger done)
    ledger-call o v = ledger-snoc done (event m (on_state o))
        ∙ ap (λ (r : Answer). fed_call (suc (length done)) (on_state o) r (ledger done)) (reply-on v o)

    module _ (o : Op) (ks : List Call) (a : At h done s m (on_state o ∷ ks)) where
      pub keeps-at : Keeps (length done) s (next s o) (ledger done) (fed_call (suc (length done)) (on_state o) (answer s o) (ledger done))
      keeps-at = keeps-next a.invariant.tied o (next-well_formed s o a.stands.well_formed)

      pub past-at : past h (suc (length done)) ≡ fed_call (suc (length done)) (on_state o) (answer s o) (ledger done)
      past-at = past_next done s m (on_state o) ks a ∙ ledger-call o a.stands

  -- a call later
  pub later : (done : List Event) (s : State) (m : List ℕ) (k : Call) (ks : List Call) → At h done s m (k ∷ ks)
      → At h (done ++ (event m k ∷ [])) (after s k) (left m k) ks
  unfolding RefusesSetUps
  later done s m (set_up z) ks a =
      let same = ledger-set_up done s m z in
      later_of done s m (set_up z) ks a s (ledger done) same (rw (refused-keeps m (set_up z) a.refuses.0) a.stands) a.refuses.1
      (invariant-same a.invariant (past_next done s m (set_up z) ks a ∙ same))
  later done s m (on_state o) ks a =
      let k = keeps-at done s m o ks a in
      later_of done s m (on_state o) ks a (next s o) _ (ledger-call done s m o a.stands) (stands-next a.stands o) a.refuses
      (record { tied = k.tied; looking = looking-next a.invariant o k (past-at done s m o ks a) })

  -- and what it leaves to readers
  respects-later : (done : List Event) (s : State) (m : List ℕ) (k : Call) (ks : List Call) → At h done s m (k ∷ ks)
      → Respects (length done) s.table (after s k).table (ledger done) (ledger (done ++ (event m k ∷ [])))
  respects-later done s m (set_up z) ks a = rw (ledger-set_up done s m z) (keeps_same a.invariant.tied).respects
  respects-later done s m (on_state o) ks a = rw (ledger-call done s m o a.stands) (keeps-at done s m o ks a).respects

  -- ---- to an event, and to the end

  -- the list at the call of event e, which came after `before`; the memory at the end is n
  pub record Point (before : List Event) (e : Event) (n : List ℕ) : Type 0 where
    pub state : State
    pub memory : List ℕ
    pub call : Call
    pub calls : List Call
    pub at : At h before state memory (call ∷ calls)
    pub is : event memory call ≡ e
    pub ends : left_all memory (call ∷ calls) ≡ n

  pub point : (ks : List Call) (done : List Event) (s : State) (m : List ℕ) → At h done s m ks → (before rest : List Event) (e : Event)
      → events m ks ≡ before ++ e ∷ rest → Point (done ++ before) e (left_all m ks)
  unfolding events left_all
  point [] done s m a [] rest e p = absurd (nil≢cons p)
  point [] done s m a (b ∷ before) rest e p = absurd (nil≢cons p)
  point (k ∷ ks) done s m a [] rest e p =
      rw append-nil (record { state = s; memory = m; call = k; calls = ks; at = a; is = head-eq_of_cons-eq p; ends = refl })
  point (k ∷ ks) done s m a (b ∷ before) rest e p =
      regroup (head-eq_of_cons-eq p)
      (point ks (done ++ (event m k ∷ [])) (after s k) (left m k) (later done s m k ks a) before rest e (tail-eq_of_cons-eq p))
    where
      regroup : {x : Event} → x ≡ b → Point ((done ++ (x ∷ [])) ++ before) e (left_all (left m k) ks)
          → Point (done ++ (b ∷ before)) e (left_all (left m k) ks)
      regroup q x = rw (← q, ← append_snoc) x

  -- the end of the list, with memory n: what was held before is held
  pub record End (done : List Event) (s : State) (n : List ℕ) : Type 0 where
    pub state : State
    pub stands : Stands state n
    pub invariant : Invariant (past h) (length h) state (ledger h)
    pub kept : (z : Section) (x : ℕ) (p : Product) → Held (length done) s.table (ledger done) z x p
        → Held (length h) state.table (ledger h) z x p

  pub to_end : (ks : List Call) (done : List Event) (s : State) (m : List ℕ) → At h done s m ks → End done s (left_all m ks)
  unfolding events left_all
  to_end [] done s m a = record {
    state = s;
    stands = a.stands;
    invariant = subst (λ (d : List Event). Invariant (past h) (length d) s (ledger d)) whole a.invariant;
    kept = λ z x p v. subst (λ (d : List Event). Held (length d) s.table (ledger d) z x p) whole v;
  }
    where
      whole : done ≡ h
      whole = sym (a.all ∙ append-nil done)
  to_end (k ∷ ks) done s m a = onward (to_end ks (done ++ (event m k ∷ [])) (after s k) (left m k) (later done s m k ks a))
    where
      onward : End (done ++ (event m k ∷ [])) (after s k) (left_all (left m k) ks) → End done s (left_all (left m k) ks)
      onward e = record {
        state = e.state;
        stands = e.stands;
        invariant = e.invariant;
        kept = λ z x p v. e.kept z x p (rw (length-snoc done (event m k)) (held_kept (respects-later done s m k ks a) z x p v));
      }
