-- How long a lookup can take (document 02, request 5): over every list, with n records on its chain when it starts, a lookup that is not dropped has its
-- answer by step n + 1 of its lane, and no step before is refused; n is the number of chained slots too, and no figure is less.
use Prim.Native.Nat.{ℕ, zero, suc, ◌≤◌}
use mathlib.Core.Path.{◌≡◌, refl, sym, ap, subst, ◌∙◌}
use mathlib.Core.Bool.{true, false, ◌&&◌}
use mathlib.Core.List.{List, [], ◌∷◌, ◌++◌, append-nil, append_assoc, append_cancel_left, nil≢cons, head-eq_of_cons-eq, tail-eq_of_cons-eq}
use mathlib.Core.List.{Memᴰ}
use native.Mathlib.Omega.{arith}
use lib.ListN.{length}
use lib.Seq.{append_snoc}
use Rattle.model.specs.Lists.{any, all}
use Rattle.model.specs.State.{State}
use Rattle.model.specs.Table.{chain_of}
use Rattle.model.specs.Rules.{start, end, Answer, zeros, answer, next, fresh}
use Rattle.model.specs.Calls.{Call, set_up, on_state, reply, left}
use Rattle.model.specs.Ledger.{Search, Event, ledger, is_answer, events, fed_call}
use Rattle.model.specs.Ledger.{is_step_of, step_answers, is_going, in_time, start_event, NoEnd, Timed, Belt, ChainsCounted}
use Rattle.laws.specs.Tests.{clash, and-true, and_intro, or_cases, or_left}
use Rattle.history.proofs.CallsKeep.Respects.{spared-same, looks-kept}
use Rattle.history.proofs.CallsKeep.Unseen.{keeps_same}
use Rattle.history.proofs.CallsKeep.Runs.{Runs, runs-start, Onward, stays, goes_on, is_answered, onward}
use Rattle.history.proofs.OverLists.Instants.{past, length-snoc}
use Rattle.history.proofs.OverLists.Stands.{reply-on}
use Rattle.history.proofs.OverLists.ListInvariant.{event, At, after, later, ledger-set_up, ledger-call, keeps-at, past-at, past_next}
use Rattle.history.proofs.OverLists.Counted.{records-chained}
use Rattle.history.proofs.OverLists.OneList.{Moment, moment}
use Rattle.history.proofs.Demand3.{at-set-up}
use Rattle.history.proofs.Corollaries.{EveryList, every-end}

-- ---- the steps of a lookup, from any instant on

-- what is shown of the events `since`: at most n steps go, and till one answers the ledger has the lookup q
abbrev Goes : (done : List Event) (q : Search) (i n : ℕ) (since : List Event) → Type 0
Goes done q i n since =
    (in_time n (step_answers i since) ≡ true) × (any is_answer (step_answers i since) ≡ false → Memᴰ q (ledger (done ++ since)).searches)

-- a step that answers is in time
answers-in-time : (n : ℕ) (r : Answer) (rs : List Answer) → is_answer r ≡ true → in_time n (r ∷ rs) ≡ true
unfolding in_time
answers-in-time zero r rs h = h
answers-in-time (suc n) r rs h = or_left (is_answer r) _ h

-- and so is one that goes, if those after it are
goes-in-time : (n : ℕ) (r : Answer) (rs : List Answer) → r ≡ zeros → in_time n rs ≡ true → in_time (suc n) (r ∷ rs) ≡ true
unfolding in_time
goes-in-time n r rs z h = rw z h

module _ (h : List Event) (i c : ℕ) (q : Search) where
  -- the lookup at the instant after `done`
  abbrev RunsAt : List Event → State → ℕ → Type 0
  RunsAt done s n = Runs (past h) (length done) s (ledger done) q i c n

  -- what a call is to it
  data Next (done : List Event) (m : List ℕ) (k : Call) (s : State) (n : ℕ) : Type 0 where
    same : is_step_of i k ≡ false → RunsAt (done ++ (event m k ∷ [])) (after s k) n → Next done m k s n
    less : (j : ℕ) → is_step_of i k ≡ true → reply m k ≡ zeros → n ≡ suc j → RunsAt (done ++ (event m k ∷ [])) (after s k) j → Next done m k s n
    over : is_step_of i k ≡ true → is_answer (reply m k) ≡ true → Next done m k s n

  next-call : (done : List Event) (s : State) (m : List ℕ) (k : Call) (ks : List Call) → At h done s m (k ∷ ks) → (n : ℕ) → RunsAt done s n
      → ((reply m k).status ≡ 0 → k ≡ on_state (end i) → ⊥) → Next done m k s n
  unfolding is_step_of
  next-call done s m (set_up z) ks a n r f = same refl (rw (length-snoc done (event m (set_up z)), e) (record {
    position = r.position;
    lookup = r.lookup;
    looks = looks-kept (keeps_same a.invariant.tied).respects (past h) q i c n r.position
        (rw (past_next h done s m (set_up z) ks a, e) (a.invariant.tied.entries c)) (spared-same (ledger done) i) r.looks;
  }))
    where
      e : ledger (done ++ (event m (set_up z) ∷ [])) ≡ ledger done
      e = ledger-set_up h done s m z
  next-call done s m (on_state o) ks a n r f =
      go (onward a.invariant.tied q i c n r o (λ u e. f (ap (λ (r : Answer). r.status) is ∙ u) (ap on_state e))
      (keeps-at h done s m o ks a) (past-at h done s m o ks a))
    where
      is : reply m (on_state o) ≡ answer s o
      is = reply-on a.stands o

      at : (j : ℕ) → Runs (past h) (suc (length done)) (next s o) (fed_call (suc (length done)) (on_state o) (answer s o) (ledger done)) q i c j
          → RunsAt (done ++ (event m (on_state o) ∷ [])) (next s o) j
      at j r = rw (length-snoc done (event m (on_state o)), ledger-call h done s m o a.stands) r

      go : Onward (past h) (length done) s (ledger done) o q i c n → Next done m (on_state o) s n
      go (stays t r) = same t (at n r)
      go (goes_on j t u e r) = less j t (is ∙ u) e (at j r)
      go (is_answered t u) = over t (rw is u)

  timed : (ks : List Call) (done : List Event) (s : State) (m : List ℕ) → At h done s m ks → (n : ℕ) → RunsAt done s n
      → (since rest : List Event) → events m ks ≡ since ++ rest → NoEnd i since → Goes done q i n since
  unfolding events step_answers in_time any
  timed ks done s m a n r [] rest p f = (refl, λ u. rw append-nil r.looks.is_noted)
  timed [] done s m a n r (x ∷ since) rest p f = absurd (nil≢cons p)
  timed (k ∷ ks) done s m a n r (x ∷ since) rest p f =
      let is = head-eq_of_cons-eq p in
      subst (λ (x : Event). Goes done q i n (x ∷ since)) is
      (go (next-call done s m k ks a n r (λ u e. f (reply m k) u (Memᴰ.head (ap (λ (x : Call). record { call = x; answer = reply m k }) (sym e) ∙ is))))
      (λ j r. timed ks (done ++ (event m k ∷ [])) (after s k) (left m k) (later h done s m k ks a) j r since rest (tail-eq_of_cons-eq p)
      (λ b u d. f b u (Memᴰ.tail d))))
    where
      go : Next done m k s n → ((j : ℕ) → RunsAt (done ++ (event m k ∷ [])) (after s k) j → Goes (done ++ (event m k ∷ [])) q i j since)
          → Goes done q i n (event m k ∷ since)
      go (same t r) ih = let w = ih n r in rw t (w.0, λ u. rw append_snoc at (w.1 u))
      go (less j t z e r) ih =
          let w = ih j r in rw (t, e) (goes-in-time j (reply m k) (step_answers i since) z w.0, λ u. rw append_snoc at (w.1 (rw z at u)))
      go (over t u) ih = rw t (answers-in-time n (reply m k) (step_answers i since) u, λ d. clash (or_left (is_answer (reply m k)) _ u) d)

-- ---- the figure

-- from the start on
timed-start : (m : List ℕ) (ks : List Call) (s : State) → At (events m ks) [] s m ks → (i c : ℕ) (r : Answer) (before since rest : List Event)
    → r.status ≡ 0 → events m ks ≡ (before ++ start_event i c r ∷ since) ++ rest → NoEnd i since → Timed i c (before ++ start_event i c r ∷ []) since
timed-start m ks s a i c r before since rest z all f =
    go (moment m ks s a (start i c) r (record { before = before; rest = since ++ rest; all = all ∙ append_assoc before (start_event i c r ∷ since) rest }))
  where
    h : List Event
    h = events m ks

    es : List Event
    es = before ++ (start_event i c r ∷ [])

    go : Moment m ks s (start i c) r before → Timed i c es since
    go p = record { answered = rw (records-chained es next-at.invariant.tied c) t.0; itself = rw (length-snoc before (start_event i c r)) t.1 }
      where
        o : Call
        o = on_state (start i c)

        is : event p.memory o ≡ start_event i c r
        is = ap (λ (r : Answer). start_event i c r) (reply-on p.at.stands (start i c) ∙ p.is)

        next-at : At h es (next p.state (start i c)) (left p.memory o) p.calls
        next-at = subst (λ (e : Event). At h (before ++ (e ∷ [])) (next p.state (start i c)) (left p.memory o) p.calls) is
            (later h before p.state p.memory o p.calls p.at)

        n : ℕ
        n = length (chain_of (next p.state (start i c)).table c)

        q : Search
        q = record { lane = i; code = c; started = suc (length before) }

        fed-start : ledger es ≡ fed_call (suc (length before)) o (answer p.state (start i c)) (ledger before)
        fed-start = ap (λ (e : Event). ledger (before ++ (e ∷ []))) (sym is) ∙ ledger-call h before p.state p.memory (start i c) p.at.stands

        follow : events (left p.memory o) p.calls ≡ since ++ rest
        follow = append_cancel_left es _ _
            (sym next-at.all ∙ (all ∙ (ap (λ (l : List Event). l ++ rest) (sym (append_snoc before (start_event i c r) since)) ∙ append_assoc es since rest)))

        runs : RunsAt h i c q es (next p.state (start i c)) n
        runs = rw (length-snoc before (start_event i c r), fed-start)
            (runs-start p.at.invariant.tied (past h) i c (ap (λ (r : Answer). r.status) p.is ∙ z)
            (past-at h before p.state p.memory (start i c) p.calls p.at))

        t : Goes es q i n since
        t = timed h i c q p.calls es _ _ next-at n runs since rest follow f

pub belt : EveryList (λ (h : List Event) (m : List ℕ). Belt h)
belt m z ok ks s = timed-start (left m (set_up z)) ks (fresh z) (at-set-up m z ok ks s)

-- ---- n, in the memory

pub chains-counted : EveryList ChainsCounted
chains-counted = every-end ChainsCounted (λ h m s t v c. rw t.read (sym (records-chained h v.tied c)))

-- ---- what being on time says of the steps, in other words

-- Either one of the first n + 1 steps answers, and those before it were accepted with outcome 0; or all the steps made so far go, and they are at most n
pub data Course (n : ℕ) (rs : List Answer) : Type 0 where
  answered_after : (before : List Answer) (r : Answer) (rest : List Answer) → rs ≡ before ++ r ∷ rest → length before ≤ n → all is_going before ≡ true
      → is_answer r ≡ true → Course n rs
  under_way : length rs ≤ n → all is_going rs ≡ true → Course n rs

pub course : (n : ℕ) (rs : List Answer) → in_time n rs ≡ true → Course n rs
unfolding in_time all
course n [] h = under_way (omega arith) refl
course zero (r ∷ rs) h = answered_after [] r rs refl (omega arith) refl h
course (suc n) (r ∷ rs) h =
    or_cases (is_answer r) (is_going r && in_time n rs) h (λ a. answered_after [] r rs refl (omega arith) refl a)
    (λ b. let g = and-true (is_going r) (in_time n rs) b in longer g.0 (course n rs g.1))
  where
    longer : is_going r ≡ true → Course n rs → Course (suc n) (r ∷ rs)
    longer g (answered_after bs a rest e l w u) = answered_after (r ∷ bs) a rest (ap (λ (l : List Answer). r ∷ l) e) (omega arith) (and_intro (is_going r) _ g w) u
    longer g (under_way l w) = under_way (omega arith) (and_intro (is_going r) _ g w)
