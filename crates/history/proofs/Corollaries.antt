-- Corollaries for a supervisor, stated as `Demand3` is: over every accepted set-up of any memory and every list of calls after it. h are the list's
-- events and m is the memory after it; "the next call" is any call made then.
use Prim.Native.Nat.{ℕ, ◌≤◌}
use mathlib.Core.Path.{◌≡◌, refl, sym, ap, subst, ◌∙◌}
use mathlib.Core.Logic.{◌≢◌}
use mathlib.Core.Bool.{true}
use mathlib.Core.List.Memᴰ
use mathlib.Core.List.{List, [], append-nil, Memᴰ}
use native.Mathlib.Omega.{arith}
use lib.ListN.{length, length-append}
use Rattle.model.specs.State.{Sizes, State}
use Rattle.model.specs.Rules.{Op, Answer, fresh}
use Rattle.model.specs.Calls.{Call, set_up, on_state, reply, left, left_all}
use Rattle.model.specs.Ledger.{Section, Search, Ledger, Event, ledger_from, ledger, is_answer, search, events}
use Rattle.model.specs.Ledger.{Came, Explained, Holds, step_event, RefusesSetUps}
use Rattle.history.proofs.Ties.Invariant.{Invariant, Anchored, in_chain, retained}
use Rattle.history.proofs.OverLists.Instants.{past, Unchanged, window-unchanged}
use Rattle.history.proofs.OverLists.OneEach.{ledger-one}
use Rattle.history.proofs.OverLists.OneSection.{OneSection, one-section}
use Rattle.history.proofs.OverLists.Stands.{Stands, reply-on}
use Rattle.history.proofs.OverLists.ListInvariant.{At, to_end}
use Rattle.history.proofs.OverLists.OneList.{FoundEnd, found-end, found-holds}
use Rattle.history.proofs.Demand3.{demand3, at-set-up}
use Rattle.history.proofs.NewSlots.{Unused, Enters, NewSlots, enters-unused}

-- P holds of every list, by its events and the memory after it; `EveryList Demand` is `Demand3`
abbrev pub EveryList : (List Event → List ℕ → Type 0) → Type 0
EveryList P =
    (m : List ℕ) (z : Sizes) → (reply m (set_up z)).status ≡ 0
    → (ks : List Call) → let m₀ = left m (set_up z) in RefusesSetUps m₀ ks → P (events m₀ ks) (left_all m₀ ks)

-- what the invariant gives at the end of a list
pub every-end : (P : List Event → List ℕ → Type 0)
    → ((h : List Event) (m : List ℕ) (s : State) → Stands s m → Invariant (past h) (length h) s (ledger h) → P h m) → EveryList P
every-end P f m z ok ks r =
    let m₀ = left m (set_up z) in
    let e = to_end (events m₀ ks) ks [] (fresh z) m₀ (at-set-up m z ok ks r) in
    f (events m₀ ks) (left_all m₀ ks) e.state e.stands e.invariant

-- ---- a code looked up twice

-- a lookup of the list that a step answered: what the ledger had noted of it, and its answer
pub record AnsweredLookup (h : List Event) : Type 0 where
  pub lane : ℕ
  pub answer : Answer
  pub came : Came h (step_event lane answer)
  pub is_answered : is_answer answer ≡ true
  pub noted : Search
  pub is_noted : Memᴰ noted (ledger came.before).searches
  pub of_lane : noted.lane ≡ lane

-- the instant before its answer
abbrev pub instant_before : {h : List Event} → AnsweredLookup h → ℕ
instant_before x = length x.came.before

-- Lookups x and y of one code, x started and answered first, on one lane or two, in one section or not: if no call changes the code from the start of
-- x to the answer of y, their answers are the same, slot and values. (From its start: a lookup may still find a slot that was replaced while it ran)
abbrev pub SameTwice : List Event → List ℕ → Type 0
SameTwice h m =
    (x y : AnsweredLookup h) → x.noted.code ≡ y.noted.code → x.noted.started ≤ y.noted.started → instant_before x ≤ instant_before y
    → Unchanged x.noted.code h x.noted.started (instant_before y) → x.answer ≡ y.answer

-- ---- what was found is no other product's

-- The slot that the answer r found, while the finder's section, x, has not ended: it holds no other code than the one looked for, and the next add or
-- replace does not answer it
pub record NotAnother (h : List Event) (m : List ℕ) (i : ℕ) (r : Answer) (before : List Event) : Type 0 where
  pub finder : Section
  pub is_open : Memᴰ finder (ledger before).sections
  pub of_lane : finder.lane ≡ i
  pub same_code : (x : Section) → Memᴰ x (ledger before).sections → x.lane ≡ i → Memᴰ x (ledger h).sections
      → (q : Search) → Memᴰ q (ledger before).searches → q.lane ≡ i → (c d k : ℕ) → Holds m r.b c d k → c ≡ q.code
  pub not_given : (x : Section) → Memᴰ x (ledger before).sections → x.lane ≡ i → Memᴰ x (ledger h).sections
      → (o : Op) → Enters o → (reply m (on_state o)).status ≡ 0 → (reply m (on_state o)).a ≢ r.b

abbrev pub NeverAnother : List Event → List ℕ → Type 0
NeverAnother h m = (i : ℕ) (r : Answer) (c : Came h (step_event i r)) → r.status ≡ 0 → r.a ≡ 1 → NotAnother h m i r c.before

-- an unused slot is not anchored
unused-anchored : {s : State} {g : Ledger} (z : Section) (x : ℕ) → Unused s g x → Anchored s.table g z x → ⊥
unused-anchored z x u (in_chain c) = omega (arith, u.no_chain)
unused-anchored z x u (retained r) = u.not_out r.out r.is_out r.of_slot

-- ---- the corollaries

-- the answer of the next add or replace, by the state
reply-unused : {past : ℕ → Ledger} {k : ℕ} {s : State} {g : Ledger} {m : List ℕ} → Invariant past k s g → Stands s m
    → (o : Op) → Enters o → (reply m (on_state o)).status ≡ 0 → Unused s g (reply m (on_state o)).a
reply-unused {s = s} {g} v t o e =
    subst (λ (r : Answer). r.status ≡ 0 → Unused s g r.a) (sym (reply-on t o)) (enters-unused v.tied o e)

pub new-slots : EveryList NewSlots
new-slots = every-end NewSlots (λ h m s t v o w z. rw t.read (reply-unused v t o w z))

pub same-twice : EveryList SameTwice
same-twice m z ok ks s x y same starts order still = whole x order (omega arith) refl ∙ sym (whole y (omega arith) starts same)
  where
    h : List Event
    h = events (left m (set_up z)) ks

    inside : instant_before y ≤ length h
    inside = omega (arith, simp length-append at (ap length y.came.all))

    -- the answer of each is the whole search as of the start of x
    whole : (v : AnsweredLookup h) → instant_before v ≤ instant_before y → x.noted.started ≤ v.noted.started → x.noted.code ≡ v.noted.code
        → v.answer ≡ search (past h x.noted.started) x.noted.code
    whole v short later code = go ((demand3 m z ok ks s).explained v.lane v.answer v.came v.is_answered)
      where
        go : Explained h v.lane v.answer v.came.before → v.answer ≡ search (past h x.noted.started) x.noted.code
        go e =
            let is = (ledger-one v.came.before).searches e.noted v.noted e.is_noted v.is_noted (e.of_lane ∙ sym v.of_lane) in
            let from : v.noted.started ≤ e.instant = rw is at e.not_before in
            e.whole ∙ (ap (search (past h e.instant)) (ap (λ (q : Search). q.code) is ∙ sym code)
            ∙ window-unchanged x.noted.code h x.noted.started (instant_before y) e.instant
            (omega arith) (omega (arith, e.not_after)) inside still)

pub never-another : EveryList NeverAnother
never-another m z ok ks s i r a b w = go (found-end m₀ ks (fresh z) start i r a b w)
  where
    m₀ : List ℕ
    m₀ = left m (set_up z)

    h : List Event
    h = events m₀ ks

    start : At h [] (fresh z) m₀ ks
    start = at-set-up m z ok ks s

    go : FoundEnd m₀ ks (fresh z) i r a.before → NotAnother h (left_all m₀ ks) i r a.before
    go f = record {
      finder = f.finder;
      is_open = f.is_open;
      of_lane = f.of_lane;
      same_code = λ x u l v q j e b d k o. sym o.code ∙ (found-holds m₀ ks (fresh z) i r a.before f (rw (f.only_finder x u l) at v) q j e).code;
      not_given = λ x u l z o w t e. other (rw (f.only_finder x u l) at z) (rw e at (reply-unused f.invariant f.stands o w t));
    }
      where
        other : Memᴰ f.finder (ledger h).sections → Unused f.state (ledger h) r.b → ⊥
        other z u = unused-anchored f.finder r.b u (f.held.holds z).1

-- ---- a lane has at most one open section

pub sections-one : EveryList (λ (h : List Event) (m : List ℕ). OneSection (ledger h))
unfolding ledger_from
sections-one m z ok ks r =
    one-section h ks [] (fresh z) m₀ (at-set-up m z ok ks r) (λ a b l k e. absurd (Memᴰ.not-nil l)) h [] (sym (append-nil h))
  where
    m₀ : List ℕ
    m₀ = left m (set_up z)

    h : List Event
    h = events m₀ ks
