-- A lane has at most one open section: so "the section then open on that lane", the finder's, is one.
use Prim.Native.Nat.{ℕ, suc}
use mathlib.Core.Path.{◌≡◌, sym, ap, ◌∙◌}
use mathlib.Core.Logic.{◌⊎◌, inl, inr}
use mathlib.Core.List.Memᴰ
use mathlib.Core.List.{List, [], ◌∷◌, ◌++◌, append-nil, nil≢cons, head-eq_of_cons-eq, tail-eq_of_cons-eq, Memᴰ}
use lib.Seq.{append_snoc}
use Rattle.model.specs.State.{State}
use Rattle.model.specs.Rules.{Op, begin, Answer, first_cause, causes, result, answer}
use Rattle.model.specs.Calls.{Call, set_up, on_state, left}
use Rattle.model.specs.Ledger.{Section, Ledger, Event, section_of, section_opened, fed_call, ledger, events}
use Rattle.laws.specs.Tests.{clash}
use Rattle.representation.proofs.Causes.Passed.{call-cases}
use Rattle.representation.proofs.Causes.Accepted.{accepts}
use Rattle.representation.proofs.CallsWellFormed.Next.{status}
use Rattle.history.proofs.Ties.Invariant.{Invariant}
use Rattle.history.proofs.CallsKeep.EveryCall.{Changed, fed-cases, fed_call-accepted, fed_call-refused}
use Rattle.history.proofs.OverLists.Instants.{ledger-snoc}
use Rattle.history.proofs.OverLists.OneEach.{One, one-drops}
use Rattle.history.proofs.OverLists.Stands.{reply-on}
use Rattle.history.proofs.OverLists.ListInvariant.{event, At, after, later}

abbrev pub section_lane : Section → ℕ
section_lane z = z.lane

-- no two open sections of one lane
abbrev pub OneSection : Ledger → Type 0
OneSection g = One section_lane g.sections

module _ {past : ℕ → Ledger} {k : ℕ} {s : State} {g : Ledger} (v : Invariant past k s g) (h : OneSection g) where
  -- a lane that begins a section has none: it does not read
  one-changed : (o : Op) → first_cause (causes s o) ≡ 0 → Changed OneSection o g
  one-changed o z = record {
    same = h;
    made = λ e u. h;
    struck = λ c u. h;
    out = λ x l d. d;
    back = λ x. h;
    opened = new;
    ended = λ i u. one-drops section_lane (section_of i) g.sections h;
    noted = λ i c k u. h;
    dropped = λ i l u d. d;
  }
    where
      new : (i k : ℕ) → o ≡ begin i → OneSection (section_opened i k g)
      new i k u a b m n e = go (Memᴰ.cases_cons m) (Memᴰ.cases_cons n)
        where
          older : (x : Section) → Memᴰ x g.sections → x.lane ≡ i → ⊥
          older x l d = clash (rw d at (v.tied.sections.reading x l)) (accepts s (begin i) (rw u at z)).closed

          In : Section → Type 0
          In x = (x ≡ record { lane = i; opened = k }) ⊎ Memᴰ x g.sections

          go : In a → In b → a ≡ b
          go (inl p) (inl q) = p ∙ sym q
          go (inl p) (inr q) = absurd (older b q (sym e ∙ ap section_lane p))
          go (inr p) (inl q) = absurd (older a p (e ∙ ap section_lane q))
          go (inr p) (inr q) = h a b p q e

  one-next : (o : Op) → OneSection (fed_call (suc k) (on_state o) (answer s o) g)
  one-next o = call-cases (λ (t : State) (r : Answer). OneSection (fed_call (suc k) (on_state o) r g)) s o
      (λ z. rw (fed_call-accepted (suc k) o (result s o) g (status s o)) (fed-cases OneSection (suc k) o (result s o) g (one-changed o z)))
      (λ m. rw (fed_call-refused (suc k) o m g) h)

module _ (h : List Event) where
  one_later : (done : List Event) (s : State) (m : List ℕ) (k : Call) (ks : List Call) → At h done s m (k ∷ ks) → OneSection (ledger done)
      → OneSection (ledger (done ++ (event m k ∷ [])))
  unfolding fed_call
  one_later done s m (set_up z) ks a v = rw (ledger-snoc done (event m (set_up z))) v
  one_later done s m (on_state o) ks a v =
      rw (ledger-snoc done (event m (on_state o)), reply-on a.stands o) (one-next a.invariant v o)

  -- at any instant of the list
  pub one-section : (ks : List Call) (done : List Event) (s : State) (m : List ℕ) → At h done s m ks → OneSection (ledger done)
      → (before rest : List Event) → events m ks ≡ before ++ rest → OneSection (ledger (done ++ before))
  unfolding events
  one-section ks done s m a v [] rest p = rw append-nil v
  one-section [] done s m a v (b ∷ before) rest p = absurd (nil≢cons p)
  one-section (k ∷ ks) done s m a v (b ∷ before) rest p =
      regroup (head-eq_of_cons-eq p)
      (one-section ks (done ++ (event m k ∷ [])) (after s k) (left m k) (later h done s m k ks a)
      (one_later done s m k ks a v) before rest (tail-eq_of_cons-eq p))
    where
      regroup : {x : Event} → x ≡ b → OneSection (ledger ((done ++ (x ∷ [])) ++ before)) → OneSection (ledger (done ++ (b ∷ before)))
      regroup q o = rw (← q, ← append_snoc) o
