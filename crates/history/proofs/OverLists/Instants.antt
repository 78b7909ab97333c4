-- The ledger from one instant of a list to the next, and instants between which a code does not change.
use Prim.Native.Nat.{ℕ, zero, suc, ◌+◌, ◌-◌, ◌<◌, ◌≤◌}
use mathlib.Core.Path.{◌≡◌, refl, sym, ap, ◌∙◌}
use mathlib.Core.Logic.{◌≢◌}
use mathlib.Core.Bool.{true, false}
use mathlib.Core.List.{List, [], ◌∷◌, ◌++◌}
use native.Mathlib.Omega.{arith}
use lib.ListN.{length, get_or, take, drop, take-append-drop, length-append}
use lib.Seq.{take-suc, drop-cons, length-take-le, take-append_seam}
use Rattle.model.specs.Rules.{Op, awaited, Answer, zeros}
use Rattle.model.specs.Calls.{Call, on_state}
use Rattle.model.specs.Ledger.{Ledger, fed_call, Event, ledger_from, ledger, search, Came}
use Rattle.laws.specs.Tests.{clash}
use Rattle.history.proofs.CallsKeep.Entries.{search-drops-other, search-made-other}
use Rattle.history.proofs.CallsKeep.EveryCall.{changes_code, Changed, fed_call-cases}

-- ---- the ledger of one event more

ledger_from-snoc : (es : List Event) (k : ℕ) (g : Ledger) (e : Event)
    → ledger_from k g (es ++ (e ∷ [])) ≡ fed_call (suc (k + length es)) e.call e.answer (ledger_from k g es)
unfolding ledger_from
ledger_from-snoc [] k g e = ap (λ (n : ℕ). fed_call (suc n) e.call e.answer g) (omega arith)
ledger_from-snoc (x ∷ es) k g e =
    ledger_from-snoc es (suc k) (fed_call (suc k) x.call x.answer g) e
    ∙ ap (λ (n : ℕ). fed_call (suc n) e.call e.answer (ledger_from (suc k) (fed_call (suc k) x.call x.answer g) es)) (omega arith)

pub ledger-snoc : (es : List Event) (e : Event) → ledger (es ++ (e ∷ [])) ≡ fed_call (suc (length es)) e.call e.answer (ledger es)
ledger-snoc es e = ledger_from-snoc es 0 _ e ∙ ap (λ (n : ℕ). fed_call (suc n) e.call e.answer (ledger es)) (omega arith)

pub length-snoc : (es : List Event) (e : Event) → length (es ++ (e ∷ [])) ≡ suc (length es)
length-snoc es e = simp length-append (omega arith)

-- the ledger of each instant of the list h
abbrev pub past : List Event → ℕ → Ledger
past h t = ledger (take t h)

pub past-seam : (h done rest : List Event) → h ≡ done ++ rest → past h (length done) ≡ ledger done
past-seam h done rest e = rw e (ap ledger (take-append_seam done rest))

-- ---- instants between which a code does not change

-- no call of the list h after instant t, up to instant u, changes code c and has status 0
abbrev pub Unchanged : ℕ → List Event → ℕ → ℕ → Type 0
Unchanged c h t u =
    (e : Event) (w : Came h e) → t ≤ length w.before → length w.before < u → e.answer.status ≡ 0 → changes_code c e.call ≡ false

search-changed : (c : ℕ) (o : Op) (g : Ledger) → changes_code c (on_state o) ≡ false → Changed (λ (l : Ledger). search l c ≡ search g c) o g
search-changed c o g h = record {
  same = refl;
  made = λ e u. search-made-other c e _ (other e.code u) ∙ search-drops-other c e.code g.entries (other e.code u);
  struck = λ b u. search-drops-other c b g.entries (other b u);
  out = λ x l e. e;
  back = λ x. refl;
  opened = λ i k u. refl;
  ended = λ i u. refl;
  noted = λ i b k u. refl;
  dropped = λ i l u e. e;
}
  where
    other : (b : ℕ) → changes_code b (on_state o) ≡ true → c ≢ b
    other b u e = clash (rw (← e) at u) h

search-fed_call : (c k : ℕ) (x : Call) (r : Answer) (g : Ledger) → (r.status ≡ 0 → changes_code c x ≡ false)
    → search (fed_call k x r g) c ≡ search g c
search-fed_call c k x r g h =
    fed_call-cases (λ (l : Ledger). search l c ≡ search g c) k x r g refl (λ o e z. search-changed c o g (rw e at (h z)))

-- event number n of the list
abbrev came : (h : List Event) (n : ℕ) → n < length h → Came h (get_or h n (record { call = on_state awaited; answer = zeros }))
came h n b = record {
  before = take n h;
  rest = drop (suc n) h;
  all = sym (take-append-drop n h) ∙ ap (λ (l : List Event). take n h ++ l) (drop-cons h n _ b);
}

-- the whole search for the code stays
pub past-unchanged : (c : ℕ) (h : List Event) (t n : ℕ) → t + n ≤ length h → Unchanged c h t (t + n) → search (past h (t + n)) c ≡ search (past h t) c
past-unchanged c h t zero b u = let z : t + 0 ≡ t = omega arith in ap (λ (i : ℕ). search (past h i) c) z
past-unchanged c h t (suc n) b u =
    let z : t + suc n ≡ suc (t + n) = omega arith in
    ap (λ (i : ℕ). search (past h i) c) z ∙ (next ∙ past-unchanged c h t n (omega arith) (λ e w l m. u e w l (omega arith)))
  where
    e : Event
    e = get_or h (t + n) (record { call = on_state awaited; answer = zeros })

    long : length (take (t + n) h) ≡ t + n
    long = length-take-le (t + n) h (omega arith)

    next : search (past h (suc (t + n))) c ≡ search (past h (t + n)) c
    next = ap (λ (l : List Event). search (ledger l) c) (take-suc h (t + n) _ (omega arith))
        ∙ (ap (λ (l : Ledger). search l c) (ledger-snoc (take (t + n) h) e)
        ∙ search-fed_call c _ e.call e.answer (past h (t + n))
        (u e (came h (t + n) (omega arith)) (omega (arith, long)) (omega (arith, long))))

-- at every instant between
pub window-unchanged : (c : ℕ) (h : List Event) (t u i : ℕ) → t ≤ i → i ≤ u → u ≤ length h → Unchanged c h t u
    → search (past h i) c ≡ search (past h t) c
window-unchanged c h t u i a b l w =
    let z : i ≡ t + (i - t) = omega arith in
    ap (λ (n : ℕ). search (past h n) c) z ∙ past-unchanged c h t (i - t) (omega arith) (λ e m x y. w e m x (omega arith))
