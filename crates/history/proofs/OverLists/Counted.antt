-- The ledger has as many records on a chain as the chain has slots: a whole search gives the same of both, and neither has a code twice.
use Prim.Native.Nat.{ℕ, suc, ◌<◌, ◌≤◌}
use mathlib.Core.Path.{◌≡◌, refl, sym, ap, ◌∙◌}
use mathlib.Core.Logic.{inl, inr}
use mathlib.Core.List.{List, [], ◌∷◌}
use native.Mathlib.Omega.{arith}
use lib.ListN.{length, get_or}
use borrow.Author.Tests.{eq-eqb}
use Rattle.model.specs.Lists.{count, drops}
use Rattle.model.specs.State.{Product, State}
use Rattle.model.specs.Table.{product_at, chain_number, chain_of}
use Rattle.model.specs.Rules.{Op, Answer}
use Rattle.model.specs.Ledger.{Entry, Ledger, of_code, search_in, Event, ledger_from, ledger, fed_call, records_on}
use Rattle.laws.specs.Tests.{same_or}
use Rattle.laws.specs.Counts.{mark-self}
use Rattle.representation.proofs.WellFormed.{chained}
use Rattle.history.proofs.Ties.Halves.{nothing, searched}
use Rattle.history.proofs.Ties.Invariant.{Tied}
use Rattle.history.proofs.ChainHalf.ChainStretches.{SameOr, Lacks, chained-at, searched-here, searched-on, searched-none}
use Rattle.history.proofs.CallsKeep.SlotFacts.{standing-once}
use Rattle.history.proofs.CallsKeep.Entries.{search-drops, search-drops-other, search-made, search-made-other}
use Rattle.history.proofs.CallsKeep.EveryCall.{Changed, fed_call-cases}

-- ---- the ledger has no code twice

abbrev Single : List Entry → Type 0
Single [] = Unit {0}
Single (e ∷ es) = (search_in e.code es ≡ nothing) × Single es

single-drops : (c : ℕ) (es : List Entry) → Single es → Single (drops (of_code c) es)
unfolding drops
single-drops c [] h = tt
single-drops c (e ∷ es) (n, h) = go (same_or e.code c) (single-drops c es h)
  where
    go : SameOr e.code c → Single (drops (of_code c) es) → Single (drops (of_code c) (e ∷ es))
    go (inl q) ih = rw (eq-eqb e.code c q) ih
    go (inr q) ih = rw q.1 (search-drops-other e.code c es q.0 ∙ n, ih)

single-changed : (o : Op) (g : Ledger) → Single g.entries → Changed (λ (l : Ledger). Single l.entries) o g
single-changed o g h = record {
  same = h;
  made = λ e u. (search-drops e.code g.entries, single-drops e.code g.entries h);
  struck = λ c u. single-drops c g.entries h;
  out = λ x l d. d;
  back = λ x. h;
  opened = λ i k u. h;
  ended = λ i u. h;
  noted = λ i c k u. h;
  dropped = λ i l u d. d;
}

single-from : (es : List Event) (k : ℕ) (g : Ledger) → Single g.entries → Single (ledger_from k g es).entries
unfolding ledger_from
single-from [] k g h = h
single-from (e ∷ es) k g h =
    single-from es (suc k) (fed_call (suc k) e.call e.answer g)
    (fed_call-cases (λ (l : Ledger). Single l.entries) (suc k) e.call e.answer g h (λ o u z. single-changed o g h))

-- ---- a code's record is one of its chain

-- nothing is dropped of a code that has no record
drops-none : (c : ℕ) (es : List Entry) → search_in c es ≡ nothing → drops (of_code c) es ≡ es
unfolding drops
drops-none c [] h = refl
drops-none c (e ∷ es) h = go (same_or e.code c) (drops-none c es)
  where
    go : SameOr e.code c → (search_in c es ≡ nothing → drops (of_code c) es ≡ es) → drops (of_code c) (e ∷ es) ≡ e ∷ es
    go (inl q) ih = let d : ◌≡◌ {A = ℕ} 1 2 = ap (λ (r : Answer). r.a) (sym (search-made e es) ∙ rw (← q) at h) in absurd (omega arith)
    go (inr q) ih = rw (q.1, ih (sym (search-made-other c e es (λ d. q.0 (sym d))) ∙ h))

records-less : (c b : ℕ) (es : List Entry) → Single es → (search_in b es).a ≡ 1 → chain_number b ≡ chain_number c
    → records_on c es ≡ suc (records_on c (drops (of_code b) es))
unfolding drops records_on search_in
records-less c b [] n h q = absurd (omega arith)
records-less c b (e ∷ es) (n, s) h q = go (same_or e.code b) (records-less c b es s)
  where
    go : SameOr e.code b → ((search_in b es).a ≡ 1 → chain_number b ≡ chain_number c → records_on c es ≡ suc (records_on c (drops (of_code b) es)))
        → records_on c (e ∷ es) ≡ suc (records_on c (drops (of_code b) (e ∷ es)))
    go (inl p) ih = rw (eq-eqb e.code b p, drops-none b es (rw p at n), eq-eqb (chain_number e.code) (chain_number c) (ap chain_number p ∙ q)) (omega arith)
    go (inr p) ih = rw p.1 (let i = ih (ap (λ (r : Answer). r.a) (sym (search-made-other b e es (λ d. p.0 (sym d)))) ∙ h) q in omega arith)

-- no code of the chain has a record, so there is none on it
records-none : (c : ℕ) (es : List Entry) → ((b : ℕ) → chain_number b ≡ chain_number c → search_in b es ≡ nothing) → records_on c es ≡ 0
unfolding records_on
records-none c [] h = refl
records-none c (e ∷ es) h = go (same_or (chain_number e.code) (chain_number c)) (records-none c es)
  where
    go : SameOr (chain_number e.code) (chain_number c) → (((b : ℕ) → chain_number b ≡ chain_number c → search_in b es ≡ nothing) → records_on c es ≡ 0)
        → records_on c (e ∷ es) ≡ 0
    go (inl q) ih = let d : ◌≡◌ {A = ℕ} 1 2 = ap (λ (r : Answer). r.a) (sym (search-made e es) ∙ h e.code q) in absurd (omega arith)
    go (inr q) ih =
        let none = ih (λ b p. sym (search-made-other b e es (λ d. q.0 (ap chain_number (sym d) ∙ p))) ∙ h b p) in
        rw q.1 (omega arith)

-- ---- a chain

-- no two of the slots hold one code
abbrev Apart : List Product → List ℕ → Type 0
Apart ps [] = Unit {0}
Apart ps (x ∷ xs) = Lacks ps (product_at ps x).code xs × Apart ps xs

records-slots : (ps : List Product) (c : ℕ) (xs : List ℕ) (es : List Entry) → Single es → Apart ps xs
    → ((x : ℕ) → 0 < count x xs → chain_number (product_at ps x).code ≡ chain_number c)
    → ((b : ℕ) → chain_number b ≡ chain_number c → search_in b es ≡ searched ps b xs) → records_on c es ≡ length xs
unfolding searched count
records-slots ps c [] es n d on same = records-none c es same
records-slots ps c (x ∷ xs) es n (l, d) on same =
    records-less c b₀ es n (ap (λ (r : Answer). r.a) (same b₀ own ∙ searched-here ps b₀ x xs refl)) own
    ∙ ap suc (records-slots ps c xs (drops (of_code b₀) es) (single-drops b₀ es n) d (λ y m. on y (omega arith)) (λ b q. less b q (same_or b b₀)))
  where
    b₀ : ℕ
    b₀ = (product_at ps x).code

    own : chain_number b₀ ≡ chain_number c
    own = on x (omega (arith, mark-self x))

    less : (b : ℕ) → chain_number b ≡ chain_number c → SameOr b b₀ → search_in b (drops (of_code b₀) es) ≡ searched ps b xs
    less b q (inl e) = rw e (search-drops b₀ es ∙ sym (searched-none ps b₀ xs l))
    less b q (inr e) = search-drops-other b b₀ es e.0 ∙ (same b q ∙ searched-on ps b x xs (λ d. e.0 (sym d)))

module _ {k : ℕ} {s : State} {g : Ledger} (v : Tied k s g) where
  -- chained slots, each once
  apart : (xs : List ℕ) → ((x : ℕ) → count x xs ≤ chained x s.table) → Apart s.table.products xs
  unfolding count
  apart [] h = tt
  apart (x ∷ xs) h = (
    (λ y m e. twice (rw (v.well_formed.table.distinct y x (omega (arith, h y)) (omega (arith, h x, mark-self x)) e) at m)),
    apart xs (λ y. omega (arith, h y)),
  )
    where
      twice : 0 < count x xs → ⊥
      twice m = omega (arith, h x, mark-self x, standing-once v.well_formed x)

  chain-records : Single g.entries → (c : ℕ) → records_on c g.entries ≡ length (chain_of s.table c)
  chain-records n c = records-slots s.table.products c (chain_of s.table c) g.entries n (apart (chain_of s.table c) (chained-at s.table c))
      (λ x m. v.well_formed.table.on_chain (chain_number c) x m)
      (λ b q. v.entries b ∙ ap (searched s.table.products b) (ap (λ (j : ℕ). get_or s.table.chains j []) q))

-- after the events of any list
pub records-chained : {k : ℕ} {s : State} (es : List Event) → Tied k s (ledger es) → (c : ℕ) → records_on c (ledger es).entries ≡ length (chain_of s.table c)
records-chained es v = chain-records v (single-from es 0 _ tt)
