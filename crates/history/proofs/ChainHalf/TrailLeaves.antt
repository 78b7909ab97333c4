-- The chain half: a lookup's trail through a call that takes a slot from its chain, or puts another in its place.
use Prim.Native.Nat.{ℕ, zero, suc, ◌+◌, ◌<◌, ◌≤◌}
use mathlib.Core.Path.{◌≡◌, refl, sym, ap, ◌∙◌}
use mathlib.Core.Logic.{inl, inr, ◌≢◌}
use mathlib.Core.List.{List, [], ◌∷◌, ◌++◌, append_assoc}
use native.Mathlib.Omega.{arith}
use lib.ListN.{length, get_or, length-append}
use Rattle.model.specs.Word.{none}
use Rattle.model.specs.Lists.{count, first}
use Rattle.model.specs.State.{Table}
use Rattle.model.specs.Table.{product_at, chain_number, chain_of}
use Rattle.model.specs.Rules.{Answer}
use Rattle.laws.specs.Tests.{same_or}
use Rattle.laws.specs.Counts.{mark-self, count-append}
use Rattle.history.proofs.Ties.Halves.{searched, Trail, live, met, beyond}
use Rattle.history.proofs.ChainHalf.ChainStretches.{SameOr, chained-at, Lacks, Agree, Split, ahead, behind, split}
use Rattle.history.proofs.ChainHalf.ChainStretches.{searched-here, searched-on, searched-skip, searched-gap, searched-agree}
use Rattle.history.proofs.ChainHalf.Trail.{Stay, Kept, agree-chain, trail-map, live-suffix}

-- ---- one place of a chain anew

-- table t becomes u: in the chain of code d, old becomes new, and both hold d
pub record Turn (t u : Table) (d : ℕ) (old new : List ℕ) : Type 0 where
  pub front : List ℕ
  pub rest : List ℕ
  pub was : chain_of t d ≡ front ++ (old ++ rest)
  pub now : chain_of u d ≡ front ++ (new ++ rest)
  pub others : (c : ℕ) → chain_number c ≢ chain_number d → chain_of u c ≡ chain_of t c
  pub kept : Kept t u
  pub olds : (x : ℕ) → 0 < count x old → (product_at t.products x).code ≡ d
  pub news : (x : ℕ) → 0 < count x new → (product_at u.products x).code ≡ d

module _ {t u : Table} {d : ℕ} {old new : List ℕ} (m : Turn t u d old new) where
  -- the chain as a whole, for any code of its number
  was-at : (c : ℕ) → chain_number c ≡ chain_number d → chain_of t c ≡ m.front ++ (old ++ m.rest)
  was-at c e = ap (λ (j : ℕ). get_or t.chains j []) e ∙ m.was

  now-at : (c : ℕ) → chain_number c ≡ chain_number d → chain_of u c ≡ m.front ++ (new ++ m.rest)
  now-at c e = ap (λ (j : ℕ). get_or u.chains j []) e ∙ m.now

  sizes : (x : ℕ) → count x (chain_of t d) ≡ count x m.front + (count x old + count x m.rest)
  sizes x = ap (count x) m.was ∙ omega (arith, count-append x m.front (old ++ m.rest), count-append x old m.rest)

  pub agree-ahead : Agree t.products u.products m.front
  agree-ahead x h = agree-chain t u m.kept d x (omega (arith, sizes x))

  pub agree-behind : Agree t.products u.products m.rest
  agree-behind x h = agree-chain t u m.kept d x (omega (arith, sizes x))

  -- another code's search past the place
  turn_gap : (c : ℕ) → c ≢ d → (xs : List ℕ) → Agree t.products u.products xs
      → searched u.products c (xs ++ (new ++ m.rest)) ≡ searched t.products c (xs ++ (old ++ m.rest))
  turn_gap c n xs a =
      searched-gap u.products c xs new m.rest (λ x h e. n (sym e ∙ m.news x h))
      ∙ (searched-agree t.products u.products c (xs ++ m.rest) both
      ∙ sym (searched-gap t.products c xs old m.rest (λ x h e. n (sym e ∙ m.olds x h))))
    where
      both : Agree t.products u.products (xs ++ m.rest)
      both x h = go (count x xs) refl
        where
          go : (k : ℕ) → count x xs ≡ k → product_at u.products x ≡ product_at t.products x
          go zero e = agree-behind x (omega (arith, count-append x xs m.rest))
          go (suc k) e = a x (omega arith)

  -- the whole search for every other code is as it was
  pub turn-others : (c : ℕ) → c ≢ d → searched u.products c (chain_of u c) ≡ searched t.products c (chain_of t c)
  turn-others c n = go (same_or (chain_number c) (chain_number d))
    where
      go : SameOr (chain_number c) (chain_number d) → searched u.products c (chain_of u c) ≡ searched t.products c (chain_of t c)
      go (inl e) = rw (now-at c e, was-at c e) (turn_gap c n m.front agree-ahead)
      go (inr e) = rw (m.others c e.0) (searched-agree t.products u.products c (chain_of t c) (agree-chain t u m.kept c))

-- ---- a slot leaves its chain

regroup : (as' bs cs ds : List ℕ) → as' ++ (bs ++ (cs ++ ds)) ≡ (as' ++ (bs ++ cs)) ++ ds
regroup as' bs cs ds = rw (append_assoc, append_assoc)

-- slot o, of code d, leaves its chain and keeps the link to what followed it; new, of at most one slot, comes in its place
pub record Leaves (t u : Table) (d o : ℕ) (new : List ℕ) : Type 0 where
  pub turn : Turn t u d (o ∷ []) new
  pub link : get_or u.links o none ≡ first turn.rest
  pub ahead : Lacks u.products d turn.front
  pub few : length new ≤ 1

module _ {t u : Table} {d o : ℕ} {new : List ℕ} (l : Leaves t u d o new) {W U : ℕ → Type 0} {S R : Answer → Type 0} (c : ℕ)
    (sr : (r : Answer) → S r → R r) (stay : Stay t u W U) (mine : U o) (whole : R (searched u.products c (chain_of u c))) where
  abbrev m : Turn t u d (o ∷ []) new
  m = l.turn

  o-code : (product_at t.products o).code ≡ d
  unfolding count
  o-code = m.olds o (omega (arith, mark-self o))

  o-kept : product_at u.products o ≡ product_at t.products o
  unfolding count
  o-kept = m.kept o (omega (arith, chained-at t d o, sizes m o, mark-self o))

  -- the lookup stands on the slot that leaves
  stands_on : chain_number c ≡ chain_number d → (n : ℕ) → length (o ∷ m.rest) ≤ n → S (searched t.products c (o ∷ m.rest)) → SameOr c d → Trail u U R c n o
  stands_on e n b s (inl f) = met mine (rw (o-kept, f) o-code) (rw o-kept (sr _ (rw (searched-here t.products c o m.rest (rw f o-code)) at s)))
  stands_on e zero b s (inr f) = absurd (omega arith)
  stands_on e (suc n) b s (inr f) = beyond {n = n} mine (rw o-kept (λ q. f.0 (sym q ∙ o-code)))
      (rw l.link (live {n = n} (m.front ++ new) m.rest (now-at m c e ∙ sym (append_assoc m.front new m.rest)) refl (omega arith) rest))
    where
      rest : R (searched u.products c m.rest)
      rest = rw (searched-agree t.products u.products c m.rest (agree-behind m))
          (sr _ (rw (searched-on t.products c o m.rest (λ q. f.0 (sym q ∙ o-code))) at s))

  -- the slot that leaves lies before the lookup, which will not meet it
  lies-before : chain_number c ≡ chain_number d → (n p : ℕ) (xs us : List ℕ) (z : ℕ) → m.front ≡ xs ++ (z ∷ us) → p ≡ z
      → length ((z ∷ us) ++ (o ∷ m.rest)) ≤ n → S (searched t.products c ((z ∷ us) ++ (o ∷ m.rest))) → SameOr c d → Trail u U R c n p
  unfolding first
  lies-before e n p xs us z x f b s q = live {n = n} xs ((z ∷ us) ++ (new ++ m.rest)) (now-at m c e ∙ split_at) f shorter (said q)
    where
      shorter : length ((z ∷ us) ++ (new ++ m.rest)) ≤ n
      shorter = omega (arith, l.few, length-append (z ∷ us) (new ++ m.rest), length-append new m.rest, length-append (z ∷ us) (o ∷ m.rest))

      split_at : m.front ++ (new ++ m.rest) ≡ xs ++ ((z ∷ us) ++ (new ++ m.rest))
      split_at = ap (λ (l : List ℕ). l ++ (new ++ m.rest)) x ∙ append_assoc xs (z ∷ us) (new ++ m.rest)

      part : Agree t.products u.products (z ∷ us)
      part y h = agree-ahead m y (omega (arith, ap (count y) x, count-append y xs (z ∷ us)))

      said : SameOr c d → R (searched u.products c ((z ∷ us) ++ (new ++ m.rest)))
      said (inl q) = rw (
        now-at m c e ∙ split_at,
        searched-skip u.products c xs ((z ∷ us) ++ (new ++ m.rest))
            (λ y h. rw q (l.ahead y (omega (arith, ap (count y) x, count-append y xs (z ∷ us))))),
      ) at whole
      said (inr q) = rw (turn_gap m c q.0 (z ∷ us) part) (sr _ s)

  pub trail-leaves : (n p : ℕ) → Trail t W S c n p → Trail u U R c n p
  unfolding first
  trail-leaves = trail-map t u c sr stay (λ n p xs ys e f b s. chain n p xs ys e f b s (same_or (chain_number c) (chain_number d)))
    where
      chain : (n p : ℕ) (xs ys : List ℕ) → chain_of t c ≡ xs ++ ys → p ≡ first ys → length ys ≤ n → S (searched t.products c ys)
          → SameOr (chain_number c) (chain_number d) → Trail u U R c n p
      chain n p xs ys e f b s (inr a) = live-suffix t u c sr stay m.kept n p xs ys xs e (m.others c a.0 ∙ e) f b s
      chain n p xs ys e f b s (inl a) = go (split xs ys m.front m.rest o (sym e ∙ was-at m c a))
        where
          go : Split xs ys m.front m.rest o → Trail u U R c n p
          go (ahead us x y) = live-suffix t u c sr stay m.kept n p xs ys (m.front ++ (new ++ us)) e
              (now-at m c a ∙ (ap (λ (l : List ℕ). m.front ++ (new ++ l)) y ∙ regroup m.front new us ys)) f b s
          go (behind [] x y) = rw (f ∙ ap first y) (stands_on a n (rw y at b) (rw y at s) (same_or c d))
          go (behind (z ∷ us) x y) = lies-before a n p xs us z x (f ∙ ap first y) (rw y at b) (rw y at s) (same_or c d)
