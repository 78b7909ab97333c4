-- The ledger holds at most one entry a code, one lookup a lane, and each slot out once, whatever it is fed with.
use Prim.Native.Nat.{ℕ, suc}
use mathlib.Core.Path.{◌≡◌, sym, ap, ◌∙◌}
use mathlib.Core.Logic.{◌⊎◌, inl, inr, ◌≢◌}
use mathlib.Core.Bool.{Bool}
use mathlib.Core.List.Memᴰ
use mathlib.Core.List.{List, [], ◌∷◌, Memᴰ}
use lib.Dec.{eqb}
use borrow.Author.Tests.{eq-eqb}
use Rattle.model.specs.Lists.{drops}
use Rattle.model.specs.Rules.{Op, Answer}
use Rattle.model.specs.Calls.{Call}
use Rattle.model.specs.Ledger.{Entry, Search, Out, Ledger, search_of, of_code, of_slot, fed_call, Event, ledger_from, ledger}
use Rattle.laws.specs.Tests.{clash}
use Rattle.laws.specs.Elements.{of-drops}
use Rattle.history.proofs.CallsKeep.EveryCall.{Changed, fed_call-cases}

module _ {A : Type 0} (key : A → ℕ) where
  -- no two have one key
  abbrev pub One : List A → Type 0
  One xs = (a b : A) → Memᴰ a xs → Memᴰ b xs → key a ≡ key b → a ≡ b

  pub one-drops : (p : A → Bool) (xs : List A) → One xs → One (drops p xs)
  one-drops p xs h a b m n e = h a b (of-drops p a xs m).0 (of-drops p b xs n).0 e

  -- a new one takes the place of the one that had its key
  one-new : (new : A) (xs : List A) → One xs → One (new ∷ drops (λ (a : A). eqb (key a) (key new)) xs)
  one-new new xs h a b m n e = go (Memᴰ.cases_cons m) (Memᴰ.cases_cons n)
    where
      rest : List A
      rest = drops (λ (a : A). eqb (key a) (key new)) xs

      older : (x : A) → Memᴰ x rest → key x ≢ key new
      older x l d = clash (eq-eqb (key x) (key new) d) (of-drops (λ (a : A). eqb (key a) (key new)) x xs l).1

      go : (a ≡ new) ⊎ Memᴰ a rest → (b ≡ new) ⊎ Memᴰ b rest → a ≡ b
      go (inl p) (inl q) = p ∙ sym q
      go (inl p) (inr q) = absurd (older b q (sym e ∙ ap key p))
      go (inr p) (inl q) = absurd (older a p (e ∙ ap key q))
      go (inr p) (inr q) = one-drops (λ (a : A). eqb (key a) (key new)) xs h a b p q e

abbrev entry_code : Entry → ℕ
entry_code e = e.code

abbrev search_lane : Search → ℕ
search_lane q = q.lane

abbrev out_slot : Out → ℕ
out_slot o = o.slot

pub record OneEach (g : Ledger) : Type 0 where
  pub entries : One entry_code g.entries
  pub searches : One search_lane g.searches
  pub outs : One out_slot g.outs

-- a change makes one, or drops some
one-changed : (o : Op) (g : Ledger) → OneEach g → Changed OneEach o g
one-changed o g h = record {
  same = h;
  made = λ e u. record { entries = one-new entry_code e g.entries h.entries; searches = h.searches; outs = h.outs };
  struck = λ c u. record { entries = one-drops entry_code (of_code c) g.entries h.entries; searches = h.searches; outs = h.outs };
  out = λ x l d. record {
    entries = d.entries;
    searches = d.searches;
    outs = one-new out_slot (record { slot = x; sections = l.sections }) l.outs d.outs;
  };
  back = λ x. record { entries = h.entries; searches = h.searches; outs = one-drops out_slot (of_slot x) g.outs h.outs };
  opened = λ i k u. record { entries = h.entries; searches = h.searches; outs = h.outs };
  ended = λ i u. record { entries = h.entries; searches = h.searches; outs = h.outs };
  noted = λ i c k u. record {
    entries = h.entries;
    searches = one-new search_lane (record { lane = i; code = c; started = k }) g.searches h.searches;
    outs = h.outs;
  };
  dropped = λ i l u d. record { entries = d.entries; searches = one-drops search_lane (search_of i) l.searches d.searches; outs = d.outs };
}

one-fed_call : (k : ℕ) (x : Call) (r : Answer) (g : Ledger) → OneEach g → OneEach (fed_call k x r g)
one-fed_call k x r g h = fed_call-cases OneEach k x r g h (λ o e z. one-changed o g h)

one_from : (es : List Event) (k : ℕ) (g : Ledger) → OneEach g → OneEach (ledger_from k g es)
unfolding ledger_from
one_from [] k g h = h
one_from (e ∷ es) k g h = one_from es (suc k) (fed_call (suc k) e.call e.answer g) (one-fed_call (suc k) e.call e.answer g h)

pub ledger-one : (es : List Event) → OneEach (ledger es)
ledger-one es = one_from es 0 _ (record {
  entries = λ a b m n e. absurd (Memᴰ.not-nil m);
  searches = λ a b m n e. absurd (Memᴰ.not-nil m);
  outs = λ a b m n e. absurd (Memᴰ.not-nil m);
})
