-- The fourteen calls on memories: words stay words, they keep legality, and the words past the total change no answer and stay.
use Prim.Native.Nat.{ℕ, zero, suc}
use mathlib.Core.Path.{◌≡◌, refl, sym, ap, subst, ◌∙◌}
use mathlib.Core.Bool.{Bool, true, false}
use mathlib.Core.List.{List, [], ◌∷◌, ◌++◌}
use lib.ListN.{length, take, drop}
use lib.Seq.{take_at, drop_at, length-take-le}
use Rattle.model.specs.State.{Sizes, State}
use Rattle.model.specs.Layout.{total}
use Rattle.model.specs.Rules.{Op, performed, answer, next, refusal, fresh}
use Rattle.model.specs.Memory.{Words, sizes, words, state}
use Rattle.model.specs.Legal.{legal}
use Rattle.model.specs.Calls.{Call, set_up, on_state, stored, refusal_of, reply_of, left_of, reply, left, left_all}
use Rattle.representation.specs.Sound.{Sound}
use Rattle.representation.proofs.CallsWellFormed.Next.{sizes-performed, sizes-next}
use Rattle.representation.proofs.Addresses.Writes.{length-words}
use Rattle.representation.proofs.Round.{ready, legal-well_formed, words-state, state-words, Agree, legal-past, one-to-one}
use Rattle.representation.proofs.MemoryCalls.{reply-illegal, left-illegal, refusal-legal, reply-legal, left-legal}
use Rattle.representation.proofs.MemoryCalls.{next-legal, next-words, left-set_up, set_up-legal, set_up-words}

-- ---- every call

-- what holds of a memory after a call, by cases: as it was, after an accepted set-up, after a call on a legal memory
module _ (P : List ℕ → Type 0) (m : List ℕ) (same : P m) where
  left-set_up-cases : (z : Sizes) → (refusal_of m (set_up z) ≡ 0 → P (left m (set_up z))) → P (left m (set_up z))
  unfolding left left_of
  left-set_up-cases z f = go (refusal_of m (set_up z)) refl
    where
      go : (x : ℕ) → refusal_of m (set_up z) ≡ x → P (left m (set_up z))
      go zero e = f e
      go (suc x) e = subst (λ (y : ℕ). P (left_of m y (set_up z))) (sym e) same

  left-cases : (k : Op) → (legal m ≡ true → P (left m (on_state k))) → P (left m (on_state k))
  left-cases k f = go (legal m) refl
    where
      go : (b : Bool) → legal m ≡ b → P (left m (on_state k))
      go true e = f e
      go false e = subst P (sym (left-illegal m k e)) same

-- a memory of words stays one, whatever the call
pub left-words : (m : List ℕ) (k : Call) → Words m → Words (left m k)
left-words m (set_up z) w = left-set_up-cases Words m w z (λ e. set_up-words m z e w)
left-words m (on_state k) w = left-cases Words m w k (λ e. next-words m k e w)

-- each of the fourteen calls leaves one
pub left-sound : (m : List ℕ) (k : Call) → Sound m → Sound (left m k)
left-sound m (set_up z) v = left-set_up-cases Sound m v z (λ e. record { lawful = set_up-legal m z e; words = set_up-words m z e v.words })
left-sound m (on_state k) v = record { lawful = next-legal m k v.lawful v.words; words = left-words m (on_state k) v.words }

pub left_all-sound : (ks : List Call) (m : List ℕ) → Sound m → Sound (left_all m ks)
unfolding left_all
left_all-sound [] m v = v
left_all-sound (k ∷ ks) m v = left_all-sound ks (left m k) (left-sound m k v)

-- ---- words past the total

-- a state of sizes that total t, stored in a memory
module _ (s : State) (t : ℕ) (e : total s.sizes ≡ t) where
  take-stored : (m : List ℕ) → take t (stored s m) ≡ words s
  take-stored m = ap (λ (d : ℕ). take d (stored s m)) (sym e) ∙ take_at (words s) (drop (total s.sizes) m) (total s.sizes) (length-words s)

  drop-stored : (m : List ℕ) → drop t (stored s m) ≡ drop t m
  drop-stored m =
      ap (λ (d : ℕ). drop d (stored s m)) (sym e) ∙ drop_at (words s) (drop (total s.sizes) m) (total s.sizes) (length-words s)
      ∙ ap (λ (d : ℕ). drop d m) e

  stored-append : (xs rest : List ℕ) → length xs ≡ t → stored s (xs ++ rest) ≡ words s ++ rest
  stored-append xs rest l = ap (λ (d : ℕ). words s ++ drop d (xs ++ rest)) e ∙ ap (λ (x : List ℕ). words s ++ x) (drop_at xs rest t l)

-- they stay
pub left-past : (m : List ℕ) (k : Op) → legal m ≡ true → Words m → drop (total (sizes m)) (left m (on_state k)) ≡ drop (total (sizes m)) m
unfolding state
left-past m k h w = ap (drop (total (sizes m))) (left-legal m k h w) ∙ drop-stored (next (state m) k) (total (sizes m)) (ap total (sizes-next (state m) k)) m

pub left-set_up-past : (m : List ℕ) (z : Sizes) → drop (total z) (left m (set_up z)) ≡ drop (total z) m
unfolding fresh
left-set_up-past m z =
    left-set_up-cases (λ (x : List ℕ). drop (total z) x ≡ drop (total z) m) m refl z
    (λ e. ap (drop (total z)) (left-set_up m z e) ∙ drop-stored (fresh z) (total z) refl m)

-- and others in their place change no answer, and stay
pub record PastTotal (m rest : List ℕ) (k : Op) : Type 0 where
  pub legality : legal (take (total (sizes m)) m ++ rest) ≡ true
  pub answer : reply (take (total (sizes m)) m ++ rest) (on_state k) ≡ reply m (on_state k)
  pub memory : left (take (total (sizes m)) m ++ rest) (on_state k) ≡ take (total (sizes m)) (left m (on_state k)) ++ rest

pub past-total : (m rest : List ℕ) (k : Op) → legal m ≡ true → Words m → PastTotal m rest k
unfolding left left_of state
past-total m rest k h w = record { legality = legality; answer = same_answer; memory = same_memory }
  where
    t : ℕ
    t = total (sizes m)

    other : List ℕ
    other = take t m ++ rest

    here : words (state m) ++ rest ≡ other
    here = ap (λ (x : List ℕ). x ++ rest) (words-state m h w)

    legality : legal other ≡ true
    legality = subst (λ (x : List ℕ). legal x ≡ true) here (state-words (state m) rest (legal-well_formed m h w)).lawful

    read : state other ≡ state m
    read = sym (ap state here) ∙ (state-words (state m) rest (legal-well_formed m h w)).read

    same_answer : reply other (on_state k) ≡ reply m (on_state k)
    same_answer = reply-legal other k legality ∙ ap (λ (s : State). answer s k) read ∙ sym (reply-legal m k h)

    by-refusal : (n : ℕ) → left_of other n (on_state k) ≡ take t (left_of m n (on_state k)) ++ rest
    by-refusal zero =
        let s = performed (state m) k in
        let e : total s.sizes ≡ t = ap total (sizes-performed (state m) k) in
        ap (λ (u : State). stored (performed u k) other) read
        ∙ stored-append s t e (take t m) rest (length-take-le t m (ready m h w).long)
        ∙ sym (ap (λ (x : List ℕ). x ++ rest) (take-stored s t e m))
    by-refusal (suc n) = refl

    same_memory : left other (on_state k) ≡ take t (left m (on_state k)) ++ rest
    same_memory =
        ap (λ (n : ℕ). left_of other n (on_state k)) (refusal-legal other k legality ∙ ap (λ (s : State). refusal s k) read)
        ∙ by-refusal (refusal (state m) k)
        ∙ sym (ap (λ (n : ℕ). take t (left_of m n (on_state k)) ++ rest) (refusal-legal m k h))

-- so a call answers alike on any two memories, legal or not, that agree up to their totals
pub reply-past : (m n : List ℕ) → Agree m n → Words m → Words n → (k : Op) → reply m (on_state k) ≡ reply n (on_state k)
reply-past m n a w v k = go (legal m) refl
  where
    same : legal m ≡ legal n
    same = legal-past m n a (λ i b. w i)

    go : (b : Bool) → legal m ≡ b → reply m (on_state k) ≡ reply n (on_state k)
    go true e =
        let f = sym same ∙ e in
        reply-legal m k e ∙ ap (λ (s : State). answer s k) (one-to-one.whole m n e w f v a) ∙ sym (reply-legal n k f)
    go false e = reply-illegal m k e ∙ sym (reply-illegal n k (sym same ∙ e))

-- set-up looks at the length alone
pub reply-set_up : (m n : List ℕ) (z : Sizes) → length m ≡ length n → reply m (set_up z) ≡ reply n (set_up z)
unfolding reply reply_of refusal_of
reply-set_up m n z e = rw e (go (refusal_of n (set_up z)))
  where
    go : (x : ℕ) → reply_of m x (set_up z) ≡ reply_of n x (set_up z)
    go zero = refl
    go (suc x) = refl
