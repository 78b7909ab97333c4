-- What each bit of a lane's flags says, and the word after one of them is set or cleared. The word is the mask of the lane's four answers, so a bit of
-- it is one of them, and the word with a bit changed is the mask of the lane so changed.
use Prim.Native.Nat.{ℕ, ◌+◌, ◌≤◌, ◌<◌}
use mathlib.Core.Path.{◌≡◌, refl, ap, sym, ◌∙◌}
use mathlib.Core.Bool.{Bool, true, false}
use mathlib.Core.List.{List, [], ◌∷◌}
use native.Mathlib.Omega.{arith}
use lib.ListN.{length, get_or, set}
use Rattle.model.specs.Lists.{mask}
use Rattle.model.specs.State.{lane_count, Lookup as TableLookup, is_running, is_held, Lane}
use Rattle.model.specs.Layout.{flags_at, lane_length, lane_address, online_bit, reading_bit, lookup_bit}
use Rattle.model.specs.Engine.{set_online, set_reading, set_lookup}
use Rattle.model.specs.Rules.{lane_of}
use Rattle.model.specs.Memory.{at, flag, flags, lane_words, sizes, state}
use Rattle.laws.specs.Masks.{flag-mask}
use Rattle.masks.specs.Bits.{width, with_bit, without_bit}
use Rattle.masks.proofs.BitLaws.{with_bit-mask, without_bit-mask}
use Rattle.representation.proofs.Addresses.Fields.{lane}
use Rattle.representation.specs.Sound.{Sound}
use Rattle.access.specs.declared.Lane as code
use Rattle.words.specs.declared.flags.Flag.{Flag}
use Rattle.words.specs.declared.flags.Flag.TheVariants.{Online, Reading, Lookup, Snapshot}
use Rattle.words.specs.Flags.{bit_of}
use Rattle.access.specs.Flags.{has_flag, with_flag}
use Rattle.access.specs.Lanes.{LaneIn}
use Rattle.access.proofs.Ways.{shown}

-- by the test of b
module _ (p w x : ℕ) (b : Bool) where
  pub put-by : b ≡ true → x ≡ with_bit p w → x ≡ with_flag p b w
  unfolding with_flag
  put-by e q = q ∙ ap (λ (c : Bool). with_flag p c w) (sym e)

  pub cleared_by : b ≡ false → x ≡ without_bit p w → x ≡ with_flag p b w
  unfolding with_flag
  cleared_by e q = q ∙ ap (λ (c : Bool). with_flag p c w) (sym e)

put-mask : (bs : List Bool) (p : ℕ) (b : Bool) → length bs ≤ width → p < length bs → with_flag p b (mask bs) ≡ mask (set bs p b)
unfolding with_flag
put-mask bs p true fits h = with_bit-mask bs fits p h
put-mask bs p false fits h = without_bit-mask bs fits p h

-- ---- the bits

abbrev bits : Lane → List Bool
bits l = l.online ∷ l.reading ∷ is_running l.lookup ∷ is_held l.snapshot ∷ []

module _ (l : Lane) where
  pub flags-online : (b : Bool) → with_flag online_bit b (flags l) ≡ flags (set_online b l)
  unfolding flags
  flags-online b = put-mask (bits l) online_bit b (omega arith) (omega arith)

  pub flags-reading : (b : Bool) → with_flag reading_bit b (flags l) ≡ flags (set_reading b l)
  unfolding flags
  flags-reading b = put-mask (bits l) reading_bit b (omega arith) (omega arith)

  pub flags-lookup : (k : TableLookup) → with_flag lookup_bit (is_running k) (flags l) ≡ flags (set_lookup k l)
  unfolding flags
  flags-lookup k = put-mask (bits l) lookup_bit (is_running k) (omega arith) (omega arith)

-- ---- the flags of a lane in a legal memory

module _ (m : List ℕ) (v : Sound m) (i : ℕ) (within : i < lane_count (sizes m)) where
  -- word k of its record
  pub word-shown : (k : ℕ) → k < lane_length → at m (lane_address (sizes m) i + k) ≡ at (lane_words (lane_of (state m) i)) k
  unfolding state
  word-shown k b = (shown m v).image (lane i k) (within, b)

  pub flags-shown : at m (lane_address (sizes m) i) ≡ flags (lane_of (state m) i)
  unfolding lane_words
  flags-shown = let e : lane_address (sizes m) i ≡ lane_address (sizes m) i + flags_at = omega arith in ap (at m) e ∙ word-shown flags_at (omega arith)

  bit-shown : (p : ℕ) → flag p (at m (lane_address (sizes m) i)) ≡ get_or (bits (lane_of (state m) i)) p false
  unfolding flags
  bit-shown p = ap (flag p) flags-shown ∙ flag-mask (bits (lane_of (state m) i)) p

-- ---- by a test of a bit of the lane's flags

pub flag-by : (m : List ℕ) (l : code.Lane) → LaneIn m l → (of : Flag) (b : Bool) → b ≡ flag (bit_of of) (at m l.address) → b ≡ has_flag of (lane_of (state m) l.number)
flag-by m l k of b e = e ∙ ap (λ (a : ℕ). flag (bit_of of) (at m a)) k.named.address ∙ bit-shown m k.named.sound l.number k.known (bit_of of) ∙ answer of
  where
    answer : (f : Flag) → get_or (bits (lane_of (state m) l.number)) (bit_of f) false ≡ has_flag f (lane_of (state m) l.number)
    answer Online = refl
    answer Reading = refl
    answer Lookup = refl
    answer Snapshot = refl
