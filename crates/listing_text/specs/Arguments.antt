-- What the functions of `command` ensure that read the arguments of a command.
use Rattle.std.specs.Prelude.{ℕ, List, [], ◌∷◌, ◌≡◌, None, Some}
use Rattle.std.specs.declared.option.Option.{Option}
use Rattle.words.specs.declared.sizes.NamedSizes.{NamedSizes}
use Rattle.words.specs.declared.product.Product.{Product}
use Rattle.calls.specs.declared.Call as code-call
use Rattle.calls.specs.CallOf.{call_of}
use Rattle.listing_text.specs.Call.{Parsed, bad, call, word, code, taken}

-- the call of the model that a line asks for, or bad
abbrev pub parsed_of : Option code-call.Call → Parsed
parsed_of None = bad
parsed_of (Some k) = call (call_of k)

-- what k asks for with what was read, or bad
abbrev pub given : {A : Type 0} → (A → Parsed) → Option A → Parsed
given k None = bad
given k (Some x) = k x

-- r is the arguments vs, where they are what a command takes, whatever call it makes of them: a lane; a lane and a code; a lane and a kind; a lane and
-- what is entered; four sizes
abbrev pub TakesLane : List ℕ → Option ℕ → Type 0
TakesLane vs r = (k : ℕ → Parsed) → given k r ≡ taken (word ∷ []) k vs

abbrev pub TakesCode : List ℕ → Option (ℕ × ℕ) → Type 0
TakesCode vs r = (k : ℕ → ℕ → Parsed) → given (λ x. k x.0 x.1) r ≡ taken (word ∷ code ∷ []) k vs

abbrev pub TakesKind : List ℕ → Option (ℕ × ℕ) → Type 0
TakesKind vs r = (k : ℕ → ℕ → Parsed) → given (λ x. k x.0 x.1) r ≡ taken (word ∷ word ∷ []) k vs

abbrev pub TakesProduct : List ℕ → Option (ℕ × Product) → Type 0
TakesProduct vs r =
    (k : ℕ → ℕ → ℕ → ℕ → Parsed) → given (λ x. k x.0 x.1.code x.1.deposit x.1.material) r ≡ taken (word ∷ code ∷ word ∷ word ∷ []) k vs

abbrev pub TakesSizes : List ℕ → Option NamedSizes → Type 0
TakesSizes vs r = (k : ℕ → ℕ → ℕ → ℕ → Parsed) → given (λ z. k z.yards z.cabinets z.places z.slots) r ≡ taken (word ∷ word ∷ word ∷ word ∷ []) k vs
