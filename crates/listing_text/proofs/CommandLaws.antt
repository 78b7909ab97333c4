-- The first word of a line: what the machine makes of it, and the command of its name.
use Prim.Native.Nat.{ℕ, ◌+◌, ◌≤◌, ◌<◌}
use mathlib.Core.Bool.{Bool, true, false, cond, ◌&&◌}
use mathlib.Core.List.{List, [], ◌∷◌, ◌++◌, map, append-nil, append_assoc}
use mathlib.Core.Logic.{◌⊎◌, inl, inr}
use mathlib.Core.Path.{◌≡◌, refl, sym, ap, ◌∙◌}
use native.Mathlib.Decide.{dec_lt}
use native.Mathlib.Omega.{arith}
use lib.ListN.{length, get_or, length-append}
use lib.Dec.{leb, eqb}
use borrow.Author.Tests.{lt-ltb, le-ltb, leb-true, eqb-true}
use Rattle.std.specs.Prelude.{None, Some}
use Rattle.std.specs.List.{find}
use Rattle.std.specs.Str.{bytes_eq}
use Rattle.std.specs.declared.option.Option.{Option}
use Rattle.model.specs.Lists.{all, same}
use Rattle.model.specs.Digits.{bytes}
use Rattle.listing_text.specs.Call.{bad, Command, commands, unknown, lookup, taken, asked}
use Rattle.listing_text.specs.Machine.{name_of, all_commands, entry, named, naming, grown}
use Rattle.listing_text.specs.declared.command.Command as named-command
use Rattle.listing_text.specs.declared.command.Command.TheVariants.{SetUp, Add, Replace, Delete, Begin, End, Start, Step, Pass, Clock, On, Off, HandBack, Awaited}
use Rattle.listing_text.specs.declared.line.Line.TheVariants.{Bad}
use Rattle.listing_text.proofs.Bools.{either, true-false, and_left, and_right}
use Rattle.listing_text.proofs.MachineLaws.{grown_all, grown_all-bad}
use Rattle.listing_text.proofs.TakenLaws.{is_narrow}

-- ---- names

same-eq : (u w : List ℕ) → same u w ≡ true → u ≡ w
unfolding same
same-eq [] [] h = refl
same-eq [] (b ∷ w) h = absurd (true-false false h refl)
same-eq (a ∷ u) [] h = absurd (true-false false h refl)
same-eq (a ∷ u) (b ∷ w) h =
    let p : a ≡ b = eqb-true a b (and_left (eqb a b) (same u w) h) in
    let q : u ≡ w = same-eq u w (and_right (eqb a b) (same u w) h) in
    ap (λ (x : ℕ). x ∷ u) p ∙ ap (λ (l : List ℕ). b ∷ l) q

same-bytes : (u w : List ℕ) → same u w ≡ bytes_eq u w
unfolding same
same-bytes [] [] = refl
same-bytes [] (b ∷ w) = refl
same-bytes (a ∷ u) [] = refl
same-bytes (a ∷ u) (b ∷ w) = ap (λ (t : Bool). eqb a b && t) (same-bytes u w)

entry-name : (c : named-command.Command) → (entry c).name ≡ name_of c
unfolding entry lookup commands bytes same
entry-name SetUp = refl
entry-name Add = refl
entry-name Replace = refl
entry-name Delete = refl
entry-name Begin = refl
entry-name End = refl
entry-name Start = refl
entry-name Step = refl
entry-name Pass = refl
entry-name Clock = refl
entry-name On = refl
entry-name Off = refl
entry-name HandBack = refl
entry-name Awaited = refl

-- what a word that may name a command asks for
abbrev pub entry_or : Option named-command.Command → Command
entry_or None = unknown
entry_or (Some c) = entry c

lookup-found : (w : List ℕ) (cs : List named-command.Command) → lookup w (map entry cs) ≡ entry_or (find (λ c. bytes_eq w (name_of c)) cs)
unfolding lookup
lookup-found w [] = refl
lookup-found w (c ∷ cs) =
    ap (λ (t : Bool). cond t (entry c) (lookup w (map entry cs))) (ap (same w) (entry-name c) ∙ same-bytes w (name_of c))
    ∙ go (bytes_eq w (name_of c)) (lookup-found w cs)
  where
    go : (t : Bool) → lookup w (map entry cs) ≡ entry_or (find (λ d. bytes_eq w (name_of d)) cs)
        → cond t (entry c) (lookup w (map entry cs)) ≡ entry_or (cond t (Some c) (find (λ d. bytes_eq w (name_of d)) cs))
    go true h = refl
    go false h = h

all-entries : map entry all_commands ≡ commands
unfolding entry lookup commands bytes same
all-entries = refl

pub lookup-named : (w : List ℕ) → lookup w commands ≡ entry_or (named w)
lookup-named w = ap (lookup w) (sym all-entries) ∙ lookup-found w all_commands

-- ---- what holds of all commands

-- what holds of each command and of none holds of the command of any name
found : (P : Command → Bool) (w : List ℕ) (cs : List Command) → all P cs ≡ true → P unknown ≡ true → P (lookup w cs) ≡ true
unfolding all lookup
found P w [] h u = u
found P w (c ∷ cs) h u = go (same w c.name) (found P w cs (and_right (P c) (all P cs) h) u)
  where
    go : (t : Bool) → P (lookup w cs) ≡ true → P (cond t c (lookup w cs)) ≡ true
    go true ih = and_left (P c) (all P cs) h
    go false ih = ih

abbrev is_few : Command → Bool
is_few c = leb (length c.limits) 4

pub limits-few : (c : named-command.Command) → length (entry c).limits ≤ 4
unfolding all commands entry
limits-few c = leb-true (length (entry c).limits) 4 (found is_few (name_of c) commands refl refl)

abbrev is_narrow_all : Command → Bool
is_narrow_all c = all is_narrow c.limits

pub limits-narrow : (c : named-command.Command) → all is_narrow (entry c).limits ≡ true
unfolding all commands entry
limits-narrow c = found is_narrow_all (name_of c) commands refl refl

pub asked-unknown : (ns : List ℕ) → asked unknown ns ≡ bad
unfolding asked taken
asked-unknown [] = refl
asked-unknown (n ∷ ns) = refl

-- no command has more letters than a line keeps
abbrev is_short : Command → Bool
is_short c = leb (length c.name) 7

lookup-long : (w : List ℕ) (cs : List Command) → 7 < length w → all is_short cs ≡ true → lookup w cs ≡ unknown
unfolding all lookup
lookup-long w [] h k = refl
lookup-long w (c ∷ cs) h k = go (either (same w c.name)) (lookup-long w cs h (and_right (is_short c) (all is_short cs) k))
  where
    go : (same w c.name ≡ true) ⊎ (same w c.name ≡ false) → lookup w cs ≡ unknown → lookup w (c ∷ cs) ≡ unknown
    go (inl t) ih =
        let e : length w ≡ length c.name = ap length (same-eq w c.name t) in
        let s : length c.name ≤ 7 = leb-true (length c.name) 7 (and_left (is_short c) (all is_short cs) k) in
        absurd (omega arith)
    go (inr f) ih = rw f ih

pub unknown-long : (w : List ℕ) → 7 < length w → lookup w commands ≡ unknown
unfolding all commands bytes
unknown-long w h = lookup-long w commands h refl

-- ---- the machine at the first word

pub name-short : (w p : List ℕ) → length p + length w ≤ 7 → grown_all (naming p) w ≡ naming (p ++ w)
unfolding grown_all grown
name-short [] p h = ap naming (sym (append-nil p))
name-short (b ∷ w) p h =
    let k : length (p ++ b ∷ []) + length w ≤ 7 = simp length-append (omega arith) in
    rw (lt-ltb (length p) 7 (omega arith)) (name-short w (p ++ b ∷ []) k ∙ ap naming (append_assoc p (b ∷ []) w))

pub name-long : (w p : List ℕ) → length p ≤ 7 → 7 < length p + length w → grown_all (naming p) w ≡ Bad
unfolding grown_all grown
name-long [] p h k = absurd (omega arith)
name-long (b ∷ w) p h k = go (dec_lt (length p) 7) (name-long w (p ++ b ∷ []))
  where
    go : Dec (length p < 7)
        → (length (p ++ b ∷ []) ≤ 7 → 7 < length (p ++ b ∷ []) + length w → grown_all (naming (p ++ b ∷ [])) w ≡ Bad)
        → grown_all (naming p) (b ∷ w) ≡ Bad
    go (yes j) ih = rw (lt-ltb (length p) 7 j) (ih (simp length-append (omega arith)) (simp length-append (omega arith)))
    go (no j) ih = rw (le-ltb (length p) 7 (omega arith)) (grown_all-bad w)

-- ---- a name by its bytes

pub seven_bytes : {a b c d e f g : ℕ} (w : List ℕ) → length w ≡ 7 → get_or w 0 0 ≡ a → get_or w 1 0 ≡ b → get_or w 2 0 ≡ c → get_or w 3 0 ≡ d
    → get_or w 4 0 ≡ e → get_or w 5 0 ≡ f → get_or w 6 0 ≡ g → w ≡ a ∷ b ∷ c ∷ d ∷ e ∷ f ∷ g ∷ []
seven_bytes (a ∷ b ∷ c ∷ d ∷ e ∷ f ∷ g ∷ []) h p q r s t u v = cc
seven_bytes (a ∷ b ∷ c ∷ d ∷ e ∷ f ∷ g ∷ x ∷ w) h p q r s t u v = absurd (omega arith)
seven_bytes (a ∷ b ∷ c ∷ d ∷ e ∷ f ∷ []) h p q r s t u v = absurd (omega arith)
seven_bytes (a ∷ b ∷ c ∷ d ∷ e ∷ []) h p q r s t u v = absurd (omega arith)
seven_bytes (a ∷ b ∷ c ∷ d ∷ []) h p q r s t u v = absurd (omega arith)
seven_bytes (a ∷ b ∷ c ∷ []) h p q r s t u v = absurd (omega arith)
seven_bytes (a ∷ b ∷ []) h p q r s t u v = absurd (omega arith)
seven_bytes (a ∷ []) h p q r s t u v = absurd (omega arith)
seven_bytes [] h p q r s t u v = absurd (omega arith)
