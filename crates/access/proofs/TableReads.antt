-- The sizes of a legal memory are those of a lent table, read from its contents or with a lane's number.
use Prim.Native.Nat.{ℕ}
use mathlib.Core.Path.{◌≡◌, sym, subst}
use mathlib.Core.List.{List}
use Rattle.model.specs.Memory.{sizes}
use Rattle.representation.specs.Sound.{Sound}
use Rattle.words.specs.declared.sizes.Sizes.{Sizes}
use Rattle.words.specs.Lent.{sizes_of, Lent}
use Rattle.access.specs.declared.Lane.{Lane}
use Rattle.access.specs.Lanes.{Named}
use Rattle.access.specs.TableSizes.{TableIn}
use Rattle.access.proofs.LaneLaws.{lent}

pub table-read : (m : List ℕ) → Sound m → (z : Sizes) → sizes_of z ≡ sizes m → TableIn m z
table-read m v z e = record { sound = v; sizes = e; lent = subst (Lent m) (sym e) (lent m v) }

pub table-of-lane : (m : List ℕ) (l : Lane) → Named m l → TableIn m l.sizes
table-of-lane m l k = record { sound = k.sound; sizes = k.sizes; lent = k.lent }
