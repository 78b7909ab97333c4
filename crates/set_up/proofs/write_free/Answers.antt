-- Three words, one after another.
use mathlib.Core.Path.{refl}
use Rattle.set_up.proofs.WrittenLaws.{store, after, renamed}
use Rattle.set_up.specs.FreshWords.{all_free}
use Rattle.set_up.proofs.write_free.Goals as goal

pub returns : goal.returns
unfolding all_free
returns c = renamed (after (after (store _ _ _) (store _ _ _) refl) (store _ _ _) refl) refl
