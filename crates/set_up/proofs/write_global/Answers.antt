-- Words, runs of one word and the queues, one after another, are the global words.
use mathlib.Core.Path.{refl}
use Rattle.set_up.proofs.WrittenLaws.{store, after, renamed}
use Rattle.set_up.specs.FreshWords.{empty_queues, all_free, fresh_global}
use Rattle.set_up.proofs.write_global.Goals as goal

pub returns : goal.returns
unfolding empty_queues all_free fresh_global
returns c =
    renamed (after (after (after (after (after (store _ _ _)
    c.fill.ensures refl)
    c.fill-2.ensures refl)
    c.write_free.ensures refl)
    c.write_queues.ensures refl)
    (store _ _ _) refl) refl
