-- The tests in a row, by the sizes that were read, are the engine's part of legality.
use mathlib.Core.Path.{◌≡◌, ap, sym, ◌∙◌}
use Rattle.std.proofs.Common.{rules}
use Rattle.words.specs.Lent.{sizes_of, named}
use Rattle.engine_legality.proofs.EngineLaws.{tests_by, engine_by}
use Rattle.engine_legality.proofs.engine_fits.Goals as goal

pub returns-then-masks_fit : goal.returns-then-masks_fit
returns-then-masks_fit c =
    let m = c.args.m.now in
    let z = sizes_of c.of_table-z.result in
    let e : c.lanes_fit.result ≡ tests_by m z = search rules in
    e ∙ sym (engine_by m z (c.of_table-z.ensures ∙ ap named c.read.ensures))

pub returns-else-masks_fit : goal.returns-else-masks_fit
returns-else-masks_fit c =
    let m = c.args.m.now in
    let z = sizes_of c.of_table-z.result in
    let e : c.if-global_words_fit.value ≡ tests_by m z = search rules in
    e ∙ sym (engine_by m z (c.of_table-z.ensures ∙ ap named c.read.ensures))
