-- The length is tested first; then the bytes decide.
use Rattle.std.proofs.Common.{◌∙◌, rules, tests}
use Rattle.std.proofs.lemmas.Iterator.{YieldsList-from_slice}
use Rattle.std.proofs.lemmas.Iterator.Search.{any_from_yields_List}
use Rattle.model.specs.Labels.{no_digit}
use Rattle.labels.proofs.ReadLaws.{no-length, by-bytes}
use Rattle.labels.proofs.is_no_label.Goals as goal

pub returns-then-not-is_label_length : goal.returns-then-not-is_label_length
returns-then-not-is_label_length c = search (rules, no-length)

pub returns-else-not-is_label_length : goal.returns-else-not-is_label_length
returns-else-not-is_label_length c =
    any_from_yields_List no_digit _ _ _ c.any.ensures.ran (YieldsList-from_slice c.args.text.now cc) (λ x b q k. search (rules, tests))
    ∙ by-bytes _ _ c.is_label_length.ensures c.if-not-is_label_length.false
