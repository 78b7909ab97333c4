use Rattle.std.proofs.Common.{rules, tests, refl, ◌≡◌}
use Rattle.std.specs.Prelude.{position}
use lib.Dec.{eqb}
use Rattle.std.proofs.lemmas.Iterator.{YieldsList-from_slice}
use Rattle.std.proofs.lemmas.Iterator.Search.{position_from_yields_List}
use Rattle.listing_text.proofs.BlockLaws.{fed_ended, fed_whole}
use Rattle.listing_text.proofs.line.Line.feed_until_newline.Goals as goal

pub returns-in-Some : goal.returns-in-Some
returns-in-Some c =
    let at : c.position.result ≡ position (λ b. eqb b 10) c.args.block.now =
    position_from_yields_List (λ b. eqb b 10) _ _ c.position.result c.position.ensures.ran (YieldsList-from_slice c.args.block.now cc)
    (λ x b q k. search (rules, tests)) in
    fed_ended _ _ _ at _ _ _ c.in-Some.is c.feed_all.ensures refl

pub returns-in-None : goal.returns-in-None
returns-in-None c =
    let at : c.position.result ≡ position (λ b. eqb b 10) c.args.block.now =
    position_from_yields_List (λ b. eqb b 10) _ _ c.position.result c.position.ensures.ran (YieldsList-from_slice c.args.block.now cc)
    (λ x b q k. search (rules, tests)) in
    fed_whole _ _ _ at _ c.in-None.is c.feed_all-in-None.ensures
