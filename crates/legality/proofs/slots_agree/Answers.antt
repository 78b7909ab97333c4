-- A law for each way out.
use Prim.Native.Nat.{ℕ}
use mathlib.Core.List.{List, map}
use mathlib.Core.Path.{ap, sym, ◌∙◌, subst}
use Rattle.model.specs.Lists.{distinct}
use Rattle.distinct_codes.specs.Met.{code_of, Listed}
use Rattle.legality.proofs.TableLaws.{lent-zeros, chains-asks, table-chains, queues-asks, apart-asks, table-queues, table-left, table-decided}
use borrow.Author.Rules.{rules}
use Rattle.legality.proofs.slots_agree.Goals as goal

pub chains-requires : goal.chains-requires
chains-requires g c =
    let l = lent-zeros _ _ _ _ _ c.requires.1 c.new-codes.ensures.cells c.new-codes.ensures.aside in
    let a = chains-asks _ _ _ c.requires.0 _ c.requires.3 _ _ _ l in (search rules, (a.0, a.1, c.requires.1, a.2))

pub returns-in_default : goal.returns-in_default
returns-in_default g c =
    let l = lent-zeros _ _ _ _ _ c.requires.1 c.new-codes.ensures.cells c.new-codes.ensures.aside in
    table-chains _ _ _ c.requires.0 _ c.requires.3 _ _ _ l c.in_default.ensures

pub walk_queues-requires : goal.walk_queues-requires
walk_queues-requires g c =
    let l = lent-zeros _ _ _ _ _ c.requires.1 c.new-codes.ensures.cells c.new-codes.ensures.aside in
    queues-asks _ _ _ c.requires.0 _ c.requires.3 _ _ _ l _ _ _ _ c.in-Some.ensures

pub returns-in_default-walk_queues : goal.returns-in_default-walk_queues
returns-in_default-walk_queues g c =
    let l = lent-zeros _ _ _ _ _ c.requires.1 c.new-codes.ensures.cells c.new-codes.ensures.aside in
    table-queues _ _ _ c.requires.0 _ c.requires.3 _ _ _ l _ _ _ _ c.in-Some.ensures c.in_default-walk_queues.ensures

pub returns-then-left-ne0 : goal.returns-then-left-ne0
returns-then-left-ne0 g c =
    let l = lent-zeros _ _ _ _ _ c.requires.1 c.new-codes.ensures.cells c.new-codes.ensures.aside in
    table-left _ _ _ c.requires.0 _ c.requires.3 _ _ _ l _ _ _ _ c.in-Some.ensures _ _ c.in-Some-walk_queues.ensures c.if-left-ne0.true

pub apart-requires : goal.apart-requires
apart-requires g c =
    let l = lent-zeros _ _ _ _ _ c.requires.1 c.new-codes.ensures.cells c.new-codes.ensures.aside in
    subst (Listed c.args.slots) (sym c.as_slice.ensures.value) (apart-asks _ _ _ c.requires.0 _ c.requires.3 _ _ _ l _ _ _ _ c.in-Some.ensures)

pub returns : goal.returns
returns g c =
    let l = lent-zeros _ _ _ _ _ c.requires.1 c.new-codes.ensures.cells c.new-codes.ensures.aside in
    table-decided _ _ _ c.requires.0 _ c.requires.3 _ _ _ l _ _ _ _ c.in-Some.ensures _ _ c.in-Some-walk_queues.ensures c.if-left-ne0.false _
    (c.apart.ensures ∙ ap (λ (a : List ℕ). distinct (map (code_of c.args.slots) a)) c.as_slice.ensures.value)
