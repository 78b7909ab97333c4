-- A refused call changes no word; one that no cause refuses counts in the record of the lane's place, which is the lane's (`pass-done`).
use mathlib.Core.Path.{◌≡◌, refl}
use native.Mathlib.Omega.{arith}
use borrow.Author.Rules.{rules}
use Rattle.lanes.specs.declared.LaneRecord.{LaneRecord}
use Rattle.lanes.specs.Record.{counted_record}
use Rattle.lanes.specs.RecordChanges.{changed_at}
use Rattle.access.proofs.Ways.{cause-refuses}
use Rattle.readers.proofs.Passes.{pass-place, pass-done}
use Rattle.readers.proofs.pass.Goals as goal

pub returns-in_err-kind : goal.returns-in_err-kind
returns-in_err-kind c = cause-refuses _ _ c.requires.sound _ _ c.in_err-kind.ensures.cause c.from_residual.ensures.1

pub change-requires : goal.change-requires
change-requires c = (pass-place _ _ c.in_ok-kind.ensures.lane _ c.place.ensures, search rules)

pub returns : goal.returns
returns c =
    let m = c.args.m.now in
    let ok = c.in_ok-kind.ensures in
    let counted : c.change.new.m ≡ changed_at m c.place.result.address (λ (x : LaneRecord). counted_record x c.args.kind) = grind (arith, ok.kind) in
    pass-done _ _ ok.lane _ c.place.ensures _ ok.cause _ _ refl counted
