-- The flags are read from the cabinet's part, which are those of its lanes in the whole.
use Rattle.std.proofs.Common.{arith, rules}
use Rattle.lanes.proofs.CabinetLaws.{row_within, online-by}
use Rattle.model.specs.State.{cabinet_count}
use Rattle.words.specs.Lent.{sizes_of}
use Rattle.lanes.proofs.cabinet.cabinet_online.Goals as goal

pub slice_bounds-online_mask-end : goal.slice_bounds-online_mask-end
slice_bounds-online_mask-end c =
    let s = c.args in
    let within = row_within s.cabinet (cabinet_count (sizes_of s.z)) s.z.places c.requires.1 in
    omega (arith, c.cabinet_start-start.ensures, within, c.requires.0.long)

pub returns : goal.returns
returns c = search (rules, online-by)
