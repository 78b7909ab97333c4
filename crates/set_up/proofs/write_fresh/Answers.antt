-- The bodies are written one after another, each where the one before it ends.
use native.Mathlib.Omega.{arith}
use Rattle.words.specs.Lent.{sizes_of}
use Rattle.representation.proofs.Sentences.Split.{sizes-fit}
use Rattle.set_up.proofs.FreshLaws.{all-written}
use Rattle.set_up.proofs.write_fresh.Goals as goal

pub write_global-requires : goal.write_global-requires
write_global-requires c = let f = sizes-fit (sizes_of c.args.z) c.requires.0 in (omega arith, omega arith)

pub returns : goal.returns
returns c =
    let f = sizes-fit (sizes_of c.args.z) c.requires.0 in
    all-written (sizes_of c.args.z) _ _ c.cabinet_count.ensures c.yards_start.ensures (omega arith) c.requires.1
    (record { is = c.write_contents.ensures })
    c.write_global.ensures
    c.fill.ensures
    c.write_lanes.ensures
    c.write_slots.ensures
    c.fill-2.ensures
