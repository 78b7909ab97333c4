-- The last of the names; the check finds the others apart by itself.
use Rattle.std.proofs.Common.{rules, arith, refl, ◌≡◌}
use lib.Chars.{codes}
use Rattle.listing_text.proofs.CommandLaws.{seven_bytes}
use Rattle.listing_text.proofs.command.Command.named.Goals as goal

pub returns-in-awaited : goal.returns-in-awaited
returns-in-awaited c =
    let e : c.args.name.now ≡ codes "awaited" =
    seven_bytes c.args.name.now (omega (arith, c.in-awaited.len_at_least, c.in-awaited.len_below)) (search rules) (search rules) (search rules) (search rules)
    (search rules) (search rules) (search rules) in
    rw e refl
