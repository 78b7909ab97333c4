-- One digit, or those of the library.
use Rattle.std.proofs.Common.{rules, ◌≡◌, ◌≤◌, ◌++◌, length}
use Rattle.std.specs.Fmt as std
use Rattle.listing_text.proofs.TextLaws.{puts_digit, puts_number}
use Rattle.listing_text.proofs.answer.put_number.Goals as goal

pub returns-then-n-lt10 : goal.returns-then-n-lt10
returns-then-n-lt10 g c = puts_digit c.args.n (search rules) c.push.ensures.items

pub returns : goal.returns
returns g c =
    let digits : c.as_bytes.result.now ≡ std.decimal c.args.n = cc in
    let few : length c.as_bytes.result.now ≤ 10 = search rules in
    let put : c.try_extend_from_slice.new.self.items ≡ c.args.out.now.items ++ c.as_bytes.result.now = search rules in
    puts_number c.args.n c.ranges.n.fits (cc)
