-- The cells with one element more.
use Rattle.std.proofs.Common.{arith}
use Rattle.listing_text.specs.Padded.{pushed}
use Rattle.listing_text.proofs.short.Short.try_push.Goals as goal

pub invariant_of-self : goal.invariant_of-self
invariant_of-self g c = pushed c.self.invariant c.args.x (omega (arith, c.self.invariant.fits, c.if-self.false))
