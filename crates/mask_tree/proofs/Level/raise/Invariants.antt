-- The loop's invariant: the masks passed are set.
use mathlib.Core.Path.{◌≡◌}
use lib.ListN.{length}
use Rattle.mask_tree.specs.Tree.{level_of, raised_to}
use Rattle.mask_tree.proofs.Level.raise.Given as goal

abbrev pub invariant-loop-g : goal.invariant-loop-g
invariant-loop-g l = (length l.m ≡ length l.initial.m) × (l.m ≡ raised_to l.initial.m l.below (level_of l.self) l.g)
