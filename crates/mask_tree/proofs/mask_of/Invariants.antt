-- The loop's invariant: the mask is that of the words passed.
use mathlib.Core.Path.{◌≡◌}
use Rattle.mask_tree.specs.Tree.{mask_of}
use Rattle.mask_tree.proofs.mask_of.Given as goal

abbrev pub invariant-loop-p : goal.invariant-loop-p
invariant-loop-p l = l.mask ≡ mask_of l.words l.p
