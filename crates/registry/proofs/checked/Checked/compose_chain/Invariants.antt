use lib.ListN.{length}
use Rattle.registry.specs.Tree.{ancestors}
use Rattle.registry.specs.Store.{tree_of}
use Rattle.registry.specs.Calls.{words}
use Rattle.registry.proofs.lookup.Composing.{Composing}
use Rattle.registry.proofs.checked.Checked.compose_chain.Given as goal

-- The frame's side is what is below, and then the side from `at`.
abbrev pub invariant-loop-at : goal.invariant-loop-at
invariant-loop-at l = Composing (tree_of (words l.self.store)) l.frame l.top l.t l.at l.below

abbrev pub decreases-loop-at : goal.decreases-loop-at
decreases-loop-at l = length (ancestors (tree_of (words l.self.store)) l.at)
