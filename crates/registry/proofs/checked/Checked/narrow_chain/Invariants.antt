use lib.ListN.{length}
use Rattle.registry.specs.Tree.{ancestors}
use Rattle.registry.specs.Store.{tree_of}
use Rattle.registry.specs.Calls.{words}
use Rattle.registry.specs.common_time.Spans.{common_of}
use Rattle.registry.proofs.common_time.Narrowing.{Narrowing}
use Rattle.registry.proofs.checked.Checked.narrow_chain.Given as goal

-- The frame's hops narrow as those from `at` do.
abbrev pub invariant-loop-at : goal.invariant-loop-at
invariant-loop-at l = Narrowing (tree_of (words l.self.store)) l.frame l.top (common_of l.initial.common_span) l.at (common_of l.common_span)

abbrev pub decreases-loop-at : goal.decreases-loop-at
decreases-loop-at l = length (ancestors (tree_of (words l.self.store)) l.at)
