use Rattle.console.specs.Tree.{below, joined_lines}
use Rattle.console.specs.Walk.{left_of, turns_left}
use Rattle.console.specs.Reading.{tree_in}
use Rattle.console.proofs.Turns.{Leads}
use Rattle.console.proofs.tree.put_below.Given as goal

-- the lines that are left of the walk are to be written
abbrev pub invariant-loop-walk : goal.invariant-loop-walk
invariant-loop-walk l = let t = tree_in l.store in Leads l.fn.out l.out (joined_lines (below 256 t 1 l.root)) (joined_lines (left_of t l.walk))

abbrev pub decreases-loop-walk : goal.decreases-loop-walk
decreases-loop-walk l = turns_left (tree_in l.store) l.walk
