use Rattle.std.proofs.Common.{length}
use Rattle.console.specs.Why.{hop_lines}
use Rattle.console.specs.Reading.{tree_in}
use Rattle.console.proofs.Turns.{Leads}
use Rattle.console.proofs.ClimbLines.{hops_to}
use Rattle.console.proofs.why.put_hops.Given as goal

-- the lines of the hops that are left are to be written
abbrev pub invariant-loop-from : goal.invariant-loop-from
invariant-loop-from l = Leads l.fn.out l.out (hop_lines l.t (hops_to (tree_in l.store) l.frame l.end)) (hop_lines l.t (hops_to (tree_in l.store) l.from l.end))

abbrev pub decreases-loop-from : goal.decreases-loop-from
decreases-loop-from l = length (hops_to (tree_in l.store) l.from l.end)
