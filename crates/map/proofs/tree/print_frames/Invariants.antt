-- Each turn goes down by at most a level.
use Rattle.std.proofs.Common.{◌≤◌}
use Rattle.map.proofs.tree.print_frames.Given as goal

abbrev pub invariant-loop : goal.invariant-loop
invariant-loop g l = l.walk.level ≤ l.counter
