use Prim.Native.Nat.{◌-◌, ◌≤◌}
use lib.ListN.{length}
use Rattle.registry.specs.soundness.Climbs.{Climbed}
use Rattle.registry.proofs.rows.Rows.climbs_end.Given as goal

-- `registry::rows::Rows::climbs_end` meets its contract. The invariant of its loop: each entry is at least so many steps up.
abbrev pub invariant-loop-steps : goal.invariant-loop-steps
invariant-loop-steps l = (1 ≤ l.steps) × Climbed l.self.head.now l.steps l.rows

abbrev pub decreases-loop-steps : goal.decreases-loop-steps
decreases-loop-steps l = length l.initial.rows - l.steps
