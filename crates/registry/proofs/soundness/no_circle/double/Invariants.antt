use mathlib.Core.Path.{◌≡◌}
use Rattle.registry.specs.soundness.Climbs.{jumped}
use Rattle.registry.proofs.soundness.no_circle.double.Given as goal

-- `registry::soundness::no_circle::double` meets its contract. The invariant of its loop: the first entries have moved on.
abbrev pub invariant-loop-r : goal.invariant-loop-r
invariant-loop-r l = l.rows ≡ jumped l.r l.initial.rows
