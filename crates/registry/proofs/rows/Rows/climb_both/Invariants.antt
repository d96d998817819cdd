use Prim.Native.Nat.{◌+◌}
use mathlib.Core.Path.{◌≡◌}
use mathlib.Core.Bool.{true}
use Rattle.registry.specs.Sound.{no_circle}
use Rattle.registry.specs.paths.Edges.{OfTree}
use Rattle.registry.proofs.paths.ClimbingBoth.{Climbs}
use Rattle.registry.proofs.rows.Rows.climb_both.Given as goal

-- `registry::rows::Rows::climb_both` meets its contract. The invariant of its loop: where the climbs from f and g end, those from the target and the source do.
abbrev pub invariant-loop-f : goal.invariant-loop-f
invariant-loop-f l = OfTree l.self.head.now (λ t. no_circle t ≡ true → Climbs t l.fn.target.frame l.fn.source.frame l.f.frame l.g.frame l.f.above l.g.above)

abbrev pub decreases-loop-f : goal.decreases-loop-f
decreases-loop-f l = l.f.above + l.g.above
