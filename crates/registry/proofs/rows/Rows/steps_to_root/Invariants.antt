use Prim.Native.Nat.{◌-◌}
use mathlib.Core.Path.{◌≡◌}
use Rattle.registry.specs.Tree.{above}
use Rattle.registry.specs.paths.Edges.{OfTree}
use Rattle.registry.specs.paths.Walks.{steps_to_root}
use Rattle.registry.proofs.paths.TreeWalks.{steps_on}
use Rattle.registry.proofs.rows.Rows.steps_to_root.Given as goal

-- `registry::rows::Rows::steps_to_root` meets its contract. The invariant of its loop: what is left of the walk decides how the climb ends.
abbrev pub invariant-loop-steps : goal.invariant-loop-steps
invariant-loop-steps l = OfTree l.self.head.now (λ t. steps_to_root t l.frame l.goal ≡ steps_on l.goal l.steps (above (l.used - l.steps) t l.at))
