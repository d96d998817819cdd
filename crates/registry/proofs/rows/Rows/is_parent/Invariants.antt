use Prim.Native.Nat.{ℕ, ◌<◌}
use mathlib.Core.Path.{◌≡◌}
use Rattle.registry.specs.Store.{parent_in}
use Rattle.registry.specs.layout.Rows.{head_of}
use Rattle.registry.proofs.rows.Rows.is_parent.Given as goal

-- `registry::rows::Rows::is_parent` meets its contract. The invariant of its loop: no row that was passed has the frame as parent.
abbrev pub invariant-loop-row : goal.invariant-loop-row
invariant-loop-row l = (r : ℕ) → r < l.row → parent_in (head_of l.self.head.now) r ≡ l.frame → ⊥
