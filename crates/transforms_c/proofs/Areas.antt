-- E and S within their bounds, as facts.
use Prim.Native.Nat.{ℕ, ◌≤◌}
use mathlib.Core.Path.{◌≡◌}
use mathlib.Core.Bool.{true, ◌&&◌}
use lib.Dec.{leb}
use borrow.Author.Tests.{leb-true}
use Rattle.buffer.proofs.Cases.{and_left, and_right}
use Rattle.transforms_c.specs.Lengths.{rows_fit, capacity_fits}

pub few_rows_lem : (rows : ℕ) → rows_fit rows ≡ true → rows ≤ 256
few_rows_lem rows e = leb-true rows 256 (and_right (leb 1 rows) (leb rows 256) e)

few_samples : (capacity : ℕ) → capacity_fits capacity ≡ true → capacity ≤ 1024
few_samples capacity e = leb-true capacity 1024 (and_right (leb 1 capacity) (leb capacity 1024) e)

-- of both
pub small_sizes : (rows capacity : ℕ) → (rows_fit rows && capacity_fits capacity) ≡ true → (rows ≤ 256) × (capacity ≤ 1024)
small_sizes rows capacity e = (few_rows_lem rows (and_left _ _ e), few_samples capacity (and_right (rows_fit rows) _ e))
