-- The binary search among rows whose children rise.
use Prim.Native.Nat.{ℕ, ◌≤◌, ◌<◌}
use mathlib.Core.List.{List}
use Rattle.registry.specs.layout.Rows.{head_of, child_at}
use Rattle.registry.specs.Store.{used_in}

-- the frame's row, if there is one, is among those from `low` up to `high`
pub record Between (h : List ℕ) (frame low high : ℕ) : Type 0 where
  pub order : low ≤ high
  pub used : high ≤ used_in (head_of h)
  pub below : (j : ℕ) → j < low → child_at h j < frame
  pub above : (j : ℕ) → high ≤ j → j < used_in (head_of h) → frame < child_at h j
