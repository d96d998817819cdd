-- What the proofs outside this directory know of the lengths: a row has seven floats for each instant; and the lengths within the limits are small.
use Prim.Native.Nat.{ℕ, ◌*◌, ◌^◌, ◌≤◌, ◌<◌}
use mathlib.Core.Path.{◌≡◌, sym, ap, ◌∙◌}
use native.Mathlib.Nat.{mul-le-mul}
use native.Mathlib.Omega.{arith}
use lib.ListN.{length}
use Rattle.registry.specs.Store.{Store, instants_length, poses_length, row_floats, row_instants, row_poses}
use Rattle.registry.specs.layout.Rows.{RowPart}
use Rattle.registry.proofs.layout.RowParts.{instants_long, poses_long}

-- as the buffer's rows have them
pub seven_floats : (s : Store) (r : ℕ) → RowPart r s → length (row_poses s r) ≡ 7 * length (row_instants s r)
seven_floats s r part = poses_long s r part ∙ ap row_floats (sym (instants_long s r part))

-- at most 256 rows of at most 1,024 samples
module _ (rows capacity : ℕ) (h : rows ≤ 256) (k : capacity ≤ 1024) where
  area : rows * capacity ≤ 262144
  area = mul-le-mul h k

  pub instants_small : instants_length rows capacity < 2 ^ 60
  instants_small = omega (arith, area)

  pub poses_small : poses_length rows capacity < 2 ^ 60
  poses_small = omega (arith, area)
