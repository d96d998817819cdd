-- Row r's parts of the instants and of the poses, as the code cuts them.
use Prim.Native.Nat.{ℕ, ◌+◌, ◌-◌, ◌≤◌}
use mathlib.Core.Path.{◌≡◌}
use mathlib.Core.List.{List}
use native.Mathlib.Omega.{arith}
use lib.Ieee.{Float}
use lib.ListN.{length, take, drop, length-drop}
use lib.Seq.{length-take-le}
use Rattle.registry.specs.Store.{Store, instants_length, poses_length, row_floats, capacity_in, row_instants, row_poses}
use Rattle.registry.specs.layout.Rows.{RowPart}

module _ {A : Type 0} (l : List A) where
  pub part_is : (first width at w : ℕ) → first ≡ at → width ≡ w → take (first + width - first) (drop first l) ≡ take w (drop at l)
  part_is first width at w f q =
      let e : first + width - first ≡ width = omega arith in
      rw (e, f, q)

-- the numbers that it computes: the row's instants begin at `first`, its poses at `float`
pub record Cut (s : Store) (r width first float floats : ℕ) : Type 0 where
  pub wide : width ≡ capacity_in s
  pub instants : first ≡ instants_length r width
  pub poses : float ≡ poses_length r width
  pub sevens : floats ≡ row_floats width

-- a part of a list that ends within it has its own length
part_long : {A : Type 0} (at w : ℕ) (l : List A) → at + w ≤ length l → length (take w (drop at l)) ≡ w
part_long at w l h = length-take-le w (drop at l) (rw (length-drop at l) (omega arith))

module _ (s : Store) (r : ℕ) (part : RowPart r s) where
  pub instants_long : length (row_instants s r) ≡ capacity_in s
  instants_long = part_long (instants_length r (capacity_in s)) (capacity_in s) s.instants part.instants

  pub poses_long : length (row_poses s r) ≡ row_floats (capacity_in s)
  poses_long = part_long (poses_length r (capacity_in s)) (row_floats (capacity_in s)) s.poses part.poses

-- what the code lends to be written
abbrev pub lent_instants : Store → ℕ → ℕ → List ℕ
lent_instants s first width = take (first + width - first) (drop first s.instants)

abbrev pub lent_poses : Store → ℕ → ℕ → List Float
lent_poses s float floats = take (float + floats - float) (drop float s.poses)

module _ {s : Store} {r width first float floats : ℕ} (cut : Cut s r width first float floats) where
  pub instants_lent : lent_instants s first width ≡ row_instants s r
  instants_lent = part_is s.instants first width (instants_length r (capacity_in s)) (capacity_in s) (rw (← cut.wide) cut.instants) cut.wide

  pub poses_lent : lent_poses s float floats ≡ row_poses s r
  poses_lent = part_is s.poses float floats (poses_length r (capacity_in s)) (row_floats (capacity_in s)) (rw (← cut.wide) cut.poses) (rw (← cut.wide) cut.sevens)
