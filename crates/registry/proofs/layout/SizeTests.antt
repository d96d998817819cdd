-- The used rows lie within the slices.
use Prim.Native.Nat.{ℕ, ◌+◌, ◌*◌, ◌≤◌, ◌<◌}
use native.Mathlib.Nat.{suc-mul, mul-le-mul_right}
use native.Mathlib.Omega.{arith}
use Rattle.registry.specs.Store.{Store, rows_in, capacity_in, used_in}
use Rattle.registry.specs.layout.Rows.{UsedParts, RowPart}
use Rattle.registry.proofs.layout.SizeLaws.{Sizes}

-- the used rows lie within the slices, and each of them
pub used_parts : (s : Store) → Sizes (rows_in s) (capacity_in s) s → used_in s ≤ rows_in s → UsedParts s
used_parts s z few =
    let l : used_in s * capacity_in s ≤ rows_in s * capacity_in s = mul-le-mul_right (capacity_in s) few in
    record {
      head = omega (arith, z.head);
      instants = omega (arith, z.instants);
      poses = omega (arith, z.poses);
    }

pub used_part : (s : Store) (r : ℕ) → UsedParts s → r < used_in s → RowPart r s
used_part s r u l =
    let h = u.head in
    let i = u.instants in
    let p = u.poses in
    let e : r * capacity_in s + capacity_in s ≤ used_in s * capacity_in s = rw (← suc-mul r (capacity_in s)) (mul-le-mul_right (capacity_in s) l) in
    record { head = omega arith; instants = omega arith; poses = omega arith }
