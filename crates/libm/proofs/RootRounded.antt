-- The 54 leading digits of a root give the rounded root: the last of them decides, since the root is never half way.
use mathlib.Core.Path.{◌≡◌, sym, ap, ap₂, ◌∙◌, subst}
use mathlib.Core.Logic.{◌⊎◌, inl, inr}
use mathlib.Core.Bool.{false}
use Prim.Native.Nat.{ℕ, suc, ◌+◌, ◌*◌, ◌/◌, ◌%◌, ◌^◌, ◌≤◌, ◌<◌, compare, Ordering}
use native.Mathlib.Nat.{mul_assoc, mul-le-mul, mul-le-mul_right, mul-lt-mul_of_pos_right, lt_of_not-le, le_of_suc-le-suc, mul-div_cancel, eq-zero-or-pos}
use native.Mathlib.Omega.{arith}
use lib.Pow.{pow-add, pow_pos}
use lib.Ieee.{binary64, size, nearest, units}
use lib.Ieee.Digits.{size-le}
use Rattle.libm.specs.Sqrt.{isqrt, beyond, leading, root_units}
use Rattle.libm.proofs.Compare.{compare_lt, compare_gt}
use Rattle.libm.proofs.Isqrt.{Floor, next_square, double_square, isqrt_floor, floor_unique}
use Rattle.libm.proofs.Powers.{four, four_pos, size_gt}

-- how many digits of the root of r * 4 ^ (h + 511) are beyond the precision, where r has 53 or 54 digits
beyond_is : (r h : ℕ) → 2 ^ 52 ≤ r → r < 2 ^ 54 → beyond binary64 (r * 4 ^ (h + 511)) ≡ h + 485
beyond_is r h lo hi =
    let n = r * 4 ^ (h + 511) in
    let j = h + 511 + (h + 511) in
    let e : n ≡ r * 2 ^ j = ap (λ (x : ℕ). r * x) (four (h + 511)) in
    let a : 52 + j < size n =
    size_gt n (52 + j) (subst (λ (x : ℕ). x ≤ n) (sym (pow-add 2 52 j)) (subst (λ (x : ℕ). 2 ^ 52 * 2 ^ j ≤ x) (sym e) (mul-le-mul_right (2 ^ j) lo))) in
    let b : size n ≤ 54 + j =
    size-le n (54 + j) (subst (λ (x : ℕ). n < x) (sym (pow-add 2 54 j)) (subst (λ (x : ℕ). x < 2 ^ 54 * 2 ^ j) (sym e) (mul-lt-mul_of_pos_right hi (pow_pos j)))) in
    omega (arith, a, b)

-- the root of 4 * m is Q, so that of m is Q / 2, on which side of the half way point Q % 2 says
module _ (m q Q rest : ℕ) (sq : Q * Q + rest ≡ 4 * m) (le : rest ≤ 2 * Q) where
  even_root : Q ≡ 2 * q → (Floor m q) × (4 * m < (2 * q + 1) * (2 * q + 1))
  even_root e =
      let s : Q * Q ≡ q * q + q * q + q * q + q * q = ap (λ (x : ℕ). x * x) e ∙ double_square q in
      let d : (2 * q + 1) * (2 * q + 1) ≡ Q * Q + Q + Q + 1 = ap (λ (x : ℕ). (x + 1) * (x + 1)) (sym e) ∙ next_square Q in
      ((omega arith, omega (arith, next_square q)), omega arith)

  odd_root : Q ≡ 2 * q + 1 → (Floor m q) × ((2 * q + 1) * (2 * q + 1) < 4 * m)
  odd_root e =
      let d : Q * Q ≡ (2 * q + 1) * (2 * q + 1) = ap (λ (x : ℕ). x * x) e in
      let s : (2 * q + 1) * (2 * q + 1) ≡ 2 * q * (2 * q) + 2 * q + 2 * q + 1 = next_square (2 * q) in
      let t : 2 * q * (2 * q) ≡ q * q + q * q + q * q + q * q = double_square q in
      ((omega arith, omega (arith, next_square q)), omega arith)

-- `root_units` by its parts
root_is : (c n k q : ℕ) → c * 2 ^ 1074 ≡ n → beyond binary64 n ≡ k → leading binary64 n ≡ q
    → root_units binary64 c ≡ units binary64 false (nearest q (compare (4 * n) ((2 * q + 1) * (2 * q + 1) * 4 ^ k))) k
unfolding root_units
root_is c n k q e a b =
    ap (λ (x : ℕ). units binary64 false (nearest (leading binary64 x) (compare (4 * x) ((2 * leading binary64 x + 1) * (2 * leading binary64 x + 1) * 4 ^ beyond binary64 x))) (beyond binary64 x)) e
    ∙ ap₂ (λ (x y : ℕ). units binary64 false (nearest y (compare (4 * n) ((2 * y + 1) * (2 * y + 1) * 4 ^ x))) x) a b

leading_is : (m k q : ℕ) → beyond binary64 (m * 4 ^ k) ≡ k → m < 4 ^ 53 → Floor m q → leading binary64 (m * 4 ^ k) ≡ q
unfolding leading
leading_is m k q a h f =
    ap (λ (x : ℕ). isqrt 53 (m * 4 ^ k / 4 ^ x)) a
    ∙ ap (isqrt 53) (mul-div_cancel m (four_pos k))
    ∙ floor_unique m (isqrt 53 m) q (isqrt_floor 53 m h) f

module _ (c m k Q rest : ℕ) (c-is : c * 2 ^ 1074 ≡ m * 4 ^ k) (beyond-k : beyond binary64 (m * 4 ^ k) ≡ k) (m-lt : m < 4 ^ 53) (sq : Q * Q + rest ≡ 4 * m) (le : rest ≤ 2 * Q) where
  -- by the floor of the root of m, and how four times m compares with the half way point squared
  by_order : (q s : ℕ) (o : Ordering) → Floor m q → compare (4 * (m * 4 ^ k)) ((2 * q + 1) * (2 * q + 1) * 4 ^ k) ≡ o → nearest q o ≡ s
      → root_units binary64 c ≡ units binary64 false s k
  by_order q s o f g e =
      root_is c (m * 4 ^ k) k q c-is beyond-k (leading_is m k q beyond-k m-lt f)
      ∙ ap (λ (x : Ordering). units binary64 false (nearest q x) k) g
      ∙ ap (λ (x : ℕ). units binary64 false x k) e

  by_parity : (Q % 2 ≡ 0) ⊎ (0 < Q % 2) → root_units binary64 c ≡ units binary64 false (Q / 2 + Q % 2) k
  by_parity (inl z) =
      let f = even_root m (Q / 2) Q rest sq le (omega arith) in
      by_order (Q / 2) (Q / 2 + Q % 2) Ordering.lt f.0
      (compare_lt _ _ (subst (λ (x : ℕ). x < (2 * (Q / 2) + 1) * (2 * (Q / 2) + 1) * 4 ^ k) (mul_assoc 4 m (4 ^ k)) (mul-lt-mul_of_pos_right f.1 (four_pos k))))
      (omega arith)
  by_parity (inr p) =
      let f = odd_root m (Q / 2) Q rest sq le (omega arith) in
      by_order (Q / 2) (Q / 2 + Q % 2) Ordering.gt f.0
      (compare_gt _ _ (subst (λ (x : ℕ). (2 * (Q / 2) + 1) * (2 * (Q / 2) + 1) * 4 ^ k < x) (mul_assoc 4 m (4 ^ k)) (mul-lt-mul_of_pos_right f.1 (four_pos k))))
      (omega arith)

-- r * 4 ^ h is c units of 2 ^ -1074 in units of 2 ^ -1126, and Q is the whole root of r * 2 ^ 54
pub rounded : (c r h Q rest : ℕ) → r * 4 ^ h ≡ c * 2 ^ 52 → 2 ^ 52 ≤ r → r < 2 ^ 54 → Q * Q + rest ≡ r * 2 ^ 54 → rest ≤ 2 * Q
    → root_units binary64 c ≡ units binary64 false (Q / 2 + Q % 2) (h + 485)
rounded c r h Q rest e lo hi sq le =
    by_parity c (r * 4 ^ 26) (h + 485) Q rest
    (sym (mul_assoc c (2 ^ 52) (4 ^ 511)) ∙ ap (λ (x : ℕ). x * 4 ^ 511) (sym e) ∙ mul_assoc r (4 ^ h) (4 ^ 511) ∙ ap (λ (x : ℕ). r * x) (sym (pow-add 4 h 511)) ∙ radicand)
    (ap (beyond binary64) (sym radicand) ∙ beyond_is r h lo hi)
    (omega arith) (omega arith) le
    (eq-zero-or-pos (Q % 2))
  where
    places : h + 511 ≡ 26 + (h + 485)
    places = omega arith

    radicand : r * 4 ^ (h + 511) ≡ r * 4 ^ 26 * 4 ^ (h + 485)
    radicand = ap (λ (x : ℕ). r * 4 ^ x) places ∙ ap (λ (x : ℕ). r * x) (pow-add 4 26 (h + 485)) ∙ sym (mul_assoc r (4 ^ 26) (4 ^ (h + 485)))

-- such a root has 54 digits
pub digits_range : (Q rest r : ℕ) → Q * Q + rest ≡ r * 2 ^ 54 → rest ≤ 2 * Q → 2 ^ 52 ≤ r → r < 2 ^ 54 → (2 ^ 53 ≤ Q) × (Q < 2 ^ 54)
digits_range Q rest r sq le lo hi = (
  le_of_suc-le-suc (lt_of_not-le (λ (g : suc Q ≤ 2 ^ 53). let h : Q + 1 ≤ 2 ^ 53 = omega arith in omega (arith, mul-le-mul h h, next_square Q))),
  lt_of_not-le (λ (g : 2 ^ 54 ≤ Q). omega (arith, mul-le-mul g g)),
)
