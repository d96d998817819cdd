-- `isqrt` gives the whole part of a root, and nothing else is that.
use mathlib.Core.Path.{◌≡◌, ap, ◌∙◌, subst}
use mathlib.Core.Bool.{Bool, true, false, not, cond}
use Prim.Native.Nat.{ℕ, zero, suc, ◌+◌, ◌*◌, ◌/◌, ◌^◌, ◌≤◌, ◌<◌}
use native.Mathlib.Nat.{mul-add, add-mul, mul_comm, mul-one, one-mul, add_assoc, pow-suc, mul-le-mul, div-lt_iff_lt-mul, zero-lt-suc, le_antisymm, lt_of_not-le, le_of_suc-le-suc}
use native.Mathlib.Omega.{arith}
use lib.Dec.{T, leb, leb→le, nleb→lt}
use Rattle.libm.specs.Sqrt.{isqrt}

-- q is the whole part of the root of n
abbrev pub Floor : ℕ → ℕ → Type 0
Floor n q = (q * q ≤ n) × (n < (q + 1) * (q + 1))

pub next_square : (q : ℕ) → (q + 1) * (q + 1) ≡ q * q + q + q + 1
next_square q = simp (mul-add, add-mul, mul_comm, mul-one, one-mul, add_assoc)

pub double_square : (r : ℕ) → 2 * r * (2 * r) ≡ r * r + r * r + r * r + r * r
double_square r =
    let double : 2 * r ≡ r + r = omega arith in
    ap (λ (x : ℕ). x * x) double ∙ simp (mul-add, add-mul, add_assoc)

-- one more binary digit
digit_floor : (n r : ℕ) → Floor (n / 4) r → Floor n (cond (leb ((2 * r + 1) * (2 * r + 1)) n) (2 * r + 1) (2 * r))
digit_floor n r h = go (leb ((2 * r + 1) * (2 * r + 1)) n) (leb→le ((2 * r + 1) * (2 * r + 1)) n) (nleb→lt ((2 * r + 1) * (2 * r + 1)) n)
  where
    go : (b : Bool) → (T b → (2 * r + 1) * (2 * r + 1) ≤ n) → (T (not b) → n < (2 * r + 1) * (2 * r + 1)) → Floor n (cond b (2 * r + 1) (2 * r))
    go true p q = (p tt, omega (arith, next_square (2 * r + 1), next_square (2 * r), double_square r, next_square r))
    go false p q = (omega (arith, double_square r), q tt)

pub isqrt_floor : (d n : ℕ) → n < 4 ^ d → Floor n (isqrt d n)
unfolding isqrt
isqrt_floor zero n h = (omega arith, omega arith)
isqrt_floor (suc d) n h =
    digit_floor n (isqrt d (n / 4)) (isqrt_floor d (n / 4) ((div-lt_iff_lt-mul (zero-lt-suc 3)).1 (subst (λ (x : ℕ). n < x) (pow-suc 4 d) h)))

floor_le : (n a b : ℕ) → Floor n a → Floor n b → a ≤ b
floor_le n a b p q = le_of_suc-le-suc (lt_of_not-le (λ (g : suc b ≤ a). let h : b + 1 ≤ a = omega arith in omega (arith, mul-le-mul h h)))

pub floor_unique : (n a b : ℕ) → Floor n a → Floor n b → a ≡ b
floor_unique n a b p q = le_antisymm (floor_le n a b p q) (floor_le n b a q p)
