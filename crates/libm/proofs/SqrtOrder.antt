-- The square root fits its format, and it keeps the order.
use mathlib.Core.Path.{◌≡◌, sym, ap, ◌∙◌, subst}
use mathlib.Core.Bool.{Bool, true, false, cond}
use Prim.Native.Nat.{ℕ, zero, suc, ◌+◌, ◌-◌, ◌*◌, ◌/◌, ◌^◌, ◌≤◌, ◌<◌, compare}
use native.Mathlib.Nat.{add_comm, le_of_suc-le-suc, le_trans, lt_of_le_of_lt, lt_of_not-le, lt_irrefl, mul-le-mul_right, mul-div_cancel, mul-one, mul-pos, zero-mul, eq_of_mul-eq-mul_right}
use native.Mathlib.Omega.{arith}
use lib.Dec.{T, leb, ltb, eqb, lit<, ltb→lt}
use lib.Pow.{pow_pos}
use lib.IntN.{ℤ}
use lib.Ieee.{Float, nan, inf, fin, binary64, up, down, fits, le, nearest, odd, size, to_bits, units, lt, of_bits}
use lib.Ieee.Bits.{is_true, of_bits-to_bits}
use lib.Ieee.Fits.{cond-fits, down_pos, inf-fits, nan-fits, nearest-le, odd-fits, up_pos}
use lib.Ieee.Order.{le_of_values}
use lib.Ieee.Scale.{finite}
use lib.Ieee.Positive.{positive, positive-finite, values_of_le}
use borrow.Author.Tests.{lt-ltb}
use Rattle.time.specs.Float.{zero64}
use Rattle.time.proofs.Seconds.{Plain, of_value}
use Rattle.libm.specs.Sqrt.{beyond, isqrt, leading, root_units, sqrt, sqrt_at}
use Rattle.libm.specs.Laws.{Nearest, Units}
use Rattle.libm.proofs.SqrtNearest.{sqrt_nearest}

-- ---- what is rounded has at most 53 digits

double : (d : ℕ) (q : ℕ) (b : Bool) → q < 2 ^ d → cond b (2 * q + 1) (2 * q) < 2 ^ suc d
double d q true h = omega arith
double d q false h = omega arith

isqrt_lt : (d n : ℕ) → isqrt d n < 2 ^ d
unfolding isqrt
isqrt_lt zero n = lit< tt
isqrt_lt (suc d) n = double d (isqrt d (n / 4)) (leb ((2 * isqrt d (n / 4) + 1) * (2 * isqrt d (n / 4) + 1)) n) (isqrt_lt d (n / 4))

units_fits : (q k : ℕ) → q ≤ 2 ^ 53 → T (fits binary64 (units binary64 false q k))
unfolding units
units_fits q k a = go (ltb (q * 2 ^ k) (2 ^ 2098)) (ltb→lt (q * 2 ^ k) (2 ^ 2098))
  where
    go : (b : Bool) → (T b → q * 2 ^ k < 2 ^ 2098) → T (fits binary64 (cond b (odd 54 false q k 1074) (inf false)))
    go true h = odd-fits binary64 54 false q k (lt_of_le_of_lt a (lit< tt)) a (h tt)
    go false h = inf-fits binary64 false

root_fits : (m : ℕ) → T (fits binary64 (root_units binary64 m))
unfolding root_units leading
root_fits m =
    let n = m * 2 ^ 1074 in
    let q = isqrt 53 (n / 4 ^ beyond binary64 n) in
    let o = compare (4 * n) ((2 * q + 1) * (2 * q + 1) * 4 ^ beyond binary64 n) in
    units_fits (nearest q o) (beyond binary64 n) (le_trans (nearest-le q o) (isqrt_lt 53 (n / 4 ^ beyond binary64 n)))

pub sqrt_fits : (x : Float) → T (fits binary64 x) → T (fits binary64 (sqrt x))
unfolding sqrt_at
sqrt_fits nan h = nan-fits binary64
sqrt_fits (inf s) h = cond-fits binary64 s nan (inf false) (nan-fits binary64) (inf-fits binary64 false)
sqrt_fits (fin s m e) h =
    let r = root_units binary64 (m * up e * 2 ^ 1074 / down e) in
    cond-fits binary64 (eqb m 0) (fin s m e) (cond s nan r) h
    (cond-fits binary64 s nan r (nan-fits binary64) (root_fits (m * up e * 2 ^ 1074 / down e)))

-- ---- a value that fits is one by its units

bits_of : ℕ → ℕ
bits_of n = let k = size n - 53 in 0 + k * 2 ^ 52 + n / 2 ^ k

bits_by_units : (m : ℕ) (e : ℤ) (v : ℕ) → Units (fin false m e) v → to_bits binary64 (fin false m e) ≡ bits_of v
unfolding to_bits bits_of
bits_by_units m e v u = ap bits_of (ap (λ (n : ℕ). n / down e) u.1 ∙ mul-div_cancel v (down_pos e))

pub same_units : (x y : Float) (v : ℕ) → T (fits binary64 x) → T (fits binary64 y) → Units x v → Units y v → x ≡ y
same_units x y v f g p q = sym (of_bits-to_bits binary64 x f) ∙ ap (of_bits binary64) (bits x p ∙ sym (bits y q)) ∙ of_bits-to_bits binary64 y g
  where
    bits : (z : Float) → Units z v → to_bits binary64 z ≡ bits_of v
    bits nan u = absurd u
    bits (inf s) u = absurd u
    bits (fin true m e) u = absurd (subst T u.0 tt)
    bits (fin false m e) u = bits_by_units m e v u

one_number : (x : Float) (v w : ℕ) → Units x v → Units x w → v ≡ w
one_number nan v w a b = absurd a
one_number (inf s) v w a b = absurd a
one_number (fin s m e) v w a b = eq_of_mul-eq-mul_right (down e) (down_pos e) v w (sym a.1 ∙ b.1)

-- ---- the order

-- a sum below a square and above it
between : (n n' s t : ℕ) → n ≤ n' → s ≤ 4 * n → 4 * n' ≤ t → s ≡ t → n ≡ n'
between n n' s t a b c d = omega arith

greater : (a b : ℕ) → (b < a → a ≡ b) → a ≤ b
greater a b h = le_of_suc-le-suc (lt_of_not-le (λ (g : suc b ≤ a). lt_irrefl b (subst (λ (x : ℕ). b < x) (h g) g)))

above_zero : (x : Float) → T (positive x) → lt zero64 x ≡ true
unfolding of_bits lt
above_zero nan p = absurd p
above_zero (inf s) p = absurd p
above_zero (fin true m e) p = absurd p
above_zero (fin false m e) p = rw (zero-mul (down e), mul-one, lt-ltb 0 (m * up e) (mul-pos (ltb→lt 0 m p) (up_pos e)))

-- x is m units, its root r units, and r is nearest
rooted : (x : Float) → T (fits binary64 x) → T (positive x) → (m : ℕ) × (r : ℕ) × Units x m × Units (sqrt x) r × Nearest (m * 2 ^ 1074) r
rooted x f p = sqrt_nearest x f (is_true (finite x) (positive-finite x p)) (above_zero x p)

pub units_of_lem : (x : Float) → T (fits binary64 x) → T (positive x) → (v : ℕ) × Units x v
units_of_lem x f p = let (m, r, ux, ur, nx) = rooted x f p in (m, ux)

pub sqrt_plain : (x : Float) → T (fits binary64 x) → T (positive x) → Plain (sqrt x)
sqrt_plain x f p = let (m, r, ux, ur, nx) = rooted x f p in of_value (sqrt x) r (2 ^ 1074) ur

pub sqrt_mono : (x y : Float) → T (fits binary64 x) → T (fits binary64 y) → T (positive x) → T (positive y) → T (le x y) → T (le (sqrt x) (sqrt y))
sqrt_mono x y f g p q h =
    let (m, r, ux, ur, nx) = rooted x f p in
    let (n, s, uy, us, ny) = rooted y g q in
    let d : m * 2 ^ 1074 ≤ n * 2 ^ 1074 = values_of_le x y m (2 ^ 1074) n (2 ^ 1074) p q ux uy h in
    le_of_values (sqrt x) (sqrt y) r (2 ^ 1074) s (2 ^ 1074) (pow_pos 1074) (pow_pos 1074) ur us
    (mul-le-mul_right (2 ^ 1074)
    (greater r s
    (λ (l : s < r).
    let e : m * 2 ^ 1074 ≡ n * 2 ^ 1074 =
    between _ _ ((s + r) * (s + r)) ((r + s) * (r + s)) d ((nx (sqrt y) s (sqrt_fits y g) us).0 l) ((ny (sqrt x) r (sqrt_fits x f) ur).1 l) (ap (λ (a : ℕ). a * a) (add_comm s r)) in
    let z : x ≡ y = same_units x y m f g ux (subst (Units y) (eq_of_mul-eq-mul_right (2 ^ 1074) (pow_pos 1074) n m (sym e)) uy) in
    one_number (sqrt y) r s (subst (λ (a : Float). Units (sqrt a) r) z ur) us)))
