-- What each test of `sqrt` says of its argument, and the root there.
use mathlib.Core.Path.{◌≡◌, refl, sym, ap, ◌∙◌, subst}
use mathlib.Core.Logic.{inl, inr}
use mathlib.Core.Bool.{Bool, true, false, not, cond, ◌||◌, beq}
use Prim.Native.Nat.{ℕ, zero, suc, ◌+◌, ◌*◌, ◌/◌, ◌%◌, ◌^◌, ◌<◌}
use native.Mathlib.Nat.{lt_irrefl, eq-zero-or-pos, mul-pos, zero-lt-suc, zero-mul}
use native.Mathlib.Omega.{arith}
use lib.Dec.{T, eqb, lt→ltb, ltb→lt, eqb→eq, eqb-suc-zero}
use lib.Arith.{le→nltb}
use lib.IntN.{ℤ}
use lib.Ieee.{Float, nan, inf, fin, binary64, up, down, of_bits, to_bits, fits, eq, lt, is_nan, nan_bits, level}
use lib.Ieee.Bits.{nan_bits_above}
use lib.Ieee.Fits.{up_pos, and_l}
use borrow.Author.Tests.{eq-eqb, le-ltb}
use Rattle.time.specs.Float.{zero64}
use Rattle.libm.specs.Sqrt.{sqrt, sqrt_at, root_units, units_of}
use Rattle.libm.proofs.Units.{counted}

abbrev infinity : Float
infinity = of_bits binary64 0x7ff0_0000_0000_0000

yes : {b : Bool} → b ≡ true → T b
yes e = subst T (sym e) tt

no : {b : Bool} → b ≡ false → T b → ⊥
no e t = subst T e t

pub at_nan : (x : Float) → is_nan x ≡ true → x ≡ sqrt x
unfolding sqrt_at is_nan
at_nan nan h = refl
at_nan (inf s) h = absurd (yes h)
at_nan (fin s m e) h = absurd (yes h)

-- a product with 2 ^ e is zero only where the number is
vanishes : (m : ℕ) (e : ℤ) → m * up e * 1 ≡ 0 → m ≡ 0
vanishes m e h = elim (eq-zero-or-pos m) [
  | inl z ↦ z
  | inr p ↦ absurd (lt_irrefl 0 (subst (λ (y : ℕ). 0 < y) h (mul-pos (mul-pos p (up_pos e)) (zero-lt-suc 0))))
]

pub at_zero : (x : Float) → eq x zero64 ≡ true → x ≡ sqrt x
unfolding sqrt_at of_bits eq
at_zero nan h = refl
at_zero (inf true) h = absurd (yes h)
at_zero (inf false) h = refl
at_zero (fin s m e) h =
    let t = and_l (eqb (m * up e * 1) (0 * 1 * down e)) (beq s false || eqb (m * up e * 1) 0) (yes h) in
    let z : m ≡ 0 = vanishes m e (eqb→eq (m * up e * 1) (0 * 1 * down e) t ∙ zero-mul (down e)) in
    sym (ap (λ (b : Bool). cond b (fin s m e) (cond s nan (root_units binary64 (m * up e * 2 ^ 1074 / down e)))) (eq-eqb m 0 z))

-- at a finite value that is not zero
pub at_fin : (s : Bool) (m : ℕ) (e : ℤ) → 0 < m → sqrt (fin s m e) ≡ cond s nan (root_units binary64 (m * up e * 2 ^ 1074 / down e))
unfolding sqrt_at
at_fin s zero e p = absurd (lt_irrefl 0 p)
at_fin s (suc m) e p = ap (λ (b : Bool). cond b (fin s (suc m) e) (cond s nan (root_units binary64 (suc m * up e * 2 ^ 1074 / down e)))) (eqb-suc-zero m)

some : (m : ℕ) (e : ℤ) → 0 < m * up e * 1 + 0 * 1 * down e → 0 < m
some m e h = elim (eq-zero-or-pos m) [
  | inl z ↦ absurd (lt_irrefl 0 (subst (λ (y : ℕ). 0 < y) (ap (λ (y : ℕ). y * up e * 1 + 0 * 1 * down e) z ∙ nothing (up e) (down e)) h))
  | inr p ↦ p
]
  where
    nothing : (u d : ℕ) → 0 * u * 1 + 0 * d ≡ 0
    nothing u d = simp zero-mul

pub below_zero : (x : Float) → lt x zero64 ≡ true → nan ≡ sqrt x
unfolding of_bits lt sqrt_at
below_zero nan h = absurd (yes h)
below_zero (inf true) h = refl
below_zero (inf false) h = absurd (yes h)
below_zero (fin true m e) h = sym (at_fin true m e (some m e (ltb→lt 0 (m * up e * 1 + 0 * 1 * down e) (yes h))))
below_zero (fin false m e) h = absurd (no (le-ltb (m * up e * 1) (0 * 1 * down e) (omega arith)) (yes h))

pub at_infinity : (x : Float) → eq x infinity ≡ true → x ≡ sqrt x
unfolding of_bits eq sqrt_at
at_infinity nan h = refl
at_infinity (inf true) h = absurd (yes h)
at_infinity (inf false) h = refl
at_infinity (fin s m e) h = absurd (yes h)

-- what is left is finite and above zero
pub data Positive : Float → Type 0 where
  positive : {m : ℕ} {e : ℤ} → 0 < m → Positive (fin false m e)

zero_level : (s : Bool) (a b : ℕ) → a ≡ 0 → b ≡ 0 → T (level s a false b)
zero_level s a b p q = subst (λ (y : ℕ). T (level s y false b)) (sym p) (subst (λ (y : ℕ). T (level s 0 false y)) (sym q) (at s))
  where
    at : (s : Bool) → T (level s 0 false 0)
    at true = tt
    at false = tt

more : (m : ℕ) (e : ℤ) (b : ℕ) → 0 < m → 0 < m * up e * 1 + b
more m e b p = let h : 0 < m * up e * 1 = mul-pos (mul-pos p (up_pos e)) (zero-lt-suc 0) in omega arith

pub otherwise : (x : Float) → is_nan x ≡ false → eq x zero64 ≡ false → eq x infinity ≡ false → lt x zero64 ≡ false → Positive x
unfolding of_bits is_nan eq lt
otherwise nan a b c d = absurd (no a tt)
otherwise (inf true) a b c d = absurd (no d tt)
otherwise (inf false) a b c d = absurd (no c tt)
otherwise (fin s zero e) a b c d = absurd (no b (zero_level s (0 * up e * 1) (0 * 1 * down e) (ap (λ (y : ℕ). y * 1) (zero-mul (up e))) (zero-mul (down e))))
otherwise (fin true (suc m) e) a b c d = absurd (no d (lt→ltb 0 (suc m * up e * 1 + 0 * 1 * down e) (more (suc m) e (0 * 1 * down e) (zero-lt-suc m))))
otherwise (fin false (suc m) e) a b c d = positive (zero-lt-suc m)

-- the bits of such a value, and its root by them

pub bits_within : (x : Float) → T (fits binary64 x) → Positive x → (0 < to_bits binary64 x) × (to_bits binary64 x < 2047 * 2 ^ 52)
bits_within x f (positive {m} {e} p) = let k = counted m e f p in (k.0, k.1)

pub sqrt_by_bits : (x : Float) → T (fits binary64 x) → Positive x → root_units binary64 (units_of (to_bits binary64 x)) ≡ sqrt x
sqrt_by_bits x f (positive {m} {e} p) = ap (root_units binary64) (sym (counted m e f p).2) ∙ sym (at_fin false m e p)

pub finite_bits : (b : ℕ) → b < 2047 * 2 ^ 52 → T (not (nan_bits binary64 b))
finite_bits b h = subst (λ (y : Bool). T (not y)) (sym (nan_bits_above binary64 b)) (le→nltb (2047 * 2 ^ 52) (b % 2 ^ 63) (omega arith))
