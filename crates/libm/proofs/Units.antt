-- How many units of 2 ^ -1074 a positive finite value is, by its bits.
use mathlib.Core.Path.{◌≡◌, refl, sym, ap, ◌∙◌, subst}
use mathlib.Core.Bool.{Bool, true, false, not, cond}
use Prim.Native.Nat.{ℕ, zero, suc, ◌+◌, ◌*◌, ◌/◌, ◌%◌, ◌^◌, ◌<◌}
use native.Mathlib.Nat.{lt_irrefl, mod-eq_of_lt, mul-div_cancel, zero-lt-suc, mul-one, zero-mul, mul-pos}
use native.Mathlib.Omega.{arith}
use lib.Dec.{T, leb, eqb}
use lib.Pow.{pow_pos}
use lib.IntN.{ℤ}
use lib.Ieee.{Float, nan, inf, fin, binary64, up, down, odd, of_fields, of_bits, to_bits, fits}
use lib.Ieee.Bits.{of_bits-to_bits}
use lib.Ieee.Exact.{HasValue, odd_sign}
use lib.Ieee.Fits.{up_pos, down_pos, eq→eqb}
use lib.Ieee.Scale.{finite}
use borrow.Author.Tests.{leb-false}
use Rattle.libm.specs.Sqrt.{units_at, units_of}

-- m * 2 ^ e is as many units as its bits b say, as a whole quotient and as an equation
abbrev pub Counted : ℕ → ℤ → ℕ → Type 0
Counted m e b = (0 < b) × (b < 2047 * 2 ^ 52) × (m * up e * 2 ^ 1074 / down e ≡ units_of b) × (m * up e * 2 ^ 1074 ≡ units_of b * down e)

abbrev Value : Bool → ℕ → ℕ → ℕ → ℤ → Type 0
Value s x t m e = (s ≡ false) × (x ≡ 2047 → ⊥) × (m * up e * 2 ^ 1074 ≡ units_at x t * down e)

not_finite : (b s : Bool) (m : ℕ) (e : ℤ) → cond b (inf s) nan ≡ fin false m e → ⊥
not_finite true s m e h = subst (λ (y : Float). T (not (finite y))) h tt
not_finite false s m e h = subst (λ (y : Float). T (not (finite y))) h tt

value : (s : Bool) (x t : ℕ) (m : ℕ) (e : ℤ) → of_fields binary64 s x t ≡ fin false m e → Value s x t m e
unfolding of_fields units_at
value s zero t m e h =
    let v : HasValue (fin false m e) s (t * 2 ^ 0) (2 ^ 1074) = subst (λ (y : Float). HasValue y s (t * 2 ^ 0) (2 ^ 1074)) h (odd_sign 53 s t 0 1074) in
    (sym v.0, λ z. omega (arith, z), v.1 ∙ ap (λ (y : ℕ). y * down e) (mul-one t))
value s (suc x) t m e h = go (eqb (suc x) 2047) (λ z. eq→eqb z) h
  where
    go : (b : Bool) → (suc x ≡ 2047 → T b) → cond b (cond (eqb t 0) (inf s) nan) (odd 53 s (2 ^ 52 + t) x 1074) ≡ fin false m e
        → (s ≡ false) × (suc x ≡ 2047 → ⊥) × (m * up e * 2 ^ 1074 ≡ (2 ^ 52 + t) * 2 ^ x * down e)
    go true q h = absurd (not_finite (eqb t 0) s m e h)
    go false q h =
        let v : HasValue (fin false m e) s ((2 ^ 52 + t) * 2 ^ x) (2 ^ 1074) = subst (λ (y : Float). HasValue y s ((2 ^ 52 + t) * 2 ^ x) (2 ^ 1074)) h (odd_sign 53 s (2 ^ 52 + t) x 1074) in
        (sym v.0, q, v.1)

of_bits_is : (b : ℕ) → of_bits binary64 b ≡ of_fields binary64 (leb (2 ^ 63) b) (b % 2 ^ 63 / 2 ^ 52) (b % 2 ^ 52)
unfolding of_bits
of_bits_is b = refl

-- no units are no positive value
no_zero : (m : ℕ) (e : ℤ) → 0 < m → m * up e * 2 ^ 1074 ≡ units_of 0 * down e → ⊥
unfolding units_at
no_zero m e p h = lt_irrefl 0 (subst (λ (y : ℕ). 0 < y) (h ∙ zero-mul (down e)) (mul-pos (mul-pos p (up_pos e)) (pow_pos 1074)))

pub counted : (m : ℕ) (e : ℤ) → T (fits binary64 (fin false m e)) → 0 < m → Counted m e (to_bits binary64 (fin false m e))
counted m e f p = go (to_bits binary64 (fin false m e)) (sym (of_bits_is _) ∙ of_bits-to_bits binary64 (fin false m e) f)
  where
    positive : (b : ℕ) → m * up e * 2 ^ 1074 ≡ units_of b * down e → 0 < b
    positive zero q = absurd (no_zero m e p q)
    positive (suc b) q = zero-lt-suc b

    go : (b : ℕ) → of_fields binary64 (leb (2 ^ 63) b) (b % 2 ^ 63 / 2 ^ 52) (b % 2 ^ 52) ≡ fin false m e → Counted m e b
    go b h =
        let v : Value (leb (2 ^ 63) b) (b % 2 ^ 63 / 2 ^ 52) (b % 2 ^ 52) m e = value (leb (2 ^ 63) b) (b % 2 ^ 63 / 2 ^ 52) (b % 2 ^ 52) m e h in
        let l : b < 2 ^ 63 = leb-false (2 ^ 63) b v.0 in
        let same : b % 2 ^ 63 ≡ b = mod-eq_of_lt l in
        let n : b / 2 ^ 52 ≡ 2047 → ⊥ = λ z. v.1 (ap (λ (y : ℕ). y / 2 ^ 52) same ∙ z) in
        let q : m * up e * 2 ^ 1074 ≡ units_of b * down e = v.2 ∙ ap (λ (y : ℕ). units_at (y / 2 ^ 52) (b % 2 ^ 52) * down e) same in
        (positive b q, omega (arith, l, n), ap (λ (y : ℕ). y / down e) q ∙ mul-div_cancel (units_of b) (down_pos e), q)
