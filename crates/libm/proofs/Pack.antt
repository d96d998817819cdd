-- A full significand added to its exponent field gives the bits of that value; a carry moves into the field.
use mathlib.Core.Path.{◌≡◌, refl, sym, ap, ap₂, ◌∙◌, subst}
use mathlib.Core.Logic.{◌⊎◌, inl, inr}
use mathlib.Core.Bool.{Bool, false, cond}
use Prim.Native.Nat.{ℕ, zero, suc, ◌+◌, ◌-◌, ◌*◌, ◌/◌, ◌%◌, ◌^◌, ◌≤◌, ◌<◌}
use native.Mathlib.Nat.{lt_irrefl, mod-eq_of_lt, lt_of_lt_of_le, eq-or-lt_of_le, div-lt_iff_lt-mul, pow-suc, zero-lt-suc}
use native.Mathlib.Omega.{arith}
use lib.Dec.{eqb}
use lib.Arith.{digits_div, digits_mod}
use lib.Pow.{pow_mono, shl_lt}
use lib.Count.{count_trailing_zeros, under}
use lib.Ieee.{nan, inf, fin, binary64, minus, odd, units, of_fields, of_bits}
use borrow.Author.Tests.{lt-ltb, lt-leb, ne_eqb}

-- the trailing zeros of a number of d digits, counted among one place more

half_pos : (s : ℕ) → 0 < s → s % 2 ≡ 0 → 0 < s / 2
half_pos s p e = omega arith

trailing_more : (d s : ℕ) → 0 < s → s < 2 ^ d → count_trailing_zeros (suc d) s ≡ count_trailing_zeros d s
unfolding count_trailing_zeros
trailing_more zero s p h = absurd (omega (arith, p, h))
trailing_more (suc d) s p h =
    go (s % 2) refl (λ e. trailing_more d (s / 2) (half_pos s p e) ((div-lt_iff_lt-mul (zero-lt-suc 1)).1 (subst (λ (x : ℕ). s < x) (pow-suc 2 d) h)))
  where
    go : (r : ℕ) → s % 2 ≡ r → (s % 2 ≡ 0 → count_trailing_zeros (suc d) (s / 2) ≡ count_trailing_zeros d (s / 2))
        → under r (under (s / 2 % 2) (count_trailing_zeros d (s / 2 / 2))) ≡ under r (count_trailing_zeros d (s / 2))
    go zero e ih = ap suc (ih e)
    go (suc r) e ih = refl

odd_more : (d s k l : ℕ) → 0 < s → s < 2 ^ d → odd (suc d) false s k l ≡ odd d false s k l
unfolding odd
odd_more d zero k l p h = refl
odd_more d (suc s) k l p h = ap (λ (t : ℕ). fin false (suc s / 2 ^ t) (minus (k + t) l)) (trailing_more d (suc s) p h)

-- the value of a field x and the digits t

fields : (x t : ℕ) → x < 2047 → t < 2 ^ 52 → of_bits binary64 (x * 2 ^ 52 + t) ≡ of_fields binary64 false x t
unfolding of_bits
fields x t h g =
    let b = x * 2 ^ 52 + t in
    let s : b < 2 ^ 63 = omega arith in
    ap (λ (y : Bool). of_fields binary64 y (b % 2 ^ 63 / 2 ^ 52) (b % 2 ^ 52)) (lt-leb (2 ^ 63) b s)
    ∙ ap (λ (y : ℕ). of_fields binary64 false (y / 2 ^ 52) (b % 2 ^ 52)) (mod-eq_of_lt s)
    ∙ ap₂ (of_fields binary64 false) (digits_div x g) (digits_mod x g)

normal : (x t : ℕ) → suc x < 2047 → of_fields binary64 false (suc x) t ≡ odd 53 false (2 ^ 52 + t) x 1074
unfolding of_fields
normal x t h =
    ap (λ (b : Bool). cond b (cond (eqb t 0) (inf false) nan) (odd 53 false (2 ^ 52 + t) x 1074))
    (ne_eqb (suc x) 2047 (λ e. lt_irrefl 2047 (subst (λ (y : ℕ). y < 2047) e h)))

units_odd : (s k : ℕ) → s * 2 ^ k < 2 ^ 2098 → units binary64 false s k ≡ odd 54 false s k 1074
unfolding units
units_odd s k h = ap (λ (b : Bool). cond b (odd 54 false s k 1074) (inf false)) (lt-ltb (s * 2 ^ k) (2 ^ 2098) h)

carried : (k : ℕ) → odd 53 false (2 ^ 52) (suc k) 1074 ≡ odd 54 false (2 ^ 53) k 1074
unfolding odd count_trailing_zeros
carried k =
    let e : suc k + 52 ≡ k + 53 = omega arith in
    ap (λ (x : ℕ). fin false 1 (minus x 1074)) e

pub packed : (k s : ℕ) → 2 ^ 52 ≤ s → s ≤ 2 ^ 53 → k ≤ 2000 → of_bits binary64 (k * 2 ^ 52 + s) ≡ units binary64 false s k
packed k s lo hi K = go (eq-or-lt_of_le hi)
  where
    fine : (p : ℕ) → p ≤ 54 → s < 2 ^ p → s * 2 ^ k < 2 ^ 2098
    fine p P h = lt_of_lt_of_le (shl_lt p k h) (pow_mono {i = p + k} {j = 2098} (omega arith))

    go : (s ≡ 2 ^ 53) ⊎ (s < 2 ^ 53) → of_bits binary64 (k * 2 ^ 52 + s) ≡ units binary64 false s k
    go (inr l) =
        let t = s - 2 ^ 52 in
        let e : k * 2 ^ 52 + s ≡ suc k * 2 ^ 52 + t = omega arith in
        let d : 2 ^ 52 + t ≡ s = omega arith in
        ap (of_bits binary64) e
        ∙ fields (suc k) t (omega arith) (omega arith)
        ∙ normal k t (omega arith)
        ∙ ap (λ (x : ℕ). odd 53 false x k 1074) d
        ∙ sym (odd_more 53 s k 1074 (omega arith) l)
        ∙ sym (units_odd s k (fine 53 (omega arith) l))
    go (inl q) =
        let e : k * 2 ^ 52 + s ≡ suc (suc k) * 2 ^ 52 + 0 = omega arith in
        ap (of_bits binary64) e
        ∙ fields (suc (suc k)) 0 (omega arith) (omega arith)
        ∙ normal (suc k) 0 (omega arith)
        ∙ carried k
        ∙ sym (ap (λ (x : ℕ). odd 54 false x k 1074) q)
        ∙ sym (units_odd s k (fine 54 (omega arith) (omega arith)))
