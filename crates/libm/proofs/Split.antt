-- The significand and the exponent that `split` and `paired` take out of a value's bits.
use mathlib.Core.Path.{◌≡◌, refl, sym, ap, ap₂, ◌∙◌, subst}
use Prim.Native.Nat.{ℕ, zero, suc, ◌+◌, ◌-◌, ◌*◌, ◌/◌, ◌%◌, ◌^◌, ◌≤◌, ◌<◌}
use native.Mathlib.Nat.{mul_comm, mul_assoc, pow-suc, mul-le-mul_right, lt_irrefl, lt_of_lt_of_le, lt_of_le_of_lt, lt_of_not-le, le_trans}
use native.Mathlib.Omega.{arith}
use lib.Pow.{pow-add, pow_mono, shl_lt, shl_exact}
use lib.Count.{count_leading_zeros, leading_top}
use Rattle.libm.specs.Sqrt.{units_at}
use Rattle.libm.proofs.Powers.{four}

-- an exponent that is even, or odd with one factor 2 moved into the significand

pub even_exponent : (s e : ℕ) → e % 2 ≡ 0 → s * 4 ^ (e / 2) ≡ s * 2 ^ e
even_exponent s e h =
    let back : e / 2 + e / 2 ≡ e = omega arith in
    ap (λ (x : ℕ). s * x) (four (e / 2) ∙ ap (λ (x : ℕ). 2 ^ x) back)

pub odd_exponent : (s e : ℕ) → (e % 2 ≡ 0 → ⊥) → s * 2 * 4 ^ (e / 2) ≡ s * 2 ^ e
odd_exponent s e h =
    let back : suc (e / 2 + e / 2) ≡ e = omega arith in
    mul_assoc s 2 (4 ^ (e / 2))
    ∙ ap (λ (x : ℕ). s * x) (ap (λ (x : ℕ). 2 * x) (four (e / 2)) ∙ mul_comm 2 (2 ^ (e / 2 + e / 2)) ∙ sym (pow-suc 2 (e / 2 + e / 2)) ∙ ap (λ (x : ℕ). 2 ^ x) back)

pub normal : (field digits : ℕ) → (field ≡ 0 → ⊥) → (digits + 2 ^ 52) * 2 ^ (field + 51) ≡ units_at field digits * 2 ^ 52
unfolding units_at
normal zero t h = absurd (h refl)
normal (suc x) t h =
    let e : suc x + 51 ≡ x + 52 = omega arith in
    let d : t + 2 ^ 52 ≡ 2 ^ 52 + t = omega arith in
    ap₂ (λ (a b : ℕ). a * 2 ^ b) d e ∙ ap (λ (a : ℕ). (2 ^ 52 + t) * a) (pow-add 2 x 52) ∙ sym (mul_assoc (2 ^ 52 + t) (2 ^ x) (2 ^ 52))

-- the digits t of a subnormal, shifted to full width by the zeros that lead them

abbrev spare : ℕ → ℕ
spare t = count_leading_zeros 64 t - 11

abbrev shifted : ℕ → ℕ
shifted t = (t * 2 ^ spare t) % 2 ^ 64

abbrev pub Wide : ℕ → Type 0
Wide t = (11 ≤ count_leading_zeros 64 t) × (spare t ≤ 52) × (2 ^ 52 ≤ shifted t) × (shifted t < 2 ^ 53) × (shifted t * 2 ^ (52 - spare t) ≡ t * 2 ^ 52)

wide : (t : ℕ) → 0 < t → t < 2 ^ 52 → Wide t
wide t p h = go (leading_top 64 t p (lt_of_lt_of_le h (pow_mono {i = 52} {j = 64} (omega arith))))
  where
    top_place : (j : ℕ) → 2 ^ j ≤ t → j < 52
    top_place j g = lt_of_not-le (λ (k : 52 ≤ j). lt_irrefl (2 ^ 52) (lt_of_le_of_lt (le_trans (pow_mono k) g) h))

    go : (j : ℕ) × (count_leading_zeros 64 t + suc j ≡ 64) × (2 ^ j ≤ t) × (t < 2 ^ suc j) → Wide t
    go (j, e, lo, hi) =
        let z = spare t in
        let l : j < 52 = top_place j lo in
        let k : suc j + z ≡ 53 = omega arith in
        let k' : j + z ≡ 52 = omega arith in
        let m : z + (52 - z) ≡ 52 = omega arith in
        let below : t * 2 ^ z < 2 ^ 53 = subst (λ (x : ℕ). t * 2 ^ z < 2 ^ x) k (shl_lt (suc j) z hi) in
        let above : 2 ^ 52 ≤ t * 2 ^ z = subst (λ (x : ℕ). x ≤ t * 2 ^ z) (sym (pow-add 2 j z) ∙ ap (λ (x : ℕ). 2 ^ x) k') (mul-le-mul_right (2 ^ z) lo) in
        let same : shifted t ≡ t * 2 ^ z = shl_exact (suc j) z 64 hi (omega arith) in (
          omega arith,
          omega arith,
          subst (λ (x : ℕ). 2 ^ 52 ≤ x) (sym same) above,
          subst (λ (x : ℕ). x < 2 ^ 53) (sym same) below,
          ap (λ (x : ℕ). x * 2 ^ (52 - z)) same ∙ mul_assoc t (2 ^ z) (2 ^ (52 - z)) ∙ ap (λ (x : ℕ). t * x) (sym (pow-add 2 z (52 - z)) ∙ ap (λ (x : ℕ). 2 ^ x) m),
        )

-- the bits b of a subnormal
pub subnormal : (b : ℕ) → 0 < b → b / 2 ^ 52 ≡ 0 → Wide (b % 2 ^ 52)
subnormal b p z = wide (b % 2 ^ 52) (omega arith) (omega arith)

pub subnormal_units : (field digits : ℕ) → field ≡ 0 → units_at field digits ≡ digits
unfolding units_at
subnormal_units x t e = ap (λ (a : ℕ). units_at a t) e
