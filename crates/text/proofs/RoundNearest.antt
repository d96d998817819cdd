-- `round` gives the f64 that is nearest to its fraction, for every fraction below 2 ^ 1023. Assumes nothing.
use mathlib.Core.Path.{◌≡◌, sym, ap, ◌∙◌, subst}
use mathlib.Core.Logic.{◌⊎◌, inl, inr}
use mathlib.Core.Bool.{Bool, true, false}
use Prim.Native.Nat.{ℕ, zero, suc, ◌+◌, ◌-◌, ◌*◌, ◌/◌, ◌%◌, ◌^◌, ◌≤◌, ◌<◌, compare, Ordering}
use native.Mathlib.Nat.{mul_assoc, mul_comm, mul_right_comm, add-mul, mul-pos, mul-le-mul_right, mul-lt-mul_of_pos_right, le_trans, le_of_eq, le_of_lt, lt_of_lt_of_le, lt_of_le_of_lt, div-add-mod', mod-lt, div-div-eq-div-mul, div-lt_iff_lt-mul, le-div_iff_mul-le, suc-mul, add-zero}
use native.Mathlib.Numerals.{add-one}
use native.Mathlib.Decide.{dec_le}
use native.Mathlib.Omega.{arith}
use lib.Dec.{T}
use lib.Pow.{pow-add, pow_pos, pow-lt}
use lib.Ieee.{Float, binary64, size, nearest, round, fits, neg}
use lib.Ieee.Digits.{size-le, size_reaches}
use lib.Ieee.Exact.{units_val}
use lib.Ieee.Fits.{nearest-le, kept-lt, round_is, neg-fits}
use Rattle.libm.proofs.Compare.{Says, says}
use Rattle.libm.proofs.Neighbours.{Held, gap}
use Rattle.libm.proofs.SqrtNearest.{held}
use Rattle.text.specs.Laws.{Units, Nearest}
use Rattle.text.proofs.Exact.{negated}

-- every f64 is held, of either sign
held_signed : (s : Bool) (y : Float) (v : ℕ) → T (fits binary64 y) → Units y s v → Held v
held_signed false y v f u = held y v f u
held_signed true y v f u = held (neg y) v (neg-fits binary64 y f) (negated y true v (2 ^ 1074) u)

-- no held v is nearer to n / c than r: the fraction is not on v's side of the middle of v and r
abbrev Best : ℕ → ℕ → ℕ → Type 0
Best n c r = (v : ℕ) → Held v → (v < r → (v + r) * c ≤ 2 * n) × (r < v → 2 * n ≤ (v + r) * c)

-- the fraction lies from a up to b, and no held number between them
module _ (n c a b : ℕ) (low : a * c ≤ n) (high : n < b * c) (none : (v : ℕ) → Held v → (v ≤ a) ⊎ (b ≤ v)) where
  lower : 2 * n ≤ a * c + b * c → Best n c a
  lower h v held =
      let s : (v + a) * c ≡ v * c + a * c = add-mul v a c in
      elim (none v held) [
        | inl l ↦ let m : v * c ≤ a * c = mul-le-mul_right c l in (λ g. omega arith, λ g. omega arith)
        | inr l ↦ let m : b * c ≤ v * c = mul-le-mul_right c l in (λ g. omega (arith, mul-le-mul_right c (le_of_lt g)), λ g. omega arith)
      ]

  upper : a * c + b * c ≤ 2 * n → Best n c b
  upper h v held =
      let s : (v + b) * c ≡ v * c + b * c = add-mul v b c in
      elim (none v held) [
        | inl l ↦ let m : v * c ≤ a * c = mul-le-mul_right c l in (λ g. omega arith, λ g. omega (arith, mul-le-mul_right c (le_of_lt g)))
        | inr l ↦ let m : b * c ≤ v * c = mul-le-mul_right c l in (λ g. omega arith, λ g. omega arith)
      ]

-- the quotient q of n by c * 2 ^ k, and the next one: what `nearest` chooses of the two
module _ (n c k : ℕ) (positive : 0 < c) (wide : (k ≡ 0) ⊎ (2 ^ 52 ≤ n / (c * 2 ^ k))) where
  abbrev u : ℕ
  u = c * 2 ^ k

  abbrev q : ℕ
  q = n / u

  split : q * u + n % u ≡ n
  split = div-add-mod' n u

  low_is : q * 2 ^ k * c ≡ q * u
  low_is = mul_assoc q (2 ^ k) c ∙ ap (λ (x : ℕ). q * x) (mul_comm (2 ^ k) c)

  high_is : suc q * 2 ^ k * c ≡ q * u + u
  high_is = mul_assoc (suc q) (2 ^ k) c ∙ ap (λ (x : ℕ). suc q * x) (mul_comm (2 ^ k) c) ∙ suc-mul q u

  none : (v : ℕ) → Held v → (v ≤ q * 2 ^ k) ⊎ (suc q * 2 ^ k ≤ v)
  none v h = elim wide [ inl z ↦ subst (λ (j : ℕ). (v ≤ q * 2 ^ j) ⊎ (suc q * 2 ^ j ≤ v)) (sym z) (whole v q) | inr w ↦ subst (λ (x : ℕ). (v ≤ q * 2 ^ k) ⊎ (x * 2 ^ k ≤ v)) (add-one q) (gap v q k h w) ]
    where
      whole : (v q : ℕ) → (v ≤ q * 1) ⊎ (suc q * 1 ≤ v)
      whole v q = go (dec_le v q)
        where
          go : Dec (v ≤ q) → (v ≤ q * 1) ⊎ (suc q * 1 ≤ v)
          go (yes l) = inl (omega arith)
          go (no l) = inr (omega arith)

  chosen : Best n c (nearest q (compare (n % u * 2) u) * 2 ^ k)
  chosen = go (compare (n % u * 2) u) (says (n % u * 2) u)
    where
      rest : n % u < u
      rest = mod-lt n (mul-pos positive (pow_pos k))

      down : n % u * 2 ≤ u → Best n c (q * 2 ^ k)
      down h = lower n c (q * 2 ^ k) (suc q * 2 ^ k) (omega (arith, split, low_is)) (omega (arith, split, high_is, rest)) none (omega (arith, split, low_is, high_is))

      up : u ≤ n % u * 2 → Best n c (suc q * 2 ^ k)
      up h = upper n c (q * 2 ^ k) (suc q * 2 ^ k) (omega (arith, split, low_is)) (omega (arith, split, high_is, rest)) none (omega (arith, split, low_is, high_is))

      tie : (d : ℕ) → d < 2 → n % u * 2 ≡ u → Best n c ((q + d) * 2 ^ k)
      tie zero s e = subst (λ (x : ℕ). Best n c (x * 2 ^ k)) (sym (add-zero q)) (down (le_of_eq e))
      tie (suc zero) s e = subst (λ (x : ℕ). Best n c (x * 2 ^ k)) (sym (add-one q)) (up (le_of_eq (sym e)))
      tie (suc (suc d)) s e = absurd (omega arith)

      go : (o : Ordering) → Says (n % u * 2) u o → Best n c (nearest q o * 2 ^ k)
      go Ordering.lt s = down (s.0 tt)
      go Ordering.eq s = tie (q % 2) (omega arith) (s.2 tt)
      go Ordering.gt s = up (le_of_lt (s.1 tt))

-- a / c, in units n / c, of which the place k is kept
module _ (s : Bool) (a c : ℕ) (positive : 0 < c) (under : a < 2 ^ 1023 * c) where
  abbrev n : ℕ
  n = a * 2 ^ 1074

  abbrev k : ℕ
  k = size (n / c) - 53

  cut : n / c / 2 ^ k ≡ n / (c * 2 ^ k)
  cut = div-div-eq-div-mul n c (2 ^ k)

  -- all 53 digits are kept, or none is dropped
  wide : (k ≡ 0) ⊎ (2 ^ 52 ≤ n / (c * 2 ^ k))
  wide = go (dec_le (size (n / c)) 53)
    where
      go : Dec (size (n / c) ≤ 53) → (k ≡ 0) ⊎ (2 ^ 52 ≤ n / (c * 2 ^ k))
      go (yes l) = inl (omega arith)
      go (no l) =
          let h : 2 ^ (52 + k) ≤ n / c = size_reaches (n / c) (52 + k) (omega arith) in
          inr (subst (λ (x : ℕ). 2 ^ 52 ≤ x) cut ((le-div_iff_mul-le (pow_pos k)).1 (le_trans (le_of_eq (sym (pow-add 2 52 k))) h)))

  abbrev digits : ℕ
  digits = nearest (n / (c * 2 ^ k)) (compare (n % (c * 2 ^ k) * 2) (c * 2 ^ k))

  digits_le : digits ≤ 2 ^ 53
  digits_le = le_trans (nearest-le (n / (c * 2 ^ k)) (compare (n % (c * 2 ^ k) * 2) (c * 2 ^ k))) (subst (λ (x : ℕ). x < 2 ^ 53) cut (kept-lt 53 (n / c)))

  -- far below the overflow
  finite : digits * 2 ^ k < 2 ^ 2098
  finite =
      let h : n < 2 ^ 2097 * c = lt_of_lt_of_le (mul-lt-mul_of_pos_right under (pow_pos 1074)) (le_of_eq (mul_right_comm (2 ^ 1023) c (2 ^ 1074))) in
      let z : size (n / c) ≤ 2097 = size-le (n / c) 2097 ((div-lt_iff_lt-mul positive).1 h) in
      lt_of_le_of_lt (mul-le-mul_right (2 ^ k) digits_le) (lt_of_le_of_lt (le_of_eq (sym (pow-add 2 53 k))) (pow-lt {i = 53 + k} {j = 2098} (omega arith)))

  pub round_nearest : (r : ℕ) × Units (round binary64 s a c) s r × Nearest s a c r
  round_nearest = (
    digits * 2 ^ k,
    subst (λ (x : Float). Units x s (digits * 2 ^ k)) (sym (round_is binary64 s a c)) (units_val binary64 s digits k finite),
    λ y v f h. chosen n c k positive wide v (held_signed s y v f h),
  )
