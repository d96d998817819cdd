-- Of two neighbours of 53 digits that hold a root between them, the one on the root's side of their middle is nearest to it.
use mathlib.Core.Path.{◌≡◌, sym, ap, ap₂, ◌∙◌, subst}
use mathlib.Core.Logic.{◌⊎◌, inl, inr, ⊎_elim}
use Prim.Native.Nat.{ℕ, zero, suc, ◌+◌, ◌-◌, ◌*◌, ◌%◌, ◌^◌, ◌≤◌, ◌<◌, compare, Ordering}
use native.Mathlib.Nat.{mul-add, add-mul, mul_assoc, mul_left_comm, mul-le-mul, mul-le-mul_left, mul-le-mul_right, lt_irrefl, lt_of_lt_of_le, lt_of_le_of_lt, lt_of_not-le, le_trans, le_of_eq, le_of_lt}
use native.Mathlib.Decide.{dec_le}
use native.Mathlib.Omega.{arith}
use lib.Pow.{pow-add, pow_mono}
use lib.Ieee.{nearest}
use Rattle.libm.proofs.Compare.{Says, says}
use Rattle.libm.proofs.Powers.{four}

-- v is a whole number of 53 digits at some place
pub record Held (v : ℕ) : Type 0 where
  pub digits : ℕ
  pub shift : ℕ
  pub few : digits < 2 ^ 53
  pub is : v ≡ digits * 2 ^ shift

-- no such number lies between q * 2 ^ k and (q + 1) * 2 ^ k, where q has 53 digits
pub gap : (v q k : ℕ) → Held v → 2 ^ 52 ≤ q → (v ≤ q * 2 ^ k) ⊎ ((q + 1) * 2 ^ k ≤ v)
gap v q k h lo = by_shift (dec_le k h.shift)
  where
    by_shift : Dec (k ≤ h.shift) → (v ≤ q * 2 ^ k) ⊎ ((q + 1) * 2 ^ k ≤ v)
    by_shift (yes g) =
        let d = h.shift - k in
        let e : v ≡ h.digits * 2 ^ d * 2 ^ k =
        h.is ∙ ap (λ (x : ℕ). h.digits * 2 ^ x) (omega arith) ∙ ap (λ (x : ℕ). h.digits * x) (pow-add 2 d k) ∙ sym (mul_assoc h.digits (2 ^ d) (2 ^ k)) in
        pick (h.digits * 2 ^ d) e (dec_le (h.digits * 2 ^ d) q)
      where
        pick : (w : ℕ) → v ≡ w * 2 ^ k → Dec (w ≤ q) → (v ≤ q * 2 ^ k) ⊎ ((q + 1) * 2 ^ k ≤ v)
        pick w e (yes l) = inl (subst (λ (x : ℕ). x ≤ q * 2 ^ k) (sym e) (mul-le-mul_right (2 ^ k) l))
        pick w e (no f) = inr (subst (λ (x : ℕ). (q + 1) * 2 ^ k ≤ x) (sym e) (mul-le-mul_right (2 ^ k) (omega (arith, lt_of_not-le f))))
    by_shift (no f) =
        let j = h.shift in
        let l : 53 + j ≤ 52 + k = omega (arith, lt_of_not-le f) in
        let a : v ≤ 2 ^ (53 + j) = le_trans (le_of_eq h.is) (le_trans (mul-le-mul_right (2 ^ j) (le_of_lt h.few)) (le_of_eq (sym (pow-add 2 53 j)))) in
        inl (le_trans a (le_trans (pow_mono l) (le_trans (le_of_eq (pow-add 2 52 k)) (mul-le-mul_right (2 ^ k) lo))))

-- no held v is nearer to the root of n than r: the root is not on v's side of the middle of v and r
abbrev pub Nearest : ℕ → ℕ → Type 0
Nearest n r = (v : ℕ) → Held v → (v < r → (v + r) * (v + r) ≤ 4 * n) × (r < v → 4 * n ≤ (v + r) * (v + r))

four_square : (a : ℕ) → (a + a) * (a + a) ≡ 4 * (a * a)
four_square a = mul-add (a + a) a a ∙ ap₂ ◌+◌ (add-mul a a a) (add-mul a a a) ∙ omega arith

-- the root of n lies from a up to b, and no held number between them
module _ (n a b : ℕ) (low : a * a ≤ n) (high : n < b * b) (none : (v : ℕ) → Held v → (v ≤ a) ⊎ (b ≤ v)) where
  square_le : {x y : ℕ} → x ≤ y → x * x ≤ y * y
  square_le h = mul-le-mul h h

  lower : 4 * n ≤ (a + b) * (a + b) → Nearest n a
  lower h v held = (below, above)
    where
      below : v < a → (v + a) * (v + a) ≤ 4 * n
      below l = le_trans (square_le {x = v + a} {y = a + a} (omega arith)) (le_trans (le_of_eq (four_square a)) (mul-le-mul_left 4 low))

      above : a < v → 4 * n ≤ (v + a) * (v + a)
      above l =
          ⊎_elim (λ (g : v ≤ a). absurd (lt_irrefl a (lt_of_lt_of_le l g))) (λ (g : b ≤ v). le_trans h (square_le {x = a + b} {y = v + a} (omega arith))) (none v held)

  upper : (a + b) * (a + b) ≤ 4 * n → Nearest n b
  upper h v held = (below, above)
    where
      below : v < b → (v + b) * (v + b) ≤ 4 * n
      below l =
          ⊎_elim (λ (g : v ≤ a). le_trans (square_le {x = v + b} {y = a + b} (omega arith)) h) (λ (g : b ≤ v). absurd (lt_irrefl b (lt_of_le_of_lt g l))) (none v held)

      above : b < v → 4 * n ≤ (v + b) * (v + b)
      above l = le_trans (mul-le-mul_left 4 (le_of_lt high)) (le_trans (le_of_eq (sym (four_square b))) (square_le {x = b + b} {y = v + b} (omega arith)))

-- what `nearest` chooses
pub chosen : (n q k : ℕ) → 2 ^ 52 ≤ q → q * q * 4 ^ k ≤ n → n < (q + 1) * (q + 1) * 4 ^ k → Nearest n (nearest q (compare (4 * n) ((2 * q + 1) * (2 * q + 1) * 4 ^ k)) * 2 ^ k)
chosen n q k lo l h = go (compare (4 * n) ((2 * q + 1) * (2 * q + 1) * 4 ^ k)) (says (4 * n) ((2 * q + 1) * (2 * q + 1) * 4 ^ k))
  where
    square : (x : ℕ) → x * x * 4 ^ k ≡ x * 2 ^ k * (x * 2 ^ k)
    square x = ap (λ (y : ℕ). x * x * y) (four k ∙ pow-add 2 k k) ∙ regroup x (2 ^ k)
      where
        regroup : (x u : ℕ) → x * x * (u * u) ≡ x * u * (x * u)
        regroup x u = simp (mul_assoc, mul_left_comm)

    low : q * 2 ^ k * (q * 2 ^ k) ≤ n
    low = le_trans (le_of_eq (sym (square q))) l

    high : n < (q + 1) * 2 ^ k * ((q + 1) * 2 ^ k)
    high = lt_of_lt_of_le h (le_of_eq (square (q + 1)))

    none : (v : ℕ) → Held v → (v ≤ q * 2 ^ k) ⊎ ((q + 1) * 2 ^ k ≤ v)
    none v held = gap v q k held lo

    middle : (2 * q + 1) * (2 * q + 1) * 4 ^ k ≡ (q * 2 ^ k + (q + 1) * 2 ^ k) * (q * 2 ^ k + (q + 1) * 2 ^ k)
    middle = square (2 * q + 1) ∙ ap (λ (x : ℕ). x * x) (ap (λ (x : ℕ). x * 2 ^ k) halves ∙ add-mul q (q + 1) (2 ^ k))
      where
        halves : 2 * q + 1 ≡ q + (q + 1)
        halves = omega arith

    down : 4 * n ≤ (2 * q + 1) * (2 * q + 1) * 4 ^ k → Nearest n (q * 2 ^ k)
    down g = lower n (q * 2 ^ k) ((q + 1) * 2 ^ k) low high none (le_trans g (le_of_eq middle))

    up : (2 * q + 1) * (2 * q + 1) * 4 ^ k ≤ 4 * n → Nearest n ((q + 1) * 2 ^ k)
    up g = upper n (q * 2 ^ k) ((q + 1) * 2 ^ k) low high none (le_trans (le_of_eq (sym middle)) g)

    at : (s t : ℕ) → s ≡ t → Nearest n (s * 2 ^ k) → Nearest n (t * 2 ^ k)
    at s t e h = subst (λ (x : ℕ). Nearest n (x * 2 ^ k)) e h

    tie : (d : ℕ) → d < 2 → 4 * n ≡ (2 * q + 1) * (2 * q + 1) * 4 ^ k → Nearest n ((q + d) * 2 ^ k)
    tie zero s e = at q (q + 0) (omega arith) (down (le_of_eq e))
    tie (suc d) s e = at (q + 1) (q + suc d) (omega arith) (up (le_of_eq (sym e)))

    go : (o : Ordering) → Says (4 * n) ((2 * q + 1) * (2 * q + 1) * 4 ^ k) o → Nearest n (nearest q o * 2 ^ k)
    go Ordering.lt s = down (s.0 tt)
    go Ordering.eq s = tie (q % 2) (omega arith) (s.2 tt)
    go Ordering.gt s = at (q + 1) (suc q) (omega arith) (up (le_of_lt (s.1 tt)))
