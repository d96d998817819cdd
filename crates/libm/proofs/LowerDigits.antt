-- The lower half of a root's digits by one division. u is the upper half, t what is left below the radicand; q the quotient of t * 2^26 by u
-- and m its remainder.
use mathlib.Core.Path.{◌≡◌, sym, ap, ap₂, ◌∙◌}
use Prim.Native.Nat.{ℕ, ◌+◌, ◌-◌, ◌*◌, ◌/◌, ◌%◌, ◌^◌, ◌≤◌, ◌<◌}
use native.Mathlib.Nat.{mul-add, add-mul, mul_comm, add_assoc, mul-mul-mul_comm, mul_right_comm, mul-le-mul_right, div-le_of_le-mul, div-add-mod, mod-lt}
use native.Mathlib.Omega.{arith}

pub record Quotient (u t q m : ℕ) : Type 0 where
  pub whole : u * q + m ≡ t * 2 ^ 26
  pub less : m < u
  pub fits : q ≤ 2 ^ 27
  pub square : q * q ≤ 2 ^ 27 * q

pub quotient : (u t : ℕ) → 0 < u → t ≤ 2 * u → Quotient u t (t * 2 ^ 26 / u) (t * 2 ^ 26 % u)
quotient u t p h =
    let q : ℕ = t * 2 ^ 26 / u in
    let f : q ≤ 2 ^ 27 = div-le_of_le-mul u (omega arith) in
    record { whole = div-add-mod (t * 2 ^ 26) u; less = mod-lt (t * 2 ^ 26) p; fits = f; square = mul-le-mul_right q f }

squared : (x q : ℕ) → (x + q) * (x + q) ≡ x * x + (x * q + x * q) + q * q
squared x q = simp (mul-add, add-mul, mul_comm, add_assoc)

root_squared : (u q : ℕ) → (u * 2 ^ 27 + q) * (u * 2 ^ 27 + q) ≡ u * u * 2 ^ 54 + (u * q * 2 ^ 27 + u * q * 2 ^ 27) + q * q
root_squared u q =
    squared (u * 2 ^ 27) q
    ∙ ap₂ (λ (a b : ℕ). a + (b + b) + q * q) (mul-mul-mul_comm u (2 ^ 27) u (2 ^ 27)) (mul_right_comm u (2 ^ 27) q)

-- s is the square of the root
sum : (a p l s t m : ℕ) → s ≡ a * 2 ^ 54 + (p * 2 ^ 27 + p * 2 ^ 27) + l → p + m ≡ t * 2 ^ 26 → s + m * 2 ^ 28 ≡ (a + t) * 2 ^ 54 + l
sum a p l s t m e f = omega arith

pub total : (u t q m : ℕ) → Quotient u t q m → (u * 2 ^ 27 + q) * (u * 2 ^ 27 + q) + m * 2 ^ 28 ≡ (u * u + t) * 2 ^ 54 + q * q
total u t q m k = sum (u * u) (u * q) (q * q) ((u * 2 ^ 27 + q) * (u * 2 ^ 27 + q)) t m (root_squared u q) k.whole

below : (x : ℕ) → 0 < x → (x - 1) * (x - 1) + (x * 2 - 1) ≡ x * x
below x p =
    let e : x - 1 + 1 ≡ x = omega arith in
    go ((x - 1) * (x - 1)) (x * x) (x - 1) (sym (squared (x - 1) 1) ∙ ap (λ (y : ℕ). y * y) e) e
  where
    go : (a b y : ℕ) → a + (y * 1 + y * 1) + 1 * 1 ≡ b → y + 1 ≡ x → a + (x * 2 - 1) ≡ b
    go a b y g e = omega arith

-- one less than the root, and what is left: g is the radicand, s the root's square, d the difference to the square below it
lowered_at : (s l m g d r : ℕ) → s + m ≡ g + l → r + d ≡ s → l ≤ m + d → r + (m + d - l) ≡ g
lowered_at s l m g d r e f h = omega arith

module _ (u t q m : ℕ) (k : Quotient u t q m) where
  -- one less makes enough room
  pub room : 2 ^ 26 ≤ u → q * q ≤ m * 2 ^ 28 + ((u * 2 ^ 27 + q) * 2 - 1)
  room h = omega (arith, k.square, k.fits)

  pub lowered : 2 ^ 26 ≤ u
      → (u * 2 ^ 27 + q - 1) * (u * 2 ^ 27 + q - 1) + (m * 2 ^ 28 + ((u * 2 ^ 27 + q) * 2 - 1) - q * q) ≡ (u * u + t) * 2 ^ 54
  lowered h =
      lowered_at ((u * 2 ^ 27 + q) * (u * 2 ^ 27 + q)) (q * q) (m * 2 ^ 28) ((u * u + t) * 2 ^ 54) ((u * 2 ^ 27 + q) * 2 - 1)
      ((u * 2 ^ 27 + q - 1) * (u * 2 ^ 27 + q - 1)) (total u t q m k) (below (u * 2 ^ 27 + q) (omega arith)) (room h)
