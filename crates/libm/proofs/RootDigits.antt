-- One turn of the square root's loop: the next binary digit of the root.
use mathlib.Core.Path.{◌≡◌, ap, ◌∙◌}
use Prim.Native.Nat.{ℕ, zero, suc, ◌+◌, ◌-◌, ◌*◌, ◌/◌, ◌^◌, ◌≤◌, ◌<◌}
use native.Mathlib.Nat.{mul-add, add-mul, mul_comm, mul_assoc, add_assoc, pow-suc, mul-div_cancel, zero-lt-suc}
use native.Mathlib.Omega.{arith}

abbrev pub Power : ℕ → Type 0
Power b = (k : ℕ) × (b ≡ 2 ^ k)

-- root q, rest r, bit b: what is left of n * 2 ^ 54 is r * b, too little for another b
abbrev pub Turn : ℕ → ℕ → ℕ → ℕ → Type 0
Turn n q r b = Power b × (q * q + r * b ≡ n * 2 ^ 54) × (r < 2 * q + b) × (q + b ≤ 2 ^ 54)

-- a power of two above 1 is twice its half, which is a power of two
halved : (b : ℕ) → Power b → 1 < b → (b / 2 * 2 ≡ b) × Power (b / 2)
halved b (zero, e) h = absurd (omega (arith, e))
halved b (suc k, e) h =
    let p : b ≡ 2 ^ k * 2 = e ∙ pow-suc 2 k in
    (omega arith, (k, ap (λ (x : ℕ). x / 2) p ∙ mul-div_cancel (2 ^ k) (zero-lt-suc 1)))

-- twice the rest, at half the bit
same_rest : (r b : ℕ) → b / 2 * 2 ≡ b → r * 2 * (b / 2) ≡ r * b
same_rest r b w = mul_assoc r 2 (b / 2) ∙ ap (λ (x : ℕ). r * x) (mul_comm 2 (b / 2) ∙ w)

up_square : (q b d : ℕ) → (q + b) * (q + b) + d * b ≡ q * q + (q + q + b + d) * b
up_square q b d = simp (mul-add, add-mul, mul_comm, add_assoc)

pub digit_one : (n q r b : ℕ) → Turn n q r b → 1 < b → q * 2 + b / 2 ≤ r * 2 → Turn n (q + b / 2) (r * 2 - (q * 2 + b / 2)) (b / 2)
digit_one n q r b t h g =
    let w = halved b t.0 h in
    let d : ℕ = r * 2 - (q * 2 + b / 2) in
    let e : q + q + b / 2 + d ≡ r * 2 = omega arith in
    (w.1, up_square q (b / 2) d ∙ ap (λ (x : ℕ). q * q + x * (b / 2)) e ∙ ap (λ (x : ℕ). q * q + x) (same_rest r b w.0) ∙ t.1, omega arith, omega arith)

pub digit_zero : (n q r b : ℕ) → Turn n q r b → 1 < b → r * 2 < q * 2 + b / 2 → Turn n q (r * 2) (b / 2)
digit_zero n q r b t h g =
    let w = halved b t.0 h in
    (w.1, ap (λ (x : ℕ). q * q + x) (same_rest r b w.0) ∙ t.1, omega arith, omega arith)
