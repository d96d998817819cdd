-- Digits stored one by one, the last one first. Assumes nothing.
use mathlib.Core.Path.{◌≡◌, refl, sym, ap, ap₂, ◌∙◌}
use mathlib.Core.List.{List, [], ◌∷◌, ◌++◌}
use Prim.Native.Nat.{ℕ, zero, suc, ◌+◌, ◌-◌, ◌/◌, ◌%◌, ◌≤◌, ◌<◌}
use native.Mathlib.Nat.{add-zero, add-suc, suc-add}
use native.Mathlib.Omega.{arith}
use lib.ListN.{length, set, length-append}
use lib.Seq.{sets, set_comm}
use Rattle.text.specs.Digits.{digit_character, digits}

sets_back : (ds out : List ℕ) (at g : ℕ) → sets out at (ds ++ (g ∷ [])) ≡ sets (set out (at + length ds) g) at ds
sets_back [] out at g = simp add-zero
sets_back (a ∷ ds) out at g =
    sets_back ds (set out at a) (suc at) g
    ∙ ap (λ (l : List ℕ). sets l (suc at) ds) (ap (λ (j : ℕ). set (set out at a) j g) (suc-add at (length ds) ∙ sym (add-suc at (length ds))) ∙ set_comm out at (at + suc (length ds)) a g (λ e. omega arith))

pub length_digits : (base k n : ℕ) → length (digits base k n) ≡ k
unfolding digits
length_digits base zero n = refl
length_digits base (suc k) n = length-append (digits base k (n / base)) (digit_character (n % base) ∷ []) ∙ omega (arith, length_digits base k (n / base))

-- a turn that stores the last digit that is left
digits_back : (base i n : ℕ) (out : List ℕ) (at : ℕ) → 0 < i → sets out at (digits base i n) ≡ sets (set out (at + (i - 1)) (digit_character (n % base))) at (digits base (i - 1) (n / base))
unfolding digits
digits_back base zero n out at h = absurd (omega arith)
digits_back base (suc i) n out at h =
    sets_back (digits base i (n / base)) out at (digit_character (n % base))
    ∙ ap (λ (j : ℕ). sets (set out (at + j) (digit_character (n % base))) at (digits base i (n / base))) (length_digits base i (n / base))
    ∙ ap (λ (j : ℕ). sets (set out (at + j) (digit_character (n % base))) at (digits base j (n / base))) e
  where
    e : i ≡ suc i - 1
    e = omega arith

module _ (base n : ℕ) (out : List ℕ) (at place : ℕ) where
  -- the digits before the place are left, and the last of them is stored
  pub digit_stored : at < place → sets out at (digits base (place - at) n) ≡ sets (set out (place - 1) (digit_character (n % base))) at (digits base (place - 1 - at) (n / base))
  digit_stored h =
      let p : at + (place - at - 1) ≡ place - 1 = omega arith in
      let k : place - at - 1 ≡ place - 1 - at = omega arith in
      digits_back base (place - at) n out at (omega arith) ∙ ap₂ (λ (p k : ℕ). sets (set out p (digit_character (n % base))) at (digits base k (n / base))) p k

  -- none are left
  pub digits_stored : place ≤ at → sets out at (digits base (place - at) n) ≡ out
  unfolding digits
  digits_stored h = ap (λ (k : ℕ). sets out at (digits base k n)) none
    where
      none : place - at ≡ 0
      none = omega arith
