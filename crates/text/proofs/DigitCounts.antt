-- How many digits a number has in base ten. Assumes nothing.
use mathlib.Core.Path.{◌≡◌, refl, sym, ap, ◌∙◌, subst}
use mathlib.Core.Bool.{Bool, true, false, cond}
use mathlib.Core.List.{[], ◌∷◌}
use Prim.Native.Nat.{ℕ, zero, suc, ◌+◌, ◌*◌, ◌/◌, ◌%◌, ◌^◌, ◌≤◌, ◌<◌}
use native.Mathlib.Nat.{pow-suc, mul_comm, one-le-pow, div-lt_iff_lt-mul}
use native.Mathlib.Decide.{dec_lt}
use native.Mathlib.Omega.{arith}
use borrow.Author.Tests.{lt-ltb, le-ltb}
use lib.Dec.{ltb}
use lib.ListN.{length, get_or, get_or-append}
use Rattle.text.specs.Digits.{digit_character, digits, digit_count}
use Rattle.text.proofs.DigitCharacters.{digit_character_ten}
use Rattle.text.proofs.Stores.{length_digits}

pub digit_count_last : (f n : ℕ) → n ≤ 9 → digit_count f n ≡ 1
unfolding digit_count
digit_count_last zero n h = refl
digit_count_last (suc f) n h = simp (lt-ltb n 10 (omega arith))

digit_count_more : (f n : ℕ) → 9 < n → digit_count (suc f) n ≡ suc (digit_count f (n / 10))
unfolding digit_count
digit_count_more f n h = simp (le-ltb n 10 (omega arith))

tenth : (k n : ℕ) → n < 10 ^ suc k → n / 10 < 10 ^ k
tenth k n h = (div-lt_iff_lt-mul {k = 10} (omega arith)).1 (subst (λ (m : ℕ). n < m) (pow-suc 10 k) h)

pub digit_count_some : (f n : ℕ) → 0 < digit_count f n
unfolding digit_count
digit_count_some zero n = omega arith
digit_count_some (suc f) n = go (ltb n 10)
  where
    go : (b : Bool) → 0 < cond b 1 (suc (digit_count f (n / 10)))
    go true = omega arith
    go false = omega arith

-- the power of ten that is the first digit's place, and 1
counted : (f k n : ℕ) → k ≤ f → 10 ^ k ≤ n → n < 10 ^ suc k → digit_count f n ≡ suc k
unfolding digit_count
counted zero zero n h low high = refl
counted zero (suc k) n h low high = absurd (omega arith)
counted (suc f) zero n h low high = digit_count_last (suc f) n (omega arith)
counted (suc f) (suc k) n h low high =
    let more : 10 * 10 ^ k ≤ n = subst (λ (m : ℕ). m ≤ n) (pow-suc 10 k ∙ mul_comm (10 ^ k) 10) low in
    digit_count_more f n (omega (arith, more, one-le-pow k 10 (omega arith)))
    ∙ ap suc (counted f k (n / 10) (omega arith) (omega (arith, more)) (tenth (suc k) n high))

pub counted_by_power : (k n : ℕ) → k < 20 → 10 ^ k ≤ n → n < 10 * 10 ^ k → k + 1 ≡ digit_count 19 n
counted_by_power k n h low high = omega (arith, counted 19 k n (omega arith) low (subst (λ (m : ℕ). n < m) (mul_comm 10 (10 ^ k) ∙ sym (pow-suc 10 k)) high))

-- the digits hold the number
pub digit_count_hold : (f n : ℕ) → n < 10 ^ suc f → n < 10 ^ digit_count f n
unfolding digit_count
digit_count_hold zero n h = h
digit_count_hold (suc f) n h = go (dec_lt n 10) (digit_count_hold f (n / 10) (tenth (suc f) n h))
  where
    go : Dec (n < 10) → n / 10 < 10 ^ digit_count f (n / 10) → n < 10 ^ digit_count (suc f) n
    go (yes l) i = rw (digit_count_last (suc f) n (omega arith)) l
    go (no l) i = rw (digit_count_more f n (omega arith), pow-suc) ((div-lt_iff_lt-mul {k = 10} (omega arith)).0 i)

-- the first of them is no zero
pub first_digit : (f n : ℕ) → 0 < n → n < 10 ^ suc f → 48 < get_or (digits 10 (digit_count f n) n) 0 0
unfolding digit_count digits
first_digit zero n p h = rw (digit_character_ten (n % 10) (omega arith)) (omega arith)
first_digit (suc f) n p h = go (dec_lt n 10) (λ q. first_digit f (n / 10) q (tenth (suc f) n h))
  where
    go : Dec (n < 10) → (0 < n / 10 → 48 < get_or (digits 10 (digit_count f (n / 10)) (n / 10)) 0 0) → 48 < get_or (digits 10 (digit_count (suc f) n) n) 0 0
    go (yes l) i = rw (digit_count_last (suc f) n (omega arith), digit_character_ten (n % 10) (omega arith)) (omega arith)
    go (no l) i =
        let some : 0 < length (digits 10 (digit_count f (n / 10)) (n / 10)) = omega (arith, length_digits 10 (digit_count f (n / 10)) (n / 10), digit_count_some f (n / 10)) in
        rw (digit_count_more f n (omega arith), get_or-append (digits 10 (digit_count f (n / 10)) (n / 10)) (digit_character (n % 10) ∷ []) 0 0 some) (i (omega arith))
