-- One digit and its byte. Assumes nothing.
use mathlib.Core.Path.{◌≡◌, ap, ◌∙◌}
use Prim.Native.Nat.{ℕ, ◌+◌, ◌-◌, ◌≤◌, ◌<◌}
use native.Mathlib.Decide.{dec_lt}
use native.Mathlib.Omega.{arith}
use borrow.Author.Tests.{lt-ltb, le-ltb, le-leb, lt-leb}
use Rattle.text.specs.Digits.{digit_character, digit}

pub digit_ten : (c : ℕ) → 48 ≤ c → c < 58 → digit c ≡ c - 48
digit_ten c a b = simp (le-leb 48 c a, le-leb c 57 (omega arith))

pub digit_letter : (c : ℕ) → 97 ≤ c → c < 103 → digit c ≡ c - 87
digit_letter c a b = simp (le-leb 48 c (omega arith), lt-leb c 57 (omega arith), le-leb 97 c a, le-leb c 102 (omega arith))

pub digit_character_ten : (d : ℕ) → d < 10 → digit_character d ≡ 48 + d
digit_character_ten d h = simp (lt-ltb d 10 h)

pub digit_character_letter : (d : ℕ) → 10 ≤ d → digit_character d ≡ 87 + d
digit_character_letter d h = simp (le-ltb d 10 h)

-- a digit's byte is read as the digit, and is no space
pub digit_digit_character : (d : ℕ) → d < 16 → digit (digit_character d) ≡ d
digit_digit_character d h = go (dec_lt d 10)
  where
    go : Dec (d < 10) → digit (digit_character d) ≡ d
    go (yes a) = ap digit (digit_character_ten d a) ∙ digit_ten (48 + d) (omega arith) (omega arith) ∙ omega arith
    go (no a) = ap digit (digit_character_letter d (omega arith)) ∙ digit_letter (87 + d) (omega arith) (omega arith) ∙ omega arith

pub digit_character_no_space : (d : ℕ) → digit_character d ≡ 32 → ⊥
digit_character_no_space d e = go (dec_lt d 10)
  where
    go : Dec (d < 10) → ⊥
    go (yes a) = omega (arith, digit_character_ten d a)
    go (no a) = omega (arith, digit_character_letter d (omega arith))
