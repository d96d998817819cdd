-- Digits of bases up to 16, as bytes of ASCII.
use Rattle.std.specs.Prelude.{ℕ, zero, suc, ◌+◌, ◌-◌, ◌*◌, ◌/◌, ◌%◌, ◌^◌, cond, ◌&&◌, List, [], ◌∷◌, ◌++◌, leb, ltb}
use Rattle.std.specs.Prelude.{Option, None, Some}

-- the byte of a digit: `0` to `9`, then `a` to `f`
abbrev pub digit_character : ℕ → ℕ
digit_character d = cond (ltb d 10) (48 + d) (87 + d)

-- the digit that a byte is: `0` to `9`, then `a` to `f`; 16, a digit of no base here, for any other byte
abbrev pub digit : ℕ → ℕ
digit c = cond (leb 48 c && leb c 57) (c - 48) (cond (leb 97 c && leb c 102) (c - 87) 16)

-- the last k digits of n, the most significant first
unfoldable pub digits : ℕ → ℕ → ℕ → List ℕ
digits base zero n = []
digits base (suc k) n = digits base k (n / base) ++ (digit_character (n % base) ∷ [])

-- the number that a word's digits are where they follow the number n; none: a byte is no digit of the base
abbrev pub number_from : ℕ → ℕ → List ℕ → Option ℕ
number_from base n [] = Some n
number_from base n (c ∷ word) = cond (ltb (digit c) base) (number_from base (n * base + digit c) word) None

-- a number below the bound
abbrev pub below : ℕ → Option ℕ → Option ℕ
below bound None = None
below bound (Some n) = cond (ltb n bound) (Some n) None

-- the number that the digits of a word are, where 64 bits hold it
abbrev pub number_in : ℕ → List ℕ → Option ℕ
number_in base word = below (2 ^ 64) (number_from base 0 word)

-- how many digits n has in base ten, where it has no more than steps + 1
unfoldable pub digit_count : ℕ → ℕ → ℕ
digit_count zero n = 1
digit_count (suc steps) n = cond (ltb n 10) 1 (suc (digit_count steps (n / 10)))
