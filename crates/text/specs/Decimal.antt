-- A float as people write it: `1`, `-0.25`, `6.1e-3`. None: malformed.
use Rattle.std.specs.Prelude.{ℕ, ◌+◌, ◌-◌, ◌*◌, ◌^◌, Bool, true, false, cond, ◌&&◌, List, [], ◌∷◌, leb, ltb, eqb, length, Float}
use Rattle.std.specs.Prelude.{Option, None, Some, option_map}
use Rattle.std.specs.Float.{binary64}
use Rattle.std.specs.Float.Ieee.{round}
use Rattle.text.specs.Digits.{number_from, below}

-- what stands before the first byte c, or all
abbrev pub before : ℕ → List ℕ → List ℕ
before c [] = []
before c (b ∷ word) = cond (eqb b c) [] (b ∷ before c word)

-- what stands behind the first byte c; none: there is no c
abbrev pub behind : ℕ → List ℕ → Option (List ℕ)
behind c [] = None
behind c (b ∷ word) = cond (eqb b c) (Some word) (behind c word)

-- the number that one or more digits are where they follow the number n, if 64 bits hold it
abbrev pub digits_after : Option ℕ → List ℕ → Option ℕ
digits_after None word = None
digits_after (Some n) [] = None
digits_after (Some n) (c ∷ word) = below (2 ^ 64) (number_from 10 n (c ∷ word))

-- the digits before a point and behind it as one number, and how many stand behind it
abbrev pub significand : List ℕ → Option (List ℕ) → Option (ℕ × ℕ)
significand whole None = option_map (λ (d : ℕ). (d, 0)) (digits_after (Some 0) whole)
significand whole (Some fraction) = option_map (λ (d : ℕ). (d, length fraction)) (digits_after (digits_after (Some 0) whole) fraction)

-- what stands behind an `e`: n as (n, 0), and with `-` (45) as (0, n); without an `e` (0, 0)
abbrev pub exponent : Option (List ℕ) → Option (ℕ × ℕ)
exponent None = Some (0, 0)
exponent (Some []) = None
exponent (Some (c ∷ word)) =
    cond (eqb c 45)
    (option_map (λ (n : ℕ). (0, n)) (digits_after (Some 0) word))
    (option_map (λ (n : ℕ). (n, 0)) (digits_after (Some 0) (c ∷ word)))

-- The number d * 10 ^ up / 10 ^ down with its sign, rounded once; zero has the sign too. Of the two differences the one that would be below zero
-- is 0, so that its power is 1.
abbrev pub rounded : Bool → ℕ → ℕ → ℕ → Float
rounded negative d up down = round binary64 negative (d * 10 ^ (up - down)) (10 ^ (down - up))

-- that number, if the digits are at most 15 without leading zeros and the power of ten is from -22 to 22
abbrev pub scaled : Bool → ℕ → ℕ → ℕ → Option Float
scaled negative d up down = cond (ltb d (10 ^ 15) && (leb up (down + 22) && leb down (up + 22))) (Some (rounded negative d up down)) None

-- the digits times the power of ten that is the exponent less the digits behind the point
abbrev pub product : Bool → Option (ℕ × ℕ) → Option (ℕ × ℕ) → Option Float
product negative None power = None
product negative (Some (d, places)) None = None
product negative (Some (d, places)) (Some (up, down)) = scaled negative d up (down + places)

-- a decimal without its sign: digits up to an `e` (101), with a point (46) or not, and an exponent behind it
abbrev pub unsigned : Bool → List ℕ → Option Float
unsigned negative word =
    product negative (significand (before 46 (before 101 word)) (behind 46 (before 101 word))) (exponent (behind 101 word))

-- a decimal, with `-` if below zero
abbrev pub decimal : List ℕ → Option Float
decimal [] = None
decimal (c ∷ word) = cond (eqb c 45) (unsigned true word) (unsigned false (c ∷ word))
