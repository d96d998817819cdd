-- Runs of the arc cosine's steps and bounds of them, for the contracts of the private steps of the code: no public contract rests on them.
use Rattle.std.specs.Prelude.{◌≡◌, ℕ, zero, suc, ◌+◌, T, Float}
use Rattle.std.specs.Float.{binary64}
use Rattle.std.specs.Float.Ieee.{fits, le, of_bits}
use Rattle.time.specs.Float.{◌⊕◌, ◌⊗◌, ◌⊘◌, whole, one64, two64}
use Rattle.libm.specs.Libm.{numerator, denominator, acos_steps}

-- one step with the square s, and n of them down to j
abbrev pub step : ℕ → Float → Float → Float
step k s h = one64 ⊕ s ⊗ (whole (numerator k) ⊘ whole (denominator k)) ⊗ h

unfoldable pub run : ℕ → ℕ → Float → Float → Float
run zero j s h = h
run (suc n) j s h = run n j s (step (j + suc n) s h)

abbrev pub Within : Float → Float → Float → Type 0
Within low high x = T (le low x) × T (le x high)

-- the squares from 2^-60 to a little above a half: with one of them a step leads from 1 .. 2 into 1 .. 2
abbrev pub least_square : Float
least_square = of_bits binary64 0x3c30_0000_0000_0000

abbrev pub most_square : Float
most_square = of_bits binary64 0x3fe0_2000_0000_0000

abbrev pub Square : Float → Type 0
Square s = Within least_square most_square s

abbrev pub Value : Float → Type 0
Value h = Within one64 two64 h

abbrev pub Bound : Float → Type 0
Bound h = T (fits binary64 h) × Value h

-- h stands between the bounds, and the steps from k on lead from it to where all 48 lead
abbrev pub Stands : Float → ℕ → Float → Float → Type 0
Stands z k low high = (h : Float) × T (fits binary64 h) × (acos_steps k z h ≡ acos_steps 48 z one64) × Within low high h

-- so it is with every z whose square lies between the bounds
abbrev pub Encloses : Float → Float → ℕ → Float → Float → Type 0
Encloses least most k low high = (z : Float) → Within least most (z ⊗ z) → Stands z k low high
