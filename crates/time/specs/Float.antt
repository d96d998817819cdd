-- Arithmetic of f64: IEEE 754 binary64, each step rounded once to nearest, ties to even.
use Rattle.std.specs.Prelude.{ℕ, pos, false, Float}
use Rattle.std.specs.Float.{nan, inf, fin, binary64}
use Rattle.std.specs.Float.Ieee.{add, sub, mul, div, of_int, of_bits}

infixl 6 ◌⊕◌ ◌⊖◌
infixl 7 ◌⊗◌ ◌⊘◌
abbrev pub ◌⊕◌ : Float → Float → Float
x ⊕ y = add binary64 x y

abbrev pub ◌⊖◌ : Float → Float → Float
x ⊖ y = sub binary64 x y

abbrev pub ◌⊗◌ : Float → Float → Float
x ⊗ y = mul binary64 x y

abbrev pub ◌⊘◌ : Float → Float → Float
x ⊘ y = div binary64 x y

-- a whole number as f64
abbrev pub whole : ℕ → Float
whole n = of_int binary64 (pos n)

-- +0.0, 1.0 and 2.0
abbrev pub zero64 : Float
zero64 = of_bits binary64 0

abbrev pub one64 : Float
one64 = of_bits binary64 0x3ff0_0000_0000_0000

abbrev pub two64 : Float
two64 = of_bits binary64 0x4000_0000_0000_0000

-- the value without its sign
abbrev pub abs : Float → Float
abs nan = nan
abs (inf s) = inf false
abs (fin s m e) = fin false m e
