-- What people read: a float in figures, seconds, a frame by its number. Each is a list of texts, written one behind the other.
use Rattle.std.specs.Prelude.{ℕ, zero, suc, ◌+◌, ◌/◌, ◌^◌, cond, ◌&&◌, List, [], ◌∷◌, ◌++◌, ◌==◌, from_bits, is_nan, nat_lt, Float}
use Rattle.std.specs.Float.{binary64}
use Rattle.std.specs.Float.Ieee.{neg, lt, le, eq, to_unsigned}
use Rattle.std.specs.Float.Ieee.Scale.{finite}
use Rattle.time.specs.Float.{◌⊕◌, ◌⊖◌, ◌⊗◌, ◌⊘◌, whole, zero64, one64}
use Rattle.geometry.specs.declared.vector3.Vector3.{Vector3}
use Rattle.text.specs.Ascii.{ascii}
use Rattle.text.specs.Digits.{digits}
use Rattle.text.specs.Writing.{number_text}

-- ---- digits behind a point

-- a digit put before digits that end with no zero: a zero (48) before nothing is left out
abbrev pub before : ℕ → List ℕ → List ℕ
before d [] = cond (d == 48) [] (d ∷ [])
before d (e ∷ ds) = d ∷ e ∷ ds

-- digits without the zeros at the end
unfoldable pub without_zeros : List ℕ → List ℕ
without_zeros [] = []
without_zeros (d ∷ ds) = before d (without_zeros ds)

-- a point and the digits, if there are any
abbrev pub pointed : List ℕ → List (List ℕ)
pointed [] = []
pointed (d ∷ ds) = ascii "." ∷ (d ∷ ds) ∷ []

-- the last k digits of n behind a point, without the zeros at the end
unfoldable pub fraction_texts : ℕ → ℕ → List (List ℕ)
fraction_texts k n = pointed (without_zeros (digits 10 k n))

-- nanoseconds in seconds, exactly: whole ones, and up to nine digits behind the point
unfoldable pub seconds_texts : ℕ → List (List ℕ)
seconds_texts n = number_text (n / 10 ^ 9) ∷ (fraction_texts 9 n ++ (ascii " s" ∷ []))

-- `frame` and its number
unfoldable pub frame_texts : ℕ → List (List ℕ)
frame_texts k = ascii "frame " ∷ number_text k ∷ []

-- ---- floats

-- 1e15 and 1e-6: from the second to below the first a number is written without a power of ten
abbrev pub large : Float
large = from_bits binary64 0x430c_6bf5_2634_0000

abbrev pub small : Float
small = from_bits binary64 0x3eb0_c6f7_a0b5_ed8d

-- 0.99999995 and 9.9999995: what is written before a power of ten lies between them, and six digits round them to 1 and 10
abbrev pub least : Float
least = from_bits binary64 0x3fef_ffff_e528_0d65

abbrev pub most : Float
most = from_bits binary64 0x4023_ffff_ef39_085f

-- 2^63, a million, ten and a half
abbrev pub beyond : Float
beyond = from_bits binary64 0x43e0_0000_0000_0000

abbrev pub million : Float
million = from_bits binary64 0x412e_8480_0000_0000

abbrev pub ten : Float
ten = from_bits binary64 0x4024_0000_0000_0000

abbrev pub half : Float
half = from_bits binary64 0x3fe0_0000_0000_0000

-- the whole part of a number above -1 and below 2^63, and 0 for any other
unfoldable pub whole_part : Float → ℕ
whole_part x = cond (lt (neg one64) x && lt x beyond) (to_unsigned 64 x) 0

-- the nearest number of millionths to what is behind the whole part; a half goes up
unfoldable pub millionths : Float → ℕ
millionths x = whole_part ((x ⊖ whole (whole_part x)) ⊗ million ⊕ half)

-- the whole part and the millionths; a million of these make the whole part one more
unfoldable pub rounded : Float → ℕ × ℕ
rounded x = cond (nat_lt (millionths x) (10 ^ 6)) (whole_part x, millionths x) (whole_part x + 1, 0)

-- a number without a power of ten: its whole part, and up to six digits behind the point
unfoldable pub plain_texts : Float → List (List ℕ)
plain_texts x = number_text (rounded x).0 ∷ fraction_texts 6 (rounded x).1

-- a large number divided by ten until it is below 9.9999995, and how often, p times so far
unfoldable pub divided : ℕ → Float → ℕ → Float × ℕ
divided zero x p = (x, p)
divided (suc steps) x p = cond (lt x most) (x, p) (divided steps (x ⊘ ten) (p + 1))

-- a small number multiplied by ten until it is at least 0.99999995, and how often, p times so far
unfoldable pub multiplied : ℕ → Float → ℕ → Float × ℕ
multiplied zero x p = (x, p)
multiplied (suc steps) x p = cond (le least x) (x, p) (multiplied steps (x ⊗ ten) (p + 1))

-- a number, `e` or `e-`, and the power of ten
abbrev pub scaled_texts : List ℕ → Float × ℕ → List (List ℕ)
scaled_texts e s = plain_texts s.0 ++ (e ∷ number_text s.1 ∷ [])

-- a number from 0 on; 400 steps reach every power of ten that a float has
unfoldable pub magnitude_texts : Float → List (List ℕ)
magnitude_texts x =
    cond (eq x zero64)
    (plain_texts x)
    (cond (lt x small)
    (scaled_texts (ascii "e-") (multiplied 400 x 0))
    (cond (lt x large)
    (plain_texts x)
    (cond (finite x)
    (scaled_texts (ascii "e") (divided 400 x 0))
    (ascii "infinity" ∷ []))))

-- any float, with its sign
unfoldable pub figure_texts : Float → List (List ℕ)
figure_texts x =
    cond (is_nan x)
    (ascii "not a number" ∷ [])
    (cond (lt x zero64) (ascii "-" ∷ magnitude_texts (neg x)) (magnitude_texts x))

-- three figures with a space between them
unfoldable pub vector_texts : Vector3 → List (List ℕ)
vector_texts v = figure_texts v.x ++ (ascii " " ∷ (figure_texts v.y ++ (ascii " " ∷ figure_texts v.z)))
