-- The text of a number and of a float, and text written into a buffer.
use Rattle.std.specs.Prelude.{◌≡◌, ℕ, ◌+◌, cond, List, [], ◌∷◌, ◌++◌, leb, length, take, drop, Float}
use Rattle.std.specs.Float.{binary64}
use Rattle.std.specs.Float.Ieee.{is_nan, to_bits}
use Rattle.text.specs.Digits.{digits, digit_count}
use Rattle.text.specs.declared.write.Writer.{Writer}

-- decimal digits with no zero in front; a 64-bit number has at most 20
abbrev pub number_text : ℕ → List ℕ
number_text n = digits 10 (digit_count 19 n) n

-- `nan` (110, 97, 110), or the 16 hexadecimal digits of the bits
unfoldable pub float_text : Float → List ℕ
float_text x = cond (is_nan x) (110 ∷ 97 ∷ 110 ∷ []) (digits 16 16 (to_bits binary64 x))

-- the two hexadecimal digits of a byte
abbrev pub byte_text : ℕ → List ℕ
byte_text b = digits 16 2 b

-- The next place, and the buffer with the text at the place. Without room for the whole text nothing is written, and the place stays.
unfoldable pub written : List ℕ → ℕ → List ℕ → ℕ × List ℕ
written out at text =
    cond (leb (at + length text) (length out))
    (at + length text, take at out ++ text ++ drop (at + length text) out)
    (at, out)

-- Where the texts end that are written one behind the other, and the buffer with them in it. A text without room is left out.
unfoldable pub written_all : List ℕ → ℕ → List (List ℕ) → ℕ × List ℕ
written_all out at [] = (at, out)
written_all out at (t ∷ texts) = written_all (written out at t).1 (written out at t).0 texts

-- the texts as one
abbrev pub joined : List (List ℕ) → List ℕ
joined [] = []
joined (t ∷ texts) = t ++ joined texts

-- the writer v has written the texts one behind the other, and is w now
pub record Writes (v w : Writer) (texts : List (List ℕ)) : Type 0 where
  pub same_buffer : w.out.ghost_name ≡ v.out.ghost_name
  pub text : (w.at, w.out.now) ≡ written_all v.out.now v.at texts
