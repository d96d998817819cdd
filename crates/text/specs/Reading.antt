-- The words of a line, and what each form of word stands for. None: malformed.
use Rattle.std.specs.Prelude.{◌≡◌, ℕ, ◌+◌, ◌^◌, Bool, true, false, cond, ◌&&◌, List, [], ◌∷◌, eqb, length, take, drop, Float}
use Rattle.std.specs.Prelude.{Option, None, Some, option_map}
use Rattle.std.specs.Option.{option_or}
use Rattle.std.specs.Float.{binary64}
use Rattle.std.specs.Float.Ieee.{of_bits}
use Rattle.text.specs.Digits.{below, number_in}
use Rattle.text.specs.Decimal.{decimal}
use Rattle.text.specs.declared.words.Words.{Words}

-- the bytes before the first space (32), or all
abbrev pub up_to_space : List ℕ → List ℕ
up_to_space [] = []
up_to_space (c ∷ text) = cond (eqb c 32) [] (c ∷ up_to_space text)

-- the word that starts at a place of a line
abbrev pub word_at : List ℕ → ℕ → List ℕ
word_at line at = up_to_space (drop at line)

-- a value and the place where the text goes on
abbrev pub going_on : {A : Type 0} → Option A → ℕ → Option (A × ℕ)
going_on None next = None
going_on (Some a) next = Some (a, next)

-- an empty word is malformed: a line does not begin or end with a space, nor has it two in a row
abbrev pub not_empty : {A : Type 0} → (List ℕ → Option A) → List ℕ → Option A
not_empty form [] = None
not_empty form (c ∷ word) = form (c ∷ word)

-- the word at a place, read in its form; the text goes on behind the one space after it
unfoldable pub read_at : {A : Type 0} → (List ℕ → Option A) → List ℕ → ℕ → Option (A × ℕ)
read_at form line at = going_on (not_empty form (word_at line at)) (at + length (word_at line at) + 1)

-- a whole number: decimal digits, zeros in front or not, and no sign; at most 2^64 - 1
abbrev pub number : List ℕ → Option ℕ
number word = number_in 10 word

-- a frame's number, which 32 bits hold
abbrev pub frame : List ℕ → Option ℕ
frame word = below (2 ^ 32) (number word)

-- the value of a float's bits: exactly their 16 hexadecimal digits, lower case; a NaN for any NaN's bits
abbrev pub bits : List ℕ → Option Float
bits word = cond (eqb (length word) 16) (option_map (of_bits binary64) (number_in 16 word)) None

-- a float: its bits, or any other word as a decimal. The word `nan` is written and not read.
abbrev pub float : List ℕ → Option Float
float word = option_or (bits word) (decimal word)

-- a byte: exactly its two hexadecimal digits, lower case
abbrev pub byte : List ℕ → Option ℕ
byte digits = cond (eqb (length digits) 2) (number_in 16 digits) None

-- the byte whose digits stand at a place
unfoldable pub byte_at : List ℕ → ℕ → Option ℕ
byte_at line at = byte (take 2 (drop at line))

-- whether two words are the same bytes
abbrev pub same : List ℕ → List ℕ → Bool
same [] [] = true
same [] (b ∷ v) = false
same (a ∷ u) [] = false
same (a ∷ u) (b ∷ v) = eqb a b && same u v

-- this very word
abbrev pub keyword : List ℕ → List ℕ → Option (Unit {0})
keyword expected word = cond (same word expected) (Some tt) None

-- any word
abbrev pub any_word : List ℕ → Option (List ℕ)
any_word word = Some word

-- what was read, if anything, and the place where the text goes on: where it was, if the word is malformed
abbrev pub from_place : {A : Type 0} → ℕ → Option (A × ℕ) → Option A × ℕ
from_place at None = (None, at)
from_place at (Some (a, next)) = (Some a, next)

-- the words v, asked for the next one in a form, answered what was read, and are w now
pub record Reads {A : Type 0} (form : List ℕ → Option A) (v w : Words) (read : Option A) : Type 0 where
  pub same_line : w.line ≡ v.line
  pub moved : (read, w.at) ≡ from_place v.at (read_at form v.line.now v.at)
