-- Texts as they are read: quoted text as the bytes that it is written with.
use Rattle.std.specs.Prelude.{ℕ, zero, suc, List, [], ◌∷◌}
use Prim.Native.String.{String, len, char_at}
use Prim.Native.Char.{code}

-- count characters from a place on
abbrev pub ascii_from : String → ℕ → ℕ → List ℕ
ascii_from s at zero = []
ascii_from s at (suc count) = code (char_at s at) ∷ ascii_from s (suc at) count

-- the bytes of a text whose characters are ASCII
abbrev pub ascii : String → List ℕ
ascii s = ascii_from s 0 (len s)
