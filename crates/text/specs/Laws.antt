-- What holds of reading and writing together, proved in proofs/RoundTrip.antt, of texts written one behind the other, proved in
-- proofs/WrittenWhole.antt, and of decimals, proved in proofs/DecimalNearest.antt.
use Rattle.std.specs.Prelude.{ℕ, ◌+◌, ◌-◌, ◌*◌, ◌^◌, ◌≤◌, ◌<◌, ◌≡◌, Bool, false, List, [], ◌++◌, T, length, take, get_or, Float}
use Rattle.std.specs.Prelude.{Option, None, Some}
use Rattle.std.specs.Float.{nan, binary64}
use Rattle.std.specs.Float.Ieee.{fits, is_nan}
use Rattle.std.specs.Float.Ieee.Exact.{HasValue}
use Rattle.text.specs.Decimal.{rounded}
use Rattle.text.specs.Reading.{up_to_space, read_at, number, frame, float, byte}
use Rattle.text.specs.Writing.{number_text, float_text, byte_text, written, written_all, joined}

-- wherever the text stands in a line, with the line's end or a space behind it, the value is read and the text goes on behind that
abbrev pub ReadBack : {A : Type 0} → (List ℕ → Option A) → A → List ℕ → Type 0
ReadBack form a text = (before after : List ℕ) → up_to_space after ≡ []
    → read_at form (before ++ (text ++ after)) (length before) ≡ Some (a, length before + length text + 1)

-- reading what writing a number wrote gives the number back
abbrev pub NumberBack : Type 0
NumberBack = (n : ℕ) → n < 2 ^ 64 → ReadBack number n (number_text n)

-- and the frame
abbrev pub FrameBack : Type 0
FrameBack = (n : ℕ) → n < 2 ^ 32 → ReadBack frame n (number_text n)

-- reading what writing a float wrote gives the float back, signs of zeros included, when it is no NaN
abbrev pub FloatBack : Type 0
FloatBack = (x : Float) → T (fits binary64 x) → is_nan x ≡ false → ReadBack float x (float_text x)

-- the digits of a byte are read as that byte
abbrev pub ByteBack : Type 0
ByteBack = (b : ℕ) → b < 256 → byte (byte_text b) ≡ Some b

-- `nan` is not read
abbrev pub NanNotRead : Type 0
NanNotRead = float (float_text nan) ≡ None

-- what is read back wherever it stands is read from the buffer that it was written into, up to the next place
abbrev pub WrittenBack : Type 1
WrittenBack = (A : Type 0) (form : List ℕ → Option A) (a : A) (text : List ℕ) → ReadBack form a text
    → (out : List ℕ) (at : ℕ) → at + length text ≤ length out
    → read_at form (take (written out at text).0 (written out at text).1) at ≡ Some (a, (written out at text).0 + 1)

-- the text of a number above 0 begins with no `0` (48)
abbrev pub NoZeroInFront : Type 0
NoZeroInFront = (n : ℕ) → 0 < n → n < 2 ^ 64 → get_or (number_text n) 0 0 ≡ 48 → ⊥

-- where there is room for all of the texts, they are written as one text
abbrev pub WrittenWhole : Type 0
WrittenWhole = (texts : List (List ℕ)) (out : List ℕ) (at : ℕ) → at + length (joined texts) ≤ length out → written_all out at texts ≡ written out at (joined texts)

-- a float is n * 2^-1074 in size, exactly, with the sign
abbrev pub Units : Float → Bool → ℕ → Type 0
Units x negative n = HasValue x negative n (2 ^ 1074)

-- No f64 is nearer to num / den than r units of the same sign: the fraction is not on the far side of the middle of r and any other v. What has
-- the other sign is farther away than zero.
abbrev pub Nearest : Bool → ℕ → ℕ → ℕ → Type 0
Nearest negative num den r = (y : Float) (v : ℕ) → T (fits binary64 y) → Units y negative v
    → (v < r → (v + r) * den ≤ 2 * (num * 2 ^ 1074)) × (r < v → 2 * (num * 2 ^ 1074) ≤ (v + r) * den)

-- the value of a decimal is the f64 nearest to it, for all digits and powers of ten that are read
abbrev pub DecimalNearest : Type 0
DecimalNearest = (negative : Bool) (d up down : ℕ) → d < 10 ^ 15 → up ≤ down + 22 → down ≤ up + 22
    → (r : ℕ) × Units (rounded negative d up down) negative r × Nearest negative (d * 10 ^ (up - down)) (10 ^ (down - up)) r
