-- The form of a map file, from records to bytes and from bytes to records.
use Rattle.std.specs.Prelude.{ℕ, zero, suc, ◌+◌, ◌*◌, ◌/◌, ◌%◌, ◌^◌, ◌<◌, ◌≡◌, Bool, true, cond, ◌&&◌, List, [], ◌∷◌, ◌++◌, eqb, leb, ltb, length, take, drop}
use Rattle.std.specs.Prelude.{Option, None, Some}
use Rattle.time.specs.Reply.{Reply, answer, refusal, nothing}
use Rattle.text.specs.Reading.{same}
use Rattle.buffer.specs.Map.{all}
use Rattle.buffer.specs.Row.{concat_map}

-- a name: its bytes
abbrev pub Name : Type 0
Name = List ℕ

-- "A record is a child name and a parent name, .. then seven f64 in pose order": each f64 as its 64 bits
pub record Record : Type 0 where
  pub child : Name
  pub parent : Name
  pub pose : List ℕ

-- ---- from records to bytes

-- the k bytes of a number: "all numbers are little-endian"
abbrev pub number_bytes : ℕ → ℕ → List ℕ
number_bytes zero n = []
number_bytes (suc k) n = n % 256 ∷ number_bytes k (n / 256)

-- "a length byte .. and that many bytes of any value"
abbrev pub name_bytes : Name → List ℕ
name_bytes name = length name ∷ name

-- "a child name and a parent name, .. then seven f64 in pose order"
abbrev pub record_bytes : Record → List ℕ
record_bytes r = name_bytes r.child ++ (name_bytes r.parent ++ concat_map (number_bytes 8) r.pose)

-- "the bytes 70, 82, 77 ("FRM"), a 16-bit version of 1"
abbrev pub mark_and_version : List ℕ
mark_and_version = 70 ∷ 82 ∷ 77 ∷ number_bytes 2 1

-- "a 16-bit record count, then the records"
unfoldable pub file_bytes : List Record → List ℕ
file_bytes rs = mark_and_version ++ (number_bytes 2 (length rs) ++ concat_map record_bytes rs)

-- ---- what a file can hold

-- "a length byte of 1 to 32"
abbrev pub name_fits : Name → Bool
name_fits name = leb 1 (length name) && leb (length name) 32

-- two such names, and seven words of 64 bits
abbrev pub record_fits : Record → Bool
record_fits r = name_fits r.child && name_fits r.parent && eqb (length r.pose) 7 && all (λ w. ltb w (2 ^ 64)) r.pose

-- so many records as 16 bits count, each within these limits
pub record FileFits (rs : List Record) : Type 0 where
  pub count : length rs < 2 ^ 16
  pub each : all record_fits rs ≡ true

-- ---- from bytes to records: what stands at the front of bytes, and the bytes behind it; none where it does not have that form

-- one form behind another
infixr 1 ◌and_then◌
abbrev pub ◌and_then◌ : {A B : Type 0} → Option (A × List ℕ) → (A → List ℕ → Option B) → Option B
None and_then next = None
Some x and_then next = next x.0 x.1

-- n times the same form
abbrev pub times : {A : Type 0} → ℕ → (List ℕ → Option (A × List ℕ)) → List ℕ → Option (List A × List ℕ)
times zero form bytes = Some ([], bytes)
times (suc n) form bytes = form bytes and_then λ a rest. times n form rest and_then λ more end. Some (a ∷ more, end)

-- the number that bytes are, little-endian
abbrev pub number : List ℕ → ℕ
number [] = 0
number (b ∷ bytes) = b + 256 * number bytes

-- a number of k bytes
abbrev pub number_from : ℕ → List ℕ → Option (ℕ × List ℕ)
number_from k bytes = cond (leb k (length bytes)) (Some (number (take k bytes), drop k bytes)) None

-- "a length byte of 1 to 32 and that many bytes of any value"
abbrev pub name_from : List ℕ → Option (Name × List ℕ)
name_from [] = None
name_from (n ∷ bytes) = cond (leb 1 n && leb n 32 && leb n (length bytes)) (Some (take n bytes, drop n bytes)) None

-- "A record is a child name and a parent name, .. then seven f64"
unfoldable pub record_from : List ℕ → Option (Record × List ℕ)
record_from bytes =
    name_from bytes and_then λ child second.
    name_from second and_then λ parent third.
    times 7 (number_from 8) third and_then λ pose rest.
    Some (record { child = child; parent = parent; pose = pose }, rest)

-- these very bytes
abbrev pub fixed_from : List ℕ → List ℕ → Option (List ℕ × List ℕ)
fixed_from expected bytes = cond (same (take (length expected) bytes) expected) (Some (expected, drop (length expected) bytes)) None

-- nothing is left over
abbrev pub whole : {A : Type 0} → Option (A × List ℕ) → Option A
whole read = read and_then λ a rest. cond (eqb (length rest) 0) (Some a) None

-- the records of a file; none for "a wrong mark, version, length byte, short file or bytes left over"
unfoldable pub records : List ℕ → Option (List Record)
records bytes = whole (fixed_from mark_and_version bytes and_then λ mark second. number_from 2 second and_then λ count third. times count record_from third)

-- what is answered of the records; "18 for a file of wrong form"
abbrev pub formed : {A : Type 0} → Option (List Record) → (List Record → A) → Reply A
formed None call = refusal 18 nothing
formed (Some rs) call = answer (call rs)

-- how many records a file has
unfoldable pub record_count : List ℕ → Reply ℕ
record_count bytes = formed (records bytes) (λ rs. length rs)
