-- What holds of map files and of their name books. Proved in proofs/ under the same names.
use Rattle.std.specs.Prelude.{ℕ, ◌+◌, ◌≤◌, ◌<◌, ◌≡◌, ◌↔◌, true, false, List, [], ◌∷◌, ◌++◌, ltb, length, take, drop}
use Rattle.std.specs.Prelude.{Some}
use Rattle.time.specs.Reply.{answer}
use Rattle.buffer.specs.Map.{all}
use Rattle.map_file.specs.Form.{Name, Record, file_bytes, FileFits, records}
use Rattle.map_file.specs.Book.{appearances, among, numbered_all, book, frame_of, name_of, name_in, part_in}

-- every one is a byte
abbrev pub Bytes : List ℕ → Type 0
Bytes bytes = all (λ b. ltb b 256) bytes ≡ true

-- a file has these records exactly when it is their bytes and they are within the limits of the form
abbrev pub FormBothWays : Type 0
FormBothWays = (bytes : List ℕ) (rs : List Record) → Bytes bytes → (records bytes ≡ Some rs) ↔ ((bytes ≡ file_bytes rs) × FileFits rs)

-- ---- the name book

-- a name has the number whose name it is, and no other
abbrev pub BookInverse : Type 0
BookInverse = (rs : List Record) (name : Name) (k : ℕ) → (frame_of rs name ≡ Some k) ↔ (name_of rs k ≡ Some name)

-- exactly the names that appear have a number
abbrev pub BookComplete : Type 0
BookComplete = (rs : List Record) (name : Name) → among name (book rs) ≡ among name (appearances rs)

-- the numbers are 0 to the count of the names less 1, without a gap
abbrev pub NoGap : Type 0
NoGap = (rs : List Record) (k : ℕ) → ((name : Name) × (name_of rs k ≡ Some name)) ↔ (k < length (book rs))

-- a name's number is how many other names appear before it does: numbers go "by first appearance, child before parent"
abbrev pub ByFirstAppearance : Type 0
ByFirstAppearance = (rs : List Record) (before after : List Name) (name : Name) → appearances rs ≡ before ++ (name ∷ after) → among name before ≡ false
    → frame_of rs name ≡ Some (length (numbered_all [] before))

-- the part of the file that is answered for a number lies within the file, and its bytes are the name
pub record IsName (bytes : List ℕ) (k start count : ℕ) : Type 0 where
  pub within : start + count ≤ length bytes
  pub name : name_in bytes k ≡ answer (Some (take count (drop start bytes)))

abbrev pub PartIsName : Type 0
PartIsName = (bytes : List ℕ) (k start count : ℕ) → Bytes bytes → part_in bytes k ≡ answer (Some (start, count)) → IsName bytes k start count
