-- The name book of a map file: the number of a name and the name of a number.
use Rattle.std.specs.Prelude.{ℕ, zero, suc, ◌+◌, Bool, false, cond, ◌||◌, List, [], ◌∷◌, ◌++◌, length, get_or}
use Rattle.std.specs.Prelude.{Option, None, Some, option_map}
use Rattle.time.specs.Reply.{Reply}
use Rattle.text.specs.Reading.{same}
use Rattle.map_file.specs.Form.{Name, Record, records, formed}

-- the names in the order of the file, "child before parent"
abbrev pub appearances : List Record → List Name
appearances [] = []
appearances (r ∷ rs) = r.child ∷ r.parent ∷ appearances rs

-- the name is one of these
abbrev pub among : Name → List Name → Bool
among name [] = false
among name (n ∷ ns) = same name n || among name ns

-- a name that has no number yet comes after those that have one
abbrev pub numbered : List Name → Name → List Name
numbered names name = cond (among name names) names (names ++ (name ∷ []))

-- the names with numbers once these, too, have appeared
abbrev pub numbered_all : List Name → List Name → List Name
numbered_all names [] = names
numbered_all names (n ∷ ns) = numbered_all (numbered names n) ns

-- "Names get numbers from 0 by first appearance": the names of a file by number
unfoldable pub book : List Record → List Name
book rs = numbered_all [] (appearances rs)

-- the number of a name: how many stand before it; all, where it is not among them
abbrev pub position : Name → List Name → ℕ
position name [] = 0
position name (n ∷ ns) = cond (same name n) 0 (suc (position name ns))

-- the name with a number
abbrev pub at_number : ℕ → List Name → Option Name
at_number k [] = None
at_number zero (n ∷ ns) = Some n
at_number (suc k) (n ∷ ns) = at_number k ns

-- ---- "answers both ways, with none for a name or number that the file doesn't give"

abbrev pub frame_of : List Record → Name → Option ℕ
frame_of rs name = cond (among name (book rs)) (Some (position name (book rs))) None

abbrev pub name_of : List Record → ℕ → Option Name
name_of rs k = at_number k (book rs)

-- where the names stand, in the order of the file: behind their length bytes, the first record beginning at a place
abbrev pub places : ℕ → List Record → List ℕ
places at [] = []
places at (r ∷ rs) =
    let parent = suc at + length r.child in
    suc at ∷ suc parent ∷ places (suc parent + length r.parent + 56) rs

-- a name's part of the file, since the book is "read from the lent file itself": where it first appears, and how many bytes it has. The records begin
-- behind a head of 7 bytes
abbrev pub part_of : List Record → Name → ℕ × ℕ
part_of rs name = (get_or (places 7 rs) (position name (appearances rs)) 0, length name)

-- ---- of a file; "with 18 for a file of wrong form"

unfoldable pub frame_in : List ℕ → Name → Reply (Option ℕ)
frame_in bytes name = formed (records bytes) (λ rs. frame_of rs name)

unfoldable pub name_in : List ℕ → ℕ → Reply (Option Name)
name_in bytes k = formed (records bytes) (λ rs. name_of rs k)

unfoldable pub part_in : List ℕ → ℕ → Reply (Option (ℕ × ℕ))
part_in bytes k = formed (records bytes) (λ rs. option_map (part_of rs) (name_of rs k))
