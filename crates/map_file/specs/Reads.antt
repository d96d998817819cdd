-- What is read at a place of a file, and what the code's names and records say.
use Rattle.std.specs.Prelude.{ℕ, zero, suc, ◌+◌, ◌≤◌, List, [], ◌∷◌, map, length, get_or, take, drop}
use Rattle.std.specs.Float.{binary64}
use Rattle.std.specs.Float.Ieee.{of_bits}
use Rattle.geometry.specs.declared.isometry.Isometry.{Isometry}
use Rattle.buffer.specs.Row.{pose_of}
use Rattle.map_file.specs.Form.{Name, Record, number}
use Rattle.map_file.specs.declared.record.Name.{Name as Placed}
use Rattle.map_file.specs.declared.record.Record.{Record as Parts}

-- the place behind the name whose length byte stands at a place
abbrev pub behind_name : List ℕ → ℕ → ℕ
behind_name bytes at = suc at + get_or bytes at 0

-- that name lies within the file
abbrev pub NameWithin : List ℕ → ℕ → Type 0
NameWithin bytes at = behind_name bytes at ≤ length bytes

-- its bytes
abbrev pub name_at : List ℕ → ℕ → Name
name_at bytes at = take (get_or bytes at 0) (drop (suc at) bytes)

-- a name's bytes
abbrev pub bytes_of : Placed → Name
bytes_of n = n.bytes.now

-- its part of the file: where it stands, and how many bytes it has
abbrev pub part_at : Placed → ℕ × ℕ
part_at n = (n.start, length n.bytes.now)

-- n words of 64 bits
abbrev pub words : ℕ → List ℕ → List ℕ
words zero bytes = []
words (suc n) bytes = number (take 8 bytes) ∷ words n (drop 8 bytes)

-- the pose that seven words of bits are
abbrev pub pose_of_words : List ℕ → Isometry
pose_of_words ws = pose_of (map (of_bits binary64) ws)

-- the record whose parts these are
abbrev pub record_of : Parts → Record
record_of r = record { child = bytes_of r.child; parent = bytes_of r.parent; pose = words 7 r.pose.now }
