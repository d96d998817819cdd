-- What stands in a file from a place on, in the contracts that only this crate rests on.
use Rattle.std.specs.Prelude.{ℕ, ◌≡◌, ◌+◌, List, length}
use Rattle.map_file.specs.Form.{Name, Record}
use Rattle.map_file.specs.Reads.{record_of}
use Rattle.map_file.specs.declared.record.Name.{Name as Placed}
use Rattle.map_file.specs.declared.record.Record.{Record as Parts}
use Rattle.map_file.specs.declared.record.Rest.{Rest}
use Rattle.map_file.specs.declared.records.Records.{Records}
use Rattle.map_file.specs.Files.{records_left}

-- a name that was read and the bytes behind it
abbrev pub name_read : Placed × Rest → Name × List ℕ
name_read p = (p.0.bytes.now, p.1.bytes.now)

-- it stands behind its length byte, and the rest behind it
abbrev pub NamePlaced : Rest → Placed → Rest → Type 0
NamePlaced before name rest = (name.start ≡ before.start + 1) × (rest.start ≡ name.start + length name.bytes.now)

-- a record that was read and the bytes behind it
abbrev pub record_read : Parts × Rest → Record × List ℕ
record_read p = (record_of p.0, p.1.bytes.now)

-- its names stand one behind the other, and the rest behind its pose
pub record RecordPlaced (before : Rest) (r : Parts) (rest : Rest) : Type 0 where
  pub child : r.child.start ≡ before.start + 1
  pub parent : r.parent.start ≡ r.child.start + length r.child.bytes.now + 1
  pub behind : rest.start ≡ r.parent.start + length r.parent.bytes.now + 56

-- the records that were read and the bytes behind them
abbrev pub records_read : Records × Rest → List Record × List ℕ
records_read p = (records_left p.0, p.1.bytes.now)

-- a record that an iterator gave, and what the iterator has left, stand there
abbrev pub NextPlaced : Records → Parts → Records → Type 0
NextPlaced before r left = RecordPlaced before.rest r left.rest
