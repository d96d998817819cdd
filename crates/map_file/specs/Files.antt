-- The records of a map file that has passed the test of its form, as the code's values hold them.
use Rattle.std.specs.Prelude.{ℕ, List, [], Option, None, Some}
use Rattle.map_file.specs.Form.{Record, times, record_from}
use Rattle.map_file.specs.declared.file.MapFile.{MapFile}
use Rattle.map_file.specs.declared.records.Records.{Records}

-- what was read
abbrev pub value_of : Option (List Record × List ℕ) → List Record
value_of None = []
value_of (Some x) = x.0

-- the records that are left
abbrev pub records_left : Records → List Record
records_left s = value_of (times s.left record_from s.rest.bytes.now)

-- where in the file the next of them begins
abbrev pub next_at : Records → ℕ
next_at s = s.rest.start

abbrev pub records_of : MapFile → List Record
records_of file = records_left file.records
