-- The names of a file, one behind the other, as the contracts of the private functions cite them. No public contract rests on this.
use Rattle.std.specs.Prelude.{ℕ, List, ◌++◌, option_map}
use Rattle.std.specs.Option.{option_to_list}
use Rattle.std.specs.List.{zip}
use Rattle.map_file.specs.Form.{Name, Record}
use Rattle.map_file.specs.Book.{appearances, places}
use Rattle.map_file.specs.Files.{records_left}
use Rattle.map_file.specs.declared.record.Name.{Name as Placed}
use Rattle.map_file.specs.declared.names.Names.{Names}

-- where a name stands, and its bytes
abbrev pub placed : Placed → ℕ × Name
placed n = (n.start, n.bytes.now)

-- those of the names of some records, the first of which begins at a place
abbrev pub placed_from : ℕ → List Record → List (ℕ × Name)
placed_from at rs = zip (places at rs) (appearances rs)

-- those that are left
abbrev pub names_left : Names → List (ℕ × Name)
names_left s = option_to_list (option_map placed s.parent) ++ placed_from s.records.rest.start (records_left s.records)
