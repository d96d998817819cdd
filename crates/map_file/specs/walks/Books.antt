-- The names that are left of a book, as the contracts of the private functions cite them. No public contract rests on this.
use Rattle.std.specs.Prelude.{ℕ, Bool, not, List, take, filter, map}
use Rattle.std.specs.List.{enumerate_from}
use Rattle.std.specs.Iterator.Adapters.{enumerate_source, enumerate_count}
use Rattle.map_file.specs.Form.{Name, Record}
use Rattle.map_file.specs.Book.{among, book, part_of}
use Rattle.map_file.specs.walks.Names.{names_left}
use Rattle.map_file.specs.declared.book.Book.{Book}

-- the name at a place is none of those before it
abbrev pub appears_first : List (ℕ × Name) → ℕ × (ℕ × Name) → Bool
appears_first names n = not (among n.1.1 (map (λ m. m.1) (take n.0 names)))

-- the names that are left, each where it first appears
abbrev pub book_left : Book → List (ℕ × Name)
book_left s = map (λ n. n.1) (filter (appears_first (names_left s.all)) (enumerate_from (enumerate_count s.left) (names_left (enumerate_source s.left))))

-- the names of a whole book, each where it first stands in the file
abbrev pub book_from : List Record → List (ℕ × Name)
book_from rs = map (λ name. ((part_of rs name).0, name)) (book rs)
