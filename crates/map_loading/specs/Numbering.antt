-- The names that have numbers while a map is loaded, as the contracts of the private functions cite them. No public contract rests on these.
use Rattle.std.specs.Prelude.{List, map, take}
use Rattle.time.specs.declared.stamp.Stamp.TheVariants.{Static}
use Rattle.registry.specs.Tree.{Addition, addition}
use Rattle.map_file.specs.Form.{Name, Record}
use Rattle.map_file.specs.Book.{numbered, position}
use Rattle.map_file.specs.Reads.{pose_of_words}
use Rattle.map_loading.specs.declared.names.NumberedNames.{NumberedNames}

-- by their numbers
abbrev pub names_of : NumberedNames → List Name
names_of s = map (λ n. n.now) (take s.count s.table.now)

-- the names with numbers behind a record, where these had one before it
abbrev pub names_after : List Name → Record → List Name
names_after names r = numbered (numbered names r.child) r.parent

-- its addition
abbrev pub addition_after : List Name → Record → Addition
addition_after names r = addition (position r.child names) (position r.parent (numbered names r.child)) Static (pose_of_words r.pose)
