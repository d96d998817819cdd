-- A name's number is how many other names appear before it does.
use mathlib.Core.Path.{◌≡◌, ap, ◌∙◌}
use mathlib.Core.Bool.{false, cond}
use Rattle.std.specs.Prelude.{None, Some}
use mathlib.Core.List.{List, [], ◌∷◌, ◌++◌}
use lib.ListN.{length}
use Rattle.map_file.specs.Form.{Name}
use Rattle.map_file.specs.Book.{among, numbered_all, position, book}
use Rattle.map_file.specs.Laws.{ByFirstAppearance}
use Rattle.map_file.proofs.BookSame.{same_self}
use Rattle.map_file.proofs.BookLists.{among_append, position_behind, first_stands}

frame_behind : (names : List Name) (name : Name) (front rest : List Name) → names ≡ front ++ (name ∷ rest) → among name front ≡ false
    → cond (among name names) (Some (position name names)) None ≡ Some (length front)
frame_behind names name front rest e h = rw (e, among_append name front (name ∷ rest), h, same_self name) (ap Some (position_behind name front rest h))

pub by_first_appearance : ByFirstAppearance
unfolding book
by_first_appearance rs before after name e h =
    let s = first_stands before name after h in
    frame_behind (book rs) name (numbered_all [] before) s.more (ap (numbered_all []) e ∙ s.is) s.new
