-- The additions of a map, record by record: the number of a name is told by the names that have one before the record.
use Prim.Native.Nat.{suc}
use mathlib.Core.Path.{◌≡◌, refl, sym, ap, ◌∙◌}
use mathlib.Core.Bool.{true, false}
use mathlib.Core.List.{List, [], ◌∷◌, map}
use lib.ListN.{length}
use Rattle.text.specs.Reading.{same}
use Rattle.time.specs.declared.stamp.Stamp.TheVariants.{Static}
use Rattle.buffer.proofs.Cases.{both, false_true}
use Rattle.registry.specs.Tree.{Addition, addition}
use Rattle.map_file.specs.Form.{Name, Record}
use Rattle.map_file.specs.Book.{appearances, among, numbered, numbered_all, book, position}
use Rattle.map_file.specs.Reads.{pose_of_words}
use Rattle.map_file.proofs.BookSame.{same_self}
use Rattle.map_file.proofs.BookLists.{among_numbered, goes_on, position_append, position_behind}
use Rattle.map_loading.specs.Loading.{addition_of, additions}
use Rattle.map_loading.specs.Numbering.{names_after, addition_after}

-- the additions of records, where these names have numbers before them
abbrev pub additions_after : List Name → List Record → List Addition
additions_after names [] = []
additions_after names (r ∷ rs) = addition_after names r ∷ additions_after (names_after names r) rs

-- ---- the number of a name is the same however many names come later

pub position_absent : (n : Name) (names : List Name) → among n names ≡ false → position n names ≡ length names
position_absent n [] e = refl
position_absent n (m ∷ names) e =
    both (same n m)
    (λ s. absurd (false_true (sym e ∙ rw s)))
    (λ s. rw s (ap suc (position_absent n names (rw s at e))))

pub among_self : (n : Name) (names : List Name) → among n (numbered names n) ≡ true
among_self n names = among_numbered n names n ∙ both (among n names) (λ e. rw e) (λ e. rw (e, same_self n))

pub position_numbered : (n : Name) (names : List Name) → position n (numbered names n) ≡ position n names
position_numbered n names = both (among n names) (λ e. rw e) (λ e. rw e (position_behind n names [] e ∙ sym (position_absent n names e)))

position_later : (n : Name) (names later : List Name) → position n (numbered_all (numbered names n) later) ≡ position n names
position_later n names later =
    let on = goes_on (numbered names n) later in
    ap (λ (l : List Name). position n l) on.is
    ∙ position_append n (numbered names n) on.more (among_self n names)
    ∙ position_numbered n names

additions_later : (names : List Name) (rs : List Record) → map (addition_of (numbered_all names (appearances rs))) rs ≡ additions_after names rs
additions_later names [] = refl
additions_later names (r ∷ rs) =
    let child = position_later r.child names (r.parent ∷ appearances rs) in
    let parent = position_later r.parent (numbered names r.child) (appearances rs) in
    λ i. addition (child i) (parent i) Static (pose_of_words r.pose) ∷ additions_later (names_after names r) rs i

-- the additions of a map
pub additions_are : (rs : List Record) → additions rs ≡ additions_after [] rs
unfolding additions book
additions_are rs = additions_later [] rs
