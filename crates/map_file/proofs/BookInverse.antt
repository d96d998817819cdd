-- A name has the number whose name it is, and no other.
use mathlib.Core.Path.{◌≡◌, refl, sym, ap, ◌∙◌}
use mathlib.Core.Bool.{true, cond}
use Rattle.std.specs.Prelude.{None, Some}
use mathlib.Core.List.{List, []}
use Prim.Native.Nat.{ℕ}
use Rattle.buffer.proofs.Cases.{both, none_some}
use Rattle.map_file.specs.Form.{Name, Record}
use Rattle.map_file.specs.Book.{appearances, among, position, at_number, book}
use Rattle.map_file.specs.Laws.{BookInverse}
use Rattle.map_file.proofs.BookLists.{distinct, distinct_all, at_position, at_among, position_at}

book_distinct : (rs : List Record) → distinct (book rs) ≡ true
unfolding book
book_distinct rs = distinct_all [] (appearances rs) refl

named : (names : List Name) (name : Name) (k : ℕ) → cond (among name names) (Some (position name names)) None ≡ Some k → at_number k names ≡ Some name
named names name k h =
    both (among name names)
    (λ e. let at : position name names ≡ k = cc (rw e at h) in ap (λ (j : ℕ). at_number j names) (sym at) ∙ at_position name names e)
    (λ e. absurd (none_some (rw e at h)))

pub book_inverse : BookInverse
book_inverse rs name k = (
  named (book rs) name k,
  λ h. rw (at_among k (book rs) name h) (ap Some (position_at k (book rs) name (book_distinct rs) h)),
)
