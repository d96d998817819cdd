-- Exactly the names that appear have a number.
use mathlib.Core.List.{[]}
use Rattle.map_file.specs.Book.{appearances, book}
use Rattle.map_file.specs.Laws.{BookComplete}
use Rattle.map_file.proofs.BookLists.{among_numbered_all}

pub book_complete : BookComplete
unfolding book
book_complete rs name = among_numbered_all name [] (appearances rs)
