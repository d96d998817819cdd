-- The numbers are 0 to the count of the names less 1, without a gap.
use Rattle.map_file.specs.Book.{book}
use Rattle.map_file.specs.Laws.{NoGap}
use Rattle.map_file.proofs.BookLists.{at_some, at_below}

pub no_gap : NoGap
no_gap rs k = (λ x. at_below k (book rs) x.0 x.1, at_some k (book rs))
