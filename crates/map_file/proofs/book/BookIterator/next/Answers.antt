use native.Mathlib.Omega.{arith}
use Rattle.std.proofs.Common.{rules}
use borrow.Author.Tests.{tests}
use Rattle.std.specs.Prelude.{filter}
use Rattle.map_file.specs.walks.Names.{placed, names_left}
use Rattle.map_file.specs.walks.Books.{appears_first, book_left}
use Rattle.map_file.proofs.Finding.{find_passes, numbered_view, numbered_rest, numbered_each, unnumbered, still_counts, progress}
use Rattle.map_file.proofs.book.BookIterator.next.Goals as goal

pub invariant_of-self : goal.invariant_of-self
invariant_of-self c =
    let ran = c.find.ensures.ran in
    record { counted = omega (arith, still_counts placed names_left ran.0 _ c.args.self.now.left c.find.new.self ran.2) }

pub returns : goal.returns
returns c =
    let s = c.args.self.now in
    let first = appears_first (names_left s.all) in
    let found = find_passes _ (numbered_view placed names_left) (numbered_rest placed names_left) first _ _ (numbered_each placed names_left) (λ x b q k. search (rules, tests)) c.find.result _ c.find.new.self c.find.ensures.ran in
    let given = unnumbered placed names_left (λ i. filter first (numbered_rest placed names_left i)) s.left c.find.result c.find.new.self c.map.result found (search rules) in
    record { steps = given; goes = progress placed book_left _ _ _ given }
