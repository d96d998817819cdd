use mathlib.Core.Path.{sym, ◌∙◌}
use Prim.Native.Nat.{ℕ}
use borrow.Author.Tests.{tests}
use Rattle.std.proofs.Common.{rules}
use Rattle.std.proofs.lemmas.Iterator.Consumers.{YieldsList-from_first}
use Rattle.std.proofs.lemmas.Iterator.Search.{position_from_yields_List}
use Rattle.text.specs.Reading.{same}
use Rattle.map_file.specs.Form.{Name}
use Rattle.map_file.specs.Files.{records_of}
use Rattle.map_file.specs.walks.Names.{placed}
use Rattle.map_file.specs.walks.Books.{book_left}
use Rattle.map_file.proofs.BookSame.{same_eq}
use Rattle.map_file.proofs.InBook.{found}
use Rattle.map_file.proofs.file.MapFile.frame_of.Goals as goal

pub returns-in_err-frame : goal.returns-in_err-frame
returns-in_err-frame c =
    let a = c.args in
    let at = position_from_yields_List (λ (n : ℕ × Name). same a.name.now n.1) c.position.new.self _ _ c.position.ensures.ran (YieldsList-from_first placed book_left _ c.book.ensures.names) (λ x b q k. search (rules, tests, same_eq))
    ∙ found a.name.now (records_of a.self.now) in
    c.from_residual.ensures ∙ sym c.in_err-frame.was ∙ at

pub returns : goal.returns
returns c =
    let a = c.args in
    let at = position_from_yields_List (λ (n : ℕ × Name). same a.name.now n.1) c.position.new.self _ _ c.position.ensures.ran (YieldsList-from_first placed book_left _ c.book.ensures.names) (λ x b q k. search (rules, tests, same_eq))
    ∙ found a.name.now (records_of a.self.now) in
    sym c.in_ok-frame.was ∙ at
