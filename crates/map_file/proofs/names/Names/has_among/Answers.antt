use mathlib.Core.Path.{ap, ◌∙◌}
use Rattle.std.proofs.Common.{rules}
use borrow.Author.Tests.{tests}
use lib.ListN.{take}
use Rattle.std.proofs.lemmas.Iterator.{YieldsList-from_take}
use Rattle.std.proofs.lemmas.Iterator.Consumers.{YieldsList-from_first}
use Rattle.std.proofs.lemmas.Iterator.Search.{any_from_yields_List}
use Rattle.text.specs.Reading.{same}
use Rattle.map_file.specs.walks.Names.{placed, names_left}
use Rattle.map_file.proofs.BookSame.{same_eq, among_placed}
use Rattle.map_file.proofs.names.Names.has_among.Goals as goal

pub returns : goal.returns
returns c =
    let a = c.args in
    let taken = YieldsList-from_take _ (YieldsList-from_first placed names_left _ (ap names_left c.take.ensures.source)) c.take.ensures.count in
    any_from_yields_List (λ n. same a.name.now n.1) c.any.new.self _ _ c.any.ensures.ran taken (λ x b q k. search (rules, tests, same_eq))
    ∙ among_placed a.name.now (take a.count (names_left a.self))
