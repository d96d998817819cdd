use Rattle.std.proofs.lemmas.Iterator.Consumers.{YieldsList-from_first, nth_from_yields_List}
use Rattle.map_file.specs.Files.{records_of}
use Rattle.map_file.specs.walks.Names.{placed}
use Rattle.map_file.specs.walks.Books.{book_left}
use Rattle.map_file.proofs.InBook.{told}
use Rattle.map_file.proofs.file.MapFile.name_of.Goals as goal

pub returns : goal.returns
returns c =
    let at = nth_from_yields_List c.nth.result c.nth.new.self c.args.frame c.nth.ensures.ran (YieldsList-from_first placed book_left _ c.book.ensures.names) in
    let t = told (records_of c.args.self.now) c.nth.result c.args.frame at in
    record { name = t.0; part = t.1 }
