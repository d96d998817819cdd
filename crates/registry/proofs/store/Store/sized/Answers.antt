use mathlib.Core.Path.{◌≡◌, sym, ◌∙◌}
use lib.ListN.{length}
use borrow.Author.Tests.{le-leb, lt-leb}
use Rattle.registry.specs.Store.{head_length, rows_in, capacity_in, sized, sizes_fit}
use Rattle.registry.specs.Calls.{words}
use Rattle.registry.specs.layout.Rows.{HasHeader}
use Rattle.registry.proofs.store.Store.sized.Goals as goal

pub returns-in-Some : goal.returns-in-Some
unfolding sized
returns-in-Some c =
    let s = words c.args.self.now in
    let head : HasHeader s.head = rw c.in-Some.ensures at c.in-Some.head.header in
    let rows : c.rows.result ≡ rows_in s = rw c.in-Some.ensures at c.rows.ensures in
    let capacity : c.capacity.result ≡ capacity_in s = rw c.in-Some.ensures at c.capacity.ensures in
    c.sizes_fit.ensures ∙ (λ j. sizes_fit (rows j) (capacity j) s) ∙ sym (rw (le-leb (head_length 0) (length s.head) head))

pub returns-in-None : goal.returns-in-None
unfolding sized
returns-in-None c = let s = words c.args.self.now in sym (rw (lt-leb (head_length 0) (length s.head) c.in-None.ensures))
