use mathlib.Core.Path.{◌≡◌, sym, ap, ◌∙◌}
use mathlib.Core.List.{◌∷◌}
use Prim.Native.Nat.{◌+◌}
use native.Mathlib.Omega.{arith}
use lib.ListN.{length}
use borrow.Author.Rules.{rules}
use Rattle.registry.specs.Store.{used_in, tree_of}
use Rattle.registry.specs.Calls.{words}
use Rattle.registry.specs.NextEdge.{told_from}
use Rattle.registry.proofs.NextEdge.{told_end, told_more}
use Rattle.registry.proofs.edges.EdgesIterator.next.Goals as goal

pub returns-then-used-self-clause-steps : goal.returns-then-used-self-clause-steps
returns-then-used-self-clause-steps c =
    let self = c.args.self.now in
    let s = words self.checked.store in
    let used : c.used.result ≡ used_in s = rw c.rows.ensures at c.used.ensures in
    let none = told_end s self.row (omega (arith, used, c.if-used-self.true)) in
    (none, none)

pub returns-clause-steps : goal.returns-clause-steps
returns-clause-steps c =
    let self = c.args.self.now in
    let s = words self.checked.store in
    let used : c.used.result ≡ used_in s = rw c.rows.ensures at c.used.ensures in
    told_more s self.row (omega (arith, used, c.if-used-self.false)) ∙ sym (ap (λ e. e ∷ told_from (self.row + 1) (tree_of s)) c.edge_at-edge.ensures)

pub returns-clause-goes : goal.returns-clause-goes
returns-clause-goes c =
    let self = c.args.self.now in
    let s = words self.checked.store in
    let used : c.used.result ≡ used_in s = rw c.rows.ensures at c.used.ensures in
    let fewer = ap (λ l. length l) (told_more s self.row (omega (arith, used, c.if-used-self.false))) in
    search (rules, fewer)
