use Rattle.std.proofs.Common.{◌-◌}
use Rattle.console.specs.Tree.{roots_texts}
use Rattle.console.specs.Reading.{tree_in}
use Rattle.console.proofs.Turns.{Leads}
use Rattle.console.proofs.tree.put_roots.Given as goal

-- the roots from `from` on are to be written
abbrev pub invariant-loop : goal.invariant-loop
invariant-loop l = Leads l.fn.out l.out (roots_texts 256 (tree_in l.store) 0) (roots_texts (256 - l.counter) (tree_in l.store) l.from)
