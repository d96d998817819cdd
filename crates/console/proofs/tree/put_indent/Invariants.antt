use Rattle.std.proofs.Common.{◌-◌}
use Rattle.std.specs.Prelude.{replicate}
use Rattle.text.specs.Ascii.{ascii}
use Rattle.console.specs.Tree.{indent_texts}
use Rattle.console.proofs.Turns.{Leads}
use Rattle.console.proofs.tree.put_indent.Given as goal

-- the indent of the levels that are left is to be written
abbrev pub invariant-loop : goal.invariant-loop
invariant-loop l = Leads l.fn.out l.out (indent_texts l.level) (replicate (l.level - l.counter) (ascii "  "))
