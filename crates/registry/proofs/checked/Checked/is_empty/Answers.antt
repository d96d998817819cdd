use mathlib.Core.Path.{sym, ap, ◌∙◌}
use Prim.Native.Nat.{ℕ}
use lib.Dec.{eqb}
use Rattle.registry.specs.Calls.{words}
use Rattle.registry.proofs.layout.TreeRows.{length_tree}
use Rattle.registry.proofs.checked.Checked.is_empty.Goals as goal

pub returns : goal.returns
returns c = ap (λ (n : ℕ). eqb n 0) ((rw c.rows.ensures at c.used.ensures) ∙ sym (length_tree (words c.args.self.now.store)))
