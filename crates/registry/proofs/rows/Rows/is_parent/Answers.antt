use mathlib.Core.Path.{sym, ◌∙◌}
use native.Mathlib.Omega.{arith}
use Rattle.registry.proofs.paths.EdgesOfRows.{parent_found, parent_nowhere}
use Rattle.registry.proofs.rows.Rows.is_parent.Goals as goal

pub returns-then-parent-frame : goal.returns-then-parent-frame
returns-then-parent-frame c = let a = c.args in
    parent_found a.self.now.head.now a.frame c.loop-row.row (omega (arith, c.used-row-end.ensures)) (sym c.parent.ensures ∙ c.if-parent-frame.true)

pub returns : goal.returns
returns c = let a = c.args in
    parent_nowhere a.self.now.head.now a.frame (λ r u. c.loop-row.invariant r (omega (arith, c.used-row-end.ensures)))
