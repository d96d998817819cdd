use mathlib.Core.Path.{◌≡◌, ap, ◌∙◌}
use Prim.Native.Nat.{◌<◌}
use native.Mathlib.Omega.{arith}
use Rattle.std.specs.Prelude.{Some}
use Rattle.registry.specs.Store.{used_in}
use Rattle.registry.specs.Calls.{words}
use Rattle.registry.specs.layout.Rows.{FirstRow}
use Rattle.registry.proofs.NextEdge.{edge_of_row, edge_of_none}
use Rattle.registry.proofs.checked.Checked.edge_from.Goals as goal

pub returns-then-row-used : goal.returns-then-row-used
returns-then-row-used c =
    let s = words c.args.self.now.store in
    let r = c.row_from-row.result in
    let first : FirstRow s.head c.args.frame r = rw c.rows-rows.ensures at c.row_from-row.ensures in
    let used : r ≡ used_in s = c.if-row-used.true ∙ (rw c.rows-rows.ensures at c.used.ensures) in
    rw (edge_of_none s c.args.frame r first used)

pub returns : goal.returns
returns c =
    let s = words c.args.self.now.store in
    let r = c.row_from-row.result in
    let first : FirstRow s.head c.args.frame r = rw c.rows-rows.ensures at c.row_from-row.ensures in
    let used : c.used.result ≡ used_in s = rw c.rows-rows.ensures at c.used.ensures in
    let row_used : (r < used_in s) = omega (arith, first.used, c.if-row-used.false, used) in
    rw (edge_of_row s c.args.frame r first row_used) (ap (λ e. Some e) c.edge_at.ensures)

pub edge_at-requires : goal.edge_at-requires
edge_at-requires c =
    let s = words c.args.self.now.store in
    let r = c.row_from-row.result in
    let first : FirstRow s.head c.args.frame r = rw c.rows-rows.ensures at c.row_from-row.ensures in
    let used : c.used.result ≡ used_in s = rw c.rows-rows.ensures at c.used.ensures in
    omega (arith, first.used, c.if-row-used.false, used)
