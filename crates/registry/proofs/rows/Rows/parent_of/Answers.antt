use mathlib.Core.Path.{ap}
use Rattle.std.specs.Prelude.{Some}
use Rattle.registry.specs.Calls.{store_of}
use Rattle.registry.proofs.layout.TreeRows.{get_found, get_absent}
use Rattle.registry.proofs.rows.Rows.parent_of.Goals as goal

pub returns-in-Ok : goal.returns-in-Ok
returns-in-Ok c i p = rw (get_found (store_of c.args.self.now.head.now i p) c.args.self.now.rising.rises c.args.frame _ c.in-Ok.ensures)
    (ap Some c.parent.ensures)

pub returns-in-Err : goal.returns-in-Err
returns-in-Err c i p = rw (get_absent (store_of c.args.self.now.head.now i p) c.args.frame _ c.in-Err.ensures)
