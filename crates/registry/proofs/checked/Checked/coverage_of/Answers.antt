use Rattle.registry.specs.Calls.{words}
use Rattle.registry.proofs.layout.TreeRows.{get_absent}
use Rattle.registry.proofs.paths.SoundWalks.{sound_edge}
use Rattle.registry.proofs.checked.Checked.coverage_of.Goals as goal

pub returns : goal.returns
returns c = let s = c.args.self.now in
    rw (sound_edge (words s.store) s.sound c.args.frame c.in-Ok.row (rw c.rows-rows.ensures at c.in-Ok.ensures), c.row_coverage.ensures, c.parent-parent.ensures, c.rows-rows.ensures)

pub returns-in_default : goal.returns-in_default
returns-in_default c = rw (get_absent (words c.args.self.now.store) c.args.frame c.in_default.field-0 (rw c.rows-rows.ensures at c.in_default.ensures))
