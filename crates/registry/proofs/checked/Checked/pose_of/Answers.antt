use mathlib.Core.Path.{◌∙◌}
use native.Mathlib.Omega.{arith}
use Rattle.buffer.specs.Samples.{served}
use Rattle.registry.specs.Calls.{words}
use Rattle.registry.proofs.layout.TreeRows.{get_absent}
use Rattle.registry.proofs.paths.SoundWalks.{sound_edge, sound_frame}
use Rattle.registry.proofs.checked.Checked.pose_of.Goals as goal

pub returns-in_default : goal.returns-in_default
returns-in_default c = rw (get_absent (words c.args.self.now.store) c.args.frame c.in_default.field-0 (rw c.rows-rows.ensures at c.in_default.ensures))

pub overflow_cast-child : goal.overflow_cast-child
overflow_cast-child c = let s = c.args.self.now in let fits = sound_frame (words s.store) s.sound c.args.frame c.in-Ok.row (rw c.rows-rows.ensures at c.in-Ok.ensures) in omega (arith, fits)

pub returns-in-Ok-serve : goal.returns-in-Ok-serve
returns-in-Ok-serve c =
    let s = c.args.self.now in
    let served = c.serve.ensures.reply c.args.frame ∙ (λ j. served c.args.frame (c.row-held.ensures.kind j) (c.row-held.ensures.samples j) c.args.t) in
    rw (sound_edge (words s.store) s.sound c.args.frame c.in-Ok.row (rw c.rows-rows.ensures at c.in-Ok.ensures), ← served, c.in-Ok-serve.is, c.parent.ensures, c.rows-rows.ensures)

pub returns-in-Err : goal.returns-in-Err
returns-in-Err c =
    let s = c.args.self.now in
    let served = c.serve.ensures.reply c.args.frame ∙ (λ j. served c.args.frame (c.row-held.ensures.kind j) (c.row-held.ensures.samples j) c.args.t) in
    rw (sound_edge (words s.store) s.sound c.args.frame c.in-Ok.row (rw c.rows-rows.ensures at c.in-Ok.ensures), ← served, c.in-Err.is, c.unserved.ensures)
