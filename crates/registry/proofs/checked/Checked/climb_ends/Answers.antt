use Rattle.registry.specs.Calls.{words}
use Rattle.registry.proofs.paths.SoundWalks.{sound_ends}
use Rattle.registry.proofs.checked.Checked.climb_ends.Goals as goal

pub returns : goal.returns
returns c = let checked = c.args.self.now in sound_ends (words checked.store) checked.sound c.args.target c.args.source _ _ (rw c.rows.ensures at c.climb_ends.ensures)
