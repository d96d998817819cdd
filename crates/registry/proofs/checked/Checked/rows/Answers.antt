use Rattle.registry.specs.Calls.{words}
use Rattle.registry.proofs.soundness.SoundStore.{sound_rows}
use Rattle.registry.proofs.checked.Checked.rows.Goals as goal

pub invariant_of-result : goal.invariant_of-result
invariant_of-result c = record { rising = sound_rows (words c.args.self.now.store) c.args.self.now.sound }
