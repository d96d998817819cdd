use Rattle.registry.specs.Calls.{words}
use Rattle.registry.proofs.soundness.Checking.{sound_parts}
use Rattle.registry.proofs.checked.Checked.parts.Goals as goal

pub invariant_of-result : goal.invariant_of-result
invariant_of-result c = record { within = sound_parts (words c.args.self.now.store) c.args.self.now.sound }
