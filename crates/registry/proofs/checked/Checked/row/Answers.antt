use Rattle.registry.specs.Calls.{words}
use Rattle.registry.proofs.soundness.SoundStore.{sound_row_words}
use Rattle.registry.proofs.checked.Checked.row.Goals as goal

pub invariant_of-result : goal.invariant_of-result
invariant_of-result c = record {
  held =
      rw (c.row_instants.ensures, c.row_poses.ensures, c.parts-parts.ensures, c.count.ensures, c.head-head.ensures, c.parts-parts.ensures)
      (sound_row_words (words c.args.self.now.store) c.args.self.now.sound c.args.r c.requires);
}
