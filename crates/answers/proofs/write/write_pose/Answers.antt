use Rattle.text.proofs.Behind.{writes_behind}
use Rattle.answers.proofs.write.write_pose.Goals as goal

pub returns : goal.returns
returns c = writes_behind (writes_behind c.write_bytes.ensures c.write_translation.ensures) c.write_rotation.ensures
