use Rattle.console.specs.Show.{pose_texts}
use Rattle.console.proofs.Turns.{in_turn}
use Rattle.console.proofs.show.put_pose.Goals as goal

pub returns : goal.returns
unfolding pose_texts
returns c = search in_turn depth 20
