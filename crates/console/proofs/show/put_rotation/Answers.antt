use Rattle.console.specs.Show.{rotation_texts}
use Rattle.console.proofs.Turns.{in_turn}
use Rattle.console.proofs.show.put_rotation.Goals as goal

pub returns : goal.returns
unfolding rotation_texts
returns c = search in_turn depth 20
