use Rattle.console.proofs.Turns.{in_turn}
use Rattle.console.proofs.dot.put_head.Goals as goal

pub returns : goal.returns
returns c = search in_turn depth 20
