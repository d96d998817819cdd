use Rattle.console.specs.Why.{common_texts}
use Rattle.console.proofs.Turns.{in_turn}
use Rattle.console.proofs.why.put_common.Goals as goal

pub returns : goal.returns
unfolding common_texts
returns c = search in_turn depth 20
