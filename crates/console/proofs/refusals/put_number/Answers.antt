use Rattle.console.specs.Refusals.{number_texts}
use Rattle.console.proofs.Turns.{in_turn}
use Rattle.console.proofs.refusals.put_number.Goals as goal

pub returns : goal.returns
unfolding number_texts
returns c = search in_turn depth 20
