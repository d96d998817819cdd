use Rattle.console.proofs.Turns.{in_turn}
use Rattle.console.proofs.refusals.put_carried.Goals as goal

pub returns-in-Norm : goal.returns-in-Norm
returns-in-Norm c = rw c.in-Norm.is (search in_turn depth 20)
