use Rattle.console.specs.Refusals.{hop_texts}
use Rattle.console.proofs.Turns.{in_turn}
use Rattle.console.proofs.refusals.put_hop.Goals as goal

pub returns-in-Some : goal.returns-in-Some
unfolding hop_texts
returns-in-Some c = rw c.in-Some.is (search in_turn depth 20)

pub returns-in-None : goal.returns-in-None
unfolding hop_texts
returns-in-None c = rw c.in-None.is (search in_turn depth 20)
