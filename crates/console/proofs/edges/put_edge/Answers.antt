use Rattle.console.proofs.Turns.{in_turn}
use Rattle.console.proofs.edges.put_edge.Goals as goal

pub returns-in-Empty : goal.returns-in-Empty
returns-in-Empty c = rw c.in-Empty.is (search in_turn depth 20)
