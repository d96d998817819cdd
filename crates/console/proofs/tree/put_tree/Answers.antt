use Rattle.console.specs.Tree.{tree_texts}
use Rattle.console.proofs.Turns.{in_turn}
use Rattle.console.proofs.tree.put_tree.Goals as goal

pub returns : goal.returns
unfolding tree_texts
returns c = rw (← c.count.ensures) (search in_turn depth 20)
