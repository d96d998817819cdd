use Rattle.console.specs.Show.{question_texts}
use Rattle.console.proofs.Turns.{in_turn}
use Rattle.console.proofs.show.put_question.Goals as goal

pub returns : goal.returns
unfolding question_texts
returns c = search in_turn depth 20
