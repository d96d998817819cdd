use Rattle.std.proofs.Common.{◌∙◌, rules}
use Rattle.console.proofs.Scaling.{multiplied_steps}
use Rattle.console.proofs.figures.multiplied.Goals as goal

pub returns : goal.returns
returns c = c.scaled.ensures _ _ (λ x r k. search rules) (λ x r k. search rules) ∙ multiplied_steps 400 c.args.x 0
