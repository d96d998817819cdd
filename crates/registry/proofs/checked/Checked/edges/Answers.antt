use mathlib.Core.Path.{refl}
use Rattle.registry.specs.NextEdge.{told_from}
use Rattle.registry.proofs.checked.Checked.edges.Goals as goal

pub returns : goal.returns
unfolding told_from
returns c = refl
