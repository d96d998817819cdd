use Rattle.registry.specs.Store.{limits_of}
use Rattle.registry.proofs.layout.head.Head.limits.Goals as goal

pub returns : goal.returns
unfolding limits_of
returns c = λ j. record { rows = c.rows.ensures j; capacity = c.capacity.ensures j; age = c.max_age.ensures j }
