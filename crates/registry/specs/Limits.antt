-- The limits that the code's struct says.
use Rattle.registry.specs.declared.limits.Limits.{Limits as Lent}
use Rattle.registry.specs.Tree.{Limits}

abbrev pub limits_by : Lent → Limits
limits_by l = record { rows = l.rows; capacity = l.samples; age = l.max_age }
