-- When a pose is valid: at all times, or at one instant.
use Rattle.std.specs.Prelude.{ℕ, Bool, true, false, Option, None, Some}
use Rattle.time.specs.declared.stamp.Stamp.{Stamp}
use Rattle.time.specs.declared.stamp.Stamp.TheVariants.{Static, At}

abbrev pub is_static : Stamp → Bool
is_static Static = true
is_static (At t) = false

-- the instant, none for what is valid at all times
abbrev pub at : Stamp → Option ℕ
at Static = None
at (At t) = Some t
