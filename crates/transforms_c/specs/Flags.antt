-- Flags from C: 0 is no, anything else yes.
use Rattle.std.specs.Prelude.{ℕ, cond, eqb}
use Rattle.std.specs.Prelude.{Option, None, Some}
use Rattle.time.specs.declared.stamp.Stamp.{Stamp}
use Rattle.time.specs.declared.stamp.Stamp.TheVariants.{Static, At}

-- has_max_age and max_age: the age, if there is one
abbrev pub age_of_flag : ℕ → ℕ → Option ℕ
age_of_flag flag age = cond (eqb flag 0) None (Some age)

-- is_static and instant: for ever, or at the instant
abbrev pub stamp_of_flag : ℕ → ℕ → Stamp
stamp_of_flag flag instant = cond (eqb flag 0) (At instant) Static
