-- Document 01's number and values for each case of this crate's error.
use Rattle.std.specs.Prelude.{ℕ}
use Rattle.time.specs.declared.error.TimeError.{TimeError}
use Rattle.time.specs.declared.error.TimeError.TheVariants as error
use Rattle.time.specs.Reply.{Carried, nothing}

abbrev pub refusal_of : TimeError → ℕ × Carried
refusal_of error.DurationUnderflow = (15, nothing)
