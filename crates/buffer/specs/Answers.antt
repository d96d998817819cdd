-- Document 01's number and values for each case of this crate's errors.
use Rattle.std.specs.Prelude.{ℕ, None, Some, ⊤}
use Rattle.time.specs.Reply.{Carried, nothing, hop}
use Rattle.geometry.specs.Answers.{refusal_of as transform_refusal_of}
use Rattle.buffer.specs.declared.error.GetError.{GetError}
use Rattle.buffer.specs.declared.error.GetError.TheVariants as get
use Rattle.buffer.specs.declared.error.InsertError.{InsertError}
use Rattle.buffer.specs.declared.error.InsertError.TheVariants as insert

-- of the hop with this child
abbrev pub refusal_of : ℕ → GetError → ℕ × Carried
refusal_of child get.NoTransformAvailable = (11, hop child None)
refusal_of child (get.OutOfRange start end) = (11, hop child (Some (start, end)))
refusal_of child (get.Interpolation e) = transform_refusal_of e

-- an error that is refusal 11, and none of the interpolation
abbrev pub IsUnserved : GetError → Type 0
IsUnserved get.NoTransformAvailable = ⊤
IsUnserved (get.OutOfRange start end) = ⊤
IsUnserved (get.Interpolation e) = ⊥

abbrev pub insert_refusal_of : InsertError → ℕ × Carried
insert_refusal_of insert.RowFull = (17, nothing)
