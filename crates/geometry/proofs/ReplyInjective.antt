-- A reply fixes the result, its pose or the error's case and its values: the result can be read back from it.
use mathlib.Core.Path.{◌≡◌, refl, sym, ap, ◌∙◌}
use mathlib.Core.Bool.{cond}
use lib.Dec.{eqb}
use Rattle.std.specs.Prelude.{Result, Ok, Err}
use Rattle.time.specs.declared.error.TimeError.TheVariants as time
use Rattle.time.specs.Reply.{Reply, answer, refusal, nothing, norm, frame, hop, reply_by}
use Rattle.geometry.specs.declared.isometry.Isometry.{Isometry}
use Rattle.geometry.specs.declared.error.QuaternionError.TheVariants as quaternion
use Rattle.geometry.specs.declared.error.TransformError.{TransformError}
use Rattle.geometry.specs.declared.error.TransformError.TheVariants.{NonUnitRotation, NonFiniteValues, TimestampError, QuaternionError}
use Rattle.geometry.specs.Answers.{refusal_of}
use Rattle.geometry.specs.Laws.{ReplyInjective}

read_back : Reply Isometry → Result Isometry TransformError
read_back (answer a) = Ok a
read_back (refusal k nothing) =
    Err (cond (eqb k 3) NonFiniteValues (cond (eqb k 13) (QuaternionError quaternion.NonFinite) (cond (eqb k 14) (QuaternionError quaternion.ZeroLengthNormalization) (TimestampError time.DurationUnderflow))))
read_back (refusal k (norm n)) = Err (NonUnitRotation n)
read_back (refusal k (frame f)) = Err NonFiniteValues
read_back (refusal k (hop f range)) = Err NonFiniteValues

back : (a : Result Isometry TransformError) → read_back (reply_by refusal_of a) ≡ a
unfolding read_back
back (Ok a) = refl
back (Err NonFiniteValues) = refl
back (Err (NonUnitRotation n)) = refl
back (Err (QuaternionError quaternion.NonFinite)) = refl
back (Err (QuaternionError quaternion.ZeroLengthNormalization)) = refl
back (Err (TimestampError time.DurationUnderflow)) = refl

pub reply_injective : ReplyInjective
reply_injective a b e = sym (back a) ∙ ap read_back e ∙ back b
