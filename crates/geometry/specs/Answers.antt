-- Document 01's number and values for each case of this crate's errors.
use Rattle.std.specs.Prelude.{ℕ}
use Rattle.time.specs.Reply.{Carried, nothing, norm}
use Rattle.time.specs.Answers.{refusal_of as time_refusal_of}
use Rattle.geometry.specs.declared.error.QuaternionError.{QuaternionError}
use Rattle.geometry.specs.declared.error.QuaternionError.TheVariants as quaternion
use Rattle.geometry.specs.declared.error.TransformError.{TransformError}
use Rattle.geometry.specs.declared.error.TransformError.TheVariants as transform

abbrev pub quaternion_refusal_of : QuaternionError → ℕ × Carried
quaternion_refusal_of quaternion.NonFinite = (13, nothing)
quaternion_refusal_of quaternion.ZeroLengthNormalization = (14, nothing)

abbrev pub refusal_of : TransformError → ℕ × Carried
refusal_of transform.NonFiniteValues = (3, nothing)
refusal_of (transform.NonUnitRotation n) = (4, norm n)
refusal_of (transform.QuaternionError e) = quaternion_refusal_of e
refusal_of (transform.TimestampError e) = time_refusal_of e
