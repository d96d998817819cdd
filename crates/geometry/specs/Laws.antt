-- What holds of the answers. Proved in proofs/ under the same name.
use Rattle.std.specs.Prelude.{ℕ, ◌≡◌, true, Result}
use Rattle.time.specs.Reply.{answer, reply_by}
use Rattle.geometry.specs.declared.isometry.Isometry.{Isometry}
use Rattle.geometry.specs.declared.error.TransformError.{TransformError}
use Rattle.geometry.specs.Answers.{refusal_of}
use Rattle.geometry.specs.Isometry.{is_finite, product, mul, inverse, interpolate}
use Rattle.geometry.specs.Transform.{validate}

-- a reply fixes the result: its pose, or the error's case and its values
abbrev pub ReplyInjective : Type 0
ReplyInjective = (a b : Result Isometry TransformError) → reply_by refusal_of a ≡ reply_by refusal_of b → a ≡ b

-- "No overflowed pose leaves the module" (M-103): a pose that an operation answers is finite
pub record AnswersFinite : Type 0 where
  pub products : (a b p : Isometry) → mul a b ≡ answer p → is_finite p ≡ true
  pub inverses : (a p : Isometry) → inverse a ≡ answer p → is_finite p ≡ true
  pub interpolations : (a b : Isometry) (from to query : ℕ) (p : Isometry) → interpolate a b from to query ≡ answer p → is_finite p ≡ true
  pub validations : (a p : Isometry) → validate a ≡ answer p → is_finite p ≡ true

-- What is not finite stays so through further steps: a product is finite only where both factors are, and only a finite pose has an inverse.
pub record OverflowStays : Type 0 where
  pub products : (a b : Isometry) → is_finite (product a b) ≡ true → (is_finite a ≡ true) × (is_finite b ≡ true)
  pub inverses : (a p : Isometry) → inverse a ≡ answer p → is_finite a ≡ true
