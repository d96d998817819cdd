-- The orders of refusals of the pose operations: "Inverse: 13, 14, 3. Interpolation: 15. Product: none.", and since M-103 a 3 that "comes last in each
-- order". Proved in proofs/Order.antt.
use Rattle.std.specs.Prelude.{ℕ, ◌≡◌, not, ◌&&◌, ◌||◌, List, [], ◌∷◌, eqb, ltb}
use Rattle.std.specs.Prelude.{Option, None}
use Rattle.std.specs.Float.Ieee.{lt}
use Rattle.std.specs.Float.Ieee.Scale.{finite}
use Rattle.time.specs.Float.{◌⊖◌, ◌⊘◌, one64, abs}
use Rattle.time.specs.Reply.{Carried, nothing, norm, Reply, answer, refusal}
use Rattle.time.specs.Order.{Dues, when, first_due, refused}
use Rattle.geometry.specs.declared.vector3.Vector3.{Vector3}
use Rattle.geometry.specs.declared.isometry.Isometry.{Isometry}
use Rattle.geometry.specs.Vector3 as vector
use Rattle.geometry.specs.Quaternion as quaternion
use Rattle.geometry.specs.Isometry.{is_finite, product, mul, inverse, interpolated, interpolate}
use Rattle.geometry.specs.Transform.{tolerance, validate}

-- 3: "a component of the result is not finite", where there is a result
abbrev pub overflow_due : Reply Isometry → Option Carried
overflow_due (answer p) = when (not (is_finite p)) nothing
overflow_due (refusal k c) = None

-- ---- product

abbrev pub product_order : List ℕ
product_order = 3 ∷ []

unfoldable pub product_due : Isometry → Isometry → Dues
product_due a b = (3, overflow_due (answer (product a b))) ∷ []

abbrev pub ProductFirstDue : Type 0
ProductFirstDue = (a b : Isometry) → refused (mul a b) ≡ first_due (product_due a b) product_order

-- ---- inverse

abbrev pub inverse_order : List ℕ
inverse_order = 13 ∷ 14 ∷ 3 ∷ []

-- "an inverse's translation": minus the translation, turned back
abbrev pub inverse_translation : Isometry → Vector3
inverse_translation a =
    let back = quaternion.conjugate (quaternion.scale a.rotation (one64 ⊘ quaternion.norm a.rotation)) in
    vector.scale quaternion.minus_one (quaternion.rotate_vector back a.translation)

-- 3: its translation is not finite; 13: the norm is not finite; 14: the norm is below 2^-52
unfoldable pub inverse_due : Isometry → Dues
inverse_due a =
    (3, when (not (vector.is_finite (inverse_translation a))) nothing)
    ∷ (13, when (not (finite (quaternion.norm a.rotation))) nothing)
    ∷ (14, when (lt (quaternion.norm a.rotation) quaternion.epsilon) nothing)
    ∷ []

abbrev pub InverseFirstDue : Type 0
InverseFirstDue = (a : Isometry) → refused (inverse a) ≡ first_due (inverse_due a) inverse_order

-- ---- interpolation

abbrev pub interpolation_order : List ℕ
interpolation_order = 15 ∷ 3 ∷ []

-- 15: "its ends at two instants: end, else query, before start"
unfoldable pub interpolation_due : Isometry → Isometry → ℕ → ℕ → ℕ → Dues
interpolation_due a b start end query =
    (3, overflow_due (interpolated a b start end query))
    ∷ (15, when (not (eqb start end) && (ltb end start || ltb query start)) nothing)
    ∷ []

abbrev pub InterpolationFirstDue : Type 0
InterpolationFirstDue = (a b : Isometry) (start end query : ℕ)
    → refused (interpolate a b start end query) ≡ first_due (interpolation_due a b start end query) interpolation_order

-- ---- what an added pose must pass

-- 3: a component is not finite; 4: "tolerance passed; the norm"
unfoldable pub pose_due : Isometry → Dues
pose_due a =
    (3, when (not (vector.is_finite a.translation && quaternion.is_finite a.rotation)) nothing)
    ∷ (4, when (lt tolerance (abs (quaternion.norm a.rotation ⊖ one64))) (norm (quaternion.norm a.rotation)))
    ∷ []

abbrev pub ValidateFirstDue : Type 0
ValidateFirstDue = (a : Isometry) → refused (validate a) ≡ first_due (pose_due a) (3 ∷ 4 ∷ [])
