-- Poses: a rotation followed by a translation.
use Rattle.std.specs.Prelude.{ℕ, Bool, not, ◌&&◌, Float}
use Rattle.std.specs.Prelude.{Option, None, Some}
use Rattle.time.specs.Float.{◌⊖◌, one64}
use Rattle.time.specs.Reply.{Reply, answer, nothing, ◌then◌, refuse}
use Rattle.time.specs.Timestamp.{share}
use Rattle.geometry.specs.declared.isometry.Isometry.{Isometry}
use Rattle.geometry.specs.declared.quaternion.Quaternion.{Quaternion}
use Rattle.geometry.specs.Vector3 as vector
use Rattle.geometry.specs.Quaternion as quaternion
use Rattle.geometry.specs.Quaternion.{conjugate, normalize, rotate_vector, slerp, minus_one}

abbrev pub identity : Isometry
identity = record { translation = vector.zero_vector; rotation = quaternion.identity }

-- all seven components are finite
abbrev pub is_finite : Isometry → Bool
is_finite a = vector.is_finite a.translation && quaternion.is_finite a.rotation

-- "a pose or refusal 3 when a component of the result is not finite" (M-103)
unfoldable pub finite : Isometry → Reply Isometry
finite a = refuse (not (is_finite a)) 3 nothing (answer a)

-- the steps of the product, whose result need not be finite
unfoldable pub product : Isometry → Isometry → Isometry
product a b = record {
  translation = vector.add (rotate_vector a.rotation b.translation) a.translation;
  rotation = quaternion.mul a.rotation b.rotation;
}

-- "Pose product": its steps, then 3
unfoldable pub mul : Isometry → Isometry → Reply Isometry
mul a b = finite (product a b)

-- the inverse, whose rotation is given; 3 for a translation that is not finite
unfoldable pub inverse_with_rotation : Isometry → Quaternion → Reply Isometry
inverse_with_rotation a rotation =
    let translation = vector.scale minus_one (rotate_vector rotation a.translation) in
    refuse (not (vector.is_finite translation)) 3 nothing (answer (record { translation = translation; rotation = rotation }))

-- the rotation is normalized first (13, 14)
unfoldable pub inverse : Isometry → Reply Isometry
inverse a = normalize a.rotation then λ q. inverse_with_rotation a (conjugate q)

-- the translation in proportion, also past the end, and the rotation by slerp
unfoldable pub between : Isometry → Isometry → Float → Isometry
between a b ratio = record {
  translation = vector.add (vector.scale (one64 ⊖ ratio) a.translation) (vector.scale ratio b.translation);
  rotation = slerp a.rotation b.rotation ratio;
}

-- the first pose where both ends have one instant, else the pose at the share
abbrev pub at_share : Isometry → Isometry → Option Float → Isometry
at_share a b None = a
at_share a b (Some ratio) = between a b ratio

-- the steps between the pose a at `from` and the pose b at `to`, whose result need not be finite; refusal 15 comes from the share
unfoldable pub interpolated : Isometry → Isometry → ℕ → ℕ → ℕ → Reply Isometry
interpolated a b from to query = share from to query then λ s. answer (at_share a b s)

-- "and interpolation": 15, then 3
unfoldable pub interpolate : Isometry → Isometry → ℕ → ℕ → ℕ → Reply Isometry
interpolate a b from to query = interpolated a b from to query then finite
