-- What a pose must be to be added: `validate` and its tolerance.
use Rattle.std.specs.Prelude.{Bool, true, false, not, ◌&&◌, Float}
use Rattle.std.specs.Float.{binary64}
use Rattle.std.specs.Float.Ieee.{lt, of_bits}
use Rattle.time.specs.Float.{◌⊖◌, one64, abs}
use Rattle.time.specs.Reply.{Reply, answer, refusal, norm, nothing, refuse}
use Rattle.geometry.specs.declared.isometry.Isometry.{Isometry}
use Rattle.geometry.specs.Vector3 as vector
use Rattle.geometry.specs.Quaternion as quaternion

-- UNIT_NORM_TOLERANCE: 1e-6
abbrev pub tolerance : Float
tolerance = of_bits binary64 0x3eb0_c6f7_a0b5_ed8d

-- seven finite components first (3), then abs(norm - 1) > 1e-6 refuses (4, with the norm)
unfoldable pub validate : Isometry → Reply Isometry
validate a =
    let n = quaternion.norm a.rotation in
    refuse (not (vector.is_finite a.translation && quaternion.is_finite a.rotation)) 3 nothing
    (refuse (lt tolerance (abs (n ⊖ one64))) 4 (norm n)
    (answer a))

-- a pose, and no refusal
abbrev pub passes : Reply Isometry → Bool
passes (answer a) = true
passes (refusal k c) = false

-- whether a pose passes `validate`
abbrev pub is_valid : Isometry → Bool
is_valid a = passes (validate a)
