-- Rotations as quaternions, in the Rust's order of float steps; slerp is Shoemake's.
use Rattle.std.specs.Prelude.{Bool, ◌&&◌, not, cond, Float}
use Rattle.std.specs.Float.{binary64}
use Rattle.std.specs.Float.Ieee.{neg, lt, of_bits}
use Rattle.std.specs.Float.Ieee.Scale.{finite}
use Rattle.time.specs.Float.{◌⊕◌, ◌⊖◌, ◌⊗◌, ◌⊘◌, zero64, one64}
use Rattle.time.specs.Reply.{Reply, answer, nothing, refuse}
use Rattle.geometry.specs.declared.vector3.Vector3.{Vector3}
use Rattle.geometry.specs.declared.quaternion.Quaternion.{Quaternion}
use Rattle.libm.specs.Sqrt.{sqrt}
use Rattle.libm.specs.Libm.{acos, sin, clamp}

-- 2^-52, and -1.0
abbrev pub epsilon : Float
epsilon = of_bits binary64 0x3cb0_0000_0000_0000

abbrev pub minus_one : Float
minus_one = neg one64

abbrev pub identity : Quaternion
identity = record { w = one64; x = zero64; y = zero64; z = zero64 }

abbrev pub conjugate : Quaternion → Quaternion
conjugate a = record { w = a.w; x = neg a.x; y = neg a.y; z = neg a.z }

abbrev pub scale : Quaternion → Float → Quaternion
scale a factor = record { w = a.w ⊗ factor; x = a.x ⊗ factor; y = a.y ⊗ factor; z = a.z ⊗ factor }

abbrev pub mul : Quaternion → Quaternion → Quaternion
mul a b = record {
  w = a.w ⊗ b.w ⊖ a.x ⊗ b.x ⊖ a.y ⊗ b.y ⊖ a.z ⊗ b.z;
  x = a.w ⊗ b.x ⊕ a.x ⊗ b.w ⊕ a.y ⊗ b.z ⊖ a.z ⊗ b.y;
  y = a.w ⊗ b.y ⊖ a.x ⊗ b.z ⊕ a.y ⊗ b.w ⊕ a.z ⊗ b.x;
  z = a.w ⊗ b.z ⊕ a.x ⊗ b.y ⊖ a.y ⊗ b.x ⊕ a.z ⊗ b.w;
}

abbrev pub weighted_sum : Quaternion → Float → Quaternion → Float → Quaternion
weighted_sum a wa b wb = record {
  w = a.w ⊗ wa ⊕ b.w ⊗ wb;
  x = a.x ⊗ wa ⊕ b.x ⊗ wb;
  y = a.y ⊗ wa ⊕ b.y ⊗ wb;
  z = a.z ⊗ wa ⊕ b.z ⊗ wb;
}

abbrev pub dot : Quaternion → Quaternion → Float
dot a b = a.w ⊗ b.w ⊕ a.x ⊗ b.x ⊕ a.y ⊗ b.y ⊕ a.z ⊗ b.z

abbrev pub norm : Quaternion → Float
norm a = sqrt (dot a a)

abbrev pub is_finite : Quaternion → Bool
is_finite a = finite a.w && finite a.x && finite a.y && finite a.z

-- a non-finite norm first (13), then a norm below 2^-52 (14)
unfoldable pub normalize : Quaternion → Reply Quaternion
normalize a =
    refuse (not (finite (norm a))) 13 nothing
    (refuse (lt (norm a) epsilon) 14 nothing
    (answer (scale a (one64 ⊘ norm a))))

-- the vector part of q v q*, v being the vector part of a quaternion with w = 0
unfoldable pub rotate_vector : Quaternion → Vector3 → Vector3
rotate_vector q v =
    let p = mul (mul q (record { w = zero64; x = v.x; y = v.y; z = v.z })) (conjugate q) in
    record { x = p.x; y = p.y; z = p.z }

-- the weighted sum brought to norm 1; one with norm below 2^-52 stays unscaled
unfoldable pub blend : Quaternion → Quaternion → Float → Quaternion
blend a b t =
    let sum = weighted_sum a (one64 ⊖ t) b t in
    cond (lt (norm sum) epsilon) sum (scale sum (one64 ⊘ norm sum))

-- Shoemake's weights for two rotations at the angle theta
unfoldable pub arc : Quaternion → Quaternion → Float → Float → Quaternion
arc a b theta t = weighted_sum a (sin ((one64 ⊖ t) ⊗ theta) ⊘ sin theta) b (sin (t ⊗ theta) ⊘ sin theta)

-- two rotations with the dot d: a blend where it is above 1 - 2^-52, else along the arc
unfoldable pub between : Quaternion → Quaternion → Float → Float → Quaternion
between a b d t = cond (lt (one64 ⊖ epsilon) d) (blend a b t) (arc a b (acos d) t)

-- the second rotation is flipped where the dot is below zero; the share is held from 0 to 1
unfoldable pub slerp : Quaternion → Quaternion → Float → Quaternion
slerp a b share =
    let t = clamp share zero64 one64 in
    let d = dot a b in
    cond (lt d zero64)
    (between a (scale b minus_one) (clamp (neg d) minus_one one64) t)
    (between a b (clamp d minus_one one64) t)
