-- Translations, component by component.
use Rattle.std.specs.Prelude.{Bool, ◌&&◌, Float}
use Rattle.std.specs.Float.Ieee.Scale.{finite}
use Rattle.time.specs.Float.{◌⊕◌, ◌⊗◌, zero64}
use Rattle.geometry.specs.declared.vector3.Vector3.{Vector3}

abbrev pub zero_vector : Vector3
zero_vector = record { x = zero64; y = zero64; z = zero64 }

abbrev pub add : Vector3 → Vector3 → Vector3
add a b = record { x = a.x ⊕ b.x; y = a.y ⊕ b.y; z = a.z ⊕ b.z }

abbrev pub scale : Float → Vector3 → Vector3
scale factor a = record { x = factor ⊗ a.x; y = factor ⊗ a.y; z = factor ⊗ a.z }

abbrev pub is_finite : Vector3 → Bool
is_finite a = finite a.x && finite a.y && finite a.z
