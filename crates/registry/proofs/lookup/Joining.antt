-- What comes out of a lookup, tested. Of two empty sides it is the identity.
use mathlib.Core.Path.{◌≡◌, refl}
use Rattle.std.specs.Prelude.{None}
use lib.Ieee.{of_bits}
use Rattle.time.specs.Reply.{Reply, answer, ◌then◌}
use Rattle.geometry.specs.declared.isometry.Isometry.{Isometry}
use Rattle.geometry.specs.Isometry.{identity, finite as finitePose}
use Rattle.registry.specs.Answers.{Value, pose}
use Rattle.registry.specs.Path.{combined}

-- the test of what comes out
abbrev pub tested : Isometry → Reply Value
tested out = finitePose out then λ p. answer (pose p)

-- nothing is inverted and nothing overflows
pub empty_sides : combined None None ≡ answer (pose identity)
unfolding finitePose of_bits
empty_sides = refl
