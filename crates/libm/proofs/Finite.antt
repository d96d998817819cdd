-- What is finite, as std's `f64::is_finite` states it, and as the definitions do.
use mathlib.Core.Path.{◌≡◌, refl}
use Rattle.std.specs.Float.{Float, nan, inf, fin, float_is_finite}
use Rattle.std.specs.Float.Ieee.Scale.{finite}

pub is_finite_finite : (x : Float) → float_is_finite x ≡ finite x
unfolding float_is_finite
is_finite_finite nan = refl
is_finite_finite (inf s) = refl
is_finite_finite (fin s m e) = refl
