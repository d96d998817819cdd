-- The absolute value as std's `f64::abs` states it, and as the definitions do.
use mathlib.Core.Path.{◌≡◌, refl}
use Rattle.std.specs.Float.{Float, nan, inf, fin, float_with_sign}
use Rattle.time.specs.Float.{abs}

pub unsigned_is_abs : (x : Float) → float_with_sign (mathlib.Core.Bool.false) x ≡ abs x
unfolding float_with_sign
unsigned_is_abs nan = refl
unsigned_is_abs (inf s) = refl
unsigned_is_abs (fin s m e) = refl
