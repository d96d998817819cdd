-- What holds of the square root. Proved in proofs/ under the same name.
use Rattle.std.specs.Prelude.{ℕ, ◌+◌, ◌*◌, ◌^◌, ◌≤◌, ◌<◌, ◌≡◌, true, false, T, Float}
use Rattle.std.specs.Float.{binary64}
use Rattle.std.specs.Float.Ieee.{fits, lt}
use Rattle.std.specs.Float.Ieee.Exact.{HasValue}
use Rattle.std.specs.Float.Ieee.Scale.{finite}
use Rattle.time.specs.Float.{zero64}
use Rattle.libm.specs.Sqrt.{sqrt}

-- x is n * 2^-1074, exactly
abbrev pub Units : Float → ℕ → Type 0
Units x n = HasValue x false n (2 ^ 1074)

-- no f64 is nearer to the exact root of n than r: the root is not on the far side of the middle of r and any other v
abbrev pub Nearest : ℕ → ℕ → Type 0
Nearest n r = (y : Float) (v : ℕ) → T (fits binary64 y) → Units y v → (v < r → (v + r) * (v + r) ≤ 4 * n) × (r < v → 4 * n ≤ (v + r) * (v + r))

-- "Square root is the nearest f64 to the exact root, stated by squares of whole numbers, subnormals included."
abbrev pub SqrtNearest : Type 0
SqrtNearest = (x : Float) → T (fits binary64 x) → finite x ≡ true → lt zero64 x ≡ true
    → (m : ℕ) × (r : ℕ) × Units x m × Units (sqrt x) r × Nearest (m * 2 ^ 1074) r
