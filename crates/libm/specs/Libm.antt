-- Arc cosine and sine by document 01's steps, from the last term of each series to its first, and clamping.
use Rattle.std.specs.Prelude.{ℕ, zero, suc, ◌+◌, ◌-◌, ◌*◌, cond, Float}
use Rattle.std.specs.Float.Ieee.{lt}
use Rattle.time.specs.Float.{◌⊕◌, ◌⊖◌, ◌⊗◌, ◌⊘◌, whole, one64, two64}
use Rattle.libm.specs.Sqrt.{sqrt}

-- (2k-1)^2 and 2k(2k+1)
abbrev pub numerator : ℕ → ℕ
numerator k = (2 * k - 1) * (2 * k - 1)

abbrev pub denominator : ℕ → ℕ
denominator k = 2 * k * (2 * k + 1)

-- h = 1 + ((z×z) × c)×h, for k down to 1, c being (2k-1)^2 divided by 2k(2k+1)
unfoldable pub acos_steps : ℕ → Float → Float → Float
acos_steps zero z h = h
acos_steps (suc k) z h = acos_steps k z (one64 ⊕ z ⊗ z ⊗ (whole (numerator (suc k)) ⊘ whole (denominator (suc k))) ⊗ h)

-- z = root of (1-d)/2; 48 steps from h = 1; the answer is 2×(z×h)
unfoldable pub acos : Float → Float
unfolding acos_steps
acos d = let z = sqrt ((one64 ⊖ d) ⊘ two64) in two64 ⊗ (z ⊗ acos_steps 48 z one64)

-- s = 1 - ((a×a)/(2k(2k+1)))×s, for k down to 1
unfoldable pub sin_steps : ℕ → Float → Float → Float
sin_steps zero a s = s
sin_steps (suc k) a s = sin_steps k a (one64 ⊖ a ⊗ a ⊘ whole (denominator (suc k)) ⊗ s)

-- 10 steps from s = 1; the answer is a×s
unfoldable pub sin : Float → Float
unfolding sin_steps
sin a = a ⊗ sin_steps 10 a one64

-- the bound that is passed, else x; NaN for NaN
abbrev pub clamp : Float → Float → Float → Float
clamp x low high = cond (lt x low) low (cond (lt high x) high x)
