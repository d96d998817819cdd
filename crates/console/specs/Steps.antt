-- A number taken on step by step, as the contract of a private function cites it. No public contract rests on this.
use Rattle.std.specs.Prelude.{◌≡◌, ℕ, zero, suc, ◌+◌, Bool, cond, Float}

-- each answer of a call is what the function h gives
abbrev pub Computes : {A : Type 0} → (Float → A → Type 0) → (Float → A) → Type 0
Computes post h = (x : Float) (r : _) → post x r → r ≡ h x

-- a number after as many steps as it takes to be near enough, and how many these are, p of them so far
unfoldable pub stepped : (Float → Bool) → (Float → Float) → ℕ → Float → ℕ → Float × ℕ
stepped near step zero x p = (x, p)
stepped near step (suc steps) x p = cond (near x) (x, p) (stepped near step steps (step x) (p + 1))
