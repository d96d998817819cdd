-- A number that is taken on step by step: it is near enough, or one step more is taken.
use Rattle.std.proofs.Common.{◌≡◌, ℕ, zero, suc, ◌+◌, ◌<◌, Bool, true, false, cond, refl, ap, arith}
use lib.Ieee.{Float, lt, le}
use Rattle.time.specs.Float.{◌⊗◌, ◌⊘◌}
use Rattle.console.specs.Figures.{least, most, ten, divided, multiplied}
use Rattle.console.specs.Steps.{stepped}

module _ (near : Float → Bool) (step : Float → Float) (x : Float) (p : ℕ) where
  pub no_steps : (steps : ℕ) → steps ≡ 0 → stepped near step steps x p ≡ (x, p)
  unfolding stepped
  no_steps steps h = rw h refl

  pub near_enough : (steps : ℕ) → 0 < steps → near x ≡ true → stepped near step steps x p ≡ (x, p)
  unfolding stepped
  near_enough zero h e = absurd (omega arith)
  near_enough (suc steps) h e = rw e refl

  pub one_step : (steps rest : ℕ) → steps ≡ suc rest → near x ≡ false → stepped near step steps x p ≡ stepped near step rest (step x) (p + 1)
  unfolding stepped
  one_step steps rest h e = rw (h, e) refl

-- the steps down and up are those that are defined
pub divided_steps : (steps : ℕ) (x : Float) (p : ℕ) → stepped (λ y. lt y most) (λ y. y ⊘ ten) steps x p ≡ divided steps x p
unfolding stepped divided
divided_steps zero x p = refl
divided_steps (suc steps) x p = ap (cond (lt x most) (x, p)) (divided_steps steps (x ⊘ ten) (p + 1))

pub multiplied_steps : (steps : ℕ) (x : Float) (p : ℕ) → stepped (λ y. le least y) (λ y. y ⊗ ten) steps x p ≡ multiplied steps x p
unfolding stepped multiplied
multiplied_steps zero x p = refl
multiplied_steps (suc steps) x p = ap (cond (le least x) (x, p)) (multiplied_steps steps (x ⊗ ten) (p + 1))
