-- What a true conjunction says of its parts, and `every` of each row number, and what a tabulated list holds.
use Prim.Native.Nat.{ℕ, zero, suc, ◌<◌}
use mathlib.Core.Path.{◌≡◌, refl, ap, ◌∙◌}
use mathlib.Core.Logic.{◌↔◌, ⊎_elim}
use mathlib.Core.Bool.{Bool, true, ◌&&◌}
use native.Mathlib.Nat.{eq-or-lt_of_le, le_of_suc-le-suc}
use native.Mathlib.Omega.{arith}
use lib.ListN.{length}
use Rattle.buffer.specs.Map.{all}
use Rattle.buffer.proofs.Cases.{and_both, and_left, and_right}
use Rattle.registry.specs.Store.{tabulate}
use Rattle.registry.specs.Sound.{every}

pub and_parts : (a b : Bool) → (a && b) ≡ true → (a ≡ true) × (b ≡ true)
and_parts a b h = (and_left a b h, and_right a b h)

module _ (test : ℕ → Bool) where
  every_at : (n : ℕ) → every n test ≡ true → (r : ℕ) → r < n → test r ≡ true
  every_at zero h r l = absurd (omega arith)
  every_at (suc n) h r l =
      ⊎_elim (λ e. ap test e ∙ and_right (every n test) (test n) h) (λ k. every_at n (and_left (every n test) (test n) h) r k) (eq-or-lt_of_le (le_of_suc-le-suc l))

  of_every : (n : ℕ) → ((r : ℕ) → r < n → test r ≡ true) → every n test ≡ true
  of_every zero h = refl
  of_every (suc n) h = and_both _ _ (of_every n (λ r l. h r (omega arith))) (h n (omega arith))

  pub every_is : (n : ℕ) → (every n test ≡ true) ↔ ((r : ℕ) → r < n → test r ≡ true)
  every_is n = (every_at n, of_every n)

module _ {A : Type 0} where
  pub length_tabulate : (n : ℕ) (g : ℕ → A) → length (tabulate n g) ≡ n
  length_tabulate zero g = refl
  length_tabulate (suc n) g = ap suc (length_tabulate n (λ k. g (suc k)))

  pub all_tabulate : (test : A → Bool) (n : ℕ) (g : ℕ → A) → ((r : ℕ) → r < n → test (g r) ≡ true) → all test (tabulate n g) ≡ true
  all_tabulate test zero g h = refl
  all_tabulate test (suc n) g h = and_both _ _ (h 0 (omega arith)) (all_tabulate test n (λ k. g (suc k)) (λ r l. h (suc r) (omega arith)))
