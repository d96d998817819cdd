-- `every` of each row number, as a walk over the numbers finds it.
use Prim.Native.Nat.{ℕ, zero, suc, ◌+◌, ◌≤◌, ◌<◌}
use mathlib.Core.Path.{◌≡◌, refl, sym, ap, ◌∙◌}
use mathlib.Core.Logic.{⊎_elim}
use mathlib.Core.Bool.{Bool, true}
use native.Mathlib.Nat.{eq-or-lt_of_le}
use native.Mathlib.Omega.{arith}
use Rattle.std.specs.List.{list_all, range_with_len}
use Rattle.std.proofs.lemmas.Bool.Decides.{same_from_decides}
use Rattle.buffer.proofs.Cases.{and_both, and_left, and_right}
use Rattle.registry.specs.Sound.{every}
use Rattle.registry.proofs.soundness.Everys.{every_is}

module _ (test : ℕ → Bool) where
  at_range : (a n : ℕ) → list_all test (range_with_len a n) ≡ true → (r : ℕ) → a ≤ r → r < a + n → test r ≡ true
  at_range a zero h r l u = absurd (omega arith)
  at_range a (suc n) h r l u =
      ⊎_elim (λ e. ap test (sym e) ∙ and_left (test a) _ h) (λ k. at_range (a + 1) n (and_right (test a) _ h) r (omega arith) (omega arith)) (eq-or-lt_of_le l)

  of_range : (a n : ℕ) → ((r : ℕ) → a ≤ r → r < a + n → test r ≡ true) → list_all test (range_with_len a n) ≡ true
  of_range a zero h = refl
  of_range a (suc n) h = and_both _ _ (h a (omega arith) (omega arith)) (of_range (a + 1) n (λ r l u. h r (omega arith) (omega arith)))

  pub every_by_range : (n : ℕ) → list_all test (range_with_len 0 n) ≡ every n test
  every_by_range n =
      same_from_decides _ _
      (λ h r l. at_range 0 n h r (omega arith) (omega arith), λ h. of_range 0 n (λ r l u. h r (omega arith)))
      (every_is test n)
