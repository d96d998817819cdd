-- The number that digits are, where 64 bits do not hold it. Assumes nothing.
use Rattle.std.proofs.Common.{◌≡◌, refl, ap, ◌∙◌, Bool, true, false, cond, ℕ, suc, ◌+◌, ◌*◌, ◌≤◌, ◌<◌, List, [], ◌∷◌, length, drop, get_or, drop-cons, arith}
use Rattle.std.specs.Prelude.{None}
use native.Mathlib.Nat.{mul-le-mul_left, mul-one}
use borrow.Author.Tests.{le-ltb, ltb-true}
use lib.Dec.{ltb}
use Rattle.text.specs.Digits.{digit, number_from, below}

module _ (base bound : ℕ) where
  -- a digit more
  more : (n c : ℕ) (w : List ℕ) → (bound ≤ n * base + digit c → below bound (number_from base (n * base + digit c) w) ≡ None) → (digit c < base → bound ≤ n * base + digit c)
      → below bound (number_from base n (c ∷ w)) ≡ None
  more n c w above h = go (ltb (digit c) base) (ltb-true (digit c) base)
    where
      go : (t : Bool) → (t ≡ true → digit c < base) → below bound (cond t (number_from base (n * base + digit c) w) None) ≡ None
      go true p = above (h (p refl))
      go false p = refl

  -- further digits make no number less
  above : (n : ℕ) (w : List ℕ) → bound ≤ n → below bound (number_from base n w) ≡ None
  above n [] h = simp (le-ltb n bound h)
  above n (c ∷ w) h = more n c w (above (n * base + digit c) w) (λ d. omega (arith, mul-le-mul_left n (positive d), mul-one n))
    where
      positive : digit c < base → 0 < base
      positive d = omega arith

  pub number_over : (w : List ℕ) (n i : ℕ) → i < length w → bound ≤ n * base + digit (get_or w i 0) → below bound (number_from base n (drop i w)) ≡ None
  number_over w n i h o =
      ap (λ (l : List ℕ). below bound (number_from base n l)) (drop-cons w i 0 h)
      ∙ more n (get_or w i 0) (drop (suc i) w) (above (n * base + digit (get_or w i 0)) (drop (suc i) w)) (λ d. o)
