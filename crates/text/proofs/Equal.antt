-- Two words are the same bytes where `==` says so. Assumes nothing.
use Rattle.std.proofs.Common.{◌≡◌, refl, ap, ℕ, List, [], ◌∷◌}
use mathlib.Core.Bool.{◌&&◌}
use lib.Pointwise.{pointwise}
use lib.Dec.{eqb}
use Rattle.text.specs.Reading.{same}

pub equal_same : (a b : List ℕ) → pointwise eqb a b ≡ same a b
equal_same [] [] = refl
equal_same [] (y ∷ b) = refl
equal_same (x ∷ a) [] = refl
equal_same (x ∷ a) (y ∷ b) = ap (λ t. eqb x y && t) (equal_same a b)
