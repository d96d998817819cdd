-- `same` decides whether two names are equal.
use mathlib.Core.Path.{◌≡◌, refl, ap}
use mathlib.Core.Bool.{Bool, true, ◌&&◌, ◌||◌}
use mathlib.Core.List.{List, [], ◌∷◌, map}
use Prim.Native.Nat.{ℕ}
use lib.Dec.{eqb}
use Rattle.std.specs.Bool.{Decides}
use Rattle.std.proofs.lemmas.Slice.Eq.{compares_Decides}
use Rattle.std.specs.Cmp.Lexicographic.{pointwise}
use Rattle.std.specs.List.{list_any}
use Rattle.map_file.specs.Form.{Name}
use Rattle.map_file.specs.Book.{among}
use Rattle.text.specs.Reading.{same}

same_decides : (a b : List ℕ) → Decides (same a b) (a ≡ b)
same_decides = compares_Decides same (record { empty = refl; shorter = λ y ys. refl; longer = λ x xs. refl; heads = λ x y xs ys. refl })

pub same_is : (a b : List ℕ) → same a b ≡ true → a ≡ b
same_is a b = (same_decides a b).0

pub same_self : (a : List ℕ) → same a a ≡ true
same_self a = (same_decides a a).1 refl

-- as `==` on slices compares them
pub same_eq : (a b : List ℕ) → same a b ≡ pointwise eqb a b
same_eq [] [] = refl
same_eq [] (y ∷ b) = refl
same_eq (x ∷ a) [] = refl
same_eq (x ∷ a) (y ∷ b) = ap (λ (r : Bool). eqb x y && r) (same_eq a b)

pub among_placed : (name : Name) (ns : List (ℕ × Name)) → list_any (λ n. same name n.1) ns ≡ among name (map (λ n. n.1) ns)
among_placed name [] = refl
among_placed name (n ∷ ns) = ap (λ (r : Bool). same name n.1 || r) (among_placed name ns)
