-- Cases of a Bool and of two numbers, and what a true conjunction says.
use Prim.Native.Nat.{ℕ, ◌<◌, ◌≤◌}
use mathlib.Core.Path.{◌≡◌, refl, sym}
use mathlib.Core.Bool.{Bool, true, false, ◌&&◌}
use Rattle.std.specs.Prelude.{None, Some}
use native.Mathlib.Omega.{arith}
use lib.Dec.{eqb, ltb}
use borrow.Author.Tests.{ltb-true, ltb-false, eqb-true, eqb-false}

-- a Bool's two values, with the equation
pub both : {C : Type 0} (b : Bool) → (b ≡ true → C) → (b ≡ false → C) → C
both true f g = f refl
both false f g = g refl

pub none_some : {A : Type 0} {a : A} → None ≡ Some a → ⊥
none_some z = let w : ◌≡◌ {A = ℕ} 0 1 = cc in omega arith

pub false_true : ◌≡◌ {A = Bool} false true → ⊥
false_true z = let w : ◌≡◌ {A = ℕ} 0 1 = cc in omega arith

-- two Bools are equal where each is true with the other
pub bool_ext : (a b : Bool) → (a ≡ true → b ≡ true) → (b ≡ true → a ≡ true) → a ≡ b
bool_ext true b f g = sym (f refl)
bool_ext false true f g = g refl
bool_ext false false f g = refl

pub and_both : (a b : Bool) → a ≡ true → b ≡ true → (a && b) ≡ true
and_both true b p q = q
and_both false b p q = p

pub and_left : (a b : Bool) → (a && b) ≡ true → a ≡ true
and_left true b p = refl
and_left false b p = p

pub and_right : (a b : Bool) → (a && b) ≡ true → b ≡ true
and_right true b p = p
and_right false b p = absurd (false_true p)

-- how two numbers stand
pub data Tri (a b : ℕ) : Type 0 where
  less : a < b → Tri a b
  same : a ≡ b → Tri a b
  more : b < a → Tri a b

pub tri : (a b : ℕ) → Tri a b
tri a b = go (ltb a b) refl (eqb a b) refl
  where
    go : (l : Bool) → ltb a b ≡ l → (e : Bool) → eqb a b ≡ e → Tri a b
    go true p e q = less (ltb-true a b p)
    go false p true q = same (eqb-true a b q)
    go false p false q =
        let n : a ≡ b → ⊥ = eqb-false a b q in
        let h : b ≤ a = ltb-false a b p in
        more (omega arith)
