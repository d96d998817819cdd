-- The pose operations are refused with the first number of their order that is due: product, inverse, interpolation and what an added pose must pass.
use Prim.Native.Nat.{ℕ, ◌-◌}
use mathlib.Core.Path.{◌≡◌, refl}
use mathlib.Core.Bool.{Bool, true, false, not, ◌&&◌}
use Rattle.std.specs.Prelude.{Option, None}
use native.Mathlib.Omega.{arith}
use lib.Dec.{eqb, ltb}
use lib.Ieee.{lt}
use lib.Ieee.Scale.{finite}
use borrow.Author.Tests.{ltb-true, ltb-false, eqb-true, eqb-false, eq-eqb, ne_eqb}
use Rattle.time.specs.Float.{◌⊖◌, ◌⊘◌, one64, abs}
use Rattle.time.specs.Reply.{Carried, nothing, norm, Reply, answer, refuse, ◌then◌}
use Rattle.time.specs.Timestamp.{share}
use Rattle.time.specs.Order.{when, due_or, refused}
use Rattle.geometry.specs.declared.isometry.Isometry.{Isometry}
use Rattle.geometry.specs.Vector3 as vector
use Rattle.geometry.specs.Quaternion as quaternion
use Rattle.geometry.specs.Isometry.{is_finite, finite as finitePose, product, mul, inverse, inverse_with_rotation, interpolated, interpolate}
use Rattle.geometry.specs.Transform.{tolerance, validate}
use Rattle.geometry.specs.Order.{overflow_due, product_due, ProductFirstDue, inverse_translation, inverse_due, InverseFirstDue, interpolation_due, InterpolationFirstDue, pose_due, ValidateFirstDue}

-- a Bool's two values, with the equation
pub both : {C : Type 0} (b : Bool) → (b ≡ true → C) → (b ≡ false → C) → C
both true f g = f refl
both false f g = g refl

-- ---- steps in order

-- a test comes first: its number where it holds, else what the rest is refused with
pub refuse_due : {A : Type 0} (test : Bool) (k : ℕ) (c : Carried) (next : Reply A) (later : Option (ℕ × Carried)) → refused next ≡ later
    → refused (refuse test k c next) ≡ due_or k (when test c) later
refuse_due true k c next later h = refl
refuse_due false k c next later h = h

-- the same of a test in the first of two steps
pub refuse_then_due : {A B : Type 0} (test : Bool) (k : ℕ) (c : Carried) (r : Reply A) (next : A → Reply B) (later : Option (ℕ × Carried))
    → refused (r then next) ≡ later → refused (refuse test k c r then next) ≡ due_or k (when test c) later
refuse_then_due true k c r next later h = refl
refuse_then_due false k c r next later h = h

-- 3 comes last, of an answer that is not finite
pub finite_due : (p : Isometry) → refused (finitePose p) ≡ due_or 3 (overflow_due (answer p)) None
unfolding finitePose
finite_due p = refuse_due {A = Isometry} (not (is_finite p)) 3 nothing (answer p) None refl

-- ---- the laws

pub product_first_due : ProductFirstDue
unfolding mul product_due
product_first_due a b = finite_due (product a b)

pub inverse_first_due : InverseFirstDue
unfolding inverse quaternion.normalize inverse_with_rotation inverse_due
inverse_first_due a =
    let n = quaternion.norm a.rotation in
    refuse_then_due (not (finite n)) 13 nothing _ _ _
    (refuse_then_due (lt n quaternion.epsilon) 14 nothing (answer (quaternion.scale a.rotation (one64 ⊘ n))) _ _
    (refuse_due {A = Isometry} (not (vector.is_finite (inverse_translation a))) 3 nothing _ None refl))

pub interpolation_first_due : InterpolationFirstDue
unfolding interpolate interpolated share interpolation_due
interpolation_first_due a b start end query =
    both (ltb end start)
    (λ e.
    let l = ltb-true end start e in
    let ne : eqb start end ≡ false = ne_eqb start end (λ q. omega arith) in
    rw (e, ne))
    (λ e.
    let l = ltb-false end start e in
    rw e
    (both (eqb (end - start) 0)
    (λ z.
    let d = eqb-true (end - start) 0 z in
    let same : eqb start end ≡ true = eq-eqb start end (omega arith) in
    rw (z, same) (finite_due a))
    (λ z.
    let d = eqb-false (end - start) 0 z in
    let ne : eqb start end ≡ false = ne_eqb start end (λ q. d (omega arith)) in
    rw (z, ne) (both (ltb query start) (λ q. rw q) (λ q. rw q (finite_due _))))))

pub validate_first_due : ValidateFirstDue
unfolding validate pose_due
validate_first_due a =
    let n = quaternion.norm a.rotation in
    refuse_due (not (vector.is_finite a.translation && quaternion.is_finite a.rotation)) 3 nothing _ _
    (refuse_due (lt tolerance (abs (n ⊖ one64))) 4 (norm n) (answer a) None refl)
