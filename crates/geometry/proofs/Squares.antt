-- A sum of squares: not negative where its terms are finite, and not finite where one of them is not; and which values are finite, tested by differences.
use mathlib.Core.Path.{◌≡◌, refl, sym, ap, ap₂}
use mathlib.Core.Logic.{inl, inr}
use mathlib.Core.Bool.{Bool, true, false, not, cond, ◌&&◌, and-false}
use Prim.Native.Nat.{ℕ, ◌+◌, ◌-◌, ◌*◌, ◌<◌}
use native.Mathlib.Nat.{le_refl, mul-pos, sub_self, zero-lt-suc, zero-mul}
use lib.Dec.{T, ltb}
use lib.IntN.{ℤ}
use lib.Ieee.{Float, nan, inf, fin, binary64, up, down, add, eq, mul, neg, of_bits, round, sub, sum}
use lib.Ieee.Bits.{is_true}
use lib.Ieee.Fits.{and_l, and_r, down_pos}
use lib.Ieee.Scale.{finite, round_same}
use borrow.Author.Tests.{le-ltb}
use Rattle.time.specs.Float.{◌⊕◌, ◌⊖◌, ◌⊗◌, zero64}
use Rattle.time.proofs.Seconds.{plain, round_plain}
use Rattle.geometry.specs.declared.quaternion.Quaternion.{Quaternion}
use Rattle.geometry.specs.Quaternion.{dot, is_finite}
use Rattle.geometry.proofs.UnitDistance.{Upward}

square_upward : (x : Float) → T (finite x) → Upward (x ⊗ x)
unfolding mul
square_upward nan h = absurd h
square_upward (inf s) h = absurd h
square_upward (fin true m e) h = round_plain (m * up e * (m * up e)) (down e * down e)
square_upward (fin false m e) h = round_plain (m * up e * (m * up e)) (down e * down e)

sum_upward : (x y : Float) → Upward x → Upward y → Upward (x ⊕ y)
unfolding add sum
sum_upward x y (inl (plain {m} {e})) (inl (plain {m = n} {e = d})) = round_plain (m * up e * down d + n * up d * down e) (down e * down d)
sum_upward x y (inl (plain {m} {e})) (inr q) = inr (ap (λ (z : Float). fin false m e ⊕ z) q)
sum_upward x y (inr p) (inl (plain {m} {e})) = inr (ap (λ (z : Float). z ⊕ fin false m e) p)
sum_upward x y (inr p) (inr q) = inr (ap₂ (λ (a b : Float). a ⊕ b) p q)

pub dot_upward : (r : Quaternion) → T (is_finite r) → Upward (dot r r)
dot_upward r h =
    let w = finite r.w in
    let x = finite r.x in
    let y = finite r.y in
    let p : T (w && x && y) = and_l (w && x && y) (finite r.z) h in
    let q : T (w && x) = and_l (w && x) y p in
    sum_upward (r.w ⊗ r.w ⊕ r.x ⊗ r.x ⊕ r.y ⊗ r.y) (r.z ⊗ r.z)
    (sum_upward (r.w ⊗ r.w ⊕ r.x ⊗ r.x) (r.y ⊗ r.y)
    (sum_upward (r.w ⊗ r.w) (r.x ⊗ r.x) (square_upward r.w (and_l w x q)) (square_upward r.x (and_r w x q)))
    (square_upward r.y (and_r (w && x) y p)))
    (square_upward r.z (and_r (w && x && y) (finite r.z) h))

square_finite : (x : Float) → T (finite (x ⊗ x)) → T (finite x)
unfolding mul
square_finite nan t = t
square_finite (inf s) t = t
square_finite (fin s m e) t = tt

pub sum_finite : (x y : Float) → T (finite (x ⊕ y)) → T (finite x) × T (finite y)
unfolding add
sum_finite nan y t = absurd t
sum_finite (inf s) nan t = absurd t
sum_finite (inf true) (inf true) t = absurd t
sum_finite (inf true) (inf false) t = absurd t
sum_finite (inf false) (inf true) t = absurd t
sum_finite (inf false) (inf false) t = absurd t
sum_finite (inf s) (fin r n d) t = absurd t
sum_finite (fin s m e) nan t = absurd t
sum_finite (fin s m e) (inf r) t = absurd t
sum_finite (fin s m e) (fin r n d) t = (tt, tt)

pub dot_finite : (r : Quaternion) → T (finite (dot r r)) → is_finite r ≡ true
dot_finite r t =
    let a = sum_finite (r.w ⊗ r.w ⊕ r.x ⊗ r.x ⊕ r.y ⊗ r.y) (r.z ⊗ r.z) t in
    let b = sum_finite (r.w ⊗ r.w ⊕ r.x ⊗ r.x) (r.y ⊗ r.y) a.0 in
    let c = sum_finite (r.w ⊗ r.w) (r.x ⊗ r.x) b.0 in
    rw (
      is_true (finite r.w) (square_finite r.w c.0),
      is_true (finite r.x) (square_finite r.x c.1),
      is_true (finite r.y) (square_finite r.y b.1),
      is_true (finite r.z) (square_finite r.z a.1),
    )

-- ---- x - x is zero for a finite x, and NaN for any other

zero_is : (c : ℕ) → 0 < c → round binary64 false 0 c ≡ zero64
unfolding round of_bits
zero_is c h = round_same binary64 false 0 c 0 1 h (zero-lt-suc 0) (sym (zero-mul c))

level : (s : Bool) (a : ℕ) (e : ℤ) → cond (ltb a a) (round binary64 (not s) (a - a) (down e * down e)) (round binary64 (s && ltb a a) (a - a) (down e * down e)) ≡ zero64
level s a e = rw (le-ltb a a (le_refl a), sub_self, and-false) (zero_is (down e * down e) (mul-pos (down_pos e) (down_pos e)))

difference : (x : Float) → x ⊖ x ≡ cond (finite x) zero64 nan
unfolding sub add neg sum
difference nan = refl
difference (inf true) = refl
difference (inf false) = refl
difference (fin true m e) = level true (m * up e * down e) e
difference (fin false m e) = level false (m * up e * down e) e

pub differences : (x y z : Float) → eq ((x ⊖ x) ⊕ (y ⊖ y) ⊕ (z ⊖ z)) zero64 ≡ finite x && finite y && finite z
unfolding add eq of_bits
differences x y z = rw (difference x, difference y, difference z) (go (finite x) (finite y) (finite z))
  where
    go : (a b c : Bool) → eq (cond a zero64 nan ⊕ cond b zero64 nan ⊕ cond c zero64 nan) zero64 ≡ a && b && c
    go true true true = refl
    go true true false = refl
    go true false c = refl
    go false b c = refl
