-- A pose that an operation answers is finite, and what is not finite stays so: each component of a product of quaternions takes in every component of
-- both, a sum is finite only where both terms are, and so is a product of floats, since infinity times 0 is NaN.
use Prim.Native.Nat.{ℕ}
use mathlib.Core.Path.{◌≡◌, sym, subst}
use mathlib.Core.Bool.{Bool, true, false, not, cond, ◌&&◌}
use lib.Dec.{T, eqb}
use lib.Ieee.{Float, nan, inf, fin, unlike, neg, mul as times, sub, lt}
use lib.Ieee.Bits.{is_true}
use lib.Ieee.Fits.{and_l, and_r}
use lib.Ieee.Scale.{finite}
use borrow.Author.Tests.{not-false}
use Rattle.time.specs.Float.{◌⊕◌, ◌⊖◌, ◌⊗◌, ◌⊘◌, zero64, one64, abs}
use Rattle.time.specs.Reply.{Carried, norm as carriedNorm, answer, refusal, nothing, refuse}
use Rattle.time.proofs.Replies.{refusal_answer, answer_in, refuse_answered, then_answered}
use Rattle.geometry.specs.declared.vector3.Vector3.{Vector3}
use Rattle.geometry.specs.declared.quaternion.Quaternion.{Quaternion}
use Rattle.geometry.specs.declared.isometry.Isometry.{Isometry}
use Rattle.geometry.specs.Vector3 as vector
use Rattle.geometry.specs.Quaternion as quaternion
use Rattle.geometry.specs.Quaternion.{conjugate, scale, mul, rotate_vector, norm, normalize, epsilon, minus_one}
use Rattle.geometry.specs.Isometry.{is_finite, finite as finitePose, product, mul as mulPoses, inverse, inverse_with_rotation, interpolated, interpolate}
use Rattle.geometry.specs.Transform.{tolerance, validate}
use Rattle.geometry.specs.Laws.{AnswersFinite, OverflowStays}
use Rattle.geometry.proofs.Squares.{sum_finite}

-- ---- of floats

opposite_finite : (x : Float) → T (finite (neg x)) → T (finite x)
unfolding neg
opposite_finite nan t = t
opposite_finite (inf s) t = t
opposite_finite (fin s m e) t = t

difference_finite : (x y : Float) → T (finite (x ⊖ y)) → T (finite x) × T (finite y)
unfolding sub
difference_finite x y t = let (a, b) = sum_finite x (neg y) t in (a, opposite_finite y b)

-- infinity times 0 is NaN, and times any other value infinity
beyond : (b s : Bool) → T (finite (cond b nan (inf s))) → ⊥
beyond true s t = t
beyond false s t = t

product_finite : (x y : Float) → T (finite (x ⊗ y)) → T (finite x) × T (finite y)
unfolding times
product_finite nan y t = absurd t
product_finite (inf s) nan t = absurd t
product_finite (inf s) (inf r) t = absurd t
product_finite (inf s) (fin r n d) t = absurd (beyond (eqb n 0) (unlike s r) t)
product_finite (fin s m e) nan t = absurd t
product_finite (fin s m e) (inf r) t = absurd (beyond (eqb m 0) (unlike s r) t)
product_finite (fin s m e) (fin r n d) t = (tt, tt)

-- ---- of vectors and quaternions

record Moved (v : Vector3) : Type 0 where
  x : T (finite v.x)
  y : T (finite v.y)
  z : T (finite v.z)

record Turned (q : Quaternion) : Type 0 where
  w : T (finite q.w)
  x : T (finite q.x)
  y : T (finite q.y)
  z : T (finite q.z)

moved : (v : Vector3) → T (vector.is_finite v) → Moved v
moved v t =
    let xy = and_l (finite v.x && finite v.y) (finite v.z) t in
    record { x = and_l (finite v.x) (finite v.y) xy; y = and_r (finite v.x) (finite v.y) xy; z = and_r (finite v.x && finite v.y) (finite v.z) t }

turned : (q : Quaternion) → T (quaternion.is_finite q) → Turned q
turned q t =
    let wxy = and_l (finite q.w && finite q.x && finite q.y) (finite q.z) t in
    let wx = and_l (finite q.w && finite q.x) (finite q.y) wxy in
    record {
      w = and_l (finite q.w) (finite q.x) wx;
      x = and_r (finite q.w) (finite q.x) wx;
      y = and_r (finite q.w && finite q.x) (finite q.y) wxy;
      z = and_r (finite q.w && finite q.x && finite q.y) (finite q.z) t;
    }

all_moved : (v : Vector3) → Moved v → vector.is_finite v ≡ true
all_moved v m = rw (is_true (finite v.x) m.x, is_true (finite v.y) m.y, is_true (finite v.z) m.z)

all_turned : (q : Quaternion) → Turned q → quaternion.is_finite q ≡ true
all_turned q r = rw (is_true (finite q.w) r.w, is_true (finite q.x) r.x, is_true (finite q.y) r.y, is_true (finite q.z) r.z)

-- one component of a product takes in all of both factors
factors_by_w : (a b : Quaternion) → T (finite (mul a b).w) → Turned a × Turned b
factors_by_w a b t =
    let (wxy, z) = difference_finite (a.w ⊗ b.w ⊖ a.x ⊗ b.x ⊖ a.y ⊗ b.y) (a.z ⊗ b.z) t in
    let (wx, y) = difference_finite (a.w ⊗ b.w ⊖ a.x ⊗ b.x) (a.y ⊗ b.y) wxy in
    let (w, x) = difference_finite (a.w ⊗ b.w) (a.x ⊗ b.x) wx in
    let (aw, bw) = product_finite a.w b.w w in
    let (ax, bx) = product_finite a.x b.x x in
    let (ay, by) = product_finite a.y b.y y in
    let (az, bz) = product_finite a.z b.z z in
    (record { w = aw; x = ax; y = ay; z = az }, record { w = bw; x = bx; y = by; z = bz })

factors_by_x : (a b : Quaternion) → T (finite (mul a b).x) → Turned a × Turned b
factors_by_x a b t =
    let (wxy, z) = difference_finite (a.w ⊗ b.x ⊕ a.x ⊗ b.w ⊕ a.y ⊗ b.z) (a.z ⊗ b.y) t in
    let (wx, y) = sum_finite (a.w ⊗ b.x ⊕ a.x ⊗ b.w) (a.y ⊗ b.z) wxy in
    let (w, x) = sum_finite (a.w ⊗ b.x) (a.x ⊗ b.w) wx in
    let (aw, bx) = product_finite a.w b.x w in
    let (ax, bw) = product_finite a.x b.w x in
    let (ay, bz) = product_finite a.y b.z y in
    let (az, by) = product_finite a.z b.y z in
    (record { w = aw; x = ax; y = ay; z = az }, record { w = bw; x = bx; y = by; z = bz })

-- one component of a turned vector takes in the whole rotation and the whole vector
rotated_by_x : (q : Quaternion) (v : Vector3) → T (finite (rotate_vector q v).x) → Turned q × Moved v
unfolding rotate_vector
rotated_by_x q v t =
    let u : Quaternion = record { w = zero64; x = v.x; y = v.y; z = v.z } in
    let (p, back) = factors_by_x (mul q u) (conjugate q) t in
    let (r, m) = factors_by_w q u p.w in
    (r, record { x = m.x; y = m.y; z = m.z })

-- ---- of poses

record FinitePose (a : Isometry) : Type 0 where
  translation : Moved a.translation
  rotation : Turned a.rotation

all_finite : (a : Isometry) → FinitePose a → is_finite a ≡ true
all_finite a f = rw (all_moved a.translation f.translation, all_turned a.rotation f.rotation)

finite_pose : (a : Isometry) → is_finite a ≡ true → FinitePose a
finite_pose a h =
    let t : T (is_finite a) = subst T (sym h) tt in
    record {
      translation = moved a.translation (and_l (vector.is_finite a.translation) (quaternion.is_finite a.rotation) t);
      rotation = turned a.rotation (and_r (vector.is_finite a.translation) (quaternion.is_finite a.rotation) t);
    }

-- the test for 3 answers the pose itself, which is finite, or 3
pub finite_answer : (a p : Isometry) → finitePose a ≡ answer p → (a ≡ p) × (is_finite p ≡ true)
unfolding finitePose
finite_answer a p h =
    let (tested, e) = refuse_answered (not (is_finite a)) 3 nothing (answer a) p h in
    let same = answer_in e in
    (same, rw (← same) (not-false (is_finite a) tested))

pub finite_passes : (a : Isometry) → is_finite a ≡ true → finitePose a ≡ answer a
unfolding finitePose
finite_passes a h = rw h

pub finite_refusal : (a : Isometry) (k : ℕ) (c : Carried) → finitePose a ≡ refusal k c → (k ≡ 3) × (c ≡ nothing)
unfolding finitePose
finite_refusal a k c h = go (not (is_finite a)) h
  where
    go : (test : Bool) → refuse test 3 nothing (answer a) ≡ refusal k c → (k ≡ 3) × (c ≡ nothing)
    go true e = (cc, cc)
    go false e = absurd (refusal_answer (sym e))

-- the translation of an inverse takes in the whole pose
inverse_finite : (a p : Isometry) → inverse a ≡ answer p → FinitePose a × FinitePose p
unfolding inverse normalize inverse_with_rotation
inverse_finite a p h =
    let n = norm a.rotation in
    let (q, normalized, e) = then_answered (normalize a.rotation) (λ q. inverse_with_rotation a (conjugate q)) p h in
    let t = vector.scale minus_one (rotate_vector (conjugate q) a.translation) in
    let (tested, answered) = refuse_answered (not (vector.is_finite t)) 3 nothing (answer (record { translation = t; rotation = conjugate q })) p e in
    let m = moved t (subst T (sym (not-false (vector.is_finite t) tested)) tt) in
    let (r, v) = rotated_by_x (conjugate q) a.translation (product_finite minus_one _ m.x).1 in
    let unit = answer_in (refuse_answered (lt n epsilon) 14 nothing _ q (refuse_answered (not (finite n)) 13 nothing _ q normalized).1).1 in
    let s = subst (λ (u : Quaternion). Turned (conjugate u)) (sym unit) r in
    (record { translation = v; rotation = scaled_back a.rotation (one64 ⊘ n) s }, subst FinitePose (answer_in answered) (record { translation = m; rotation = r }))
  where
    scaled_back : (u : Quaternion) (k : Float) → Turned (conjugate (scale u k)) → Turned u
    scaled_back u k s = record {
      w = (product_finite u.w k s.w).0;
      x = (product_finite u.x k (opposite_finite (u.x ⊗ k) s.x)).0;
      y = (product_finite u.y k (opposite_finite (u.y ⊗ k) s.y)).0;
      z = (product_finite u.z k (opposite_finite (u.z ⊗ k) s.z)).0;
    }

product_parts : (a b : Isometry) → is_finite (product a b) ≡ true → (is_finite a ≡ true) × (is_finite b ≡ true)
unfolding product
product_parts a b h =
    let f = finite_pose (product a b) h in
    let turn = rotate_vector a.rotation b.translation in
    let (x, ax) = sum_finite turn.x a.translation.x f.translation.x in
    let (y, ay) = sum_finite turn.y a.translation.y f.translation.y in
    let (z, az) = sum_finite turn.z a.translation.z f.translation.z in
    let (r, v) = rotated_by_x a.rotation b.translation x in
    let (q, s) = factors_by_w a.rotation b.rotation f.rotation.w in
    (all_finite a (record { translation = record { x = ax; y = ay; z = az }; rotation = q }), all_finite b (record { translation = v; rotation = s }))

-- ---- the laws

pub overflow_stays : OverflowStays
overflow_stays = record {
  products = product_parts;
  inverses = λ a p h. all_finite a (inverse_finite a p h).0;
}

pub answers_finite : AnswersFinite
unfolding mulPoses interpolate validate
answers_finite = record {
  products = λ a b p h. (finite_answer (product a b) p h).1;
  inverses = λ a p h. all_finite p (inverse_finite a p h).1;
  interpolations = λ a b from to query p h. let (q, e, tested) = then_answered (interpolated a b from to query) finitePose p h in (finite_answer q p tested).1;
  validations = λ a p h.
      let n = norm a.rotation in
      let (tested, e) = refuse_answered (not (is_finite a)) 3 nothing _ p h in
      rw (← answer_in (refuse_answered (lt tolerance (abs (n ⊖ one64))) 4 (carriedNorm n) (answer a) p e).1) (not-false (is_finite a) tested);
}
