-- What a row is served at an instant: a held pose, its neighbours interpolated, or refusal 11 outside its range; never 15.
use Prim.Native.Nat.{ℕ, suc, ◌-◌, ◌<◌, ◌≤◌}
use mathlib.Core.Path.{◌≡◌, refl, sym, ap, ◌∙◌}
use mathlib.Core.Bool.{Bool, true, false}
use Rattle.std.specs.Prelude.{Option, None, Some}
use mathlib.Core.List.{List, [], ◌∷◌, ◌++◌}
use native.Mathlib.Omega.{arith}
use lib.Dec.{leb, ltb}
use borrow.Author.Tests.{lt-ltb, le-ltb, ne_eqb, le-leb, leb-true, leb-false}
use Rattle.time.specs.Float.{◌⊘◌}
use Rattle.time.specs.Reply.{Reply, answer, refusal, Carried, hop}
use Rattle.time.specs.Timestamp.{as_secs_f64, share}
use Rattle.time.proofs.Replies.{refusal_answer}
use Rattle.geometry.specs.declared.isometry.Isometry.{Isometry}
use Rattle.geometry.specs.Isometry.{between, interpolated}
use Rattle.buffer.specs.declared.kind.Kind.{Kind}
use Rattle.buffer.specs.declared.kind.Kind.TheVariants.{Static, Dynamic}
use Rattle.buffer.specs.Map.{get, keep}
use Rattle.buffer.specs.Samples.{Samples, newest, range, last?, between_samples, served, first?}
use Rattle.buffer.proofs.Cases.{both, none_some, false_true, and_both, and_left, and_right, Tri, less, same, more, tri}
use Rattle.buffer.proofs.Maps.{Floor, Rising, get_floor, get_here, get_there}
use Rattle.buffer.proofs.RangeLaws.{within}

-- from < to and from <= query: the interpolation refuses nothing
pub interpolated_answers : (a b : Isometry) (from to query : ℕ) → from < to → from ≤ query
    → interpolated a b from to query ≡ answer (between a b (as_secs_f64 (query - from) ⊘ as_secs_f64 (to - from)))
unfolding interpolated share
interpolated_answers a b from to query h k = simp (le-ltb to from (omega arith), ne_eqb (to - from) 0 (λ e. omega arith), le-ltb query from k)

-- ---- a held instant, a static row, an empty one

pub served_held : (child : ℕ) (m : Samples) (t : ℕ) (p : Isometry) → get m t ≡ Some p → served child Dynamic m t ≡ answer p
unfolding served
served_held child m t p g = rw g

pub served_static : (child : ℕ) (x : ℕ × Isometry) (m : Samples) (t : ℕ) → served child Static (x ∷ m) t ≡ answer x.1
unfolding served
served_static child x m t = refl

pub served_empty : (child : ℕ) (k : Kind) (t : ℕ) → served child k [] t ≡ refusal 11 (hop child None)
unfolding served
served_empty child Static t = refl
served_empty child Dynamic t = refl

-- ---- outside the range

none_above : (m : Samples) (t : ℕ) → newest m ≤ t → keep (ltb t) m ≡ []
none_above [] t h = refl
none_above (x ∷ m) t h = rw (le-ltb t x.0 (omega arith)) (none_above m t (omega arith))

none_below : (k : ℕ) (m : Samples) (t : ℕ) → Floor k m → t ≤ suc k → keep (λ i. ltb i t) m ≡ []
none_below k [] t f h = refl
none_below k (x ∷ m) t f h = rw (le-ltb x.0 t (let l = f.0 in omega arith)) (none_below k m t f.1 h)

get_above : (m : Samples) (t : ℕ) → newest m < t → get m t ≡ None
get_above [] t h = refl
get_above (x ∷ m) t h = rw (ne_eqb t x.0 (λ e. omega arith)) (get_above m t (omega arith))

between_samples_above : (unserved : Reply Isometry) (x : Option (ℕ × Isometry)) (t : ℕ) → between_samples unserved x None t ≡ unserved
between_samples_above unserved None t = refl
between_samples_above unserved (Some x) t = refl

pub served_before : (child : ℕ) (x : ℕ × Isometry) (m : Samples) (t : ℕ) → Rising (x ∷ m) → t < x.0
    → served child Dynamic (x ∷ m) t ≡ refusal 11 (hop child (range (x ∷ m)))
unfolding served
served_before child x m t r h =
    rw (ne_eqb t x.0 (λ e. omega arith), get_floor x.0 t m r.0 (omega arith), le-ltb x.0 t (omega arith), none_below x.0 m t r.0 (omega arith))

pub served_after : (child : ℕ) (m : Samples) (t : ℕ) → newest m < t → served child Dynamic m t ≡ refusal 11 (hop child (range m))
unfolding served
served_after child m t h =
    rw (get_above m t h, none_above m t (omega arith))
    (between_samples_above (refusal 11 (hop child (range m))) (last? (keep (λ i. ltb i t) m)) t)

pub served_outside : (child : ℕ) (m : Samples) (t : ℕ) → Rising m → within (range m) t ≡ false → served child Dynamic m t ≡ refusal 11 (hop child (range m))
served_outside child [] t r h = served_empty child Dynamic t
served_outside child (x ∷ m) t r h =
    both (leb x.0 t)
    (λ e. served_after child (x ∷ m) t (leb-false t (newest (x ∷ m)) (rw e at h)))
    (λ e. served_before child x m t r (leb-false x.0 t e))

-- ---- between two neighbours

-- the samples next to an instant that is not held
pub record Neighbours (m : Samples) (t : ℕ) : Type 0 where
  pub before : Samples
  pub below : ℕ × Isometry
  pub above : ℕ × Isometry
  pub after : Samples
  pub place : m ≡ before ++ (below ∷ above ∷ after)
  pub under : below.0 < t
  pub over : t < above.0

floor_tail : (k : ℕ) (xs ys : Samples) → Floor k (xs ++ ys) → Floor k ys
floor_tail k [] ys f = f
floor_tail k (x ∷ xs) ys f = floor_tail k xs ys f.1

last_cons : {A : Type 0} (z x : A) (xs : List A) → last? xs ≡ Some x → last? (z ∷ xs) ≡ Some x
last_cons z x [] h = absurd (none_some h)
last_cons z x (y ∷ xs) h = h

module _ (x y : ℕ × Isometry) (ys : Samples) (t : ℕ) (h : x.0 < t) (k : t < y.0) where
  below_is : (xs : Samples) → Rising (xs ++ (x ∷ y ∷ ys)) → last? (keep (λ i. ltb i t) (xs ++ (x ∷ y ∷ ys))) ≡ Some x
  below_is [] r = rw (lt-ltb x.0 t h, le-ltb y.0 t (omega arith), none_below y.0 ys t r.1.0 (omega arith))
  below_is (z ∷ xs) r =
      let l = (floor_tail z.0 xs (x ∷ y ∷ ys) r.0).0 in
      rw (lt-ltb z.0 t (omega arith)) (last_cons z x (keep (λ i. ltb i t) (xs ++ (x ∷ y ∷ ys))) (below_is xs r.1))

  above_is : (xs : Samples) → Rising (xs ++ (x ∷ y ∷ ys)) → first? (keep (ltb t) (xs ++ (x ∷ y ∷ ys))) ≡ Some y
  above_is [] r = rw (le-ltb t x.0 (omega arith), lt-ltb t y.0 k)
  above_is (z ∷ xs) r =
      let l = (floor_tail z.0 xs (x ∷ y ∷ ys) r.0).0 in
      rw (le-ltb t z.0 (omega arith)) (above_is xs r.1)

  not_held : (xs : Samples) → Rising (xs ++ (x ∷ y ∷ ys)) → get (xs ++ (x ∷ y ∷ ys)) t ≡ None
  not_held [] r = rw (ne_eqb t x.0 (λ e. omega arith), ne_eqb t y.0 (λ e. omega arith)) (get_floor y.0 t ys r.1.0 (omega arith))
  not_held (z ∷ xs) r =
      let l = (floor_tail z.0 xs (x ∷ y ∷ ys) r.0).0 in
      rw (ne_eqb t z.0 (λ e. omega arith)) (not_held xs r.1)

pub served_between : (child : ℕ) (xs : Samples) (x y : ℕ × Isometry) (ys : Samples) (t : ℕ) → Rising (xs ++ (x ∷ y ∷ ys)) → x.0 < t → t < y.0
    → served child Dynamic (xs ++ (x ∷ y ∷ ys)) t ≡ interpolated x.1 y.1 x.0 y.0 t
unfolding served
served_between child xs x y ys t r h k = rw (not_held x y ys t h k xs r, below_is x y ys t h k xs r, above_is x y ys t h k xs r)

one_before : (x : ℕ × Isometry) (m : Samples) (t : ℕ) → Neighbours m t → Neighbours (x ∷ m) t
one_before x m t n = record {
  before = x ∷ n.before;
  below = n.below;
  above = n.above;
  after = n.after;
  place = ap {B = Samples} (λ l. x ∷ l) n.place;
  under = n.under;
  over = n.over;
}

-- an instant in the range that is not held has them
pub neighbours : (m : Samples) (t : ℕ) → Rising m → within (range m) t ≡ true → get m t ≡ None → Neighbours m t
neighbours [] t r w g = absurd (false_true w)
neighbours (x ∷ []) t r w g =
    let a = leb-true x.0 t (and_left (leb x.0 t) _ w) in
    let b = leb-true t (newest (x ∷ [])) (and_right (leb x.0 t) _ w) in
    let n : t ≡ x.0 → ⊥ = λ e. none_some (sym g ∙ get_here x [] t e) in
    absurd (omega arith)
neighbours (x ∷ y ∷ m) t r w g = go (tri t x.0) (tri t y.0) (neighbours (y ∷ m) t r.1)
  where
    first : x.0 ≤ t
    first = leb-true x.0 t (and_left (leb x.0 t) _ w)

    last : t ≤ newest (x ∷ y ∷ m)
    last = leb-true t (newest (x ∷ y ∷ m)) (and_right (leb x.0 t) _ w)

    go : Tri t x.0 → Tri t y.0 → (within (range (y ∷ m)) t ≡ true → get (y ∷ m) t ≡ None → Neighbours (y ∷ m) t) → Neighbours (x ∷ y ∷ m) t
    go (less l) c ih = absurd (omega (arith, first))
    go (same e) c ih = absurd (none_some (sym g ∙ get_here x (y ∷ m) t e))
    go (more l) (less k) ih = record { before = []; below = x; above = y; after = m; place = refl; under = l; over = k }
    go (more l) (same e) ih = absurd (none_some (sym g ∙ get_there x (y ∷ m) t (λ q. omega arith) ∙ get_here y m t e))
    go (more l) (more k) ih =
        let up : newest (x ∷ y ∷ m) ≡ newest (y ∷ m) = omega arith in
        let n = ih (and_both (leb y.0 t) (leb t (newest (y ∷ m))) (le-leb y.0 t (omega arith)) (le-leb t (newest (y ∷ m)) (omega (arith, last)))) (sym (get_there x (y ∷ m) t (λ q. omega arith)) ∙ g) in
        one_before x (y ∷ m) t n

pub served_neighbours : (child : ℕ) (m : Samples) (t : ℕ) → Rising m → (n : Neighbours m t)
    → served child Dynamic m t ≡ interpolated n.below.1 n.above.1 n.below.0 n.above.0 t
served_neighbours child m t r n =
    ap (λ (l : Samples). served child Dynamic l t) n.place
    ∙ served_between child n.before n.below n.above n.after t (rw n.place at r) n.under n.over

pub served_inside : (child : ℕ) (m : Samples) (t : ℕ) → Rising m → within (range m) t ≡ true → (p : Isometry) × (served child Dynamic m t ≡ answer p)
served_inside child m t r w = go (get m t) refl
  where
    go : (o : Option Isometry) → get m t ≡ o → (p : Isometry) × (served child Dynamic m t ≡ answer p)
    go (Some p) g = (p, served_held child m t p g)
    go None g =
        let n = neighbours m t r w g in
        let u = n.under in
        let v = n.over in
        (_, served_neighbours child m t r n ∙ interpolated_answers n.below.1 n.above.1 n.below.0 n.above.0 t (omega arith) (omega arith))

-- ---- every case: an answer where the row serves the instant, else refusal 11 with the range

-- a static row that holds a pose serves at any instant, a moving one from its first to its newest
abbrev pub serves : Kind → Samples → ℕ → Bool
serves Static [] t = false
serves Static (x ∷ m) t = true
serves Dynamic m t = within (range m) t

pub served_answers : (child : ℕ) (k : Kind) (m : Samples) (t : ℕ) → Rising m → serves k m t ≡ true → (p : Isometry) × (served child k m t ≡ answer p)
served_answers child Static [] t r s = absurd (false_true s)
served_answers child Static (x ∷ m) t r s = (x.1, served_static child x m t)
served_answers child Dynamic m t r s = served_inside child m t r s

pub served_refuses : (child : ℕ) (k : Kind) (m : Samples) (t : ℕ) → Rising m → serves k m t ≡ false → served child k m t ≡ refusal 11 (hop child (range m))
served_refuses child Static [] t r s = served_empty child Static t
served_refuses child Static (x ∷ m) t r s = absurd (false_true (sym s))
served_refuses child Dynamic m t r s = served_outside child m t r s

-- no other refusal, so never 15
pub served_refusal : (child : ℕ) (k : Kind) (m : Samples) (t n : ℕ) (c : Carried) → Rising m → served child k m t ≡ refusal n c
    → (n ≡ 11) × (c ≡ hop child (range m)) × (serves k m t ≡ false)
served_refusal child k m t n c r e =
    both (serves k m t)
    (λ s. absurd (refusal_answer (sym e ∙ (served_answers child k m t r s).1)))
    (λ s.
    let q : refusal n c ≡ refusal 11 (hop child (range m)) = sym e ∙ served_refuses child k m t r s in
    (number q, carried q, s))
  where
    number : ◌≡◌ {A = Reply Isometry} (refusal n c) (refusal 11 (hop child (range m))) → n ≡ 11
    number q = cc q

    carried : ◌≡◌ {A = Reply Isometry} (refusal n c) (refusal 11 (hop child (range m))) → c ≡ hop child (range m)
    carried q = cc q
