-- A pose passes `validate` where its translation is finite and its rotation's sum of squares lies between two constants: the root need not be taken.
use mathlib.Core.Path.{◌≡◌, refl, sym, ap, ◌∙◌, subst}
use mathlib.Core.Logic.{◌⊎◌, inl, inr, ⊎_elim}
use mathlib.Core.Bool.{Bool, true, false, not, ◌&&◌, and_assoc, and-false, and-true}
use Prim.Native.Nat.{ℕ, zero, suc, ◌+◌, ◌*◌, ◌^◌, ◌≤◌, zero-le}
use native.Mathlib.Nat.{zero-lt-suc, zero-mul, le_of_lt, lt_of_not-le, mul-le-mul_right}
use native.Mathlib.Decide.{dec_le}
use lib.Dec.{T, lit≤, lt→ltb, not_T}
use lib.Pow.{pow_pos}
use lib.Ieee.{Float, nan, inf, fin, binary64, down, fits, up, le, lt, of_bits, sub}
use lib.Ieee.Bits.{is_true, is_false, of_bits-fits}
use lib.Ieee.Fits.{add-fits}
use lib.Ieee.Order.{le_of_values}
use lib.Ieee.Scale.{finite}
use lib.Ieee.Positive.{num, den, above_of_le, positive, le_trans_positive}
use Rattle.time.specs.Float.{◌⊖◌, one64, abs}
use Rattle.time.specs.Reply.{Carried, answer, norm, nothing, refuse}
use Rattle.time.proofs.Seconds.{Plain, plain, le→cross}
use Rattle.libm.specs.Sqrt.{sqrt, sqrt_at}
use Rattle.libm.specs.Laws.{Units}
use Rattle.geometry.specs.Transform.{is_valid, passes, tolerance, validate}
use Rattle.geometry.specs.Vector3 as vector
use Rattle.geometry.specs.Quaternion.{dot, is_finite}
use Rattle.geometry.specs.declared.quaternion.Quaternion.{Quaternion}
use Rattle.geometry.specs.declared.isometry.Isometry.{Isometry}
use Rattle.geometry.proofs.Squares.{dot_upward, dot_finite}
use Rattle.libm.proofs.Neighbours.{gap}
use Rattle.libm.proofs.SqrtNearest.{held}
use Rattle.libm.proofs.SqrtOrder.{sqrt_mono, sqrt_plain, units_of_lem}
use Rattle.geometry.proofs.UnitDistance.{Upward, distance_upward, closer_below, closer_above, le_through, below_is}

-- a positive f64
abbrev Known : Float → Type 0
Known n = T (fits binary64 n) × T (positive n)

-- the sums of squares whose roots are 1 within the tolerance, and their neighbours outside
abbrev pub lowest : Float
lowest = of_bits binary64 0x3fef_fffb_ce42_3b03

abbrev pub highest : Float
highest = of_bits binary64 0x3ff0_0002_18df_05ae

abbrev too_low : Float
too_low = of_bits binary64 0x3fef_fffb_ce42_3b02

abbrev too_high : Float
too_high = of_bits binary64 0x3ff0_0002_18df_05af

lowest_within : T (le (abs (sqrt lowest ⊖ one64)) tolerance)
unfolding sqrt_at of_bits sub le
lowest_within = tt

highest_within : T (le (abs (sqrt highest ⊖ one64)) tolerance)
unfolding sqrt_at of_bits sub le
highest_within = tt

too_low_outside : le (abs (sqrt too_low ⊖ one64)) tolerance ≡ false
unfolding sqrt_at of_bits sub le
too_low_outside = refl

too_high_outside : le (abs (sqrt too_high ⊖ one64)) tolerance ≡ false
unfolding sqrt_at of_bits sub le
too_high_outside = refl

too_low_under : num (sqrt too_low) ≤ den (sqrt too_low)
unfolding sqrt_at of_bits
too_low_under = lit≤ tt

too_high_over : den (sqrt too_high) ≤ num (sqrt too_high)
unfolding sqrt_at of_bits
too_high_over = lit≤ tt

-- the four are in order
too_low_lowest : T (le lowest too_low) → ⊥
unfolding le of_bits
too_low_lowest t = t

highest_too_high : T (le too_high highest) → ⊥
unfolding le of_bits
highest_too_high t = t

at : (b : ℕ) → T (positive (of_bits binary64 b)) → Known (of_bits binary64 b)
at b p = (of_bits-fits binary64 b, p)

lowest_known : Known lowest
unfolding of_bits
lowest_known = at 0x3fef_fffb_ce42_3b03 tt

highest_known : Known highest
unfolding of_bits
highest_known = at 0x3ff0_0002_18df_05ae tt

too_low_known : Known too_low
unfolding of_bits
too_low_known = at 0x3fef_fffb_ce42_3b02 tt

too_high_known : Known too_high
unfolding of_bits
too_high_known = at 0x3ff0_0002_18df_05af tt

tolerance_plain : Plain tolerance
unfolding of_bits
tolerance_plain = plain

fails : (b : Bool) → (T b → ⊥) → b ≡ false
fails b h = is_false b (not_T b h)

-- ---- a distance from 1 on the near side of one that is within, and on the far side of one that is outside

within : (y z : Float) → Plain y → Plain z → T (le (abs (z ⊖ one64)) tolerance) → T (le (abs (y ⊖ one64)) (abs (z ⊖ one64))) → lt tolerance (abs (y ⊖ one64)) ≡ false
within y z p q h k =
    below_is tolerance (abs (y ⊖ one64)) tolerance_plain (distance_upward y p)
    ∙ ap not (is_true (le (abs (y ⊖ one64)) tolerance) (le_through (abs (y ⊖ one64)) (abs (z ⊖ one64)) tolerance (distance_upward y p) (distance_upward z q) tolerance_plain k h))

outside : (y z : Float) → Plain y → Plain z → le (abs (z ⊖ one64)) tolerance ≡ false → T (le (abs (z ⊖ one64)) (abs (y ⊖ one64))) → lt tolerance (abs (y ⊖ one64)) ≡ true
outside y z p q h k =
    below_is tolerance (abs (y ⊖ one64)) tolerance_plain (distance_upward y p)
    ∙ ap not
    (fails (le (abs (y ⊖ one64)) tolerance)
    (λ t. subst T h (le_through (abs (z ⊖ one64)) (abs (y ⊖ one64)) tolerance (distance_upward z q) (distance_upward y p) tolerance_plain k t)))

infinite_test : not (lt tolerance (abs (sqrt (inf false) ⊖ one64))) ≡ le lowest (inf false) && le (inf false) highest
unfolding sqrt_at of_bits sub lt le
infinite_test = refl

range_finite : (n : Float) → T (le lowest n && le n highest) → T (finite n)
unfolding of_bits le
range_finite nan t = t
range_finite (inf true) t = t
range_finite (inf false) t = t
range_finite (fin s m e) t = tt

passed : (f r t : Bool) (n : Float) (a : Isometry) → passes (refuse (not (f && r)) 3 nothing (refuse t 4 (norm n) (answer a))) ≡ f && r && not t
passed true true true n a = refl
passed true true false n a = refl
passed true false t n a = refl
passed false r t n a = refl

-- ---- no f64 lies between a constant and its neighbour

lowest_units : Units lowest (0x1f_fffb_ce42_3b03 * 2 ^ 1021)
unfolding of_bits
lowest_units = (refl, refl)

too_low_units : Units too_low (0x1f_fffb_ce42_3b02 * 2 ^ 1021)
unfolding of_bits
too_low_units = (refl, refl)

highest_units : Units highest (0x10_0002_18df_05ae * 2 ^ 1022)
unfolding of_bits
highest_units = (refl, refl)

too_high_units : Units too_high (0x10_0002_18df_05af * 2 ^ 1022)
unfolding of_bits
too_high_units = (refl, refl)

le_units : (x y : Float) (v w : ℕ) → Units x v → Units y w → v ≤ w → T (le x y)
le_units x y v w p q h = le_of_values x y v (2 ^ 1074) w (2 ^ 1074) (pow_pos 1074) (pow_pos 1074) p q (mul-le-mul_right (2 ^ 1074) h)

no_value_between : (n x y : Float) (q k : ℕ) → Known n → 2 ^ 52 ≤ q → Units x (q * 2 ^ k) → Units y ((q + 1) * 2 ^ k) → T (le n x) ⊎ T (le y n)
no_value_between n x y q k (f, p) h a b =
    let (v, u) = units_of_lem n f p in
    ⊎_elim (λ l. inl (le_units n x v (q * 2 ^ k) u a l)) (λ l. inr (le_units y n ((q + 1) * 2 ^ k) v b u l)) (gap v q k (held n v f u) h)

gap_low : (n : Float) → Known n → T (le n too_low) ⊎ T (le lowest n)
gap_low n k = no_value_between n too_low lowest 0x1f_fffb_ce42_3b02 1021 k (lit≤ tt) too_low_units lowest_units

gap_high : (n : Float) → Known n → T (le n highest) ⊎ T (le too_high n)
gap_high n k = no_value_between n highest too_high 0x10_0002_18df_05ae 1022 k (lit≤ tt) highest_units too_high_units

root_plain : (n : Float) → Known n → Plain (sqrt n)
root_plain n k = sqrt_plain n k.0 k.1

root_order : (n m : Float) → Known n → Known m → T (le n m) → num (sqrt n) * den (sqrt m) ≤ num (sqrt m) * den (sqrt n)
root_order n m k l h = le→cross (sqrt n) (sqrt m) (root_plain n k) (root_plain m l) (sqrt_mono n m k.0 l.0 k.1 l.1 h)

too_low_lem : (n : Float) → Known n → T (le n too_low) → lt tolerance (abs (sqrt n ⊖ one64)) ≡ true
too_low_lem n k h =
    let p = root_plain n k in
    let q = root_plain too_low too_low_known in
    outside (sqrt n) (sqrt too_low) p q too_low_outside (closer_below (sqrt n) (sqrt too_low) p q (root_order n too_low k too_low_known h) too_low_under)

too_high_lem : (n : Float) → Known n → T (le too_high n) → lt tolerance (abs (sqrt n ⊖ one64)) ≡ true
too_high_lem n k h =
    let p = root_plain n k in
    let q = root_plain too_high too_high_known in
    outside (sqrt n) (sqrt too_high) p q too_high_outside (closer_above (sqrt too_high) (sqrt n) q p (root_order too_high n too_high_known k h) too_high_over)

between : (n : Float) → Known n → T (le lowest n) → T (le n highest) → lt tolerance (abs (sqrt n ⊖ one64)) ≡ false
between n k h l = side (dec_le (num (sqrt n)) (den (sqrt n)))
  where
    p : Plain (sqrt n)
    p = root_plain n k

    side : Dec (num (sqrt n) ≤ den (sqrt n)) → lt tolerance (abs (sqrt n ⊖ one64)) ≡ false
    side (yes a) =
        let q = root_plain lowest lowest_known in
        within (sqrt n) (sqrt lowest) p q lowest_within (closer_below (sqrt lowest) (sqrt n) q p (root_order lowest n lowest_known k h) a)
    side (no a) =
        let q = root_plain highest highest_known in
        within (sqrt n) (sqrt highest) p q highest_within (closer_above (sqrt n) (sqrt highest) p q (root_order n highest k highest_known l) (le_of_lt (lt_of_not-le a)))

root_test : (n : Float) → Known n → not (lt tolerance (abs (sqrt n ⊖ one64))) ≡ le lowest n && le n highest
root_test n k = go (gap_low n k) (gap_high n k)
  where
    go : T (le n too_low) ⊎ T (le lowest n) → T (le n highest) ⊎ T (le too_high n) → not (lt tolerance (abs (sqrt n ⊖ one64))) ≡ le lowest n && le n highest
    go (inl h) l =
        rw (too_low_lem n k h, fails (le lowest n) (λ t. too_low_lowest (le_trans_positive lowest n too_low lowest_known.1 k.1 too_low_known.1 t h)))
    go (inr h) (inr l) =
        rw (too_high_lem n k l, fails (le n highest) (λ t. highest_too_high (le_trans_positive too_high n highest too_high_known.1 k.1 highest_known.1 l t)))
        (sym (and-false (le lowest n)))
    go (inr h) (inl l) = rw (between n k h l, is_true (le lowest n) h, is_true (le n highest) l)

-- zero and the infinity among them
upward_test : (n : Float) → T (fits binary64 n) → Upward n → not (lt tolerance (abs (sqrt n ⊖ one64))) ≡ le lowest n && le n highest
unfolding sqrt_at
upward_test n f (inr q) = rw q infinite_test
upward_test n f (inl (plain {m = zero} {e})) =
    let q = root_plain too_low too_low_known in
    let c : 0 * up e * den (sqrt too_low) ≤ num (sqrt too_low) * down e = rw (zero-mul (up e), zero-mul (den (sqrt too_low))) zero-le in
    rw (
      outside (fin false 0 e) (sqrt too_low) plain q too_low_outside (closer_below (fin false 0 e) (sqrt too_low) plain q c too_low_under),
      fails (le lowest (fin false 0 e)) (λ t. above_of_le lowest (fin false 0 e) lowest_known.1 t),
    )
upward_test n f (inl (plain {m = suc m} {e})) = root_test n (f, lt→ltb 0 (suc m) (zero-lt-suc m))

pub valid_fast : (a : Isometry) → is_valid a ≡ vector.is_finite a.translation && le lowest (dot a.rotation a.rotation) && le (dot a.rotation a.rotation) highest
unfolding validate
valid_fast a = passed f (is_finite r) (lt tolerance (abs (sqrt n ⊖ one64))) (sqrt n) a ∙ go (is_finite r) (dot_upward r) (dot_finite r) ∙ sym (and_assoc f (le lowest n) (le n highest))
  where
    r : Quaternion
    r = a.rotation

    n : Float
    n = dot r r

    f : Bool
    f = vector.is_finite a.translation

    go : (b : Bool) → (T b → Upward n) → (T (finite n) → b ≡ true) → f && b && not (lt tolerance (abs (sqrt n ⊖ one64))) ≡ f && (le lowest n && le n highest)
    go true p q = rw (and-true f, upward_test n (add-fits binary64 _ _) (p tt))
    go false p q = rw (and-false f, fails (le lowest n && le n highest) (λ t. subst T (sym (q (range_finite n t))) tt), and-false f)

-- what passes two tests is the answer
both_passed : (s t : Bool) (j k : ℕ) (c d : Carried) (a : Isometry) → passes (refuse s j c (refuse t k d (answer a))) ≡ true → refuse s j c (refuse t k d (answer a)) ≡ answer a
both_passed true t j k c d a h = absurd (subst T (sym h) tt)
both_passed false true j k c d a h = absurd (subst T (sym h) tt)
both_passed false false j k c d a h = refl

pub valid_answer : (a : Isometry) → is_valid a ≡ true → validate a ≡ answer a
unfolding validate
valid_answer a h = both_passed _ _ 3 4 nothing _ a h
