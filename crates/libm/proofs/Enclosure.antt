-- The arc cosine's steps keep the order, so that bounds of a value before a step give bounds of it after the step.
use mathlib.Core.Path.{◌≡◌, refl, sym, ap, ◌∙◌, subst}
use mathlib.Core.Logic.{inl, inr}
use mathlib.Core.Bool.{Bool, true, false, ◌&&◌}
use Prim.Native.Nat.{ℕ, zero, suc, ◌+◌, ◌-◌, ◌*◌, ◌^◌, ◌≤◌, ◌<◌}
use native.Mathlib.Nat.{le_refl, le_trans, le_antisymm, add-mul, mul_comm, mul-one, one-mul, eq_of_mul-eq-mul_right, zero-lt-suc, not-suc-le-zero, eq-or-lt_of_le, le_of_suc-le-suc, add-zero}
use native.Mathlib.Omega.{arith}
use lib.Dec.{T}
use lib.Pow.{pow_pos}
use lib.Ieee.{Float, nan, inf, fin, binary64, add, sum, div, fits, le, lt, eq, mul, of_bits, of_int, round}
use lib.Ieee.Fits.{add-fits, and_l, and_r}
use lib.Ieee.Order.{round_mono}
use lib.Ieee.Positive.{num, den, den_pos, positive, le→cross, cross→le, le_trans_positive, above, above_of_le, between, mul_mono, values_of_le}
use Rattle.time.specs.Float.{◌⊕◌, ◌⊗◌, ◌⊘◌, whole, one64, two64}
use Rattle.libm.specs.Libm.{numerator, denominator, acos_steps}
use Rattle.libm.specs.Laws.{Units}
use Rattle.libm.specs.Enclosure.{step, run, Within, least_square, most_square, Square, Value, Bound, Stands, Encloses}
use Rattle.libm.proofs.Series.{acos_step}
use Rattle.libm.proofs.SqrtOrder.{same_units, units_of_lem}

-- ---- a sum with 1

add_is : (x : Float) → T (positive x) → one64 ⊕ x ≡ round binary64 false (1 * den x + num x * 1) (1 * den x)
unfolding add sum of_bits
add_is nan p = absurd p
add_is (inf s) p = absurd p
add_is (fin true m e) p = absurd p
add_is (fin false m e) p = refl

grown : (a d b e : ℕ) → a * e ≤ b * d → (1 * d + a * 1) * (1 * e) ≤ (1 * e + b * 1) * (1 * d)
grown a d b e h =
    let p : (d + a) * e ≡ d * e + a * e = add-mul d a e in
    let q : (e + b) * d ≡ e * d + b * d = add-mul e b d in
    let r : d * e ≡ e * d = mul_comm d e in
    simp (mul-one, one-mul) (omega (arith, p, q, r, h))

den_of : (x : Float) → 0 < 1 * den x
den_of x = subst (λ (n : ℕ). 0 < n) (sym (one-mul (den x))) (den_pos x)

add_mono : (x y : Float) → T (positive x) → T (positive y) → T (le x y) → T (le (one64 ⊕ x) (one64 ⊕ y))
add_mono x y p q h =
    subst (λ (z : Float). T (le z (one64 ⊕ y))) (sym (add_is x p))
    (subst (λ (z : Float). T (le (round binary64 false (1 * den x + num x * 1) (1 * den x)) z)) (sym (add_is y q))
    (round_mono binary64 (1 * den x + num x * 1) (1 * den x) (1 * den y + num y * 1) (1 * den y) (den_of x) (den_of y)
    (grown (num x) (den x) (num y) (den y) (le→cross x y p q h))))

one_is : round binary64 false 1 1 ≡ one64
unfolding round of_bits
one_is = refl

add_least : (x : Float) → T (positive x) → T (le one64 (one64 ⊕ x))
add_least x p =
    subst (λ (z : Float). T (le one64 z)) (sym (add_is x p))
    (subst (λ (z : Float). T (le z (round binary64 false (1 * den x + num x * 1) (1 * den x)))) one_is
    (round_mono binary64 1 1 (1 * den x + num x * 1) (1 * den x) (zero-lt-suc 0) (den_of x) (omega arith)))

-- ---- constants

half : Float
half = of_bits binary64 0x3fe0_0000_0000_0000

one_positive : T (positive one64)
unfolding of_bits
one_positive = tt

two_positive : T (positive two64)
unfolding of_bits
two_positive = tt

half_positive : T (positive half)
unfolding half of_bits
half_positive = tt

least_positive : T (positive least_square)
unfolding of_bits
least_positive = tt

most_positive : T (positive most_square)
unfolding of_bits
most_positive = tt

half_two : half ⊗ two64 ≡ one64
unfolding half of_bits mul
half_two = refl

one_one : one64 ⊕ one64 ≡ two64
unfolding of_bits add
one_one = refl

least_most : T (le least_square most_square)
unfolding of_bits le lt eq
least_most = tt

one_two : T (le one64 two64)
unfolding of_bits le lt eq
one_two = tt

-- ---- the table's quotients

abbrev quotient : ℕ → Float
quotient k = whole (numerator k) ⊘ whole (denominator k)

-- with the least square a step is above zero, with the greatest it is a half at most
right : ℕ → Bool
right k = positive (quotient k) && (positive (least_square ⊗ quotient k) && (positive (least_square ⊗ quotient k ⊗ one64) && le (most_square ⊗ quotient k) half))

all : ℕ → Bool
all zero = true
all (suc n) = right (suc n) && all n

all_right : T (all 48)
unfolding all right half of_bits of_int div mul le lt eq
all_right = tt

pick : (n k : ℕ) → T (all n) → 0 < k → k ≤ n → T (right k)
unfolding all
pick zero k t p h = absurd (not-suc-le-zero (le_trans p h))
pick (suc n) k t p h =
    elim (eq-or-lt_of_le h) [
      | inl e ↦ subst (λ (i : ℕ). T (right i)) (sym e) (and_l (right (suc n)) (all n) t)
      | inr l ↦ pick n k (and_r (right (suc n)) (all n) t) p (le_of_suc-le-suc l)
    ]

record Entry (k : ℕ) : Type 0 where
  own : T (positive (quotient k))
  least : T (positive (least_square ⊗ quotient k))
  product : T (positive (least_square ⊗ quotient k ⊗ one64))
  most : T (le (most_square ⊗ quotient k) half)

entry : (k : ℕ) → 0 < k → k ≤ 48 → Entry k
unfolding right
entry k p h =
    let t = pick 48 k all_right p h in
    let a = and_r (positive (quotient k)) _ t in
    let b = and_r (positive (least_square ⊗ quotient k)) _ a in
    record {
      own = and_l (positive (quotient k)) _ t;
      least = and_l (positive (least_square ⊗ quotient k)) _ a;
      product = and_l (positive (least_square ⊗ quotient k ⊗ one64)) _ b;
      most = and_r (positive (least_square ⊗ quotient k ⊗ one64)) _ b;
    }

-- ---- a step

same : (x : Float) → T (positive x) → T (le x x)
same x p = cross→le x x p p (le_refl (num x * den x))

square_positive : (s : Float) → Square s → T (positive s)
square_positive s h = between least_square s most_square least_positive most_positive h.0 h.1

value_positive : (h : Float) → Value h → T (positive h)
value_positive h v = between one64 h two64 one_positive two_positive v.0 v.1

module _ (k : ℕ) (p : 0 < k) (q : k ≤ 48) where
  scaled_mono : (s t : Float) → T (positive s) → T (positive t) → T (le s t) → T (le (s ⊗ quotient k) (t ⊗ quotient k))
  scaled_mono s t a b h = let c = (entry k p q).own in mul_mono binary64 s t (quotient k) (quotient k) a b c c h (same (quotient k) c)

  scaled_least : (s : Float) → Square s → T (le (least_square ⊗ quotient k) (s ⊗ quotient k))
  scaled_least s h = scaled_mono least_square s least_positive (square_positive s h) h.0

  most_scaled : T (positive (most_square ⊗ quotient k))
  most_scaled =
      between (least_square ⊗ quotient k) (most_square ⊗ quotient k) half (entry k p q).least half_positive
      (scaled_least most_square (least_most, same most_square most_positive)) (entry k p q).most

  scaled_positive : (s : Float) → Square s → T (positive (s ⊗ quotient k))
  scaled_positive s h =
      between (least_square ⊗ quotient k) (s ⊗ quotient k) (most_square ⊗ quotient k) (entry k p q).least most_scaled (scaled_least s h)
      (scaled_mono s most_square (square_positive s h) most_positive h.1)

  scaled_most : (s : Float) → Square s → T (le (s ⊗ quotient k) half)
  scaled_most s h =
      le_trans_positive (s ⊗ quotient k) (most_square ⊗ quotient k) half (scaled_positive s h) most_scaled half_positive
      (scaled_mono s most_square (square_positive s h) most_positive h.1) (entry k p q).most

  product_most : (s h : Float) → Square s → Value h → T (le (s ⊗ quotient k ⊗ h) one64)
  product_most s h a v =
      subst (λ (z : Float). T (le (s ⊗ quotient k ⊗ h) z)) half_two
      (mul_mono binary64 (s ⊗ quotient k) half h two64 (scaled_positive s a) half_positive (value_positive h v) two_positive (scaled_most s a) v.1)

  product_positive : (s h : Float) → Square s → Value h → T (positive (s ⊗ quotient k ⊗ h))
  product_positive s h a v =
      between (least_square ⊗ quotient k ⊗ one64) (s ⊗ quotient k ⊗ h) one64 (entry k p q).product one_positive
      (mul_mono binary64 (least_square ⊗ quotient k) (s ⊗ quotient k) one64 h (entry k p q).least (scaled_positive s a) one_positive (value_positive h v) (scaled_least s a) v.0)
      (product_most s h a v)

  step_value : (s h : Float) → Square s → Value h → Value (step k s h)
  step_value s h a v =
      let d = product_positive s h a v in (
        add_least (s ⊗ quotient k ⊗ h) d,
        subst (λ (z : Float). T (le (step k s h) z)) one_one (add_mono (s ⊗ quotient k ⊗ h) one64 d one_positive (product_most s h a v)),
      )

  step_mono : (s t g h : Float) → Square s → Square t → Value g → Value h → T (le s t) → T (le g h) → T (le (step k s g) (step k t h))
  step_mono s t g h a b v w l m =
      add_mono (s ⊗ quotient k ⊗ g) (t ⊗ quotient k ⊗ h) (product_positive s g a v) (product_positive t h b w)
      (mul_mono binary64 (s ⊗ quotient k) (t ⊗ quotient k) g h (scaled_positive s a) (scaled_positive t b) (value_positive g v) (value_positive h w)
      (scaled_mono s t (square_positive s a) (square_positive t b) l) m)

-- ---- bounds

-- what lies between bounds that lie within a range lies within it
inside : (a b low high x : Float) → T (positive a) → T (positive b) → Within a b low → Within a b high → Within low high x → Within a b x
inside a b low high x p q l h w =
    let pl : T (positive low) = between a low b p q l.0 l.1 in
    let ph : T (positive high) = between a high b p q h.0 h.1 in
    let px : T (positive x) = between low x high pl ph w.0 w.1 in
    (le_trans_positive a low x p pl px l.0 w.0, le_trans_positive x high b px ph q w.1 h.1)

one_step : (least most low high : Float) (k : ℕ) → Square least → Square most → Value low → Value high → 0 < k → k ≤ 48
    → Encloses least most k low high → Encloses least most (k - 1) (step k least low) (step k most high)
one_step least most low high k a b v w p q e z s =
    let (h, f, i, r) = e z s in
    let sq = inside least_square most_square least most (z ⊗ z) least_positive most_positive a b s in
    let vh = inside one64 two64 low high h one_positive two_positive v w r in (
      step k (z ⊗ z) h,
      add-fits binary64 one64 (z ⊗ z ⊗ quotient k ⊗ h),
      acos_step k z h p ∙ i,
      (step_mono k p q least (z ⊗ z) low h a sq v vh s.0 r.0, step_mono k p q (z ⊗ z) most h high sq b vh w s.1 r.1),
    )

one_fits : T (fits binary64 one64)
unfolding of_bits fits
one_fits = tt

one_value : Value one64
one_value = (same one64 one_positive, one_two)

two_fits : T (fits binary64 two64)
unfolding of_bits fits
two_fits = tt

pub one_bound : Bound one64
one_bound = (one_fits, one_value)

pub two_bound : Bound two64
two_bound = (two_fits, (one_two, same two64 two_positive))

-- all 48 steps are between the bounds 1 and 1 at the start, and 1 and 2 later
pub at_start : (least most : Float) → Encloses least most 48 one64 one64
at_start least most z s = (one64, one_fits, refl, (same one64 one_positive, same one64 one_positive))

reached : (n : ℕ) (z : Float) → Square (z ⊗ z) → n ≤ 48 → Stands z (48 - n) one64 two64
reached zero z a h = (one64, one_fits, refl, one_value)
reached (suc n) z a h =
    let (g, f, i, r) = reached n z a (omega arith) in
    let k : ℕ = 48 - n in
    let e : 48 - n - 1 ≡ 48 - suc n = omega arith in (
      step k (z ⊗ z) g,
      add-fits binary64 one64 (z ⊗ z ⊗ quotient k ⊗ g),
      ap (λ (j : ℕ). acos_steps j z (step k (z ⊗ z) g)) (sym e) ∙ acos_step k z g (omega arith) ∙ i,
      step_value k (omega arith) (omega arith) (z ⊗ z) g a r,
    )

pub later : (least most : Float) (k : ℕ) → Square least → Square most → k ≤ 48 → Encloses least most k one64 two64
later least most k a b h z s =
    let e : 48 - (48 - k) ≡ k = omega arith in
    subst (λ (j : ℕ). Stands z j one64 two64) e (reached (48 - k) z (inside least_square most_square least most (z ⊗ z) least_positive most_positive a b s) (omega arith))

-- bounds that meet leave one value
squeezed : (x y : Float) → T (fits binary64 x) → T (fits binary64 y) → T (positive x) → T (positive y) → T (le x y) → T (le y x) → x ≡ y
squeezed x y f g p q h k =
    let (m, u) = units_of_lem x f p in
    let (n, v) = units_of_lem y g q in
    let e : m * 2 ^ 1074 ≡ n * 2 ^ 1074 = le_antisymm (values_of_le x y m (2 ^ 1074) n (2 ^ 1074) p q u v h) (values_of_le y x n (2 ^ 1074) m (2 ^ 1074) q p v u k) in
    same_units x y m f g u (subst (Units y) (eq_of_mul-eq-mul_right (2 ^ 1074) (pow_pos 1074) n m (sym e)) v)

pub met : (z low high : Float) → Bound low → Bound high → Stands z 0 low high → T (le high low) → low ≡ acos_steps 48 z one64
unfolding acos_steps
met z low high (f, v) (t, w) (h, g, i, r) l =
    let pl = value_positive low v in
    let ph = value_positive high w in
    let vh = inside one64 two64 low high h one_positive two_positive v w r in
    let p = value_positive h vh in
    squeezed low h f g pl p r.0 (le_trans_positive h high low p ph pl r.1 l) ∙ i

-- ---- as the code has them

-- n steps keep the bounds
runs : (n j : ℕ) (least most low high : Float) → j + n ≤ 48 → Square least → Square most → Bound low → Bound high → Encloses least most (j + n) low high
    → Bound (run n j least low) × Bound (run n j most high) × Encloses least most j (run n j least low) (run n j most high)
unfolding run
runs zero j least most low high q a b v w e = (v, w, subst (λ (k : ℕ). Encloses least most k low high) (add-zero j) e)
runs (suc n) j least most low high q a b v w e =
    let k : ℕ = j + suc n in
    let p : 0 < k = omega arith in
    let d : k - 1 ≡ j + n = omega arith in
    runs n j least most (step k least low) (step k most high) (omega arith) a b
    (add-fits binary64 one64 (least ⊗ quotient k ⊗ low), step_value k p q least low a v.1)
    (add-fits binary64 one64 (most ⊗ quotient k ⊗ high), step_value k p q most high b w.1)
    (subst (λ (i : ℕ). Encloses least most i (step k least low) (step k most high)) d (one_step least most low high k a b v.1 w.1 p q e))

narrower : (least most s low high : Float) (k : ℕ) → Square least → Square most → Within least most s → Encloses least most k low high → Encloses s s k low high
narrower least most s low high k a b w e z r =
    e z (inside least most s s (z ⊗ z) (square_positive least a) (square_positive most b) w w r)

square_of : (least most s : Float) → Square least → Square most → Within least most s → Square s
square_of least most s a b w = inside least_square most_square least most s least_positive most_positive a b w

-- ---- the test of the bounds

upward : (x y : Float) → T (above x) → T (le x y) → T (above y)
unfolding le
upward nan y a h = absurd a
upward (inf true) y a h = absurd a
upward (inf false) nan a h = absurd h
upward (inf false) (inf true) a h = absurd h
upward (inf false) (inf false) a h = tt
upward (inf false) (fin t n d) a h = absurd h
upward (fin true m e) y a h = absurd a
upward (fin false m e) y a h = above_of_le (fin false m e) y a h

downward : (x y : Float) → T (above x) → T (positive y) → T (le x y) → T (positive x)
unfolding le
downward nan y a p h = absurd a
downward (inf true) y a p h = absurd a
downward (inf false) nan a p h = absurd p
downward (inf false) (inf t) a p h = absurd p
downward (inf false) (fin t n d) a p h = absurd h
downward (fin true m e) y a p h = absurd a
downward (fin false m e) y a p h = a

pub tested : (least s most : Float) → T (le least_square least && le least s && le s most && le most most_square) → Square least × Square most × Within least most s
tested least s most t =
    let h = and_l (le least_square least && le least s && le s most) (le most most_square) t in
    let d = and_r (le least_square least && le least s && le s most) (le most most_square) t in
    let g = and_l (le least_square least && le least s) (le s most) h in
    let c = and_r (le least_square least && le least s) (le s most) h in
    let a = and_l (le least_square least) (le least s) g in
    let b = and_r (le least_square least) (le least s) g in
    let al : T (above least) = above_of_le least_square least least_positive a in
    let as' : T (above s) = upward least s al b in
    let pm : T (positive most) = downward most most_square (upward s most as' c) most_positive d in
    let ps : T (positive s) = downward s most as' pm c in
    let pl : T (positive least) = downward least s al ps b in
    let m : T (le least most) = le_trans_positive least s most pl ps pm b c in
    ((a, le_trans_positive least most most_square pl pm most_positive m d), (le_trans_positive least_square least most least_positive pl pm a m, d), (b, c))

pub square_itself : (least s most : Float) → T (le least_square least && le least s && le s most && le most most_square) → Within s s s
square_itself least s most t =
    let (a, b, w) = tested least s most t in
    let h = same s (square_positive s (square_of least most s a b w)) in
    (h, h)

-- k steps, the last eight with the square itself
pub all_but_eight : (least most s low high low' high' low'' high'' : Float) (k : ℕ) → Square least → Square most → Within least most s → 8 ≤ k → k ≤ 48
    → Bound low → Bound high → Encloses least most k low high → low' ≡ run (k - 8) 8 least low → high' ≡ run (k - 8) 8 most high
    → low'' ≡ run 8 0 s low' → high'' ≡ run 8 0 s high' → Bound low'' × Bound high'' × Encloses s s 0 low'' high''
all_but_eight least most s low high low' high' low'' high'' k a b w p q v u e f g f' g' =
    let i : 8 + (k - 8) ≡ k = omega arith in
    let j : 8 + (k - 8) ≤ 48 = omega arith in
    let c = square_of least most s a b w in
    let (x, y, r) = at least most 8 f g (runs (k - 8) 8 least most low high j a b v u (subst (λ (n : ℕ). Encloses least most n low high) (sym i) e)) in
    at s s 0 f' g' (runs 8 0 s s low' high' (omega arith) c c x y (narrower least most s low' high' 8 a b w r))
  where
    at : (l m : Float) (n : ℕ) {x y x' y' : Float} → x' ≡ x → y' ≡ y → Bound x × Bound y × Encloses l m n x y → Bound x' × Bound y' × Encloses l m n x' y'
    at l m n {x} {y' = y'} e f r =
        subst (λ (a : Float). Bound a × Bound y' × Encloses l m n a y') (sym e) (subst (λ (b : Float). Bound x × Bound b × Encloses l m n x b) (sym f) r)
