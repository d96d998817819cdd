-- The seconds of a difference, exactly and then rounded: finite, positive and monotone. Assumes nothing.
use mathlib.Core.Path.{◌≡◌, refl, sym, ap, ◌∙◌, subst}
use mathlib.Core.Logic.{◌⊎◌, inl, inr}
use mathlib.Core.Bool.{Bool, true, false, cond, ◌||◌, ◌&&◌}
use Prim.Native.Nat.{ℕ, zero, suc, ◌+◌, ◌-◌, ◌*◌, ◌/◌, ◌%◌, ◌^◌, ◌≤◌, ◌<◌}
use native.Mathlib.Nat.{mul_comm, mul_assoc, mul_left_comm, mul-one, one-mul, add-mul, mul-pos, zero-lt-suc, lt_irrefl, le_of_eq, le_of_lt, le_trans, lt_of_lt_of_le, mul-le-mul_right, eq-or-lt_of_le, lt_of_le_of_lt, mod-lt, mul_right_comm, suc-mul}
use native.Mathlib.Omega.{arith}
use lib.Dec.{T, lit<, lit≤, ltb, eqb, ltb→lt, eqb→eq, eqb-suc-zero}
use lib.IntN.{ℤ, pos}
use lib.Ieee.{Float, nan, inf, fin, binary64, up, down, add, sum, div, round, le, lt, eq, of_int, of_bits, units, odd}
use lib.Ieee.Exact.{HasValue, odd_sign}
use lib.Ieee.Fits.{round_is}
use lib.Ieee.Order.{round_mono, kept, drop}
use lib.Ieee.Scale.{round_same}
use lib.Ieee.Back.{round_whole}
use lib.Ieee.Positive.{num, den, den_pos, first_pos}
use Rattle.time.specs.Float.{whole}
use Rattle.time.specs.Timestamp.{as_secs_f64}

-- ---- a finite value that is not negative
pub data Plain : Float → Type 0 where
  plain : {m : ℕ} {e : ℤ} → Plain (fin false m e)

pub of_value : (x : Float) (a c : ℕ) → HasValue x false a c → Plain x
of_value nan a c h = absurd h
of_value (inf s) a c h = absurd h
of_value (fin true m e) a c h = absurd (subst T h.0 tt)
of_value (fin false m e) a c h = plain

value_cross : (x : Float) (a c : ℕ) → HasValue x false a c → num x * c ≡ a * den x
value_cross nan a c h = absurd h
value_cross (inf s) a c h = absurd h
value_cross (fin s m e) a c h = h.1

-- what `round` gives is one, or the infinity
units_plain : (q k : ℕ) → Plain (units binary64 false q k) ⊎ (units binary64 false q k ≡ inf false)
unfolding units
units_plain q k = go (ltb (q * 2 ^ k) (2 ^ 2098))
  where
    go : (b : Bool) → Plain (cond b (odd 54 false q k 1074) (inf false)) ⊎ (cond b (odd 54 false q k 1074) (inf false) ≡ inf false)
    go true = inl (of_value (odd 54 false q k 1074) (q * 2 ^ k) (2 ^ 1074) (odd_sign 54 false q k 1074))
    go false = inr refl

pub round_plain : (a b : ℕ) → Plain (round binary64 false a b) ⊎ (round binary64 false a b ≡ inf false)
round_plain a b = subst (λ (z : Float). Plain z ⊎ (z ≡ inf false)) (sym (round_is binary64 false a b)) (units_plain (kept 53 (a * 2 ^ 1074) b) (drop 53 (a * 2 ^ 1074) b))

under : (x y : Float) → Plain y → Plain x ⊎ (x ≡ inf false) → T (le x y) → Plain x
unfolding le lt eq
under x y p (inl q) t = q
under x y (plain {m} {e}) (inr q) t = absurd (subst (λ (z : Float). T (le z (fin false m e))) q t)

pub le→cross : (x y : Float) → Plain x → Plain y → T (le x y) → num x * den y ≤ num y * den x
unfolding le lt eq
le→cross x y (plain {m} {e}) (plain {m = n} {e = d}) t = go (ltb (m * up e * down d) (n * up d * down e)) (eqb (m * up e * down d) (n * up d * down e)) (ltb→lt _ _) (eqb→eq _ _) t
  where
    go : (b c : Bool) → (T b → m * up e * down d < n * up d * down e) → (T c → m * up e * down d ≡ n * up d * down e) → T (b || (c && true)) → m * up e * down d ≤ n * up d * down e
    go true c p q t = le_of_lt (p tt)
    go false true p q t = le_of_eq (q tt)
    go false false p q t = absurd t

add_plain : (x y : Float) → Plain x → Plain y → add binary64 x y ≡ round binary64 false (num x * den y + num y * den x) (den x * den y)
unfolding add sum
add_plain x y plain plain = refl

pub div_plain : (x y : Float) → Plain x → Plain y → 0 < num y → div binary64 x y ≡ round binary64 false (num x * den y) (num y * den x)
unfolding div
div_plain x y (plain {m} {e}) (plain {m = zero} {e = d}) h = absurd (lt_irrefl 0 (first_pos 0 (up d) h))
div_plain x y (plain {m} {e}) (plain {m = suc n} {e = d}) h = ap (λ (b : Bool). cond b (cond (eqb m 0) nan (inf false)) (round binary64 false (m * up e * down d) (suc n * up d * down e))) (eqb-suc-zero n)

-- ---- the fraction of a second

-- a whole number's float
whole_value : (n : ℕ) → n ≤ 2 ^ 53 → HasValue (whole n) false n 1
unfolding of_int
whole_value n h = round_whole binary64 false n h

-- x / y of two values that are known as fractions
div_values : (x y : Float) (a b : ℕ) → HasValue x false a 1 → HasValue y false b 1 → 0 < b → div binary64 x y ≡ round binary64 false a b
div_values x y a b p q h =
    let nx : num x ≡ a * den x = sym (mul-one (num x)) ∙ value_cross x a 1 p in
    let ny : num y ≡ b * den y = sym (mul-one (num y)) ∙ value_cross y b 1 q in
    let y_pos : 0 < num y = subst (λ (z : ℕ). 0 < z) (sym ny) (mul-pos h (den_pos y)) in
    div_plain x y (of_value x a 1 p) (of_value y b 1 q) y_pos
    ∙ round_same binary64 false (num x * den y) (num y * den x) a b (mul-pos y_pos (den_pos x)) h
    (ap (λ (z : ℕ). z * den y * b) nx ∙ regroup a (den x) (den y) b ∙ ap (λ (z : ℕ). a * (z * den x)) (sym ny))
  where
    regroup : (a u v b : ℕ) → a * u * v * b ≡ a * (b * v * u)
    regroup a u v b = simp (mul_assoc, mul_comm, mul_left_comm) refl

abbrev fraction : ℕ → Float
fraction r = div binary64 (whole r) (whole 1000000000)

fraction_is : (r : ℕ) → r < 1000000000 → fraction r ≡ round binary64 false r 1000000000
fraction_is r h = div_values (whole r) (whole 1000000000) r 1000000000 (whole_value r (omega arith)) (whole_value 1000000000 (lit≤ tt)) (zero-lt-suc 999999999)

one_is : round binary64 false 1 1 ≡ fin false 1 (pos 0)
unfolding round
one_is = refl

fraction_mono : (a b : ℕ) → a ≤ b → b < 1000000000 → T (le (fraction a) (fraction b))
fraction_mono a b h k =
    subst (λ (x : Float). T (le x (fraction b))) (sym (fraction_is a (lt_of_le_of_lt h k)))
    (subst (λ (x : Float). T (le (round binary64 false a 1000000000) x)) (sym (fraction_is b k))
    (round_mono binary64 a 1000000000 b 1000000000 (zero-lt-suc 999999999) (zero-lt-suc 999999999) (mul-le-mul_right 1000000000 h)))

fraction_under : (r : ℕ) → r < 1000000000 → T (le (fraction r) (fin false 1 (pos 0)))
fraction_under r k =
    subst (λ (x : Float). T (le x (fin false 1 (pos 0)))) (sym (fraction_is r k))
    (subst (λ (x : Float). T (le (round binary64 false r 1000000000) x)) one_is
    (round_mono binary64 r 1000000000 1 1 (zero-lt-suc 999999999) (zero-lt-suc 0) (omega arith)))

fraction_plain : (r : ℕ) → r < 1000000000 → Plain (fraction r)
fraction_plain r k = under (fraction r) (fin false 1 (pos 0)) plain (subst (λ (x : Float). Plain x ⊎ (x ≡ inf false)) (sym (fraction_is r k)) (round_plain r 1000000000)) (fraction_under r k)

fraction_le_one : (r : ℕ) → r < 1000000000 → num (fraction r) ≤ den (fraction r)
fraction_le_one r k = subst (λ (x : ℕ). x ≤ den (fraction r)) (mul-one (num (fraction r))) (le_trans (le→cross (fraction r) (fin false 1 (pos 0)) (fraction_plain r k) plain (fraction_under r k)) (le_of_eq (one-mul (den (fraction r)))))

-- ---- the seconds: a whole number and a fraction, exactly, then rounded once
abbrev secs_num : ℕ → ℕ
secs_num n = n / 1000000000 * den (fraction (n % 1000000000)) + num (fraction (n % 1000000000))

abbrev secs_den : ℕ → ℕ
secs_den n = den (fraction (n % 1000000000))

left_lt : (n : ℕ) → n % 1000000000 < 1000000000
left_lt n = mod-lt n (zero-lt-suc 999999999)

seconds_is : (n : ℕ) → n < 2 ^ 64 → as_secs_f64 n ≡ round binary64 false (secs_num n) (secs_den n)
unfolding as_secs_f64
seconds_is n h =
    let w = whole (n / 1000000000) in
    let f = fraction (n % 1000000000) in
    let v : HasValue w false (n / 1000000000) 1 = whole_value (n / 1000000000) (omega arith) in
    let nw : num w ≡ n / 1000000000 * den w = sym (mul-one (num w)) ∙ value_cross w (n / 1000000000) 1 v in
    add_plain w f (of_value w (n / 1000000000) 1 v) (fraction_plain (n % 1000000000) (left_lt n))
    ∙ round_same binary64 false (num w * den f + num f * den w) (den w * den f) (secs_num n) (secs_den n) (mul-pos (den_pos w) (den_pos f)) (den_pos f)
    (ap (λ (z : ℕ). (z * den f + num f * den w) * den f) nw ∙ regroup (n / 1000000000) (den w) (den f) (num f))
  where
    regroup : (p u v m : ℕ) → (p * u * v + m * u) * v ≡ (p * v + m) * (u * v)
    regroup p u v m = simp (add-mul, mul_assoc, mul_comm, mul_left_comm) refl

-- p + m / u ≤ q + n / v, where either p = q and m / u ≤ n / v, or p < q and m / u ≤ 1
same_whole : (p m u n v : ℕ) → m * v ≤ n * u → (p * u + m) * v ≤ (p * v + n) * u
same_whole p m u n v h =
    let a : (p * u + m) * v ≡ p * u * v + m * v = add-mul (p * u) m v in
    let b : (p * v + n) * u ≡ p * v * u + n * u = add-mul (p * v) n u in
    let c : p * v * u ≡ p * u * v = mul_right_comm p v u in
    omega arith

next_whole : (p q m u n v : ℕ) → p < q → m ≤ u → (p * u + m) * v ≤ (q * v + n) * u
next_whole p q m u n v h k =
    let t : p * u + m ≤ p * u + u = omega arith in
    let s : p * u + m ≤ q * u = le_trans t (le_trans (le_of_eq (sym (suc-mul p u))) (mul-le-mul_right u h)) in
    let a : (p * u + m) * v ≤ q * u * v = mul-le-mul_right v s in
    let b : (q * v + n) * u ≡ q * v * u + n * u = add-mul (q * v) n u in
    let c : q * v * u ≡ q * u * v = mul_right_comm q v u in
    omega arith

parts : (a b : ℕ) → a ≤ b → ((a / 1000000000 ≡ b / 1000000000) × (a % 1000000000 ≤ b % 1000000000)) ⊎ (a / 1000000000 < b / 1000000000)
parts a b h =
    let d : a / 1000000000 ≤ b / 1000000000 = omega arith in
    elim (eq-or-lt_of_le d) [ inl e ↦ inl (e, omega arith) | inr l ↦ inr l ]

fractions_le : (a b : ℕ) → a ≤ b → secs_num a * secs_den b ≤ secs_num b * secs_den a
fractions_le a b h = go (parts a b h)
  where
    go : ((a / 1000000000 ≡ b / 1000000000) × (a % 1000000000 ≤ b % 1000000000)) ⊎ (a / 1000000000 < b / 1000000000) → secs_num a * secs_den b ≤ secs_num b * secs_den a
    go (inl (e, l)) =
        let f = fraction (a % 1000000000) in
        let g = fraction (b % 1000000000) in
        subst (λ (p : ℕ). secs_num a * secs_den b ≤ (p * den g + num g) * secs_den a) e
        (same_whole (a / 1000000000) (num f) (den f) (num g) (den g)
        (le→cross f g (fraction_plain (a % 1000000000) (left_lt a)) (fraction_plain (b % 1000000000) (left_lt b)) (fraction_mono (a % 1000000000) (b % 1000000000) l (left_lt b))))
    go (inr l) =
        let f = fraction (a % 1000000000) in
        let g = fraction (b % 1000000000) in
        next_whole (a / 1000000000) (b / 1000000000) (num f) (den f) (num g) (den g) l (fraction_le_one (a % 1000000000) (left_lt a))

pub seconds_mono : (a b : ℕ) → a ≤ b → b < 2 ^ 64 → T (le (as_secs_f64 a) (as_secs_f64 b))
seconds_mono a b h k =
    subst (λ (x : Float). T (le x (as_secs_f64 b))) (sym (seconds_is a (lt_of_le_of_lt h k)))
    (subst (λ (x : Float). T (le (round binary64 false (secs_num a) (secs_den a)) x)) (sym (seconds_is b k))
    (round_mono binary64 (secs_num a) (secs_den a) (secs_num b) (secs_den b) (den_pos (fraction (a % 1000000000))) (den_pos (fraction (b % 1000000000))) (fractions_le a b h)))

-- every difference is finite, since the greatest is
greatest : Plain (as_secs_f64 (2 ^ 64 - 1))
unfolding as_secs_f64 add div of_int of_bits
greatest = plain

pub seconds_plain : (n : ℕ) → n < 2 ^ 64 → Plain (as_secs_f64 n)
seconds_plain n h =
    under (as_secs_f64 n) (as_secs_f64 (2 ^ 64 - 1)) greatest (subst (λ (x : Float). Plain x ⊎ (x ≡ inf false)) (sym (seconds_is n h)) (round_plain (secs_num n) (secs_den n)))
    (seconds_mono n (2 ^ 64 - 1) (omega arith) (lit< tt))

-- a nanosecond is more than nothing, and so is every longer difference
least : 0 < num (as_secs_f64 1)
unfolding as_secs_f64 add div of_int of_bits
least = lit< tt

pub seconds_pos : (n : ℕ) → 0 < n → n < 2 ^ 64 → 0 < num (as_secs_f64 n)
seconds_pos n p h =
    first_pos (num (as_secs_f64 n)) (den (as_secs_f64 1))
    (lt_of_lt_of_le (mul-pos least (den_pos (as_secs_f64 n))) (le→cross (as_secs_f64 1) (as_secs_f64 n) (seconds_plain 1 (lit< tt)) (seconds_plain n h) (seconds_mono 1 n p h)))
