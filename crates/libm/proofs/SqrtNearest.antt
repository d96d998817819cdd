-- The square root is the f64 nearest to the exact root.
use mathlib.Core.Path.{◌≡◌, refl, sym, ap, ◌∙◌, subst}
use mathlib.Core.Bool.{true, false, ◌&&◌}
use Prim.Native.Nat.{ℕ, zero, suc, ◌+◌, ◌-◌, ◌*◌, ◌/◌, ◌%◌, ◌^◌, ◌≤◌, ◌<◌, compare}
use native.Mathlib.Nat.{mul_assoc, mul-one, one-mul, mul-le-mul, mul-le-mul_right, mul-lt-mul_of_pos_right, lt_irrefl, lt_of_lt_of_le, lt_of_le_of_lt, lt_of_not-le, le_trans, le_of_eq, le_of_suc-le-suc, div-mul-le_self, lt-div-mul-add, div-lt_iff_lt-mul, le-div_iff_mul-le, zero-lt-suc, suc-mul, mul-pos, zero-mul, eq_of_mul-eq-mul_right}
use native.Mathlib.Omega.{arith}
use lib.Dec.{T, lit≤, ltb, ltb→lt, leb, eqb, leb→le}
use lib.Pow.{pow-add, pow_pos, pow_mono, pow-lt, shl_lt}
use lib.IntN.{ℤ, pos, negsuc}
use lib.Ieee.{Float, nan, inf, fin, binary64, size, nearest, units, up, down, fits, to_bits, lt, of_bits}
use lib.Ieee.Digits.{size-lt, size-le, size_reaches}
use lib.Ieee.Exact.{units_val}
use lib.Ieee.Fits.{up_pos, down_pos, and_l, and_r, nearest-le}
use lib.Ieee.Positive.{first_pos}
use lib.Ieee.Scale.{finite}
use borrow.Author.Tests.{ltb-true}
use Rattle.time.specs.Float.{zero64}
use Rattle.libm.specs.Sqrt.{isqrt, leading, root_units, sqrt, units_at, units_of}
use Rattle.libm.specs.Laws as laws
use Rattle.libm.specs.Laws.{Units, SqrtNearest}
use Rattle.libm.proofs.Isqrt.{Floor, isqrt_floor}
use Rattle.libm.proofs.Neighbours.{Held, Nearest, chosen}
use Rattle.libm.proofs.Powers.{four, four_pos, size_gt}
use Rattle.libm.proofs.SqrtCases.{Positive, positive, at_fin}
use Rattle.libm.proofs.Units.{Counted, counted}

-- the leading digits of the root of an n of z digits, at least 1075, and their place

abbrev place : ℕ → ℕ
place z = (z + 1) / 2 - 53

abbrev lead : ℕ → ℕ → ℕ
lead n z = isqrt 53 (n / 4 ^ place z)

module _ (n : ℕ) (z : ℕ) (big : 1074 < z) (z-lt : n < 2 ^ z) (z-ge : (j : ℕ) → j < z → 2 ^ j ≤ n) where
  -- what is left of n has 105 or 106 digits
  part_lt : n / 4 ^ place z < 4 ^ 53
  part_lt =
      let e : 2 ^ (106 + (place z + place z)) ≡ 2 ^ 106 * 4 ^ place z = pow-add 2 106 (place z + place z) ∙ ap (λ (x : ℕ). 2 ^ 106 * x) (sym (four (place z))) in
      (div-lt_iff_lt-mul (four_pos (place z))).1 (lt_of_lt_of_le z-lt (le_trans (pow_mono {i = z} {j = 106 + (place z + place z)} (omega (arith, big))) (le_of_eq e)))

  part_ge : 2 ^ 104 ≤ n / 4 ^ place z
  part_ge =
      let e : 2 ^ 104 * 4 ^ place z ≡ 2 ^ (104 + (place z + place z)) = ap (λ (x : ℕ). 2 ^ 104 * x) (four (place z)) ∙ sym (pow-add 2 104 (place z + place z)) in
      (le-div_iff_mul-le (four_pos (place z))).1 (le_trans (le_of_eq e) (z-ge (104 + (place z + place z)) (omega (arith, big))))

  lead_floor : Floor (n / 4 ^ place z) (lead n z)
  lead_floor = isqrt_floor 53 (n / 4 ^ place z) part_lt

  lead_ge : 2 ^ 52 ≤ lead n z
  lead_ge = le_of_suc-le-suc (lt_of_not-le (λ (g : suc (lead n z) ≤ 2 ^ 52). let h : lead n z + 1 ≤ 2 ^ 52 = omega arith in omega (arith, mul-le-mul h h, lead_floor.1, part_ge)))

  lead_lt : lead n z < 2 ^ 53
  lead_lt = lt_of_not-le (λ (g : 2 ^ 53 ≤ lead n z). omega (arith, mul-le-mul g g, lead_floor.0, part_lt))

  n_ge : lead n z * lead n z * 4 ^ place z ≤ n
  n_ge = le_trans (mul-le-mul_right (4 ^ place z) lead_floor.0) (div-mul-le_self n (4 ^ place z))

  n_lt : n < (lead n z + 1) * (lead n z + 1) * 4 ^ place z
  n_lt = lt_of_lt_of_le (lt-div-mul-add (four_pos (place z))) (le_trans (le_of_eq (sym (suc-mul (n / 4 ^ place z) (4 ^ place z)))) (mul-le-mul_right (4 ^ place z) lead_floor.1))

-- the digits that are kept, for n of z digits
abbrev kept : ℕ → ℕ → ℕ
kept n z = nearest (lead n z) (compare (4 * n) ((2 * lead n z + 1) * (2 * lead n z + 1) * 4 ^ place z))

root_at : (c : ℕ) → root_units binary64 c ≡ units binary64 false (kept (c * 2 ^ 1074) (size (c * 2 ^ 1074))) (place (size (c * 2 ^ 1074)))
unfolding root_units leading
root_at c = refl

of_digits : (n z : ℕ) → 1074 < z → z ≤ 3172 → n < 2 ^ z → ((j : ℕ) → j < z → 2 ^ j ≤ n)
    → Units (units binary64 false (kept n z) (place z)) (kept n z * 2 ^ place z) × Nearest n (kept n z * 2 ^ place z)
of_digits n z big few z-lt z-ge =
    let q = lead n z in
    let o = compare (4 * n) ((2 * q + 1) * (2 * q + 1) * 4 ^ place z) in
    let digits : kept n z ≤ 2 ^ 53 = le_trans (nearest-le q o) (lead_lt n z big z-lt z-ge) in
    let under : 2 ^ 53 * 2 ^ place z < 2 ^ 2098 = lt_of_le_of_lt (le_of_eq (sym (pow-add 2 53 (place z)))) (pow-lt {i = 53 + place z} {j = 2098} (omega (arith, few))) in (
      units_val binary64 false (kept n z) (place z) (lt_of_le_of_lt (mul-le-mul_right (2 ^ place z) digits) under),
      chosen n q (place z) (lead_ge n z big z-lt z-ge) (n_ge n z big z-lt z-ge) (n_lt n z big z-lt z-ge),
    )

root_units_nearest : (c : ℕ) → 0 < c → c < 2 ^ 2098 → (r : ℕ) × Units (root_units binary64 c) r × Nearest (c * 2 ^ 1074) r
root_units_nearest c p h =
    let n = c * 2 ^ 1074 in
    let z = size n in
    let big : 1074 < z = size_gt n 1074 (le_trans (le_of_eq (sym (one-mul (2 ^ 1074)))) (mul-le-mul_right (2 ^ 1074) p)) in
    let few : z ≤ 3172 = size-le n 3172 (mul-lt-mul_of_pos_right h (pow_pos 1074)) in
    let d = of_digits n z big few (size-lt n) (size_reaches n) in
    (kept n z * 2 ^ place z, subst (λ (y : Float). Units y (kept n z * 2 ^ place z)) (sym (root_at c)) d.0, d.1)

units_lt : (b : ℕ) → b < 2047 * 2 ^ 52 → units_of b < 2 ^ 2098
units_lt b h = go (b / 2 ^ 52) (b % 2 ^ 52) (omega arith) (omega arith)
  where
    go : (x t : ℕ) → x < 2047 → t < 2 ^ 52 → units_at x t < 2 ^ 2098
    go zero t h g = unfold units_at in lt_of_lt_of_le g (pow_mono {i = 52} {j = 2098} (lit≤ tt))
    go (suc x) t h g = unfold units_at in lt_of_lt_of_le (shl_lt 53 x (omega arith)) (pow_mono {i = 53 + x} {j = 2098} (omega arith))

-- every f64 that is not negative is held

pow_le_back : (a l : ℕ) → 2 ^ a ≤ 2 ^ l → a ≤ l
pow_le_back a l h = le_of_suc-le-suc (lt_of_not-le (λ (g : suc l ≤ a). lt_irrefl (2 ^ l) (lt_of_lt_of_le (pow-lt g) h)))

shifted : (m v : ℕ) (e : ℤ) → down e ≤ 2 ^ 1074 → m * up e * 2 ^ 1074 ≡ v * down e → (j : ℕ) × (v ≡ m * 2 ^ j)
shifted m v (pos a) h k = (a + 1074, sym (mul-one v) ∙ sym k ∙ mul_assoc m (2 ^ a) (2 ^ 1074) ∙ ap (λ (x : ℕ). m * x) (sym (pow-add 2 a 1074)))
shifted m v (negsuc a) h k =
    let l : suc a ≤ 1074 = pow_le_back (suc a) 1074 h in
    let j = 1074 - suc a in
    let e : j + suc a ≡ 1074 = omega arith in
    let d : m * 1 * 2 ^ 1074 ≡ m * 2 ^ j * 2 ^ suc a =
    ap (λ (x : ℕ). x * 2 ^ 1074) (mul-one m) ∙ ap (λ (x : ℕ). m * 2 ^ x) (sym e) ∙ ap (λ (x : ℕ). m * x) (pow-add 2 j (suc a)) ∙ sym (mul_assoc m (2 ^ j) (2 ^ suc a)) in
    (j, eq_of_mul-eq-mul_right (2 ^ suc a) (pow_pos (suc a)) v (m * 2 ^ j) (sym k ∙ d))

pub held : (y : Float) (v : ℕ) → T (fits binary64 y) → Units y v → Held v
unfolding fits
held nan v f h = absurd h
held (inf s) v f h = absurd h
held (fin s zero e) v f h =
    record { digits = 0; shift = 0; few = zero-lt-suc _; is = zero_of v (down_pos e) (sym h.1 ∙ ap (λ (x : ℕ). x * 2 ^ 1074) (zero-mul (up e))) }
  where
    zero_of : {d : ℕ} (v : ℕ) → 0 < d → v * d ≡ 0 → v ≡ 0
    zero_of zero p k = refl
    zero_of (suc v) p k = absurd (lt_irrefl 0 (subst (λ (x : ℕ). 0 < x) k (mul-pos (zero-lt-suc v) p)))
held (fin s (suc m) e) v f h =
    let a = eqb (suc m % 2) 1 in
    let b = ltb (suc m) (2 ^ 53) in
    let c = leb (down e) (2 ^ 1074) in
    let d = ltb (suc m * up e) (2 ^ 1024 * down e) in
    let t = and_l (a && b && c) d f in
    let u = shifted (suc m) v e (leb→le (down e) (2 ^ 1074) (and_r (a && b) c t)) h.1 in
    record { digits = suc m; shift = u.0; few = ltb→lt (suc m) (2 ^ 53) (and_r a b (and_l (a && b) c t)); is = u.1 }

-- a finite value above zero
is_positive : (x : Float) → finite x ≡ true → lt zero64 x ≡ true → Positive x
unfolding of_bits lt
is_positive nan f h = absurd (subst T (sym h) tt)
is_positive (inf s) f h = absurd (subst T (sym f) tt)
is_positive (fin true m e) f h = absurd (subst T (sym h) tt)
is_positive (fin false m e) f h =
    let p : 0 < m * up e * 1 = subst (λ (y : ℕ). y < m * up e * 1) (zero-mul (down e)) (ltb-true (0 * 1 * down e) (m * up e * 1) h) in
    positive (first_pos m (up e) (first_pos (m * up e) 1 p))

pub sqrt_nearest : SqrtNearest
sqrt_nearest x f n l = go x f (is_positive x n l)
  where
    Near : Float → Type 0
    Near x = (m : ℕ) × (r : ℕ) × Units x m × Units (sqrt x) r × laws.Nearest (m * 2 ^ 1074) r

    by_bits : (m : ℕ) (e : ℤ) (b : ℕ) → 0 < m → Counted m e b → Near (fin false m e)
    by_bits m e b p k =
        let c = units_of b in
        let some : 0 < c = first_pos c (down e) (subst (λ (y : ℕ). 0 < y) k.3 (mul-pos (mul-pos p (up_pos e)) (pow_pos 1074))) in
        let w = root_units_nearest c some (units_lt b k.1) in
        let same : sqrt (fin false m e) ≡ root_units binary64 c = at_fin false m e p ∙ ap (root_units binary64) k.2 in
        (c, w.0, (refl, k.3), subst (λ (y : Float). Units y w.0) (sym same) w.1, λ y v g h. w.2 v (held y v g h))

    go : (x : Float) → T (fits binary64 x) → Positive x → Near x
    go x f (positive {m} {e} p) = by_bits m e (to_bits binary64 (fin false m e)) p (counted m e f p)
