-- How far a value is from 1, rounded: the farther on one side, the greater.
use mathlib.Core.Path.{◌≡◌, refl, sym, ap, ap₂, ◌∙◌, subst}
use mathlib.Core.Logic.{◌⊎◌, inl, inr, ⊎_elim}
use mathlib.Core.Bool.{Bool, true, false, not, cond, ◌&&◌, ◌||◌, or-true}
use Prim.Native.Nat.{ℕ, zero, suc, ◌+◌, ◌-◌, ◌*◌, ◌^◌, ◌≤◌, ◌<◌}
use native.Mathlib.Nat.{add-mul, eq-or-lt_of_le, le_of_lt, lt_irrefl, lt_of_not-le, mul_comm, mul-one, mul-sub, one-mul}
use native.Mathlib.Decide.{dec_le}
use native.Mathlib.Omega.{arith}
use lib.Dec.{T, eqb, ltb}
use lib.Ieee.{Float, inf, fin, binary64, up, down, add, eq, le, lt, neg, odd, of_bits, round, sub, sum, units}
use lib.Ieee.Exact.{HasValue}
use lib.Ieee.Fits.{round_is}
use lib.Ieee.Order.{drop, kept, le_of_values, round_mono}
use lib.Ieee.Positive.{num, den, den_pos, through}
use borrow.Author.Tests.{ltb-true, ltb-false, lt-ltb, le-ltb, eq-eqb, ne_eqb}
use Rattle.time.specs.Float.{◌⊖◌, one64, abs}
use Rattle.time.proofs.Seconds.{Plain, plain, le→cross, round_plain}

-- finite and not negative, or the infinity
abbrev pub Upward : Float → Type 0
Upward x = Plain x ⊎ (x ≡ inf false)

-- ---- the distance, as a fraction

abs_units : (s : Bool) (q k : ℕ) → abs (units binary64 s q k) ≡ units binary64 false q k
unfolding units odd
abs_units s q k = go q (ltb (q * 2 ^ k) (2 ^ 2098))
  where
    go : (q : ℕ) (b : Bool) → abs (cond b (odd 54 s q k 1074) (inf s)) ≡ cond b (odd 54 false q k 1074) (inf false)
    go q false = refl
    go zero true = refl
    go (suc q) true = refl

abs_round : (s : Bool) (a b : ℕ) → abs (round binary64 s a b) ≡ round binary64 false a b
abs_round s a b =
    ap abs (round_is binary64 s a b)
    ∙ abs_units s (kept 53 (a * 2 ^ 1074) b) (drop 53 (a * 2 ^ 1074) b)
    ∙ sym (round_is binary64 false a b)

distance_is : (y : Float) → Plain y → y ⊖ one64 ≡ sum binary64 false (num y) true (den y) (den y)
unfolding sub add neg of_bits
distance_is y plain = simp (mul-one, one-mul)

abs_sum : (a b c : ℕ) → abs (sum binary64 false a true b c) ≡ round binary64 false (a - b + (b - a)) c
unfolding sum
abs_sum a b c = go (ltb a b) (ltb-true a b) (ltb-false a b)
  where
    go : (t : Bool) → (t ≡ true → a < b) → (t ≡ false → b ≤ a)
        → abs (cond t (round binary64 true (b - a) c) (round binary64 false (a - b) c)) ≡ round binary64 false (a - b + (b - a)) c
    go true h k = let l : a < b = h refl in let e : b - a ≡ a - b + (b - a) = omega arith in abs_round true (b - a) c ∙ ap (λ (x : ℕ). round binary64 false x c) e
    go false h k = let l : b ≤ a = k refl in let e : a - b ≡ a - b + (b - a) = omega arith in abs_round false (a - b) c ∙ ap (λ (x : ℕ). round binary64 false x c) e

abbrev away : Float → ℕ
away y = num y - den y + (den y - num y)

distance : (y : Float) → Plain y → abs (y ⊖ one64) ≡ round binary64 false (away y) (den y)
distance y p = ap abs (distance_is y p) ∙ abs_sum (num y) (den y) (den y)

pub distance_upward : (y : Float) → Plain y → Upward (abs (y ⊖ one64))
distance_upward y p = subst Upward (sym (distance y p)) (round_plain (away y) (den y))

-- ---- the order of two distances

sub_mul : (a b c : ℕ) → (a - b) * c ≡ a * c - b * c
sub_mul a b c = mul_comm (a - b) c ∙ mul-sub c a b ∙ ap₂ (λ (x y : ℕ). x - y) (mul_comm c a) (mul_comm c b)

closer : (a b : Float) → Plain a → Plain b → away a * den b ≤ away b * den a → T (le (abs (a ⊖ one64)) (abs (b ⊖ one64)))
closer a b p q h =
    subst (λ (x : Float). T (le x (abs (b ⊖ one64)))) (sym (distance a p))
    (subst (λ (x : Float). T (le (round binary64 false (away a) (den a)) x)) (sym (distance b q))
    (round_mono binary64 (away a) (den a) (away b) (den b) (den_pos a) (den_pos b) h))

-- num y / den y ≤ num z / den z, and both are at most 1, or at least 1
module _ (y z : Float) (p : Plain y) (q : Plain z) (h : num y * den z ≤ num z * den y) where
  pub closer_below : num z ≤ den z → T (le (abs (z ⊖ one64)) (abs (y ⊖ one64)))
  closer_below l = closer z y q p (go (num y) (den y) (num z) (den z) h l)
    where
      go : (n d m c : ℕ) → n * c ≤ m * d → m ≤ c → (m - c + (c - m)) * d ≤ (n - d + (d - n)) * c
      go n d m c h l =
          let e : m - c + (c - m) ≡ c - m = omega arith in
          rw e (omega (arith, sub_mul c m d, sub_mul d n c, sub_mul n d c, add-mul (n - d) (d - n) c, mul_comm c d))

  pub closer_above : den y ≤ num y → T (le (abs (y ⊖ one64)) (abs (z ⊖ one64)))
  closer_above l = closer y z p q (go (num y) (den y) (num z) (den z) h l)
    where
      go : (n d m c : ℕ) → n * c ≤ m * d → d ≤ n → (n - d + (d - n)) * c ≤ (m - c + (c - m)) * d
      go n d m c h l =
          let e : n - d + (d - n) ≡ n - d = omega arith in
          rw e (omega (arith, sub_mul n d c, sub_mul m c d, sub_mul c m d, add-mul (m - c) (c - m) d, mul_comm c d))

-- ---- the order of such values

own : (x : Float) → Plain x → HasValue x false (num x) (den x)
own x plain = (refl, refl)

-- what is at most a finite value
not_infinite : (x y : Float) → Plain y → Upward x → T (le x y) → Plain x
unfolding le lt eq
not_infinite x y p (inl q) t = q
not_infinite x y (plain {m} {e}) (inr q) t = absurd (subst (λ (z : Float). T (le z (fin false m e))) q t)

pub le_through : (x y z : Float) → Upward x → Upward y → Plain z → T (le x y) → T (le y z) → T (le x z)
le_through x y z p q r h k =
    let q' : Plain y = not_infinite y z r q k in
    let p' : Plain x = not_infinite x y q' p h in
    le_of_values x z (num x) (den x) (num z) (den z) (den_pos x) (den_pos z) (own x p') (own z r)
    (through (num x) (num y) (num z) (den x) (den y) (den z) (den_pos y) (le→cross x y p' q' h) (le→cross y z q' r k))

pub below_is : (x y : Float) → Plain x → Upward y → lt x y ≡ not (le y x)
unfolding le lt eq
below_is x y (plain {m} {e}) (inr q) = rw q
below_is x y (plain {m} {e}) (inl (plain {m = n} {e = d})) = go (m * up e * down d) (n * up d * down e)
  where
    go : (a b : ℕ) → ltb a b ≡ not (ltb b a || (eqb b a && true))
    go a b = elim (dec_le b a) [
      | yes h ↦ ⊎_elim (λ e. rw (le-ltb a b h, eq-eqb b a e, or-true)) (λ l. rw (le-ltb a b h, lt-ltb b a l)) (eq-or-lt_of_le h)
      | no h ↦
          let l : a < b = lt_of_not-le h in
          rw (lt-ltb a b l, le-ltb b a (le_of_lt l), ne_eqb b a (λ e. lt_irrefl b (subst (λ (x : ℕ). x < b) (sym e) l)))
    ]
