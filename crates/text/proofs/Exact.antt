-- The digits and the powers of ten are exact floats, and one product or quotient of two exact floats is the exact number rounded. Assumes nothing.
use mathlib.Core.Path.{◌≡◌, refl, sym, ap, ◌∙◌, subst}
use mathlib.Core.Bool.{Bool, true, false, not, cond, ◌&&◌}
use mathlib.Core.List.{List, [], ◌∷◌}
use Prim.Native.Nat.{ℕ, zero, suc, ◌+◌, ◌*◌, ◌^◌, ◌<◌}
use native.Mathlib.Nat.{mul_comm, mul_assoc, mul_left_comm, mul-one, mul-pos, lt_irrefl, zero-lt-suc, add-zero, zero-add, add-suc, suc-add, le_of_suc-le-suc, not-suc-le-zero}
use lib.Dec.{T, eqb, eqb→eq, eqb-suc-zero, le→leb}
use native.Mathlib.Omega.{arith}
use lib.IntN.{pos}
use lib.ListN.{length, get_or}
use lib.Ieee.{Float, nan, inf, fin, binary64, unlike, up, down, mul, div, neg, round, of_int, in_float}
use lib.Ieee.Back.{round_whole}
use lib.Ieee.Bits.{is_false}
use lib.Ieee.Exact.{HasValue}
use lib.Ieee.Fits.{up_pos, down_pos, and_l, and_r}
use lib.Ieee.Positive.{first_pos}
use lib.Ieee.Scale.{round_same}

-- ---- a table of powers of ten, by one test of all its entries

-- x is n
abbrev is : Float → ℕ → Bool
is nan n = false
is (inf s) n = false
is (fin s m e) n = not s && eqb (m * up e * 1) (n * down e)

is_value : (x : Float) (n : ℕ) → T (is x n) → HasValue x false n 1
is_value nan n t = absurd t
is_value (inf s) n t = absurd t
is_value (fin s m e) n t = (is_false s (and_l (not s) (eqb (m * up e * 1) (n * down e)) t), eqb→eq _ _ (and_r (not s) (eqb (m * up e * 1) (n * down e)) t))

-- the entries are 10 ^ k and the powers after it
abbrev are_tens : ℕ → List Float → Bool
are_tens k [] = true
are_tens k (x ∷ xs) = is x (10 ^ k) && are_tens (suc k) xs

from : (xs : List Float) (k i : ℕ) → T (are_tens k xs) → i < length xs → HasValue (get_or xs i nan) false (10 ^ (k + i)) 1
from [] k i t h = absurd (not-suc-le-zero h)
from (x ∷ xs) k zero t h = subst (λ (j : ℕ). HasValue x false (10 ^ j) 1) (sym (add-zero k)) (is_value x (10 ^ k) (and_l (is x (10 ^ k)) (are_tens (suc k) xs) t))
from (x ∷ xs) k (suc i) t h =
    subst (λ (j : ℕ). HasValue (get_or xs i nan) false (10 ^ j) 1) (suc-add k i ∙ sym (add-suc k i))
    (from xs (suc k) i (and_r (is x (10 ^ k)) (are_tens (suc k) xs) t) (le_of_suc-le-suc h))

pub entry : (xs : List Float) → T (are_tens 0 xs) → (i : ℕ) → i < length xs → HasValue (get_or xs i nan) false (10 ^ i) 1
entry xs t i h = subst (λ (j : ℕ). HasValue (get_or xs i nan) false (10 ^ j) 1) (zero-add i) (from xs 0 i t h)

-- n powers of ten from 10 ^ k on, rounded: the code's table is compared with them as a whole
unfoldable pub tens : ℕ → ℕ → List Float
tens k zero = []
tens k (suc n) = round binary64 false (10 ^ k) 1 ∷ tens (suc k) n

-- ---- digits as a float, and the sign

pub whole_float : {d : ℕ} → d < 10 ^ 15 → T (in_float binary64 (pos d))
unfolding in_float
whole_float {d} h = le→leb d (2 ^ 53) (omega arith)

pub digits_value : {d : ℕ} → d < 10 ^ 15 → HasValue (of_int binary64 (pos d)) false d 1
unfolding of_int
digits_value {d} h = round_whole binary64 false d (omega arith)

pub negated : (x : Float) (s : Bool) (a c : ℕ) → HasValue x s a c → HasValue (neg x) (not s) a c
unfolding neg
negated nan s a c h = h
negated (inf t) s a c h = h
negated (fin t m e) s a c h = (ap not h.0, h.1)

pub minus_value : {d : ℕ} → d < 10 ^ 15 → HasValue (neg (of_int binary64 (pos d))) true d 1
minus_value {d} h = negated (of_int binary64 (pos d)) false d 1 (digits_value h)

unlike_plus : (s : Bool) → unlike s false ≡ s
unlike_plus true = refl
unlike_plus false = refl

-- ---- one step

module _ (s : Bool) (a b : ℕ) where
  -- x has the sign s and is a, y is b
  pub product_rounded : (x y : Float) → HasValue x s a 1 → HasValue y false b 1 → mul binary64 x y ≡ round binary64 s (a * b) 1
  unfolding mul
  product_rounded nan y p q = absurd p
  product_rounded (inf t) y p q = absurd p
  product_rounded (fin t m e) nan p q = absurd q
  product_rounded (fin t m e) (inf u) p q = absurd q
  product_rounded (fin t m e) (fin u n d) p q =
      ap (λ (z : Bool). round binary64 (unlike z u) (m * up e * (n * up d)) (down e * down d)) p.0
      ∙ ap (λ (z : Bool). round binary64 (unlike s z) (m * up e * (n * up d)) (down e * down d)) q.0
      ∙ ap (λ (z : Bool). round binary64 z (m * up e * (n * up d)) (down e * down d)) (unlike_plus s)
      ∙ round_same binary64 s (m * up e * (n * up d)) (down e * down d) (a * b) 1 (mul-pos (down_pos e) (down_pos d)) (zero-lt-suc 0)
      (regroup (m * up e) (n * up d) ∙ ap (λ (z : ℕ). z * (n * up d * 1)) p.1 ∙ ap (λ (z : ℕ). a * down e * z) q.1 ∙ again (down e) (down d))
    where
      regroup : (x y : ℕ) → x * y * 1 ≡ x * 1 * (y * 1)
      regroup x y = simp mul-one refl

      again : (u v : ℕ) → a * u * (b * v) ≡ a * b * (u * v)
      again u v = simp (mul_assoc, mul_left_comm) refl

  pub quotient_rounded : 0 < b → (x y : Float) → HasValue x s a 1 → HasValue y false b 1 → div binary64 x y ≡ round binary64 s a b
  unfolding div
  quotient_rounded h nan y p q = absurd p
  quotient_rounded h (inf t) y p q = absurd p
  quotient_rounded h (fin t m e) nan p q = absurd q
  quotient_rounded h (fin t m e) (inf u) p q = absurd q
  quotient_rounded h (fin t m e) (fin u zero d) p q = absurd (lt_irrefl 0 (first_pos 0 (up d * 1) (subst (λ (z : ℕ). 0 < z) (sym q.1 ∙ mul_assoc 0 (up d) 1) (mul-pos h (down_pos d)))))
  quotient_rounded h (fin t m e) (fin u (suc n) d) p q =
      ap (λ (z : Bool). cond z (cond (eqb m 0) nan (inf (unlike t u))) (round binary64 (unlike t u) (m * up e * down d) (suc n * up d * down e))) (eqb-suc-zero n)
      ∙ ap (λ (z : Bool). round binary64 (unlike z u) (m * up e * down d) (suc n * up d * down e)) p.0
      ∙ ap (λ (z : Bool). round binary64 (unlike s z) (m * up e * down d) (suc n * up d * down e)) q.0
      ∙ ap (λ (z : Bool). round binary64 z (m * up e * down d) (suc n * up d * down e)) (unlike_plus s)
      ∙ round_same binary64 s (m * up e * down d) (suc n * up d * down e) a b (mul-pos (mul-pos (zero-lt-suc n) (up_pos d)) (down_pos e)) h
      (regroup (m * up e) (down d) ∙ ap (λ (z : ℕ). z * (down d * b)) p.1 ∙ again (down e) (down d) ∙ ap (λ (z : ℕ). a * (z * down e)) (sym q.1 ∙ mul-one (suc n * up d)))
    where
      regroup : (x y : ℕ) → x * y * b ≡ x * 1 * (y * b)
      regroup x y = simp (mul-one, mul_assoc) refl

      again : (u v : ℕ) → a * u * (v * b) ≡ a * (b * v * u)
      again u v = simp (mul_assoc, mul_comm, mul_left_comm) refl
