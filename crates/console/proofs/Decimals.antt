-- Digits at the end of a number, and the zeros at the end of them.
use Rattle.std.proofs.Common.{◌≡◌, ℕ, zero, suc, ◌+◌, ◌/◌, ◌%◌, ◌<◌, false, eqb, List, [], ◌∷◌, ◌++◌, refl, ap, ◌∙◌, arith, lt-ltb, ne_eqb}
use Rattle.text.specs.Ascii.{ascii}
use Rattle.text.specs.Digits.{digit_character, digits}
use Rattle.console.specs.Figures.{before, without_zeros, pointed}

dropped : (ds : List ℕ) → without_zeros (ds ++ (48 ∷ [])) ≡ without_zeros ds
unfolding without_zeros
dropped [] = refl
dropped (d ∷ ds) = ap (before d) (dropped ds)

kept : (ds : List ℕ) (e : ℕ) → eqb e 48 ≡ false → without_zeros (ds ++ (e ∷ [])) ≡ ds ++ (e ∷ [])
unfolding without_zeros
kept [] e h = rw h refl
kept (d ∷ ds) e h = ap (before d) (kept ds e h) ∙ whole ds
  where
    whole : (l : List ℕ) → before d (l ++ (e ∷ [])) ≡ d ∷ (l ++ (e ∷ []))
    whole [] = refl
    whole (x ∷ l) = refl

-- a zero at the end is dropped
pub zero_dropped : (k n : ℕ) → n % 10 ≡ 0 → without_zeros (digits 10 (suc k) n) ≡ without_zeros (digits 10 k (n / 10))
unfolding digits without_zeros
zero_dropped k n e = ap (λ (d : ℕ). without_zeros (digits 10 k (n / 10) ++ (digit_character d ∷ []))) e ∙ dropped (digits 10 k (n / 10))

-- digits whose last is no zero stay
pub digit_kept : (k n : ℕ) → 0 < k → (n % 10 ≡ 0 → ⊥) → without_zeros (digits 10 k n) ≡ digits 10 k n
unfolding digits without_zeros
digit_kept zero n h e = absurd (omega arith)
digit_kept (suc k) n h e = kept (digits 10 k (n / 10)) (digit_character (n % 10)) other
  where
    other : eqb (digit_character (n % 10)) 48 ≡ false
    other = rw (lt-ltb (n % 10) 10 (omega arith)) (ne_eqb (48 + n % 10) 48 (λ q. e (omega arith)))

-- digits are written behind a point
pub behind_point : (k n : ℕ) → 0 < k → pointed (digits 10 k n) ≡ ascii "." ∷ digits 10 k n ∷ []
unfolding digits
behind_point zero n h = absurd (omega arith)
behind_point (suc k) n h = some (digits 10 k (n / 10)) (digit_character (n % 10))
  where
    some : (ds : List ℕ) (e : ℕ) → pointed (ds ++ (e ∷ [])) ≡ ascii "." ∷ (ds ++ (e ∷ [])) ∷ []
    some [] e = refl
    some (d ∷ ds) e = refl
