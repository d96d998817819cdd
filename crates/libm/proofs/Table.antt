-- The code's table as a rule gives it: a part of it, and its last row.
use mathlib.Core.Path.{◌≡◌, refl, sym, ap, ◌∙◌}
use mathlib.Core.List.{List, [], ◌∷◌, ◌++◌}
use Prim.Native.Nat.{ℕ, zero, suc, ◌+◌, ◌-◌, ◌≤◌}
use native.Mathlib.Nat.{zero-add, add-zero, add-suc, suc-add, le_of_suc-le-suc, not-suc-le-zero}
use native.Mathlib.Omega.{arith}
use lib.ListN.{take, drop}
use Rattle.libm.specs.Libm.{numerator, denominator}

abbrev pub row : ℕ → ℕ × ℕ
row k = (numerator k, denominator k)

-- the rows of k and of the n - 1 numbers after it
unfoldable pub rows : ℕ → ℕ → List (ℕ × ℕ)
rows k zero = []
rows k (suc n) = row k ∷ rows (suc k) n

pub rows_last : (k n : ℕ) → rows k (suc n) ≡ rows k n ++ row (k + n) ∷ []
unfolding rows
rows_last k zero = ap (λ (i : ℕ). row i ∷ []) (sym (add-zero k))
rows_last k (suc n) = ap (λ (rs : List (ℕ × ℕ)). row k ∷ rs) (rows_last (suc k) n ∙ ap (λ (i : ℕ). rows (suc k) n ++ row i ∷ []) (suc-add k n ∙ sym (add-suc k n)))

rows_drop : (j k n : ℕ) → drop j (rows k (j + n)) ≡ rows (k + j) n
unfolding rows
rows_drop zero k n = ap (λ (i : ℕ). rows k i) (zero-add n) ∙ ap (λ (i : ℕ). rows i n) (sym (add-zero k))
rows_drop (suc j) k n = ap (λ (i : ℕ). drop (suc j) (rows k i)) (suc-add j n) ∙ rows_drop j (suc k) n ∙ ap (λ (i : ℕ). rows i n) (suc-add k j ∙ sym (add-suc k j))

rows_take : (n k m : ℕ) → n ≤ m → take n (rows k m) ≡ rows k n
unfolding rows
rows_take zero k m h = refl
rows_take (suc n) k zero h = absurd (not-suc-le-zero h)
rows_take (suc n) k (suc m) h = ap (λ (rs : List (ℕ × ℕ)). row k ∷ rs) (rows_take n (suc k) m (le_of_suc-le-suc h))

-- the n rows after the first j of all m
pub part : (j n m : ℕ) → j + n ≤ m → take n (drop j (rows 1 m)) ≡ rows (suc j) n
part j n m h =
    let whole : j + (m - j) ≡ m = omega arith in
    let next : 1 + j ≡ suc j = omega arith in
    ap (λ (i : ℕ). take n (drop j (rows 1 i))) (sym whole)
    ∙ ap (take n) (rows_drop j 1 (m - j))
    ∙ rows_take n (1 + j) (m - j) (omega arith)
    ∙ ap (λ (i : ℕ). rows i n) next
