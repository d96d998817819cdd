-- That numbers rise, tested between neighbours, and chunk by chunk where neighbouring chunks share an element.
use Prim.Native.Nat.{ℕ, zero, suc, ◌+◌, ◌-◌, ◌≤◌, ◌<◌}
use mathlib.Core.Path.{◌≡◌, refl, sym, ap, ap₂, ◌∙◌}
use mathlib.Core.Bool.{Bool, true, ◌&&◌, and_assoc, and-false, and-true}
use mathlib.Core.List.{List, [], ◌∷◌}
use native.Mathlib.Nat.{le_of_suc-le-suc, not-suc-le-zero}
use native.Mathlib.Omega.{arith}
use lib.Dec.{ltb}
use lib.ListN.{length, get_or, take, drop, length-drop}
use lib.Seq.{drop-cons}
use borrow.Author.Tests.{lt-ltb, ltb-true}
use Rattle.buffer.specs.Map.{all, ascending}
use Rattle.buffer.proofs.Cases.{both, and_left}
use Rattle.buffer.proofs.Alls.{all_weaken}

abbrev neighbours : List ℕ → Bool
neighbours [] = true
neighbours (x ∷ []) = true
neighbours (x ∷ y ∷ l) = ltb x y && neighbours (y ∷ l)

-- what is below a number is below all that rise from it
below_all : (x y : ℕ) (l : List ℕ) → x < y → all (ltb y) l ≡ true → all (ltb x) l ≡ true
below_all x y l h = all_weaken (ltb y) (ltb x) l (λ z e. let g : y < z = ltb-true y z e in lt-ltb x z (omega arith))

neighbours_is : (l : List ℕ) → neighbours l ≡ ascending l
neighbours_is [] = refl
neighbours_is (x ∷ []) = refl
neighbours_is (x ∷ y ∷ l) = ap (λ b. ltb x y && b) (neighbours_is (y ∷ l)) ∙ both (ltb x y) rising (λ e. rw e)
  where
    rising : ltb x y ≡ true → ltb x y && ascending (y ∷ l) ≡ ascending (x ∷ y ∷ l)
    rising e =
        both (ascending (y ∷ l))
        (λ a. rw (e, a, below_all x y l (ltb-true x y e) (and_left (all (ltb y) l) (ascending l) a)))
        (λ a. rw (e, a) (sym (and-false (all (ltb x) l))))

-- ---- by neighbours

next : (k : ℕ) (l : List ℕ) → suc k < length l → ascending (drop k l) ≡ ltb (get_or l k 0) (get_or l (suc k) 0) && ascending (drop (suc k) l)
next k l h =
    sym (neighbours_is (drop k l))
    ∙ rw (drop-cons l k 0 (omega arith), drop-cons l (suc k) 0 h)
    (ap (λ b. ltb (get_or l k 0) (get_or l (suc k) 0) && b) (neighbours_is (get_or l (suc k) 0 ∷ drop (suc (suc k)) l)))

pub rising_more : (flag : Bool) (i : ℕ) (l : List ℕ) → 1 ≤ i → i < length l
    → flag && ltb (get_or l (i - 1) 0) (get_or l i 0) && ascending (drop (i + 1 - 1) l) ≡ flag && ascending (drop (i - 1) l)
rising_more flag i l p h =
    let k = i - 1 in
    let e : i ≡ suc k = omega arith in
    let q : i + 1 - 1 ≡ suc k = omega arith in
    and_assoc flag (ltb (get_or l k 0) (get_or l i 0)) (ascending (drop (i + 1 - 1) l))
    ∙ ap (λ b. flag && b)
    (ap₂ (λ (a b : ℕ). ltb (get_or l k 0) (get_or l a 0) && ascending (drop b l)) e q ∙ sym (next k l (omega arith)))

pub rising_done : (flag : Bool) (i : ℕ) (l : List ℕ) → length l ≤ i → flag && ascending (drop (i - 1) l) ≡ flag
rising_done flag i l h = rw (few (drop (i - 1) l) (rw length-drop (omega arith))) (and-true flag)
  where
    few : (l : List ℕ) → length l ≤ 1 → ascending l ≡ true
    few [] h = refl
    few (x ∷ []) h = refl
    few (x ∷ y ∷ l) h = absurd (not-suc-le-zero (le_of_suc-le-suc h))

-- ---- by chunks

two_chunks : (k : ℕ) (l : List ℕ) → k < length l → neighbours l ≡ neighbours (take (suc k) l) && neighbours (drop k l)
two_chunks k [] h = absurd (not-suc-le-zero h)
two_chunks zero (x ∷ l) h = refl
two_chunks (suc k) (x ∷ []) h = absurd (not-suc-le-zero (le_of_suc-le-suc h))
two_chunks (suc k) (x ∷ y ∷ l) h = ap (λ b. ltb x y && b) (two_chunks k (y ∷ l) (le_of_suc-le-suc h)) ∙ sym (and_assoc (ltb x y) _ _)

-- xs is the first chunk, of k numbers and the first of the next
pub rising_cut : (k : ℕ) (l xs : List ℕ) → k < length l → xs ≡ take (suc k) l → ascending l ≡ ascending xs && ascending (drop k l)
rising_cut k l xs h q =
    rw q (
    sym (neighbours_is l)
    ∙ two_chunks k l h
    ∙ ap₂ (λ a b. a && b) (neighbours_is (take (suc k) l)) (neighbours_is (drop k l)))
