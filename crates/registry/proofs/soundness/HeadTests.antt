-- The tests of the head's rows and age, and the clauses of `sound` that they decide.
use Prim.Native.Nat.{ℕ, zero, suc, ◌-◌, ◌^◌, ◌≤◌, ◌<◌}
use mathlib.Core.Path.{◌≡◌, refl, sym, ap, ◌∙◌}
use mathlib.Core.Bool.{Bool, true, false, not, ◌&&◌}
use mathlib.Core.List.{List}
use native.Mathlib.Omega.{arith}
use lib.Dec.{eqb, ltb, leb}
use lib.Ieee.{Float}
use borrow.Author.Tests.{le-leb, eqb-true, eqb-false}
use Rattle.buffer.specs.Map.{all, rising}
use Rattle.buffer.proofs.Cases.{both, bool_ext}
use Rattle.buffer.proofs.Maps.{rising_is}
use Rattle.buffer.proofs.Alls.{all_at}
use Rattle.registry.specs.Tree.{Edge}
use Rattle.registry.specs.Store.{Store, rows_in, used_in, child_in, parent_in, kind_in, row_at, tree_of}
use Rattle.registry.specs.Sound.{every, frames_fit, parents_differ, no_circle}
use Rattle.registry.specs.Calls.{store_of}
use Rattle.registry.specs.layout.Rows.{head_of, child_at, UsedRows, RisingRows}
use Rattle.registry.specs.soundness.Checks.{row_fits, age_named, head_sound}
use Rattle.registry.proofs.soundness.Everys.{every_is}
use Rattle.registry.proofs.layout.StoreBack.{blank}
use Rattle.registry.proofs.layout.TreeRows.{length_tree, tree_row, tree_rises}

-- ---- children that rise

-- each above the one before
abbrev pub Neighbours : List ℕ → ℕ → Type 0
Neighbours h n = (k : ℕ) → k < n → 0 < k → child_at h (k - 1) < child_at h k

pub neighbours_rise : (h : List ℕ) (n : ℕ) → Neighbours h n → (j k : ℕ) → j < k → k < n → child_at h j < child_at h k
neighbours_rise h n b j zero l u = absurd (omega arith)
neighbours_rise h n b j (suc k) l u =
    let step : child_at h k < child_at h (suc k) = let e : suc k - 1 ≡ k = omega arith in rw e at (b (suc k) u (omega arith)) in
    both (eqb j k)
    (λ e. rw (eqb-true j k e) step)
    (λ e. let ih = neighbours_rise h n b j k (let ne = eqb-false j k e in omega arith) (omega arith) in omega arith)

module _ (h : List ℕ) where
  pub rise_fails : (r : ℕ) → 0 < r → r < used_in (head_of h) → child_at h r ≤ child_at h (r - 1) → (i : List ℕ) (p : List Float) → false ≡ rising (tree_of (store_of h i p))
  rise_fails r z l u i p =
      let s = store_of h i p in
      both (rising (tree_of s))
      (λ e.
      let w = (tree_rises s).1 ((rising_is (tree_of s)).0 e) (r - 1) r (omega arith) l in
      absurd (omega arith))
      (λ e. sym e)

  pub rise_all : Neighbours h (used_in (head_of h)) → (i : List ℕ) (p : List Float) → true ≡ rising (tree_of (store_of h i p))
  rise_all b i p = let s = store_of h i p in sym ((rising_is (tree_of s)).1 ((tree_rises s).0 (neighbours_rise h (used_in (head_of h)) b)))

  -- and back, for whoever tests the rows
  pub rising_rows : UsedRows h → (i : List ℕ) (p : List Float) → rising (tree_of (store_of h i p)) ≡ true → RisingRows h
  rising_rows used i p e = let s = store_of h i p in record { within = used; rises = (tree_rises s).1 ((rising_is (tree_of s)).0 e) }

-- ---- a test of every row

pub tree_all : (s : Store) (test : ℕ × Edge → Bool) → all test (tree_of s) ≡ every (used_in s) (λ r. test (row_at s r))
tree_all s test =
    bool_ext _ _
    (λ e. (every_is (λ r. test (row_at s r)) (used_in s)).1
    (λ r l. ap test (sym (tree_row s r l)) ∙ (all_at test (tree_of s) blank).0 e r (rw (length_tree s) l)))
    (λ e. (all_at test (tree_of s) blank).1
    (λ r l. let u : r < used_in s = rw (length_tree s) at l in ap test (tree_row s r u) ∙ (every_is (λ r. test (row_at s r)) (used_in s)).0 e r u))

pub every_and : (n : ℕ) (p q : ℕ → Bool) → every n (λ r. p r && q r) ≡ (every n p && every n q)
every_and zero p q = refl
every_and (suc n) p q = ap (λ b. b && (p n && q n)) (every_and n p q) ∙ swap (every n p) (every n q) (p n) (q n)
  where
    swap : (a b c d : Bool) → (a && b && (c && d)) ≡ (a && c && (b && d))
    swap false b c d = refl
    swap true false false d = refl
    swap true false true d = refl
    swap true true false d = refl
    swap true true true d = refl

-- what the code tests of each row is three clauses
pub rows_fit_is : (s : Store) → every (used_in s) (row_fits s.head) ≡ (frames_fit (tree_of s) && parents_differ (tree_of s) && every (used_in s) (λ r. leb (kind_in s r) 1))
rows_fit_is s =
    let frames : ℕ → Bool = λ r. ltb (child_in s r) (2 ^ 32) && ltb (parent_in s r) (2 ^ 32) in
    let parents : ℕ → Bool = λ r. not (eqb (parent_in s r) (child_in s r)) in
    let kinds : ℕ → Bool = λ r. leb (kind_in s r) 1 in
    every_and (used_in s) (λ r. frames r && parents r) kinds
    ∙ ap (λ b. b && every (used_in s) kinds)
    (every_and (used_in s) frames parents
    ∙ (λ i. sym (tree_all s (λ x. ltb x.0 (2 ^ 32) && ltb x.1.parent (2 ^ 32))) i && sym (tree_all s (λ x. not (eqb x.1.parent x.0))) i))

-- ---- the head's clauses in the order in which the code tests them

regroup : (a b c d e f k : Bool) → (a && b && (c && d && k) && f && e) ≡ (a && b && c && d && e && (f && k))
regroup false b c d e f k = refl
regroup true false c d e f k = refl
regroup true true false d e f k = refl
regroup true true true false e f k = refl
regroup true true true true e f false = last e f
  where
    last : (e f : Bool) → false ≡ (e && (f && false))
    last false f = refl
    last true false = refl
    last true true = refl
regroup true true true true e f true = last e f
  where
    last : (e f : Bool) → (f && e) ≡ (e && (f && true))
    last false false = refl
    last false true = refl
    last true false = refl
    last true true = refl

abbrev tests : Store → Bool
tests s = leb (used_in s) (rows_in s) && rising (tree_of s) && every (used_in s) (row_fits s.head) && age_named s.head && no_circle (tree_of s)

pub head_sound_is : (s : Store) → tests s ≡ head_sound s
head_sound_is s =
    ap (λ b. leb (used_in s) (rows_in s) && rising (tree_of s) && b && age_named s.head && no_circle (tree_of s)) (rows_fit_is s)
    ∙ regroup (leb (used_in s) (rows_in s)) (rising (tree_of s)) (frames_fit (tree_of s)) (parents_differ (tree_of s)) (no_circle (tree_of s)) (age_named s.head) (every (used_in s) (λ r. leb (kind_in s r) 1))

-- ---- the tests of the whole head, one by one

module _ (s : Store) where
  first : {b : Bool} → b ≡ tests s → b ≡ head_sound s
  first e = e ∙ head_sound_is s

  module _ (few : used_in s ≤ rows_in s) where
    module _ (rise : rising (tree_of s) ≡ true) where
      pub not_fitting : every (used_in s) (row_fits s.head) ≡ false → false ≡ head_sound s
      not_fitting e = first (rw (le-leb (used_in s) (rows_in s) few, rise, e))

      module _ (fit : every (used_in s) (row_fits s.head) ≡ true) where
        pub not_named : age_named s.head ≡ false → false ≡ head_sound s
        not_named e = first (rw (le-leb (used_in s) (rows_in s) few, rise, fit, e))

        pub circle_decides : age_named s.head ≡ true → no_circle (tree_of s) ≡ head_sound s
        circle_decides e = first (rw (le-leb (used_in s) (rows_in s) few, rise, fit, e))
