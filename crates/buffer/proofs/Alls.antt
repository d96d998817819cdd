-- What `all` says of a list's elements, and of a map's values.
use Prim.Native.Nat.{ℕ, zero, suc, ◌<◌}
use mathlib.Core.Path.{◌≡◌, refl, sym, ap, ◌∙◌}
use mathlib.Core.Logic.{◌↔◌}
use mathlib.Core.Bool.{Bool, true, ◌&&◌, and_assoc}
use Rattle.std.specs.Prelude.{Some}
use mathlib.Core.List.{List, [], ◌∷◌, ◌++◌}
use native.Mathlib.Omega.{arith}
use lib.ListN.{length, get_or, take, drop, replicate, take-append-drop}
use lib.Dec.{eqb}
use borrow.Author.Tests.{lt-ltb, le-ltb, eq-eqb, ne_eqb, eqb-true}
use Rattle.buffer.specs.Map.{Map, all, get, put, keep}
use Rattle.buffer.proofs.Cases.{both, none_some, and_both, and_left, and_right, Tri, less, same, more, tri}
use Rattle.buffer.proofs.Maps.{Rising, get_floor, get_head}

module _ {A : Type 0} where
  pub all_append : (test : A → Bool) (xs ys : List A) → all test (xs ++ ys) ≡ (all test xs && all test ys)
  all_append test [] ys = refl
  all_append test (x ∷ xs) ys = ap (λ b. test x && b) (all_append test xs ys) ∙ sym (and_assoc (test x) (all test xs) (all test ys))

  -- of a list that is cut in two
  pub all_cut : (test : A → Bool) (k : ℕ) (l xs ys : List A) → xs ≡ take k l → ys ≡ drop k l → all test l ≡ (all test xs && all test ys)
  all_cut test k l xs ys p q = rw (p, q) (ap (all test) (sym (take-append-drop k l)) ∙ all_append test (take k l) (drop k l))

  pub all_weaken : (p q : A → Bool) (xs : List A) → ((x : A) → p x ≡ true → q x ≡ true) → all p xs ≡ true → all q xs ≡ true
  all_weaken p q [] w h = refl
  all_weaken p q (x ∷ xs) w h = and_both _ _ (w x (and_left (p x) _ h)) (all_weaken p q xs w (and_right (p x) _ h))

  pub all_replicate : (test : A → Bool) (n : ℕ) (z : A) → test z ≡ true → all test (replicate n z) ≡ true
  all_replicate test zero z h = refl
  all_replicate test (suc n) z h = and_both _ _ h (all_replicate test n z h)

  -- where only z passes
  pub all_only : (test : A → Bool) (z : A) (xs : List A) → ((x : A) → test x ≡ true → x ≡ z) → all test xs ≡ true → xs ≡ replicate (length xs) z
  all_only test z [] w h = refl
  all_only test z (x ∷ xs) w h = λ i. w x (and_left (test x) _ h) i ∷ all_only test z xs w (and_right (test x) _ h) i

  -- by index
  pub all_at : (test : A → Bool) (xs : List A) (d : A) → (all test xs ≡ true) ↔ ((i : ℕ) → i < length xs → test (get_or xs i d) ≡ true)
  all_at test xs d = (at_each xs, of_each xs)
    where
      at_each : (xs : List A) → all test xs ≡ true → (i : ℕ) → i < length xs → test (get_or xs i d) ≡ true
      at_each [] h i l = absurd (omega arith)
      at_each (x ∷ xs) h zero l = and_left (test x) _ h
      at_each (x ∷ xs) h (suc i) l = at_each xs (and_right (test x) _ h) i (omega arith)

      of_each : (xs : List A) → ((i : ℕ) → i < length xs → test (get_or xs i d) ≡ true) → all test xs ≡ true
      of_each [] h = refl
      of_each (x ∷ xs) h = and_both _ _ (h 0 (omega arith)) (of_each xs (λ i l. h (suc i) (omega arith)))

module _ {A : Type 0} (test : ℕ × A → Bool) where
  held_passes : (m : Map A) → all test m ≡ true → (k : ℕ) (v : A) → get m k ≡ Some v → test (k, v) ≡ true
  held_passes [] h k v g = absurd (none_some g)
  held_passes (x ∷ m) h k v g =
      both (eqb k x.0)
      (λ e.
      let w : Some x.1 ≡ Some v = rw e at g in
      let q : (k, v) ≡ x = λ i. (eqb-true k x.0 e i, sym (some_is w) i) in
      ap test q ∙ and_left (test x) _ h)
      (λ e. held_passes m (and_right (test x) _ h) k v (rw e at g))
    where
      some_is : Some x.1 ≡ Some v → x.1 ≡ v
      some_is w = cc w

  passes_held : (m : Map A) → Rising m → ((k : ℕ) (v : A) → get m k ≡ Some v → test (k, v) ≡ true) → all test m ≡ true
  passes_held [] r h = refl
  passes_held (x ∷ m) r h = and_both _ _ (h x.0 x.1 (get_head x m)) (passes_held m r.1 below)
    where
      below : (k : ℕ) (v : A) → get m k ≡ Some v → test (k, v) ≡ true
      below k v g =
          both (eqb k x.0)
          (λ e. absurd (none_some (sym (get_floor x.0 k m r.0 (let q = eqb-true k x.0 e in omega arith)) ∙ g)))
          (λ e. h k v (rw e g))

  -- on a rising map `all` says that each value got passes
  pub all_get : (m : Map A) → Rising m → (all test m ≡ true) ↔ ((k : ℕ) (v : A) → get m k ≡ Some v → test (k, v) ≡ true)
  all_get m r = (held_passes m, passes_held m r)

  pub all_put : (k : ℕ) (v : A) (m : Map A) → test (k, v) ≡ true → all test m ≡ true → all test (put k v m) ≡ true
  all_put k v [] t h = and_both _ _ t refl
  all_put k v (x ∷ m) t h = go (tri k x.0) (all_put k v m t (and_right (test x) _ h))
    where
      go : Tri k x.0 → all test (put k v m) ≡ true → all test (put k v (x ∷ m)) ≡ true
      go (less l) ih = rw (lt-ltb k x.0 l) (and_both _ _ t h)
      go (same e) ih = rw (le-ltb k x.0 (omega arith), eq-eqb k x.0 e) (and_both _ _ t (and_right (test x) _ h))
      go (more l) ih = rw (le-ltb k x.0 (omega arith), ne_eqb k x.0 (λ e. omega arith)) (and_both _ _ (and_left (test x) _ h) ih)

  pub all_keep : (ok : ℕ → Bool) (m : Map A) → all test m ≡ true → all test (keep ok m) ≡ true
  all_keep ok [] h = refl
  all_keep ok (x ∷ m) h =
      let ih = all_keep ok m (and_right (test x) _ h) in
      both (ok x.0) (λ e. rw e (and_both _ _ (and_left (test x) _ h) ih)) (λ e. rw e ih)

-- what was kept passes
pub all_kept : {A : Type 0} (ok : ℕ → Bool) (m : Map A) → all (λ x. ok x.0) (keep ok m) ≡ true
all_kept ok [] = refl
all_kept ok (x ∷ m) =
    let ih = all_kept ok m in
    both (ok x.0) (λ e. rw e (and_both _ _ e ih)) (λ e. rw e ih)
