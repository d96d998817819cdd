-- Blocks that have one width where a test is passed, written one after the other and padded: a block put in, and one in the place of another.
use Prim.Native.Nat.{ℕ, zero, suc, ◌*◌, ◌≤◌, ◌<◌}
use mathlib.Core.Path.{◌≡◌, refl, sym}
use mathlib.Core.Bool.{Bool, true}
use mathlib.Core.List.{List, [], ◌∷◌, ◌++◌}
use native.Mathlib.Nat.{le_of_eq}
use lib.ListN.{length, set, take, drop}
use lib.Seq.{length-take-le, take_all}
use Rattle.buffer.specs.Map.{all}
use Rattle.buffer.specs.Words.{replaced, inserted}
use Rattle.buffer.specs.Row.{concat_map, padded}
use Rattle.buffer.proofs.Cases.{and_both, and_left, and_right}
use Rattle.buffer.proofs.Strides.{insert_block, replace_block}

module _ {X : Type 0} (ok : X → Bool) where
  pub all_set : (k : ℕ) (y : X) (xs : List X) → ok y ≡ true → all ok xs ≡ true → all ok (set xs k y) ≡ true
  all_set k y [] p h = refl
  all_set zero y (x ∷ xs) p h = and_both _ _ p (and_right (ok x) _ h)
  all_set (suc k) y (x ∷ xs) p h = and_both _ _ (and_left (ok x) _ h) (all_set k y xs p (and_right (ok x) _ h))

  pub all_insert : (k : ℕ) (y : X) (xs : List X) → ok y ≡ true → all ok xs ≡ true → all ok (take k xs ++ y ∷ drop k xs) ≡ true
  all_insert zero y xs p h = and_both _ _ p h
  all_insert (suc k) y [] p h = and_both _ _ p h
  all_insert (suc k) y (x ∷ xs) p h = and_both _ _ (and_left (ok x) _ h) (all_insert k y xs p (and_right (ok x) _ h))

module _ {X B : Type 0} (f : X → List B) (w : ℕ) (ok : X → Bool) (wide : (x : X) → ok x ≡ true → length (f x) ≡ w) (least : (x : X) → w ≤ length (f x)) where
  -- the same blocks, each cut to the width, so that it is that of every value
  abbrev cut : X → List B
  cut x = take w (f x)

  cut_wide : (x : X) → length (cut x) ≡ w
  cut_wide x = length-take-le w (f x) (least x)

  cut_same : (x : X) → ok x ≡ true → cut x ≡ f x
  cut_same x h = take_all w (f x) (le_of_eq (wide x h))

  concat_cut : (xs : List X) → all ok xs ≡ true → concat_map f xs ≡ concat_map cut xs
  concat_cut [] h = refl
  concat_cut (x ∷ xs) h = λ i. sym (cut_same x (and_left (ok x) _ h)) i ++ concat_cut xs (and_right (ok x) _ h) i

  module _ (capacity : ℕ) (z : B) (y : X) (xs : List X) (p : ok y ≡ true) (h : all ok xs ≡ true) where
    pub insert_fit : (k : ℕ) → k ≤ length xs
        → inserted (w * k) (w * length xs) (f y) (padded (w * capacity) z (concat_map f xs)) ≡ padded (w * capacity) z (concat_map f (take k xs ++ y ∷ drop k xs))
    insert_fit k l =
        rw (concat_cut xs h, concat_cut (take k xs ++ y ∷ drop k xs) (all_insert ok k y xs p h), ← cut_same y p)
        (insert_block cut w cut_wide capacity z k y xs l)

    pub replace_fit : (k : ℕ) → k < length xs
        → replaced (w * k) (f y) (padded (w * capacity) z (concat_map f xs)) ≡ padded (w * capacity) z (concat_map f (set xs k y))
    replace_fit k l =
        rw (concat_cut xs h, concat_cut (set xs k y) (all_set ok k y xs p h), ← cut_same y p)
        (replace_block cut w cut_wide capacity z k y xs l)
