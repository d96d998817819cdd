-- A list of values written as blocks of one width and padded: what putting in, replacing and taking out blocks leaves.
use mathlib.Core.Path.{◌≡◌, refl, sym, ap, ◌∙◌}
use mathlib.Core.List.{List, [], ◌∷◌, ◌++◌, append_assoc}
use Prim.Native.Nat.{ℕ, zero, suc, ◌+◌, ◌-◌, ◌*◌, ◌≤◌, ◌<◌}
use native.Mathlib.Nat.{mul-suc, mul-zero, add_comm, mul-le-mul_left, sub-zero, zero-sub, suc-sub-suc}
use native.Mathlib.Omega.{arith}
use lib.ListN.{length, set, take, drop, replicate, length-append, length-take, length-drop, length-set, replicate-append-replicate}
use lib.Seq.{take-append-add, drop-append-add, take-append-le, drop-append-le, take_at, drop_at, take-nil, drop-nil, set_split}
use Rattle.buffer.specs.Words.{replaced, inserted, removed}
use Rattle.buffer.specs.Row.{concat_map, padded}

w_suc : (w k : ℕ) → w * suc k ≡ w + w * k
w_suc w k = mul-suc w k ∙ add_comm (w * k) w

module _ {A : Type 0} where
  drop_replicate : (k n : ℕ) (z : A) → drop k (replicate n z) ≡ replicate (n - k) z
  drop_replicate zero n z = rw sub-zero
  drop_replicate (suc k) zero z = rw zero-sub
  drop_replicate (suc k) (suc n) z = rw suc-sub-suc (drop_replicate k n z)

  -- ---- of a front c with z after it

  inserted_front : (at e : ℕ) (v c z : List A) → length c ≡ e → at ≤ e → inserted at e v (c ++ z) ≡ (take at c ++ (v ++ drop at c)) ++ drop (length v) z
  unfolding inserted
  inserted_front at e v c z n h =
      let q : length (drop at c) ≡ e - at = length-drop at c ∙ ap (λ (m : ℕ). m - at) n in
      let d : drop (e + length v) (c ++ z) ≡ drop (length v) z = ap (λ (m : ℕ). drop (m + length v) (c ++ z)) (sym n) ∙ drop-append-add c z (length v) in
      rw (take-append-le at c z (omega arith), drop-append-le at c z (omega arith), take_at (drop at c) z (e - at) q, d)
      (simp append_assoc)

  replaced_front : (at e : ℕ) (v c z : List A) → at + length v ≡ e → e ≤ length c → replaced at v (c ++ z) ≡ (take at c ++ (v ++ drop e c)) ++ z
  unfolding replaced
  replaced_front at e v c z n h =
      rw (n, take-append-le at c z (omega arith), drop-append-le e c z h)
      (simp append_assoc)

  removed_front : (g e : ℕ) (d : A) (c z : List A) → length c ≡ e → g ≤ e → removed g e d (c ++ z) ≡ drop g c ++ (replicate g d ++ z)
  unfolding removed
  removed_front g e d c z n h =
      let q : length (drop g c) ≡ e - g = length-drop g c ∙ ap (λ (m : ℕ). m - g) n in
      let r : drop e (c ++ z) ≡ z = drop_at c z e n in
      rw (drop-append-le g c z (omega arith), take_at (drop g c) z (e - g) q, r)

module _ {X A : Type 0} (f : X → List A) where
  pub concat_append : (xs ys : List X) → concat_map f (xs ++ ys) ≡ concat_map f xs ++ concat_map f ys
  concat_append [] ys = refl
  concat_append (x ∷ xs) ys = ap (λ (l : List A). f x ++ l) (concat_append xs ys) ∙ sym (append_assoc (f x) (concat_map f xs) (concat_map f ys))

module _ {X A : Type 0} (f : X → List A) (w : ℕ) (u : (x : X) → length (f x) ≡ w) where
  pub length_concat : (xs : List X) → length (concat_map f xs) ≡ w * length xs
  length_concat [] = sym (mul-zero w)
  length_concat (x ∷ xs) = length-append (f x) (concat_map f xs) ∙ rw (u x, length_concat xs, w_suc)

  pub take_concat : (k : ℕ) (xs : List X) → take (w * k) (concat_map f xs) ≡ concat_map f (take k xs)
  take_concat zero xs = rw mul-zero
  take_concat (suc k) [] = take-nil (w * suc k)
  take_concat (suc k) (x ∷ xs) =
      ap (λ (n : ℕ). take n (f x ++ concat_map f xs)) (w_suc w k ∙ ap (λ (m : ℕ). m + w * k) (sym (u x)))
      ∙ take-append-add (f x) (concat_map f xs) (w * k) ∙ ap (λ (l : List A). f x ++ l) (take_concat k xs)

  pub drop_concat : (k : ℕ) (xs : List X) → drop (w * k) (concat_map f xs) ≡ concat_map f (drop k xs)
  drop_concat zero xs = rw mul-zero
  drop_concat (suc k) [] = drop-nil (w * suc k)
  drop_concat (suc k) (x ∷ xs) =
      ap (λ (n : ℕ). drop n (f x ++ concat_map f xs)) (w_suc w k ∙ ap (λ (m : ℕ). m + w * k) (sym (u x)))
      ∙ drop-append-add (f x) (concat_map f xs) (w * k) ∙ drop_concat k xs

module _ {X A : Type 0} (f : X → List A) (w : ℕ) (u : (x : X) → length (f x) ≡ w) (capacity : ℕ) (z : A) where
  -- the blocks of a list of values, in a row of this capacity
  abbrev pub blocks : List X → List A
  blocks xs = padded (w * capacity) z (concat_map f xs)

  -- a block put in at k
  pub insert_block : (k : ℕ) (y : X) (xs : List X) → k ≤ length xs
      → inserted (w * k) (w * length xs) (f y) (blocks xs) ≡ blocks (take k xs ++ y ∷ drop k xs)
  insert_block k y xs h =
      let c : List A = concat_map f xs in
      let n : length c ≡ w * length xs = length_concat f w u xs in
      let e : take (w * k) c ++ (f y ++ drop (w * k) c) ≡ concat_map f (take k xs ++ y ∷ drop k xs) =
      rw (take_concat f w u k xs, drop_concat f w u k xs) (sym (concat_append f (take k xs) (y ∷ drop k xs))) in
      let le : w * k ≤ w * length xs = mul-le-mul_left w h in
      let m : length (take (w * k) c ++ (f y ++ drop (w * k) c)) ≡ length c + length (f y) = simp (length-append, length-take, length-drop) (omega arith) in
      let q : w * capacity - length c - length (f y) ≡ w * capacity - length (concat_map f (take k xs ++ y ∷ drop k xs)) = omega (arith, sym (ap length e) ∙ m) in
      inserted_front (w * k) (w * length xs) (f y) c (replicate (w * capacity - length c) z) n le
      ∙ rw (e, drop_replicate (length (f y)) (w * capacity - length c) z, q)

  -- another block at k
  pub replace_block : (k : ℕ) (y : X) (xs : List X) → k < length xs → replaced (w * k) (f y) (blocks xs) ≡ blocks (set xs k y)
  replace_block k y xs h =
      let c : List A = concat_map f xs in
      let n : length c ≡ w * length xs = length_concat f w u xs in
      let le : w * suc k ≤ w * length xs = mul-le-mul_left w h in
      let e : take (w * k) c ++ (f y ++ drop (w * suc k) c) ≡ concat_map f (set xs k y) =
      rw (take_concat f w u k xs, drop_concat f w u (suc k) xs, set_split xs k y h) (sym (concat_append f (take k xs) (y ∷ drop (suc k) xs))) in
      let m : length (concat_map f (set xs k y)) ≡ length c = length_concat f w u (set xs k y) ∙ ap (λ (i : ℕ). w * i) (length-set xs k y) ∙ sym n in
      replaced_front (w * k) (w * suc k) (f y) c (replicate (w * capacity - length c) z) (rw (u y) (sym (mul-suc w k))) (rw n le)
      ∙ rw (e, m)

  -- the first k blocks taken out
  pub remove_blocks : (k : ℕ) (xs : List X) → k ≤ length xs → length xs ≤ capacity → removed (w * k) (w * length xs) z (blocks xs) ≡ blocks (drop k xs)
  remove_blocks k xs h g =
      let c : List A = concat_map f xs in
      let n : length c ≡ w * length xs = length_concat f w u xs in
      let le : w * k ≤ w * length xs = mul-le-mul_left w h in
      let room : w * length xs ≤ w * capacity = mul-le-mul_left w g in
      let m : length (drop (w * k) c) ≡ w * length xs - w * k = length-drop (w * k) c ∙ ap (λ (i : ℕ). i - w * k) n in
      let q : w * k + (w * capacity - length c) ≡ w * capacity - length (drop (w * k) c) = omega arith in
      removed_front (w * k) (w * length xs) z c (replicate (w * capacity - length c) z) n le
      ∙ rw (replicate-append-replicate (w * k) (w * capacity - length c) z, q, drop_concat f w u k xs)
