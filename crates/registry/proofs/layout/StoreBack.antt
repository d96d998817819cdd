-- The limits and a tree that fits them are read back from the store that holds them, and that store has its named lengths.
use Prim.Native.Nat.{ℕ, zero, suc, ◌+◌, ◌*◌, ◌≤◌, ◌<◌}
use mathlib.Core.Path.{◌≡◌, refl, sym, ap, ◌∙◌}
use mathlib.Core.Bool.{true}
use Rattle.std.specs.Prelude.{Option, None, Some}
use mathlib.Core.List.{List, [], ◌∷◌, ◌++◌, append_assoc}
use native.Mathlib.Omega.{arith}
use native.Mathlib.Nat.{zero-mul, suc-mul, mul_left_comm, mul-le-mul_right}
use lib.Dec.{leb}
use lib.ListN.{length, get_or, take, drop, length-append}
use lib.Seq.{take_at, drop_at, drop-drop, get_or-take, get_or-drop}
use borrow.Author.Tests.{leb-true}
use Rattle.time.specs.Float.{zero64}
use Rattle.buffer.specs.declared.kind.Kind.{Kind}
use Rattle.buffer.specs.declared.kind.Kind.TheVariants.{Static, Dynamic}
use Rattle.buffer.specs.Map.{all}
use Rattle.buffer.specs.Row.{concat_map, instant_words, pose_words}
use Rattle.buffer.proofs.Alls.{all_at}
use Rattle.buffer.proofs.RowBack.{length_padded, length_instant_words, length_pose_words, read_back}
use Rattle.registry.specs.Tree.{Edge, Tree, Limits}
use Rattle.registry.specs.Store.{kind_word, flag_word, age_word, row_words, encode, age_of, limits_of, row_word, kind_of_word, row_instants, row_poses, row_at, tabulate, tree_of, stored}

-- ---- the limits

pub age_back : (age : Option ℕ) → age_of (flag_word age) (age_word age) ≡ age
age_back None = refl
age_back (Some n) = refl

pub limits_back : (L : Limits) (t : Tree) → limits_of (stored L t) ≡ L
unfolding limits_of stored encode
limits_back L t = λ i. record { rows = L.rows; capacity = L.capacity; age = age_back L.age i }

-- ---- blocks of one width n, one after the other; d stands for an element that is not there

module _ {A B : Type 0} (f : A → List B) (n : ℕ) (d : A) where
  abbrev pub Wide : List A → Type 0
  Wide xs = (r : ℕ) → r < length xs → length (f (get_or xs r d)) ≡ n

  pub wide_tail : (x : A) (xs : List A) → Wide (x ∷ xs) → Wide xs
  wide_tail x xs w r l = w (suc r) (omega arith)

  pub length_blocks : (xs : List A) → Wide xs → length (concat_map f xs) ≡ length xs * n
  length_blocks [] w = sym (zero-mul n)
  length_blocks (x ∷ xs) w =
      let h = w 0 (omega arith) in
      let ih = length_blocks xs (wide_tail x xs w) in
      rw (length-append, suc-mul) (omega arith)

  -- block r
  pub block_at : (xs : List A) (rest : List B) (r : ℕ) → Wide xs → r < length xs → take n (drop (r * n) (concat_map f xs ++ rest)) ≡ f (get_or xs r d)
  block_at [] rest r w l = absurd (omega arith)
  block_at (x ∷ xs) rest zero w l = rw (zero-mul n, append_assoc) (take_at (f x) (concat_map f xs ++ rest) n (w 0 l))
  block_at (x ∷ xs) rest (suc r) w l =
      let e : suc r * n ≡ n + r * n = suc-mul r n ∙ omega arith in
      rw (e, append_assoc, ← (drop-drop (r * n) n (f x ++ (concat_map f xs ++ rest))), drop_at (f x) (concat_map f xs ++ rest) n (w 0 (omega arith)))
      (block_at xs rest r (wide_tail x xs w) (omega arith))

  -- word j of block r
  pub word_at : (xs : List A) (rest : List B) (r j : ℕ) (z : B) → Wide xs → r < length xs → j < n
      → get_or (concat_map f xs ++ rest) (r * n + j) z ≡ get_or (f (get_or xs r d)) j z
  word_at xs rest r j z w l k =
      sym (get_or-drop (r * n) (concat_map f xs ++ rest) j z)
      ∙ sym (get_or-take n (drop (r * n) (concat_map f xs ++ rest)) j z k)
      ∙ ap (λ (b : List B). get_or b j z) (block_at xs rest r w l)

module _ {A : Type 0} (d : A) where
  tabulate_is : (xs : List A) (g : ℕ → A) → ((r : ℕ) → r < length xs → g r ≡ get_or xs r d) → tabulate (length xs) g ≡ xs
  tabulate_is [] g h = refl
  tabulate_is (x ∷ xs) g h = λ i. h 0 (omega arith) i ∷ tabulate_is xs (λ r. g (suc r)) (λ r l. h (suc r) (omega arith)) i

pub kind_back : (k : Kind) → kind_of_word (kind_word k) ≡ k
kind_back Static = refl
kind_back Dynamic = refl

-- ---- a tree that fits the limits

pub record Fits (L : Limits) (t : Tree) : Type 0 where
  pub rows : length t ≤ L.rows
  pub samples : all (λ x. leb (length x.1.samples) L.capacity) t ≡ true

abbrev pub blank : ℕ × Edge
blank = (0, record { parent = 0; kind = Static; samples = [] })

module _ (L : Limits) (t : Tree) (fits : Fits L t) where
  few : (r : ℕ) → r < length t → length (get_or t r blank).1.samples ≤ L.capacity
  few r l = leb-true _ _ ((all_at (λ x. leb (length x.1.samples) L.capacity) t blank).0 fits.samples r l)

  pub wide_rows : Wide row_words 4 blank t
  wide_rows r l = refl

  pub wide_instants : Wide (λ x. instant_words L.capacity x.1.samples) L.capacity blank t
  wide_instants r l = length_instant_words L.capacity (get_or t r blank).1.samples (few r l)

  pub wide_poses : Wide (λ x. pose_words L.capacity x.1.samples) (7 * L.capacity) blank t
  wide_poses r l = length_pose_words L.capacity (get_or t r blank).1.samples (few r l)

  -- ---- the lengths of the slices

  pub length_head : length (stored L t).head ≡ 5 + 4 * L.rows
  unfolding stored encode
  length_head =
      let h = fits.rows in
      let w = length_blocks row_words 4 blank t wide_rows in
      let p = length_padded (4 * L.rows) 0 (concat_map row_words t) (omega arith) in
      omega arith

  pub length_instants : length (stored L t).instants ≡ L.rows * L.capacity
  unfolding stored encode
  length_instants =
      length_padded (L.rows * L.capacity) 0 (concat_map (λ x. instant_words L.capacity x.1.samples) t)
      (rw (length_blocks _ L.capacity blank t wide_instants) (mul-le-mul_right L.capacity fits.rows))

  pub length_poses : length (stored L t).poses ≡ 7 * (L.rows * L.capacity)
  unfolding stored encode
  length_poses =
      length_padded (7 * (L.rows * L.capacity)) zero64 (concat_map (λ x. pose_words L.capacity x.1.samples) t)
      (rw (length_blocks _ (7 * L.capacity) blank t wide_poses, mul_left_comm 7 L.rows L.capacity) (mul-le-mul_right (7 * L.capacity) fits.rows))

  -- ---- the tree

  pub word_back : (r j : ℕ) → r < length t → j < 4 → row_word (stored L t) r j ≡ get_or (row_words (get_or t r blank)) j 0
  unfolding stored encode
  word_back r j l k =
      let e : 5 + 4 * r + j ≡ 5 + (r * 4 + j) = omega arith in
      rw e
      (sym (get_or-drop 5 (stored L t).head (r * 4 + j) 0)
      ∙ word_at row_words 4 blank t _ r j 0 wide_rows l k)

  pub instants_back : (r : ℕ) → r < length t → row_instants (stored L t) r ≡ instant_words L.capacity (get_or t r blank).1.samples
  unfolding stored encode
  instants_back r l = block_at (λ x. instant_words L.capacity x.1.samples) L.capacity blank t _ r wide_instants l

  pub poses_back : (r : ℕ) → r < length t → row_poses (stored L t) r ≡ pose_words L.capacity (get_or t r blank).1.samples
  unfolding stored encode
  poses_back r l = rw (mul_left_comm 7 r L.capacity) (block_at (λ x. pose_words L.capacity x.1.samples) (7 * L.capacity) blank t _ r wide_poses l)

  row_back : (r : ℕ) → r < length t → row_at (stored L t) r ≡ get_or t r blank
  row_back r l =
      let x = get_or t r blank in
      rw (word_back r 0 l (omega arith), word_back r 1 l (omega arith), word_back r 2 l (omega arith), word_back r 3 l (omega arith))
      (rw (instants_back r l, poses_back r l)
      (λ i. (x.0, record { parent = x.1.parent; kind = kind_back x.1.kind i; samples = read_back L.capacity x.1.samples i })))

  pub tree_back : tree_of (stored L t) ≡ t
  unfolding tree_of stored encode
  tree_back = tabulate_is blank t (row_at (stored L t)) row_back
