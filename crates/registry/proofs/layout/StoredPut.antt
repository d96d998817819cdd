-- The words of a tree with a child put in, from the words of the tree: a held child's row gets other samples, a new child's row is put in.
use Prim.Native.Nat.{ℕ, suc, ◌+◌, ◌-◌, ◌*◌, ◌≤◌, ◌<◌}
use mathlib.Core.Path.{◌≡◌, refl, sym, ap, ◌∙◌}
use mathlib.Core.Bool.{Bool, true}
use mathlib.Core.List.{List, ◌∷◌, ◌++◌, append_assoc}
use native.Mathlib.Nat.{add_comm, mul_comm, mul_assoc}
use native.Mathlib.Numerals.{add_five}
use native.Mathlib.Omega.{arith}
use lib.ListN.{length, get_or, set, take, drop, length-append, length-take, length-drop, length-replicate, length-set}
use lib.Seq.{set_split, take-add, take-take}
use lib.Dec.{leb}
use lib.Ieee.{Float}
use borrow.Author.Tests.{le-leb, leb-true}
use Rattle.time.specs.Float.{zero64}
use Rattle.buffer.specs.Map.{keys, put}
use Rattle.buffer.specs.Words.{replaced, inserted}
use Rattle.buffer.specs.Samples.{Samples}
use Rattle.buffer.specs.Row.{padded, concat_map, instant_words, pose_words}
use Rattle.buffer.proofs.Maps.{Rising}
use Rattle.buffer.proofs.RowBack.{poses_of, length_instant_words, length_pose_words}
use Rattle.buffer.proofs.Strides.{length_concat, insert_block, replace_block}
use Rattle.registry.specs.Tree.{Edge, Tree, Limits}
use Rattle.registry.specs.Store.{head_length, instants_length, poses_length, flag_word, age_word, row_words, encode, with_used, with_count, stored}
use Rattle.registry.specs.Calls.{store_of}
use Rattle.registry.proofs.layout.MapRows.{put_at, Gap, put_gap}
use Rattle.registry.proofs.layout.FitBlocks.{insert_fit, replace_fit}
use Rattle.registry.proofs.layout.StoreBack.{Fits, blank, block_at, wide_rows}

padded_least : {A : Type 0} (n : ℕ) (z : A) (xs : List A) → n ≤ length (padded n z xs)
padded_least n z xs = simp (length-append, length-replicate) (omega arith)

-- 7 x S floats a row
row_floats_lem : (r S : ℕ) → 7 * (r * S) ≡ 7 * S * r
row_floats_lem r S = ap (λ (n : ℕ). 7 * n) (mul_comm r S) ∙ sym (mul_assoc 7 S r)

-- the words after the head's first five
five : (n : ℕ) → 5 + n ≡ suc (suc (suc (suc (suc n))))
five n = add_comm 5 n ∙ add_five n

inserted_five : (at end a b c d e : ℕ) (v l : List ℕ) → inserted (5 + at) (5 + end) v (a ∷ b ∷ c ∷ d ∷ e ∷ l) ≡ a ∷ b ∷ c ∷ d ∷ e ∷ inserted at end v l
unfolding inserted
inserted_five at end a b c d e v l =
    let q : 5 + end - (5 + at) ≡ end - at = omega arith in
    let r : 5 + end + length v ≡ suc (suc (suc (suc (suc (end + length v))))) = omega arith in
    rw (q, r, five at)

-- the same child, parent and kind with other samples
abbrev holding : ℕ × Edge → Samples → ℕ × Edge
holding x m = (x.0, record { parent = x.1.parent; kind = x.1.kind; samples = m })

-- the tree with them in that row
abbrev pub resample : ℕ × Edge → Samples → Tree → Tree
resample x m t = put x.0 (holding x m).1 t

module _ (L : Limits) (t : Tree) (fits : Fits L t) where
  abbrev room : ℕ × Edge → Bool
  room x = leb (length x.1.samples) L.capacity

  abbrev times : ℕ × Edge → List ℕ
  times x = instant_words L.capacity x.1.samples

  abbrev poses : ℕ × Edge → List Float
  poses x = pose_words L.capacity x.1.samples

  times_wide : (x : ℕ × Edge) → room x ≡ true → length (times x) ≡ L.capacity
  times_wide x h = length_instant_words L.capacity x.1.samples (leb-true _ _ h)

  poses_wide : (x : ℕ × Edge) → room x ≡ true → length (poses x) ≡ 7 * L.capacity
  poses_wide x h = length_pose_words L.capacity x.1.samples (leb-true _ _ h)

  times_least : (x : ℕ × Edge) → L.capacity ≤ length (times x)
  times_least x = padded_least {A = ℕ} L.capacity 0 (keys x.1.samples)

  poses_least : (x : ℕ × Edge) → 7 * L.capacity ≤ length (poses x)
  poses_least x = padded_least (7 * L.capacity) zero64 (poses_of x.1.samples)

  -- ---- row r with other samples

  module _ (r : ℕ) (l : r < length t) (y : ℕ × Edge) (p : room y ≡ true) where
    instants_set : replaced (instants_length r L.capacity) (times y) (stored L t).instants ≡ (stored L (set t r y)).instants
    unfolding stored encode
    instants_set =
        rw (mul_comm r L.capacity, mul_comm L.rows L.capacity)
        (replace_fit times L.capacity room times_wide times_least L.rows 0 y t p fits.samples r l)

    poses_set : replaced (poses_length r L.capacity) (poses y) (stored L t).poses ≡ (stored L (set t r y)).poses
    unfolding stored encode
    poses_set =
        rw (row_floats_lem r L.capacity, row_floats_lem L.rows L.capacity)
        (replace_fit poses (7 * L.capacity) room poses_wide poses_least L.rows zero64 y t p fits.samples r l)

  -- the row's other words stay
  count_set : (r : ℕ) → r < length t → (m : Samples)
      → with_count r (length m) (stored L t).head ≡ (stored L (set t r (holding (get_or t r blank) m))).head
  unfolding stored encode replaced
  count_set r l m =
      let x : ℕ × Edge = get_or t r blank in
      let B : List ℕ = padded (4 * L.rows) 0 (concat_map row_words t) in
      let v : ℕ = length m in
      let q : 5 + 4 * r + 3 ≡ suc (suc (suc (suc (suc (4 * r + 3))))) = omega arith in
      let le : 4 * suc r ≤ length (concat_map row_words t) = rw (length_concat row_words 4 (λ x. refl) t) (omega arith) in
      let n : 4 * r + 3 < length B = rw (length-append (concat_map row_words t)) (omega arith) in
      let four : take 4 (drop (4 * r) B) ≡ row_words x = rw (mul_comm 4 r) (block_at row_words 4 blank t _ r (wide_rows L t fits) l) in
      let three : take 3 (drop (4 * r) B) ≡ take 3 (row_words x) = sym (take-take 3 4 (drop (4 * r) B) (omega arith)) ∙ ap (take 3) four in
      let front : take (4 * r + 3) B ≡ take (4 * r) B ++ take 3 (row_words x) = take-add (4 * r) 3 B ∙ ap (λ (a : List ℕ). take (4 * r) B ++ a) three in
      let e : suc (4 * r + 3) ≡ 4 * r + 4 = omega arith in
      let w : set B (4 * r + 3) v ≡ replaced (4 * r) (row_words (holding x m)) B = set_split B (4 * r + 3) v n ∙ rw (front, e) (append_assoc (take (4 * r) B) (take 3 (row_words x)) (v ∷ drop (4 * r + 4) B)) in
      rw (q, length-set t r (holding x m))
      (ap (λ (a : List ℕ). L.rows ∷ L.capacity ∷ length t ∷ flag_word L.age ∷ age_word L.age ∷ a)
      (w ∙ replace_block row_words 4 (λ x. refl) L.rows 0 r (holding x m) t l))

  -- a held child's row with other samples
  pub stored_held : Rising t → (r : ℕ) → r < length t → (m : Samples) → length m ≤ L.capacity
      → store_of
      (with_count r (length m) (stored L t).head)
      (replaced (instants_length r L.capacity) (instant_words L.capacity m) (stored L t).instants)
      (replaced (poses_length r L.capacity) (pose_words L.capacity m) (stored L t).poses)
      ≡ stored L (resample (get_or t r blank) m t)
  stored_held rises r l m few =
      let y : ℕ × Edge = holding (get_or t r blank) m in
      let p : room y ≡ true = le-leb _ _ few in
      (λ i. store_of (count_set r l m i) (instants_set r l y p i) (poses_set r l y p i))
      ∙ ap (stored L) (sym (put_at blank t rises y.0 r y.1 l refl))

  -- ---- a row put in at k

  module _ (k : ℕ) (l : k ≤ length t) (y : ℕ × Edge) (p : room y ≡ true) where
    abbrev more : Tree
    more = take k t ++ y ∷ drop k t

    length_more : length more ≡ suc (length t)
    length_more = simp (length-append, length-take, length-drop) (omega arith)

    row_in : with_used (suc (length t)) (inserted (head_length k) (head_length (length t)) (row_words y) (stored L t).head) ≡ (stored L more).head
    unfolding stored encode
    row_in =
        rw (
          inserted_five (4 * k) (4 * length t) L.rows L.capacity (length t) (flag_word L.age) (age_word L.age) (row_words y) (padded (4 * L.rows) 0 (concat_map row_words t)),
          length_more,
        )
        (ap (λ (a : List ℕ). L.rows ∷ L.capacity ∷ suc (length t) ∷ flag_word L.age ∷ age_word L.age ∷ a)
        (insert_block row_words 4 (λ x. refl) L.rows 0 k y t l))

    instants_in : inserted (instants_length k L.capacity) (instants_length (length t) L.capacity) (times y) (stored L t).instants ≡ (stored L more).instants
    unfolding stored encode
    instants_in =
        rw (mul_comm k L.capacity, mul_comm (length t) L.capacity, mul_comm L.rows L.capacity)
        (insert_fit times L.capacity room times_wide times_least L.rows 0 y t p fits.samples k l)

    poses_in : inserted (poses_length k L.capacity) (poses_length (length t) L.capacity) (poses y) (stored L t).poses ≡ (stored L more).poses
    unfolding stored encode
    poses_in =
        rw (row_floats_lem k L.capacity, row_floats_lem (length t) L.capacity, row_floats_lem L.rows L.capacity)
        (insert_fit poses (7 * L.capacity) room poses_wide poses_least L.rows zero64 y t p fits.samples k l)

  -- a new child's row
  pub stored_new : (c k : ℕ) → Gap blank t c k → (e : Edge) → length e.samples ≤ L.capacity
      → store_of
      (with_used (suc (length t)) (inserted (head_length k) (head_length (length t)) (row_words (c, e)) (stored L t).head))
      (inserted (instants_length k L.capacity) (instants_length (length t) L.capacity) (instant_words L.capacity e.samples) (stored L t).instants)
      (inserted (poses_length k L.capacity) (poses_length (length t) L.capacity) (pose_words L.capacity e.samples) (stored L t).poses)
      ≡ stored L (put c e t)
  stored_new c k gap e few =
      let l = gap.within in
      let p : room (c, e) ≡ true = le-leb _ _ few in
      (λ i. store_of (row_in k l (c, e) p i) (instants_in k l (c, e) p i) (poses_in k l (c, e) p i))
      ∙ ap (stored L) (sym (put_gap blank t c k e gap))
