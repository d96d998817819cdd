-- Two stores are equal in every bit exactly when their trees are equal with each pose taken by its bits.
use Prim.Native.Nat.{ℕ, zero, suc, ◌-◌, ◌*◌}
use mathlib.Core.Path.{◌≡◌, refl, sym, ap, ◌∙◌}
use mathlib.Core.Logic.{◌↔◌}
use Rattle.std.specs.Prelude.{option_map}
use mathlib.Core.List.{List, [], ◌∷◌, ◌++◌, map, map-append, map-map}
use lib.Dec.{eqb}
use lib.ListN.{length, get_or, take, drop, replicate, length-map, get_or-map}
use lib.Ieee.{Float, binary64, to_bits}
use Rattle.time.specs.Float.{zero64}
use Rattle.geometry.specs.declared.isometry.Isometry.{Isometry}
use Rattle.buffer.specs.declared.kind.Kind.{Kind}
use Rattle.buffer.specs.Map.{Map, get}
use Rattle.buffer.specs.Row.{floats, pose_of, padded, concat_map, instant_words, pose_words, samples_of}
use Rattle.buffer.proofs.Cases.{both}
use Rattle.buffer.proofs.Maps.{Floor, Rising}
use Rattle.registry.specs.Tree.{Edge, Tree, Limits}
use Rattle.registry.specs.Store.{Store, instants_length, poses_length, kind_word, flag_word, age_word, row_words, encode, child_in, parent_in, kind_in, count_in, kind_of_word, row_instants, row_poses, row_at, tabulate, tree_of, stored}
use Rattle.registry.specs.Calls.{store_of}
use Rattle.registry.specs.History.{pose_bits}
use Rattle.registry.specs.Demand3.{EveryBit}
use Rattle.registry.proofs.layout.StoreBack.{Fits, tree_back}

-- ---- a map with its values changed

module _ {A B : Type 0} (f : A → B) where
  abbrev pub with_value : ℕ × A → ℕ × B
  with_value x = (x.0, f x.1)

  abbrev pub map_values : Map A → Map B
  map_values m = map with_value m

  pub get_map_values : (m : Map A) (k : ℕ) → get (map_values m) k ≡ option_map f (get m k)
  get_map_values [] k = refl
  get_map_values (x ∷ m) k = both (eqb k x.0) (λ e. rw e) (λ e. rw e (get_map_values m k))

  floor_map_values : (k : ℕ) (m : Map A) → Floor k m → Floor k (map_values m)
  floor_map_values k [] h = tt
  floor_map_values k (x ∷ m) h = (h.0, floor_map_values k m h.1)

  pub rising_map_values : (m : Map A) → Rising m → Rising (map_values m)
  rising_map_values [] r = tt
  rising_map_values (x ∷ m) r = (floor_map_values x.0 m r.0, rising_map_values m r.1)

-- ---- a tree with its poses by their bits

pub record EdgeBits : Type 0 where
  pub parent : ℕ
  pub kind : Kind
  pub samples : Map (List ℕ)

abbrev pub edge_bits : Edge → EdgeBits
edge_bits e = record { parent = e.parent; kind = e.kind; samples = map_values pose_bits e.samples }

abbrev pub tree_bits : Tree → Map EdgeBits
tree_bits t = map_values edge_bits t

-- ---- reading: equal bits give trees of equal bits

module _ {A B : Type 0} (f : A → B) where
  map_take : (n : ℕ) (l : List A) → map f (take n l) ≡ take n (map f l)
  map_take zero l = refl
  map_take (suc n) [] = refl
  map_take (suc n) (x ∷ l) = ap {B = List B} (λ r. f x ∷ r) (map_take n l)

  map_drop : (n : ℕ) (l : List A) → map f (drop n l) ≡ drop n (map f l)
  map_drop zero l = refl
  map_drop (suc n) [] = refl
  map_drop (suc n) (x ∷ l) = map_drop n l

  map_tabulate : (n : ℕ) (g h : ℕ → A) → ((r : ℕ) → f (g r) ≡ f (h r)) → map f (tabulate n g) ≡ map f (tabulate n h)
  map_tabulate zero g h e = refl
  map_tabulate (suc n) g h e = λ i. e 0 i ∷ map_tabulate n (λ r. g (suc r)) (λ r. h (suc r)) (λ r. e (suc r)) i

abbrev bits : List Float → List ℕ
bits l = map (to_bits binary64) l

take_bits : (n : ℕ) (p q : List Float) → bits p ≡ bits q → bits (take n p) ≡ bits (take n q)
take_bits n p q e = map_take (to_bits binary64) n p ∙ ap (take n) e ∙ sym (map_take (to_bits binary64) n q)

drop_bits : (n : ℕ) (p q : List Float) → bits p ≡ bits q → bits (drop n p) ≡ bits (drop n q)
drop_bits n p q e = map_drop (to_bits binary64) n p ∙ ap (drop n) e ∙ sym (map_drop (to_bits binary64) n q)

word_bits : (p q : List Float) → bits p ≡ bits q → (k : ℕ) → to_bits binary64 (get_or p k zero64) ≡ to_bits binary64 (get_or q k zero64)
word_bits p q e k =
    sym (get_or-map (to_bits binary64) p k zero64)
    ∙ ap (λ (l : List ℕ). get_or l k (to_bits binary64 zero64)) e
    ∙ get_or-map (to_bits binary64) q k zero64

pose_bits_lem : (p q : List Float) → bits p ≡ bits q → pose_bits (pose_of p) ≡ pose_bits (pose_of q)
pose_bits_lem p q e =
    let w = word_bits p q e in
    λ i. w 0 i ∷ w 1 i ∷ w 2 i ∷ w 3 i ∷ w 4 i ∷ w 5 i ∷ w 6 i ∷ []

samples_bits : (n : ℕ) (is : List ℕ) (p q : List Float) → bits p ≡ bits q → map_values pose_bits (samples_of n is p) ≡ map_values pose_bits (samples_of n is q)
samples_bits zero is p q e = refl
samples_bits (suc n) is p q e = λ i. (get_or is 0 0, pose_bits_lem p q e i) ∷ samples_bits n (drop 1 is) (drop 7 p) (drop 7 q) (drop_bits 7 p q e) i

row_poses_bits : (h is : List ℕ) (p q : List Float) → bits p ≡ bits q → (r : ℕ) → bits (row_poses (store_of h is p) r) ≡ bits (row_poses (store_of h is q) r)
row_poses_bits h is p q e r =
    let at = 7 * (r * get_or h 1 0) in
    take_bits (7 * get_or h 1 0) (drop at p) (drop at q) (drop_bits at p q e)

row_bits : (h is : List ℕ) (p q : List Float) → bits p ≡ bits q → (r : ℕ)
    → with_value edge_bits (row_at (store_of h is p) r) ≡ with_value edge_bits (row_at (store_of h is q) r)
row_bits h is p q e r =
    let s = store_of h is p in
    let samples = samples_bits (count_in s r) (row_instants s r) (row_poses s r) (row_poses (store_of h is q) r) (row_poses_bits h is p q e r) in
    λ i. (child_in s r, record { parent = parent_in s r; kind = kind_of_word (kind_in s r); samples = samples i })

words_bits : (h is : List ℕ) (p q : List Float) → bits p ≡ bits q → tree_bits (tree_of (store_of h is p)) ≡ tree_bits (tree_of (store_of h is q))
unfolding tree_of
words_bits h is p q e = map_tabulate (with_value edge_bits) (get_or h 2 0) (row_at (store_of h is p)) (row_at (store_of h is q)) (row_bits h is p q e)

pub bits_read : (s t : Store) → EveryBit s t → tree_bits (tree_of s) ≡ tree_bits (tree_of t)
bits_read s t e =
    words_bits s.head s.instants s.poses t.poses e.poses
    ∙ (λ i. tree_bits (tree_of (store_of (e.head i) (e.instants i) t.poses)))

-- ---- writing: trees of equal bits give equal bits

module _ {A B C : Type 0} (g : A → C) (f : A → List B) (by : (x y : A) → g x ≡ g y → f x ≡ f y) where
  concat_map_by : (xs ys : List A) → map g xs ≡ map g ys → concat_map f xs ≡ concat_map f ys
  concat_map_by [] [] e = refl
  concat_map_by [] (y ∷ ys) e = cc e
  concat_map_by (x ∷ xs) [] e = cc e
  concat_map_by (x ∷ xs) (y ∷ ys) e =
      let first : g x ≡ g y = cc e in
      let rest : map g xs ≡ map g ys = cc e in
      λ i. by x y first i ++ concat_map_by xs ys rest i

length_by : {A C : Type 0} (g : A → C) (xs ys : List A) → map g xs ≡ map g ys → length xs ≡ length ys
length_by g xs ys e = sym (length-map xs g) ∙ ap length e ∙ length-map ys g

module _ {A B : Type 0} (h : A → B) where
  map_concat_map : {C : Type 0} (f : C → List A) (xs : List C) → map h (concat_map f xs) ≡ concat_map (λ x. map h (f x)) xs
  map_concat_map f [] = refl
  map_concat_map f (x ∷ xs) = map-append h (f x) (concat_map f xs) ∙ ap {B = List B} (λ r. map h (f x) ++ r) (map_concat_map f xs)

  padded_by : (n : ℕ) (z : A) (xs ys : List A) → map h xs ≡ map h ys → map h (padded n z xs) ≡ map h (padded n z ys)
  padded_by n z xs ys e =
      let l = length_by h xs ys e in
      map-append h xs (replicate (n - length xs) z)
      ∙ (λ i. e i ++ map h (replicate (n - l i) z))
      ∙ sym (map-append h ys (replicate (n - length ys) z))

  blocks_by : {C D : Type 0} (g : C → D) (f : C → List A) → ((x y : C) → g x ≡ g y → map h (f x) ≡ map h (f y))
      → (n : ℕ) (z : A) (xs ys : List C) → map g xs ≡ map g ys → map h (padded n z (concat_map f xs)) ≡ map h (padded n z (concat_map f ys))
  blocks_by g f by n z xs ys e =
      padded_by n z (concat_map f xs) (concat_map f ys)
      (map_concat_map f xs ∙ concat_map_by g (λ x. map h (f x)) by xs ys e ∙ sym (map_concat_map f ys))

-- a row's words, from its edge by bits
module _ (x y : ℕ × Edge) (e : with_value edge_bits x ≡ with_value edge_bits y) where
  same_samples : map_values pose_bits x.1.samples ≡ map_values pose_bits y.1.samples
  same_samples = ap (λ (z : ℕ × EdgeBits). z.1.samples) e

  same_row_words : row_words x ≡ row_words y
  same_row_words =
      let n = length_by (with_value pose_bits) x.1.samples y.1.samples same_samples in
      λ i. (e i).0 ∷ (e i).1.parent ∷ kind_word (e i).1.kind ∷ n i ∷ []

  same_instants : (n : ℕ) → instant_words n x.1.samples ≡ instant_words n y.1.samples
  same_instants n =
      ap (padded n 0)
      (sym (map-map (λ (z : ℕ × List ℕ). z.0) (with_value pose_bits) x.1.samples)
      ∙ ap (λ (m : Map (List ℕ)). map (λ z. z.0) m) same_samples
      ∙ map-map (λ (z : ℕ × List ℕ). z.0) (with_value pose_bits) y.1.samples)

  same_poses : (n : ℕ) → bits (pose_words n x.1.samples) ≡ bits (pose_words n y.1.samples)
  same_poses n =
      blocks_by (to_bits binary64) (with_value pose_bits) (λ (z : ℕ × Isometry). floats z.1) (λ v w q. ap (λ (z : ℕ × List ℕ). z.1) q)
      (7 * n) zero64 x.1.samples y.1.samples same_samples

pub bits_written : (L : Limits) (t u : Tree) → tree_bits t ≡ tree_bits u → EveryBit (stored L t) (stored L u)
unfolding stored encode
bits_written L t u e = record { head = head; instants = instants; poses = poses }
  where
    head : (stored L t).head ≡ (stored L u).head
    head =
        let n = length_by (with_value edge_bits) t u e in
        let words = concat_map_by (with_value edge_bits) row_words same_row_words t u e in
        λ i. L.rows ∷ L.capacity ∷ n i ∷ flag_word L.age ∷ age_word L.age ∷ padded (4 * L.rows) 0 (words i)

    instants : (stored L t).instants ≡ (stored L u).instants
    instants =
        ap (padded (instants_length L.rows L.capacity) 0)
        (concat_map_by (with_value edge_bits) (λ x. instant_words L.capacity x.1.samples) (λ x y q. same_instants x y q L.capacity) t u e)

    poses : bits (stored L t).poses ≡ bits (stored L u).poses
    poses =
        blocks_by (to_bits binary64) (with_value edge_bits) (λ x. pose_words L.capacity x.1.samples) (λ x y q. same_poses x y q L.capacity)
        (poses_length L.rows L.capacity) zero64 t u e

-- ---- both

pub same_bits : (L : Limits) (t u : Tree) → Fits L t → Fits L u → EveryBit (stored L t) (stored L u) ↔ (tree_bits t ≡ tree_bits u)
same_bits L t u ft fu = (
  λ e. ap tree_bits (sym (tree_back L t ft)) ∙ bits_read (stored L t) (stored L u) e ∙ ap tree_bits (tree_back L u fu),
  bits_written L t u,
)
