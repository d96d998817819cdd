-- A new child's row, which holds no sample, put into a sound store: there is room for it, and what is left are the words of the tree with that edge.
use Prim.Native.Nat.{ℕ, suc, ◌+◌, ◌≤◌, ◌<◌}
use mathlib.Core.Path.{◌≡◌, sym, ap, subst, ◌∙◌}
use mathlib.Core.List.{[], ◌∷◌, ◌++◌}
use native.Mathlib.Nat.{suc-mul, mul-le-mul_right}
use native.Mathlib.Omega.{arith}
use lib.Dec.{leb}
use lib.ListN.{length, get_or, take, drop}
use lib.Seq.{get_or-append_seam, length-take-le}
use borrow.Author.Tests.{le-leb}
use Rattle.buffer.specs.declared.kind.Kind.{Kind}
use Rattle.buffer.specs.Map.{all, put}
use Rattle.buffer.specs.Words.{inserted}
use Rattle.buffer.specs.Row.{FloatsFit, instant_words, pose_words}
use Rattle.buffer.proofs.Maps.{Rising, rising_is, rising_put, length_put_new}
use Rattle.registry.specs.Tree.{Edge, Tree}
use Rattle.registry.specs.Store.{Store, head_length, instants_length, poses_length, row_words, rows_in, capacity_in, used_in, limits_of, row_at, with_used, tree_of, stored}
use Rattle.registry.specs.Sound.{SoundStore}
use Rattle.registry.specs.Calls.{store_of}
use Rattle.registry.specs.layout.Rows.{AbsentAt, empty_row, row_inserted, with_row, RowRoom, StoredRow}
use Rattle.registry.proofs.layout.SizeLaws.{sized_is}
use Rattle.registry.proofs.soundness.Rules.{sound_is}
use Rattle.registry.proofs.layout.SoundIsStored.{sound_is_stored}
use Rattle.registry.proofs.layout.StoreBack.{Fits, blank, limits_back, tree_back}
use Rattle.registry.proofs.layout.FitBlocks.{all_insert}
use Rattle.registry.proofs.layout.MapRows.{Gap, put_gap}
use Rattle.registry.proofs.layout.TreeRows.{length_tree, tree_row, gap_absent, get_absent}
use Rattle.registry.proofs.layout.StoredPut.{stored_new}
use Rattle.registry.proofs.layout.StoredRows.{stored_row}
use Rattle.registry.proofs.soundness.SoundStore.{tree_fits}

module _ (s : Store) (ok : SoundStore s) (fit : FloatsFit s.poses) (k child parent : ℕ) (kind : Kind) (absent : AbsentAt s.head child k) (room : used_in s < rows_in s) where
  abbrev pub blank_edge : Edge
  blank_edge = (empty_row child parent kind).1

  abbrev pub with_empty : Tree
  with_empty = put child blank_edge (tree_of s)

  gap : Gap blank (tree_of s) child k
  gap = gap_absent s child k absent

  pub row_room : RowRoom k s
  row_room =
      let z = (sized_is s).0 ok.sizes in
      let h = z.head in
      let i = z.instants in
      let p = z.poses in
      let m : instants_length (used_in s) (capacity_in s) + capacity_in s ≤ instants_length (rows_in s) (capacity_in s) = rw (← suc-mul (used_in s) (capacity_in s)) (mul-le-mul_right (capacity_in s) room) in
      record { place = absent.used; part = record { head = omega arith; instants = omega arith; poses = omega arith } }

  pub row_stored : with_row k (empty_row child parent kind) s ≡ stored (limits_of s) with_empty
  unfolding with_row row_inserted limits_of
  row_stored =
      let S = capacity_in s in
      let x = empty_row child parent kind in
      let put_in : Store → ℕ → ℕ → Store = λ z n m.
      store_of
      (with_used m (inserted (head_length k) (head_length n) (row_words x) z.head))
      (inserted (instants_length k S) (instants_length n S) (instant_words S []) z.instants)
      (inserted (poses_length k S) (poses_length n S) (pose_words S []) z.poses)
      in
      let n : used_in s ≡ length (tree_of s) = sym (length_tree s) in
      let m : used_in s + 1 ≡ suc (length (tree_of s)) = omega arith in
      (λ j. put_in ((sound_is_stored s fit ok.sizes ok.rules).0 j) (n j) (m j))
      ∙ stored_new (limits_of s) (tree_of s) (tree_fits s ok) child k gap blank_edge (omega arith)

  tree_is : with_empty ≡ take k (tree_of s) ++ (child, blank_edge) ∷ drop k (tree_of s)
  tree_is = put_gap blank (tree_of s) child k blank_edge gap

  row_is : get_or with_empty k blank ≡ (child, blank_edge)
  row_is =
      let l : length (take k (tree_of s)) ≡ k = length-take-le k (tree_of s) gap.within in
      ap (λ (u : Tree). get_or u k blank) tree_is
      ∙ ap (λ (n : ℕ). get_or (take k (tree_of s) ++ (child, blank_edge) ∷ drop k (tree_of s)) n blank) (sym l)
      ∙ get_or-append_seam (take k (tree_of s)) (child, blank_edge) (drop k (tree_of s)) blank

  length_is : length with_empty ≡ suc (used_in s)
  length_is = length_put_new child blank_edge (tree_of s) (get_absent s child k absent) ∙ ap suc (length_tree s)

  tree_fits_in : Fits (limits_of s) with_empty
  unfolding limits_of
  tree_fits_in = record {
    rows = rw length_is room;
    samples = ap (all (λ (x : ℕ × Edge). leb (length x.1.samples) (capacity_in s))) tree_is
        ∙ all_insert (λ (x : ℕ × Edge). leb (length x.1.samples) (capacity_in s)) k (child, blank_edge) (tree_of s) (le-leb 0 (capacity_in s) (omega arith)) (tree_fits s ok).samples;
  }

  tree_rises_in : Rising with_empty
  tree_rises_in = rising_put child blank_edge (tree_of s) ((rising_is (tree_of s)).0 ((sound_is s).0 ok.rules).rises)

  within : k < length with_empty
  within = rw length_is (let u = absent.used in omega arith)

  pub new_asked : StoredRow k (with_row k (empty_row child parent kind) s)
  unfolding limits_of
  new_asked = rw row_stored (stored_row (limits_of s) with_empty ((sized_is s).0 ok.sizes).range.bounded_capacity tree_fits_in tree_rises_in k within (rw row_is tt))

  -- the limits, the tree and the row are read back
  pub empty_limits : limits_of (stored (limits_of s) with_empty) ≡ limits_of s
  empty_limits = limits_back (limits_of s) with_empty

  pub empty_tree : tree_of (stored (limits_of s) with_empty) ≡ with_empty
  empty_tree = tree_back (limits_of s) with_empty tree_fits_in

  pub empty_row_lem : row_at (stored (limits_of s) with_empty) k ≡ (child, blank_edge)
  empty_row_lem =
      let u = stored (limits_of s) with_empty in
      sym (tree_row u k (subst (λ (n : ℕ). k < n) (ap length (sym empty_tree) ∙ length_tree u) within)) ∙ ap (λ (t : Tree). get_or t k blank) empty_tree ∙ row_is
