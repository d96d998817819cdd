-- Row r with other samples: the words of the tree with those samples in its row.
use Prim.Native.Nat.{ℕ, ◌+◌, ◌-◌, ◌≤◌}
use mathlib.Core.Path.{◌≡◌, ap, ◌∙◌}
use mathlib.Core.List.{List}
use native.Mathlib.Omega.{arith}
use lib.Ieee.{Float}
use lib.ListN.{length}
use borrow.Rule.Slice.PartMut.{put_mid}
use Rattle.time.specs.Reply.{answer}
use Rattle.buffer.specs.Words.{replaced}
use Rattle.buffer.specs.Samples.{Samples}
use Rattle.buffer.specs.Row.{RowOutcome, instant_words, pose_words}
use Rattle.buffer.specs.Row as row
use Rattle.buffer.proofs.Maps.{rising_is}
use Rattle.buffer.proofs.Moves.{put_replaced}
use Rattle.buffer.proofs.RowBack.{length_instant_words, length_pose_words}
use Rattle.registry.specs.Tree.{Edge}
use Rattle.registry.specs.Store.{Store, instants_length, poses_length, row_floats, capacity_in, limits_of, with_count, tree_of, stored}
use Rattle.registry.specs.Calls.{store_of}
use Rattle.registry.specs.layout.Rows.{StoredRow, resampled}
use Rattle.registry.proofs.layout.StoreBack.{Fits}
use Rattle.registry.proofs.layout.TreeRows.{length_tree, tree_row}
use Rattle.registry.proofs.layout.StoredPut.{resample, stored_held}
use Rattle.registry.proofs.layout.RowParts.{Cut}

module _ (s : Store) (r : ℕ) (h : StoredRow r s) (m : Samples) (few : length m ≤ capacity_in s) where
  held_fits : Fits (limits_of s) (tree_of s)
  unfolding limits_of
  held_fits = record { rows = rw (length_tree s) h.few; samples = h.samples }

  words_holding : (let S = capacity_in s in
      store_of
      (with_count r (length m) s.head)
      (replaced (instants_length r S) (instant_words S m) s.instants)
      (replaced (poses_length r S) (pose_words S m) s.poses)
      ≡ stored (limits_of s) (resampled s r m))
  unfolding limits_of
  words_holding =
      let S = capacity_in s in
      let at = tree_row s r h.used in
      ap (λ (z : Store). store_of (with_count r (length m) z.head) (replaced (instants_length r S) (instant_words S m) z.instants) (replaced (poses_length r S) (pose_words S m) z.poses)) h.words
      ∙ stored_held (limits_of s) (tree_of s) held_fits ((rising_is (tree_of s)).0 h.rises) r (rw (length_tree s) h.used) m few
      ∙ ap (λ (x : ℕ × Edge). stored (limits_of s) (resample x m (tree_of s))) at

  -- the count written, and what is left in the parts that were lent
  pub row_holding : {width first float floats : ℕ} → Cut s r width first float floats
      → (held : ℕ) (head ts : List ℕ) (fs : List Float) → row.outcome (answer held) ts fs ≡ row.holding (capacity_in s) m → head ≡ with_count r held s.head
      → store_of head (put_mid first (first + width - first) s.instants ts) (put_mid float (float + floats - float) s.poses fs)
      ≡ stored (limits_of s) (resampled s r m)
  row_holding {width} {first} {float} {floats} cut held head ts fs e p =
      let S = capacity_in s in
      let counts : answer held ≡ answer (length m) = ap (λ (o : RowOutcome). o.count) e in
      let count : held ≡ length m = cc counts in
      let w : first + width - first ≡ S = omega (arith, cut.wide) in
      let z : float + floats - float ≡ floats = omega arith in
      let u : put_mid first (first + width - first) s.instants ts ≡ replaced (instants_length r S) (instant_words S m) s.instants =
      rw (w, cut.instants, cut.wide, ap (λ (o : RowOutcome). o.instants) e) (put_replaced (instants_length r S) S (instant_words S m) s.instants (length_instant_words S m few))
      in
      let v : put_mid float (float + floats - float) s.poses fs ≡ replaced (poses_length r S) (pose_words S m) s.poses =
      rw (z, cut.poses, cut.sevens, cut.wide, ap (λ (o : RowOutcome). o.poses) e) (put_replaced (poses_length r S) (row_floats S) (pose_words S m) s.poses (length_pose_words S m few))
      in
      (λ j. store_of ((p ∙ ap (λ (k : ℕ). with_count r k s.head) count) j) (u j) (v j)) ∙ words_holding
