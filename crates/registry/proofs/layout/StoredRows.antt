-- A row of the words of a tree: in a sound store, and in the words of a tree that fits them.
use Prim.Native.Nat.{ℕ, suc, ◌+◌, ◌*◌, ◌≤◌, ◌<◌}
use mathlib.Core.Path.{sym, ap, ◌∙◌}
use native.Mathlib.Nat.{suc-mul, mul-le-mul_right}
use native.Mathlib.Omega.{arith}
use lib.ListN.{length, get_or}
use lib.Dec.{leb}
use borrow.Author.Tests.{leb-true}
use Rattle.buffer.specs.Map.{all, rising}
use Rattle.buffer.specs.Row.{FloatsFit, Row}
use Rattle.buffer.proofs.Alls.{all_at}
use Rattle.buffer.proofs.Maps.{Rising, rising_is}
use Rattle.buffer.proofs.RowBack.{words_row}
use Rattle.registry.specs.Tree.{Edge, Tree, Limits}
use Rattle.registry.specs.Store.{Store, encode, used_in, limits_of, count_in, row_instants, row_poses, stored}
use Rattle.registry.specs.layout.Rows.{RowPart, StoredRow}
use Rattle.registry.specs.Sound.{SoundStore}
use Rattle.registry.proofs.soundness.Rules.{sound_is}
use Rattle.registry.proofs.layout.StoreBack.{Fits, blank, limits_back, length_head, length_instants, length_poses, word_back, instants_back, poses_back, tree_back}
use Rattle.registry.proofs.layout.SoundIsStored.{sound_is_stored}
use Rattle.registry.proofs.soundness.SoundStore.{sound_part, sound_row_words, tree_fits}

-- ---- a store that is sound

pub sound_held : (s : Store) (ok : SoundStore s) → FloatsFit s.poses → (r : ℕ) → r < used_in s → StoredRow r s
unfolding limits_of
sound_held s ok fit r l = record {
  words = (sound_is_stored s fit ok.sizes ok.rules).0;
  rises = ((sound_is s).0 ok.rules).rises;
  few = ((sound_is s).0 ok.rules).few;
  samples = (tree_fits s ok).samples;
  used = l;
  row = record { part = sound_part s ok r l; held = sound_row_words s ok r l };
}

-- ---- the words of a tree that fits them

module _ (L : Limits) (t : Tree) (bounded : L.capacity ≤ 1024) (fits : Fits L t) (rises : Rising t) (r : ℕ) (l : r < length t) where
  part : RowPart r (stored L t)
  unfolding stored encode
  part =
      let f = fits.rows in
      let h = length_head L t fits in
      let i = length_instants L t fits in
      let p = length_poses L t fits in
      let m : r * L.capacity + L.capacity ≤ L.rows * L.capacity = rw (← suc-mul r L.capacity) (mul-le-mul_right L.capacity (let z : suc r ≤ L.rows = omega arith in z)) in
      record { head = omega arith; instants = omega arith; poses = omega arith }

  row : Rising (get_or t r blank).1.samples → Row (count_in (stored L t) r) (row_instants (stored L t) r) (row_poses (stored L t) r)
  row s =
      rw (word_back L t fits r 3 l (omega arith), instants_back L t fits r l, poses_back L t fits r l)
      (words_row L.capacity (get_or t r blank).1.samples bounded (leb-true _ _ ((all_at (λ x. leb (length x.1.samples) L.capacity) t blank).0 fits.samples r l)) s)

  pub stored_row : Rising (get_or t r blank).1.samples → StoredRow r (stored L t)
  unfolding stored encode
  stored_row s = record {
    words = sym (λ j. stored (limits_back L t j) (tree_back L t fits j));
    rises = ap rising (tree_back L t fits) ∙ (rising_is t).1 rises;
    few = fits.rows;
    samples = ap (all (λ (x : ℕ × Edge). leb (length x.1.samples) L.capacity)) (tree_back L t fits) ∙ fits.samples;
    used = l;
    row = record { part = part; held = row s };
  }
