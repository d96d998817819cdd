-- What a caller needs of a sound store: its rows, their parts and their samples.
use Prim.Native.Nat.{ℕ, ◌^◌, ◌<◌}
use mathlib.Core.Path.{◌≡◌, sym, ap, ◌∙◌}
use mathlib.Core.Bool.{Bool, true, ◌&&◌}
use lib.Dec.{ltb}
use borrow.Author.Tests.{ltb-true}
use Rattle.buffer.specs.Row.{Row}
use Rattle.buffer.proofs.Cases.{and_right}
use Rattle.buffer.proofs.Alls.{all_at}
use Rattle.buffer.proofs.SoundRows.{sound_row}
use Rattle.registry.specs.Tree.{Edge}
use Rattle.registry.specs.Store.{Store, rows_in, capacity_in, used_in, age_in, limits_of, child_in, parent_in, count_in, row_instants, row_poses, edge_at, row_at, tree_of, sizes_fit}
use Rattle.registry.specs.layout.Rows.{RowPart, RisingRows}
use Rattle.registry.specs.Sound.{SoundStore}
use Rattle.registry.proofs.layout.SizeLaws.{Sizes, sizes_fit_is, sized_is}
use Rattle.registry.proofs.soundness.Rules.{Rules, sound_is}
use Rattle.registry.proofs.layout.StoreBack.{Fits, blank}
use Rattle.registry.proofs.layout.RowLaws.{seven_floats}
use Rattle.registry.proofs.layout.RowParts.{instants_long}
use Rattle.registry.proofs.layout.SizeTests.{used_part}
use Rattle.registry.proofs.layout.StoreRows.{row_sound_lem}
use Rattle.registry.proofs.layout.SoundIsStored.{sound_tree}
use Rattle.registry.proofs.soundness.SoundEdges.{sound_fits}
use Rattle.registry.proofs.layout.TreeRows.{length_tree, tree_row}
use Rattle.registry.proofs.soundness.Checking.{sound_parts}
use Rattle.registry.proofs.soundness.HeadTests.{rising_rows}

-- ---- a store that is sound

module _ (s : Store) (ok : SoundStore s) where
  abbrev sizes : Sizes (rows_in s) (capacity_in s) s
  sizes = (sized_is s).0 ok.sizes

  abbrev pub rules : Rules s
  rules = (sound_is s).0 ok.rules

  pub sound_sizes : sizes_fit (rows_in s) (capacity_in s) s ≡ true
  sound_sizes = (sizes_fit_is (rows_in s) (capacity_in s) s).1 sizes

  pub sound_rows : RisingRows s.head
  sound_rows = rising_rows s.head (sound_parts s ok).head s.instants s.poses rules.rises

  pub sound_part : (r : ℕ) → r < used_in s → RowPart r s
  sound_part r l = used_part s r (sound_parts s ok) l

  pub sound_row_words : (r : ℕ) → r < used_in s → Row (count_in s r) (row_instants s r) (row_poses s r)
  sound_row_words r l =
      sound_row (age_in s) (edge_at s r).kind (count_in s r) (row_instants s r) (row_poses s r) (row_sound_lem s sizes rules r l)
      (rw (instants_long s r (sound_part r l)) sizes.range.bounded_capacity) (seven_floats s r (sound_part r l))

  pub tree_fits : Fits (limits_of s) (tree_of s)
  unfolding limits_of
  tree_fits = sound_fits (limits_of s) (tree_of s) sizes.range.positive_capacity (sound_tree s sizes rules)

  -- frames fit 32 bits
  pub sound_parent : (r : ℕ) → r < used_in s → parent_in s r < 2 ^ 32
  sound_parent r l =
      let test : ℕ × Edge → Bool = λ x. ltb x.0 (2 ^ 32) && ltb x.1.parent (2 ^ 32) in
      let at : test (row_at s r) ≡ true = ap test (sym (tree_row s r l)) ∙ (all_at test (tree_of s) blank).0 rules.frames r (rw (length_tree s) l) in
      ltb-true (parent_in s r) (2 ^ 32) (and_right (ltb (child_in s r) (2 ^ 32)) _ at)
