-- The tree that a store holds, row by row: what a search of the head's rows says of `get`.
use Prim.Native.Nat.{ℕ, zero, suc, ◌<◌}
use mathlib.Core.Path.{◌≡◌, refl, sym, ap, ◌∙◌}
use mathlib.Core.Logic.{◌↔◌}
use Rattle.std.specs.Prelude.{Option, None, Some}
use native.Mathlib.Omega.{arith}
use lib.ListN.{length, get_or}
use Rattle.buffer.specs.Map.{get}
use Rattle.buffer.proofs.Maps.{Rising}
use Rattle.registry.specs.Tree.{Edge}
use Rattle.registry.specs.Store.{Store, used_in, edge_at, row_at, tabulate, tree_of}
use Rattle.registry.specs.layout.Rows.{child_at, IsRow, AbsentAt}
use Rattle.registry.proofs.soundness.Everys.{length_tabulate}
use Rattle.registry.proofs.layout.MapRows.{KeysRise, rising_by_keys, get_at, get_place, Gap, get_gap}
use Rattle.registry.proofs.layout.StoreBack.{blank}

get_d_tabulate : {A : Type 0} (n r : ℕ) (g : ℕ → A) (d : A) → r < n → get_or (tabulate n g) r d ≡ g r
get_d_tabulate zero r g d l = absurd (omega arith)
get_d_tabulate (suc n) zero g d l = refl
get_d_tabulate (suc n) (suc r) g d l = get_d_tabulate n r (λ k. g (suc k)) d (omega arith)

module _ (s : Store) where
  pub length_tree : length (tree_of s) ≡ used_in s
  unfolding tree_of
  length_tree = length_tabulate (used_in s) (row_at s)

  pub tree_row : (r : ℕ) → r < used_in s → get_or (tree_of s) r blank ≡ row_at s r
  unfolding tree_of
  tree_row r l = get_d_tabulate (used_in s) r (row_at s) blank l

  pub tree_key : (r : ℕ) → r < used_in s → (get_or (tree_of s) r blank).0 ≡ child_at s.head r
  tree_key r l = ap (λ (x : ℕ × Edge). x.0) (tree_row r l)

  abbrev pub ChildrenRise : Type 0
  ChildrenRise = (j k : ℕ) → j < k → k < used_in s → child_at s.head j < child_at s.head k

  children_keys : ChildrenRise → KeysRise blank (tree_of s)
  children_keys h j k l u =
      let w : k < used_in s = rw length_tree at u in
      rw (tree_key j (omega arith), tree_key k w) (h j k l (omega arith))

  keys_children : KeysRise blank (tree_of s) → ChildrenRise
  keys_children h j k l u =
      rw (tree_key j (omega arith), tree_key k (omega arith)) at (h j k l (rw length_tree (omega arith)))

  pub tree_rises : ChildrenRise ↔ Rising (tree_of s)
  tree_rises = (λ h. (rising_by_keys blank (tree_of s)).1 (children_keys h), λ r. keys_children ((rising_by_keys blank (tree_of s)).0 r))

  -- what a search says
  pub get_found : ChildrenRise → (f r : ℕ) → IsRow s.head f r → get (tree_of s) f ≡ Some (edge_at s r)
  get_found h f r found =
      let l : r < used_in s = found.used in
      get_at blank (tree_of s) (tree_rises.0 h) f r (rw length_tree l) (tree_key r l ∙ found.child)
      ∙ ap {B = Option Edge} (λ (x : ℕ × Edge). Some x.1) (tree_row r l)

  -- a child has a row
  pub row_of : (f : ℕ) (e : Edge) → get (tree_of s) f ≡ Some e → (r : ℕ) × IsRow s.head f r
  row_of f e q =
      let z = get_place blank (tree_of s) f e q in
      let l : z.0 < used_in s = rw length_tree at z.1 in
      (z.0, record { used = l; child = sym (tree_key z.0 l) ∙ z.2 })

  pub gap_absent : (f k : ℕ) → AbsentAt s.head f k → Gap blank (tree_of s) f k
  gap_absent f k absent = record {
    within = rw length_tree absent.used;
    below = λ j l. rw (tree_key j (omega (arith, absent.used))) (absent.below j l);
    above = λ j p l. let w : j < used_in s = rw length_tree at l in rw (tree_key j w) (absent.above j p w);
  }

  pub get_absent : (f k : ℕ) → AbsentAt s.head f k → get (tree_of s) f ≡ None
  get_absent f k absent = get_gap blank (tree_of s) f k (gap_absent f k absent)
