-- For the crates above: what the tests of 1 and 2 tell of a store, and a sound store with the tree that it holds, its paths and what an addition makes of it.
use Prim.Native.Nat.{ℕ, ◌^◌, ◌<◌}
use mathlib.Core.Path.{◌≡◌, refl, ap, ◌∙◌}
use mathlib.Core.Bool.{true, ◌&&◌}
use Rattle.std.specs.Prelude.{Some}
use mathlib.Core.List.{[], ◌∷◌}
use native.Mathlib.Omega.{arith}
use lib.Dec.{ltb}
use lib.ListN.{length}
use borrow.Author.Tests.{eqb-true, ltb-true}
use Rattle.buffer.specs.Map.{get, rising}
use Rattle.buffer.specs.Row.{FloatsFit}
use Rattle.buffer.proofs.Cases.{and_right}
use Rattle.buffer.proofs.Maps.{rising_is}
use Rattle.buffer.proofs.Alls.{all_get}
use Rattle.registry.specs.Tree.{Edge, Tree, Limits, Addition, holds_no_frame, add}
use Rattle.registry.specs.Store.{Store, limits_of, tree_of, stored}
use Rattle.registry.specs.Sound.{no_circle, SoundStore}
use Rattle.registry.specs.Calls.{written, on_tree, add_of}
use Rattle.registry.specs.Laws.{InRange, SoundTree}
use Rattle.registry.proofs.layout.SizeLaws.{sized_is}
use Rattle.registry.proofs.layout.SoundIsStored.{sound_is_stored}
use Rattle.registry.proofs.layout.StoredInjective.{stored_reads_back}
use Rattle.registry.proofs.layout.StoredIsSound.{stored_is_sound}
use Rattle.registry.proofs.soundness.Rules.{sound_is}
use Rattle.registry.proofs.paths.SoundWalks.{sound_child}
-- what the tests of 1 and 2 find before a call on the tree, and that the calls which write leave a store sound
pub use Rattle.registry.proofs.soundness.Called.{TestsFind, called, words_sound, cleared_sound, added_sound, wiped_sound}
-- what an addition that is answered has passed, and that it keeps a tree sound
pub use Rattle.registry.proofs.addition.Accepted.{Accepted, add_accepted}
pub use Rattle.registry.proofs.soundness.AddKeepsSound.{add_keeps_sound}
-- the hops up to a frame, one at a time
pub use Rattle.registry.proofs.soundness.NoCircle.{circle_grounded}
pub use Rattle.registry.proofs.paths.SideHops.{hops_end, hops_up, hops_root}

-- ---- a sound store with these limits and this tree

pub record Holds (L : Limits) (s : Store) (t : Tree) : Type 0 where
  pub checked : SoundStore s
  pub limits : limits_of s ≡ L
  pub tree : tree_of s ≡ t

-- an addition to it is the addition to the tree
pub holds_added : (L : Limits) (s : Store) (t : Tree) → Holds L s t → (a : Addition) → add_of s a ≡ written s L (add L t a)
unfolding add_of on_tree
holds_added L s t h a = rw (h.checked.sizes, h.checked.rules) (λ i. written s (h.limits i) (add (h.limits i) (h.tree i) a))

-- the words of a sound tree
pub stored_holds : (L : Limits) (t : Tree) → InRange L.rows L.capacity → SoundTree L t → Holds L (stored L t) t
stored_holds L t range ok =
    let good = stored_is_sound L t range ok in
    let back = stored_reads_back L t range.positive_capacity ok in
    record { checked = record { sizes = good.0; rules = good.1 }; limits = back.0; tree = back.1 }

-- ---- the tree of a sound store

module _ (s : Store) (ok : SoundStore s) where
  -- children rise
  pub tree_rises : rising (tree_of s) ≡ true
  tree_rises = ((sound_is s).0 ok.rules).rises

  -- no frame is above itself
  pub tree_circles : no_circle (tree_of s) ≡ true
  tree_circles = ((sound_is s).0 ok.rules).circles

  -- a child has 32 bits
  pub child_fits : (f : ℕ) (e : Edge) → get (tree_of s) f ≡ Some e → f < 2 ^ 32
  child_fits f e q = sound_child s ok f e q

  -- a parent has 32 bits
  pub parent_fits_lem : (f : ℕ) (e : Edge) → get (tree_of s) f ≡ Some e → e.parent < 2 ^ 32
  parent_fits_lem f e q =
      let k = (sound_is s).0 ok.rules in
      ltb-true e.parent (2 ^ 32)
      (and_right (ltb f (2 ^ 32)) (ltb e.parent (2 ^ 32))
      ((all_get (λ x. ltb x.0 (2 ^ 32) && ltb x.1.parent (2 ^ 32)) (tree_of s) ((rising_is (tree_of s)).0 k.rises)).0 k.frames f e q))

-- ---- a sound store that holds no frame

module _ (s : Store) (ok : SoundStore s) where
  pub sizes_in_range : InRange (limits_of s).rows (limits_of s).capacity
  unfolding limits_of
  sizes_in_range = ((sized_is s).0 ok.sizes).range

  module _ (empty : holds_no_frame (tree_of s) ≡ true) where
    pub none_held : Holds (limits_of s) s []
    none_held = record { checked = ok; limits = refl; tree = no_row (tree_of s) empty }
      where
        no_row : (t : Tree) → holds_no_frame t ≡ true → t ≡ []
        no_row [] e = refl
        no_row (x ∷ t) e = let z : length (x ∷ t) ≡ 0 = eqb-true (length (x ∷ t)) 0 e in absurd (omega arith)

    pub none_stored : FloatsFit s.poses → s ≡ stored (limits_of s) []
    none_stored fit = (sound_is_stored s fit ok.sizes ok.rules).0 ∙ ap (stored (limits_of s)) none_held.tree
