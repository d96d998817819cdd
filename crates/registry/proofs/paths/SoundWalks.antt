-- What the walks rest on in a store that is sized and sound: children of 32 bits, and climbs that end.
use Prim.Native.Nat.{ℕ, ◌^◌, ◌<◌}
use mathlib.Core.Path.{◌≡◌}
use mathlib.Core.Bool.{true, ◌&&◌}
use Rattle.std.specs.Prelude.{Some}
use lib.Dec.{ltb}
use borrow.Author.Tests.{ltb-true}
use Rattle.buffer.specs.Map.{get}
use Rattle.buffer.proofs.Cases.{and_left}
use Rattle.buffer.proofs.Maps.{rising_is}
use Rattle.buffer.proofs.Alls.{all_get}
use Rattle.registry.specs.Tree.{Edge}
use Rattle.registry.specs.Store.{Store, edge_at, tree_of}
use Rattle.registry.specs.Sound.{SoundStore, no_circle}
use Rattle.registry.specs.paths.Edges.{OfTree}
use Rattle.registry.specs.layout.Rows.{IsRow}
use Rattle.registry.proofs.layout.TreeRows.{get_found}
use Rattle.registry.proofs.paths.Climbing.{Grounded}
use Rattle.registry.proofs.paths.ClimbEnds.{EndAt}
use Rattle.registry.proofs.paths.SideHops.{grounded}
use Rattle.registry.proofs.soundness.SoundStore.{rules, sound_rows}

module _ (s : Store) (ok : SoundStore s) where
  pub sound_child : (f : ℕ) (e : Edge) → get (tree_of s) f ≡ Some e → f < 2 ^ 32
  sound_child f e q =
      let k = rules s ok in
      ltb-true f (2 ^ 32)
      (and_left (ltb f (2 ^ 32)) (ltb e.parent (2 ^ 32))
      ((all_get (λ x. ltb x.0 (2 ^ 32) && ltb x.1.parent (2 ^ 32)) (tree_of s) ((rising_is (tree_of s)).0 k.rises)).0 k.frames f e q))

  pub sound_grounded : Grounded (tree_of s)
  sound_grounded = grounded s (sound_rows s ok) (rules s ok).circles

  -- a row's edge is its child's, and is a sound child's
  pub sound_edge : (f r : ℕ) → IsRow s.head f r → get (tree_of s) f ≡ Some (edge_at s r)
  sound_edge f r row = get_found s (sound_rows s ok).rises f r row

  pub sound_frame : (f r : ℕ) → IsRow s.head f r → f < 2 ^ 32
  sound_frame f r row = sound_child f (edge_at s r) (sound_edge f r row)

  -- where climbs over its head end, they end so in the tree
  pub sound_ends : (f g x y : ℕ) → OfTree s.head (λ t. no_circle t ≡ true → EndAt t f g x y) → EndAt (tree_of s) f g x y
  sound_ends f g x y h = h s.instants s.poses (rules s ok).circles
