-- There is one tree for a map from frames to timed poses, so that the map fixes what every call answers.
use Prim.Native.Nat.{ℕ}
use mathlib.Core.Path.{◌≡◌, refl, sym, ap}
use mathlib.Core.Bool.{true, ◌&&◌}
use Rattle.std.specs.Prelude.{Option, None, Some, option_map}
use mathlib.Core.List.{[], ◌∷◌}
use native.Mathlib.Omega.{arith}
use lib.Dec.{eqb, leb}
use lib.ListN.{length}
use borrow.Author.Tests.{eqb-true}
use Rattle.geometry.specs.declared.isometry.Isometry.{Isometry}
use Rattle.buffer.specs.declared.kind.Kind.{Kind}
use Rattle.buffer.specs.declared.kind.Kind.TheVariants.{Static, Dynamic}
use Rattle.buffer.specs.Map.{get, rising}
use Rattle.buffer.specs.Samples.{Samples}
use Rattle.buffer.specs.Row.{instants_sound}
use Rattle.buffer.proofs.Cases.{none_some, false_true, and_left, and_right}
use Rattle.buffer.proofs.Maps.{Rising, rising_is, ext}
use Rattle.buffer.proofs.Alls.{all_get, all_weaken}
use Rattle.registry.specs.Tree.{Edge, Tree, add, wipe}
use Rattle.registry.specs.Path.{lookup, common_time}
use Rattle.registry.specs.PathLaws.{Rises}
use Rattle.registry.specs.AsMap.{SameMap, pose_at, view_of, SoundRises, ViewFixesTree, ViewFixesCalls}

-- ---- a sound tree's rows

-- a static one holds one pose, at instant 0
pub single_row : (age : Option ℕ) (capacity : ℕ) (m : Samples) → instants_sound age capacity Static m ≡ true → (p : Isometry) × (m ≡ (0, p) ∷ [])
single_row age capacity [] h = absurd (false_true h)
single_row age capacity (x ∷ []) h = (x.1, λ i. (eqb-true x.0 0 (and_left (eqb x.0 0) true h) i, x.1) ∷ [])
single_row age capacity (x ∷ y ∷ m) h = let l = eqb-true (length (x ∷ y ∷ m)) 1 (and_left _ _ h) in absurd (omega arith)

pub row_rises : (age : Option ℕ) (capacity : ℕ) (k : Kind) (m : Samples) → instants_sound age capacity k m ≡ true → rising m ≡ true
row_rises age capacity Static m h = rw (single_row age capacity m h).1
row_rises age capacity Dynamic m h = and_right (leb (length m) capacity) (rising m) (and_left (leb (length m) capacity && rising m) _ h)

pub sound_rises : SoundRises
sound_rises L t s = record {
  children = s.rises;
  instants = all_weaken (λ x. instants_sound L.age L.capacity x.1.kind x.1.samples) (λ x. rising x.1.samples) t
      (λ x e. row_rises L.age L.capacity x.1.kind x.1.samples e) s.instants;
}

-- ---- one tree for a map

module _ (t u : Tree) (rt : Rises t) (ru : Rises u) (m : SameMap (view_of t) (view_of u)) where
  row_of : (v : Tree) → Rises v → (f : ℕ) (e : Edge) → get v f ≡ Some e → Rising e.samples
  row_of v r f e q = (rising_is e.samples).0 ((all_get (λ x. rising x.1.samples) v ((rising_is v).0 r.children)).0 r.instants f e q)

  same_edge : (f : ℕ) (o p : Option Edge) → get t f ≡ o → get u f ≡ p
      → option_map (λ e. e.parent) o ≡ option_map (λ e. e.parent) p → option_map (λ e. e.kind) o ≡ option_map (λ e. e.kind) p
      → ((i : ℕ) → pose_at i o ≡ pose_at i p) → o ≡ p
  same_edge f None None q s parents kinds poses = refl
  same_edge f None (Some d) q s parents kinds poses = absurd (none_some parents)
  same_edge f (Some e) None q s parents kinds poses = absurd (none_some (sym parents))
  same_edge f (Some e) (Some d) q s parents kinds poses =
      let parent : e.parent ≡ d.parent = cc parents in
      let kind : e.kind ≡ d.kind = cc kinds in
      let samples = ext e.samples d.samples (row_of t rt f e q) (row_of u ru f d s) poses in
      λ i. Some (record { parent = parent i; kind = kind i; samples = samples i })

  same_tree : t ≡ u
  unfolding view_of
  same_tree =
      ext t u ((rising_is t).0 rt.children) ((rising_is u).0 ru.children)
      (λ f. same_edge f (get t f) (get u f) refl refl (m.parents f) (m.kinds f) (m.poses f))

pub view_fixes_tree : ViewFixesTree
view_fixes_tree t u rt ru m = same_tree t u rt ru m

pub view_fixes_calls : ViewFixesCalls
view_fixes_calls t u rt ru m =
    let e = same_tree t u rt ru m in
    record {
      lookups = λ f g i. ap (λ (v : Tree). lookup v f g i) e;
      common_times = λ f g. ap (λ (v : Tree). common_time v f g) e;
      adds = λ L a. ap (λ (v : Tree). add L v a) e;
      wipes = λ f i. ap (λ (v : Tree). wipe v f i) e;
    }
