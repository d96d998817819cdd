-- An accepted addition of 32-bit frames keeps a sound tree sound.
use Prim.Native.Nat.{ℕ, ◌^◌, ◌≤◌, ◌<◌}
use mathlib.Core.Path.{◌≡◌, refl}
use mathlib.Core.Logic.{◌⊎◌, inl, inr}
use mathlib.Core.Bool.{true}
use Rattle.std.specs.Prelude.{Option, None, Some}
use mathlib.Core.List.{[]}
use lib.ListN.{length}
use borrow.Author.Tests.{lt-ltb, le-leb, leb-false}
use Rattle.time.specs.declared.stamp.Stamp.{Stamp}
use Rattle.time.specs.declared.stamp.Stamp.TheVariants as stamp
use Rattle.geometry.specs.declared.isometry.Isometry.{Isometry}
use Rattle.geometry.specs.Transform.{validate, passes}
use Rattle.buffer.specs.declared.kind.Kind.TheVariants.{Static, Dynamic}
use Rattle.buffer.specs.Map.{get, put}
use Rattle.buffer.specs.Samples.{Samples, insert}
use Rattle.buffer.specs.Row.{instants_sound}
use Rattle.buffer.proofs.Cases.{and_both}
use Rattle.buffer.proofs.Maps.{Rising, rising_is}
use Rattle.buffer.proofs.SampleLaws.{rising_insert, fresh_insert, all_insert, insert_empty, insert_single}
use Rattle.buffer.proofs.SoundRows.{instants_of}
use Rattle.buffer.specs.Kind.{kind_of}
use Rattle.registry.specs.Tree.{Edge, Tree, Limits, Addition, instant_of, updated_edge}
use Rattle.registry.specs.Laws.{SoundTree, AddKeepsSound}
use Rattle.registry.proofs.addition.Accepted.{Accepted, add_accepted}
use Rattle.registry.proofs.soundness.SoundEdges.{sound_edge, sound_put_held, sound_put_new}

-- ---- the child's edge

module _ (age : Option ℕ) (capacity : ℕ) where
  insert_static : (p : Isometry) (m : Samples) → (m ≡ []) ⊎ (instants_sound age capacity Static m ≡ true) → instants_sound age capacity Static (insert age 0 p m) ≡ true
  insert_static p m (inl e) = rw (e, insert_empty age 0 p)
  insert_static p m (inr h) = let held = (instants_of age capacity Static m h).0 in rw (held.1, insert_single age 0 held.0 p)

  insert_dynamic : (i : ℕ) (p : Isometry) (m : Samples) → Rising m → length (insert age i p m) ≤ capacity → instants_sound age capacity Dynamic (insert age i p m) ≡ true
  insert_dynamic i p m r l =
      and_both _ _
      (and_both _ _ (le-leb (length (insert age i p m)) capacity l) ((rising_is (insert age i p m)).1 (rising_insert age i p m r)))
      (fresh_insert age i p m)

  dynamic_rises : (m : Samples) → (m ≡ []) ⊎ (instants_sound age capacity Dynamic m ≡ true) → Rising m
  dynamic_rises m (inl e) = rw e tt
  dynamic_rises m (inr h) = (instants_of age capacity Dynamic m h).1

  insert_sound : (s : Stamp) (p : Isometry) (m : Samples) → (m ≡ []) ⊎ (instants_sound age capacity (kind_of s) m ≡ true)
      → length (insert age (instant_of s) p m) ≤ capacity → instants_sound age capacity (kind_of s) (insert age (instant_of s) p m) ≡ true
  insert_sound stamp.Static p m h l = insert_static p m h
  insert_sound (stamp.At i) p m h l = insert_dynamic i p m (dynamic_rises m h) l

-- ---- the tree with that edge

module _ (L : Limits) (t : Tree) (a : Addition) (c : a.child < 2 ^ 32) (p : a.parent < 2 ^ 32) (s : SoundTree L t) where
  updated_keeps : (u : Tree) (held : Option Edge) → get t a.child ≡ held → Accepted L t a held u → SoundTree L (put a.child (updated_edge L.age a held) t)
  updated_keeps u None q acc =
      sound_put_new L t s a.child (updated_edge L.age a None)
      (record {
        frames = and_both _ _ (lt-ltb a.child (2 ^ 32) c) (lt-ltb a.parent (2 ^ 32) p);
        parents = rw acc.apart;
        instants = insert_sound L.age L.capacity a.stamp a.pose [] (inl refl) acc.few;
        poses = all_insert (λ x. passes (validate x.1)) L.age (instant_of a.stamp) a.pose [] acc.valid refl;
      })
      q (leb-false L.rows (length t) acc.room) acc.no_circle
  updated_keeps u (Some e) q acc =
      let old = sound_edge L t s a.child e q in
      let kind = acc.suits.1 in
      sound_put_held L t s a.child (updated_edge L.age a (Some e))
      (record {
        frames = old.frames;
        parents = old.parents;
        instants = rw kind (insert_sound L.age L.capacity a.stamp a.pose e.samples (inr (rw kind at old.instants)) acc.few);
        poses = all_insert (λ x. passes (validate x.1)) L.age (instant_of a.stamp) a.pose e.samples acc.valid old.poses;
      })
      e q refl

pub add_keeps_sound : AddKeepsSound
add_keeps_sound L t u a c p s e =
    let acc = add_accepted L t a u e in
    rw acc.left (updated_keeps L t a c p s u (get t a.child) refl acc)
