-- What a sound tree's rows are, one by one, and when one more row or another in the place of one leaves it sound.
use Prim.Native.Nat.{ℕ, ◌^◌, ◌≤◌, ◌<◌}
use mathlib.Core.Path.{◌≡◌, sym}
use mathlib.Core.Bool.{Bool, true, false, not, ◌&&◌}
use Rattle.std.specs.Prelude.{Option, None, Some}
use native.Mathlib.Omega.{arith}
use lib.ListN.{length}
use lib.Dec.{eqb, ltb, leb}
use borrow.Author.Tests.{not-true, ne_eqb, eqb-true, eqb-false, leb-true, le-leb}
use Rattle.buffer.specs.declared.kind.Kind.{Kind}
use Rattle.buffer.specs.declared.kind.Kind.TheVariants.{Static, Dynamic}
use Rattle.buffer.specs.Map.{all, get, put, rising}
use Rattle.buffer.specs.Samples.{Samples}
use Rattle.buffer.specs.Row.{instants_sound, poses_sound}
use Rattle.buffer.proofs.Cases.{and_left}
use Rattle.buffer.proofs.Maps.{Rising, rising_is, rising_put, length_put_new, length_put_held}
use Rattle.buffer.proofs.Alls.{all_get, all_put, all_weaken}
use Rattle.buffer.proofs.SoundRows.{SoundSamples, instants_of}
use Rattle.registry.specs.Tree.{Edge, Tree, Limits, ancestors, member}
use Rattle.registry.specs.Laws.{SoundTree}
use Rattle.registry.proofs.layout.StoreBack.{Fits}
use Rattle.registry.proofs.paths.Climbing.{Grounded, grounded_ranked, ranked_grounded}
use Rattle.registry.proofs.soundness.NoCircle.{circle_grounded, grounded_circle}
use Rattle.registry.proofs.paths.Ancestors.{ranked_held, ranked_new}

-- ---- a row's samples

within_capacity : (age : Option ℕ) (capacity : ℕ) (kind : Kind) (m : Samples) → 1 ≤ capacity → instants_sound age capacity kind m ≡ true → length m ≤ capacity
within_capacity age capacity Static m h e = let l = eqb-true (length m) 1 (and_left (eqb (length m) 1) _ e) in omega arith
within_capacity age capacity Dynamic m h e = leb-true (length m) capacity (and_left (leb (length m) capacity) (rising m) (and_left _ _ e))

-- the rules, as facts
pub samples_sound : (age : Option ℕ) (capacity : ℕ) (kind : Kind) (m : Samples) → 1 ≤ capacity → instants_sound age capacity kind m ≡ true → poses_sound m ≡ true
    → SoundSamples age capacity kind m
samples_sound age capacity kind m h i p =
    let facts = instants_of age capacity kind m i in
    record { few = within_capacity age capacity kind m h i; single = facts.0; rises = facts.1; fresh = facts.2; valid = p }

-- ---- rows

pub record SoundEdge (L : Limits) (c : ℕ) (d : Edge) : Type 0 where
  pub frames : (ltb c (2 ^ 32) && ltb d.parent (2 ^ 32)) ≡ true
  pub parents : not (eqb d.parent c) ≡ true
  pub instants : instants_sound L.age L.capacity d.kind d.samples ≡ true
  pub poses : poses_sound d.samples ≡ true

module _ (L : Limits) (t : Tree) (s : SoundTree L t) where
  pub tree_rises : Rising t
  tree_rises = (rising_is t).0 s.rises

  pub tree_grounded : Grounded t
  tree_grounded = circle_grounded t tree_rises s.circles

  at_child : (test : ℕ × Edge → Bool) → all test t ≡ true → (c : ℕ) (e : Edge) → get t c ≡ Some e → test (c, e) ≡ true
  at_child test h = (all_get test t tree_rises).0 h

  pub sound_edge : (c : ℕ) (e : Edge) → get t c ≡ Some e → SoundEdge L c e
  sound_edge c e q = record {
    frames = at_child (λ x. ltb x.0 (2 ^ 32) && ltb x.1.parent (2 ^ 32)) s.frames c e q;
    parents = at_child (λ x. not (eqb x.1.parent x.0)) s.parents c e q;
    instants = at_child (λ x. instants_sound L.age L.capacity x.1.kind x.1.samples) s.instants c e q;
    poses = at_child (λ x. poses_sound x.1.samples) s.poses c e q;
  }

  module _ (c : ℕ) (d : Edge) (sound : SoundEdge L c d) where
    sound_put : length (put c d t) ≤ L.rows → Grounded (put c d t) → SoundTree L (put c d t)
    sound_put few grounded =
        let rises = rising_put c d t tree_rises in
        record {
          few = few;
          rises = (rising_is (put c d t)).1 rises;
          frames = all_put (λ x. ltb x.0 (2 ^ 32) && ltb x.1.parent (2 ^ 32)) c d t sound.frames s.frames;
          parents = all_put (λ x. not (eqb x.1.parent x.0)) c d t sound.parents s.parents;
          circles = grounded_circle (put c d t) rises grounded;
          instants = all_put (λ x. instants_sound L.age L.capacity x.1.kind x.1.samples) c d t sound.instants s.instants;
          poses = all_put (λ x. poses_sound x.1.samples) c d t sound.poses s.poses;
        }

    -- in the place of an edge to the same parent
    pub sound_put_held : (e : Edge) → get t c ≡ Some e → d.parent ≡ e.parent → SoundTree L (put c d t)
    sound_put_held e q p =
        sound_put
        (let few = s.few in omega (arith, length_put_held c d e t tree_rises q))
        (ranked_grounded (put c d t) _ (ranked_held t _ (grounded_ranked t tree_grounded) c e d q p))

    -- as a new child that is not above its parent
    pub sound_put_new : get t c ≡ None → length t < L.rows → member c (ancestors t d.parent) ≡ false → SoundTree L (put c d t)
    sound_put_new q room apart =
        let own : eqb c d.parent ≡ false = ne_eqb c d.parent (λ e. eqb-false d.parent c (not-true _ sound.parents) (sym e)) in
        sound_put
        (omega (arith, length_put_new c d t q))
        (ranked_grounded (put c d t) _ (ranked_new t _ (grounded_ranked t tree_grounded) c d q (rw own apart)))

-- a sound tree fits its limits
pub sound_fits : (L : Limits) (t : Tree) → 1 ≤ L.capacity → SoundTree L t → Fits L t
sound_fits L t h s = record {
  rows = s.few;
  samples = all_weaken (λ x. instants_sound L.age L.capacity x.1.kind x.1.samples) (λ x. leb (length x.1.samples) L.capacity) t
      (λ x e. le-leb (length x.1.samples) L.capacity (within_capacity L.age L.capacity x.1.kind x.1.samples h e)) s.instants;
}
