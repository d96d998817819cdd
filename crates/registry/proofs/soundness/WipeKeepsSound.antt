-- An accepted wipe keeps a sound tree sound.
use Prim.Native.Nat.{ℕ, ◌^◌, ◌≤◌}
use mathlib.Core.Path.{◌≡◌, ap, ◌∙◌}
use mathlib.Core.Bool.{true, not, ◌&&◌}
use Rattle.std.specs.Prelude.{Option}
use native.Mathlib.Omega.{arith}
use lib.Dec.{eqb, ltb, leb}
use lib.ListN.{length}
use borrow.Author.Tests.{le-leb, leb-true}
use Rattle.buffer.specs.declared.kind.Kind.{Kind}
use Rattle.buffer.specs.declared.kind.Kind.TheVariants.{Static, Dynamic}
use Rattle.buffer.specs.Map.{rising}
use Rattle.buffer.specs.Samples.{Samples, remove_before}
use Rattle.buffer.specs.Row.{instants_sound, poses_sound}
use Rattle.geometry.specs.Transform.{validate, passes}
use Rattle.buffer.proofs.Cases.{and_left, and_both}
use Rattle.buffer.proofs.Maps.{rising_is}
use Rattle.buffer.proofs.SampleLaws.{rising_remove_before, fresh_remove_before, all_remove_before, length_remove_before_le}
use Rattle.buffer.proofs.SoundRows.{instants_of}
use Rattle.registry.specs.Laws.{WipeKeepsSound}
use Rattle.registry.proofs.soundness.SoundEdges.{sound_edge, sound_put_held}
use Rattle.registry.proofs.remove_before.Wiped.{wipe_accepted}

wiped_instants : (age : Option ℕ) (capacity : ℕ) (k : Kind) (i : ℕ) (m : Samples) → instants_sound age capacity k m ≡ true → instants_sound age capacity k (remove_before k i m) ≡ true
wiped_instants age capacity Static i m h = h
wiped_instants age capacity Dynamic i m h =
    let facts = instants_of age capacity Dynamic m h in
    let few : length m ≤ capacity = leb-true (length m) capacity (and_left (leb (length m) capacity) (rising m) (and_left _ _ h)) in
    let left = remove_before Dynamic i m in
    and_both _ _
    (and_both _ _
    (le-leb (length left) capacity (omega (arith, length_remove_before_le Dynamic i m)))
    ((rising_is left).1 (rising_remove_before Dynamic i m facts.1)))
    (fresh_remove_before age Dynamic i m facts.2)

pub wipe_keeps_sound : WipeKeepsSound
wipe_keeps_sound L t u f i s e =
    let w = wipe_accepted t f i u e in
    let old = sound_edge L t s f w.edge w.held in
    let samples = w.samples in
    rw w.left
    (sound_put_held L t s f w.after
    (record {
      frames = ap (λ (p : ℕ). ltb f (2 ^ 32) && ltb p (2 ^ 32)) w.parent ∙ old.frames;
      parents = ap (λ (p : ℕ). not (eqb p f)) w.parent ∙ old.parents;
      instants = (λ j. instants_sound L.age L.capacity (w.kind j) (samples j)) ∙ wiped_instants L.age L.capacity w.edge.kind i w.edge.samples old.instants;
      poses = ap poses_sound samples ∙ all_remove_before (λ x. passes (validate x.1)) w.edge.kind i w.edge.samples old.poses;
    })
    w.edge w.held w.parent)
