-- What holds of sound stores and of their trees. Proved in proofs/ under the same names.
use Rattle.std.specs.Prelude.{ℕ, ◌^◌, ◌≤◌, ◌<◌, ◌≡◌, ◌↔◌, Bool, true, not, length}
use Rattle.std.specs.Prelude.{Result, Err}
use Rattle.std.specs.Float.Ieee.{is_nan}
use Rattle.time.specs.declared.stamp.Stamp.{Stamp}
use Rattle.time.specs.Reply.{Carried, answer, refusal}
use Rattle.geometry.specs.declared.isometry.Isometry.{Isometry}
use Rattle.buffer.specs.Map.{all, rising}
use Rattle.buffer.specs.Row.{instants_sound, poses_sound, FloatsFit}
use Rattle.registry.specs.Tree.{Tree, Limits, Addition, add, wipe}
use Rattle.registry.specs.Store.{Store, stored, tree_of, limits_of, used_in, sized}
use Rattle.registry.specs.Sound.{frames_fit, parents_differ, no_circle, NotAboveItself, sound}
use Rattle.registry.specs.declared.error.RegistryError.{RegistryError}
use Rattle.registry.specs.Answers.{done, pose, refusal_of, replied, told_done, told_time}
use Rattle.registry.specs.Calls.{open_of, add_of, wipe_of}

-- "no circle", which climbs decide, means that no frame is above itself
abbrev pub NoCircle : Type 0
NoCircle = (t : Tree) → rising t ≡ true → (no_circle t ≡ true) ↔ NotAboveItself t

-- ---- words and trees

-- "E is 1 to 256, S is 1 to 1,024"
pub record InRange (rows capacity : ℕ) : Type 0 where
  pub some_rows : 1 ≤ rows
  pub few_rows : rows ≤ 256
  pub positive_capacity : 1 ≤ capacity
  pub bounded_capacity : capacity ≤ 1024

-- what "sound means" asks of a tree
pub record SoundTree (L : Limits) (t : Tree) : Type 0 where
  pub few : length t ≤ L.rows
  pub rises : rising t ≡ true
  pub frames : frames_fit t ≡ true
  pub parents : parents_differ t ≡ true
  pub circles : no_circle t ≡ true
  pub instants : all (λ x. instants_sound L.age L.capacity x.1.kind x.1.samples) t ≡ true
  pub poses : all (λ x. poses_sound x.1.samples) t ≡ true

-- a sound store is the words of the tree that it holds, and that tree is sound
abbrev pub SoundIsStored : Type 0
SoundIsStored = (s : Store) → FloatsFit s.poses → sized s ≡ true → sound s ≡ true
    → (s ≡ stored (limits_of s) (tree_of s)) × SoundTree (limits_of s) (tree_of s)

-- the limits and a sound tree are read back from its words
abbrev pub StoredReadsBack : Type 0
StoredReadsBack = (L : Limits) (t : Tree) → 1 ≤ L.capacity → SoundTree L t → (limits_of (stored L t) ≡ L) × (tree_of (stored L t) ≡ t)

-- the words of a sound tree are a sound store
abbrev pub StoredIsSound : Type 0
StoredIsSound = (L : Limits) (t : Tree) → InRange L.rows L.capacity → SoundTree L t → (sized (stored L t) ≡ true) × (sound (stored L t) ≡ true)

-- two sound trees with the same words are one
abbrev pub StoredInjective : Type 0
StoredInjective = (L : Limits) (t u : Tree) → 1 ≤ L.capacity → SoundTree L t → SoundTree L u → stored L t ≡ stored L u → t ≡ u

-- ---- what calls leave

-- a sound store of these sizes and this age, with no row used
pub record FreshStore (L : Limits) (s : Store) : Type 0 where
  pub sizes : sized s ≡ true
  pub rules : sound s ≡ true
  pub named : limits_of s ≡ L
  pub unused : used_in s ≡ 0

-- "Unless refused, opening overwrites everything and leaves a sound store of the named sizes and age, .. with no row used"
abbrev pub OpenedIsSound : Type 0
OpenedIsSound = (s : Store) (L : Limits) → (open_of s L).reply ≡ answer done → FreshStore L (open_of s L).store

-- an addition of 32-bit frames that is answered leaves a sound tree sound
abbrev pub AddKeepsSound : Type 0
AddKeepsSound = (L : Limits) (t u : Tree) (a : Addition) → a.child < 2 ^ 32 → a.parent < 2 ^ 32 → SoundTree L t
    → add L t a ≡ answer u → SoundTree L u

-- a wipe that is answered leaves a sound tree sound
abbrev pub WipeKeepsSound : Type 0
WipeKeepsSound = (L : Limits) (t u : Tree) (f i : ℕ) → SoundTree L t → wipe t f i ≡ answer u → SoundTree L u

-- ---- floats and their bits

-- no float of the store is a NaN
abbrev pub no_nan : Store → Bool
no_nan s = all (λ x. not (is_nan x)) s.poses

-- a sound store holds no NaN, so that what the definitions say of its floats, in which one NaN stands for all, is said of their bits
abbrev pub SoundHoldsNoNan : Type 0
SoundHoldsNoNan = (s : Store) → sized s ≡ true → sound s ≡ true → no_nan s ≡ true

-- where an addition or a wipe is refused with a number other than 1 and 2, the store holds no NaN, so that "every word as it was" is exact in bits
pub record ExactRefusals : Type 0 where
  pub adds : (s : Store) (a : Addition) (k : ℕ) (c : Carried) → (add_of s a).reply ≡ refusal k c → (k ≡ 1 → ⊥) → (k ≡ 2 → ⊥) → no_nan s ≡ true
  pub wipes : (s : Store) (f i k : ℕ) (c : Carried) → (wipe_of s f i).reply ≡ refusal k c → (k ≡ 1 → ⊥) → (k ≡ 2 → ⊥) → no_nan s ≡ true

-- ---- answers

-- an error's number and what it carries fix its case and its values
abbrev pub RefusalInjective : Type 0
RefusalInjective = (a b : RegistryError) → refusal_of a ≡ refusal_of b → a ≡ b

-- two results are refused with the same error
abbrev pub SameError : {A B : Type 0} → Result A RegistryError → Result B RegistryError → Type 0
SameError a b = (e : RegistryError) × (a ≡ Err e) × (b ≡ Err e)

-- a reply fixes the result of the call; and where two different calls reply the same, both are refused, with the same error
pub record ReplyInjective : Type 0 where
  pub dones : (a b : Result (Unit {0}) RegistryError) → replied told_done a ≡ replied told_done b → a ≡ b
  pub poses : (a b : Result Isometry RegistryError) → replied pose a ≡ replied pose b → a ≡ b
  pub times : (a b : Result Stamp RegistryError) → replied told_time a ≡ replied told_time b → a ≡ b
  pub done_and_pose : (a : Result (Unit {0}) RegistryError) (b : Result Isometry RegistryError) → replied told_done a ≡ replied pose b → SameError a b
  pub done_and_time : (a : Result (Unit {0}) RegistryError) (b : Result Stamp RegistryError) → replied told_done a ≡ replied told_time b → SameError a b
  pub pose_and_time : (a : Result Isometry RegistryError) (b : Result Stamp RegistryError) → replied pose a ≡ replied told_time b → SameError a b
