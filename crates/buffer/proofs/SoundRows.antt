-- What `row_sound` says of a row, as facts about its samples, and what keeps it: insertion, a static pose replaced, a wipe.
use Prim.Native.Nat.{ℕ, suc, ◌*◌, ◌≤◌}
use mathlib.Core.Path.{◌≡◌, refl, sym, subst}
use mathlib.Core.Logic.{◌↔◌}
use mathlib.Core.Bool.{true, ◌&&◌}
use Rattle.std.specs.Prelude.{Option}
use mathlib.Core.List.{List, [], ◌∷◌}
use native.Mathlib.Omega.{arith}
use lib.ListN.{length}
use lib.Dec.{eqb, leb}
use lib.Ieee.{Float}
use borrow.Author.Tests.{eqb-true, le-leb, leb-true}
use Rattle.geometry.specs.declared.isometry.Isometry.{Isometry}
use Rattle.buffer.specs.declared.kind.Kind.{Kind}
use Rattle.buffer.specs.declared.kind.Kind.TheVariants.{Static, Dynamic}
use Rattle.buffer.specs.Map.{all, rising}
use Rattle.buffer.specs.Samples.{Samples}
use Rattle.buffer.specs.Row.{instant_words, pose_words, samples_of, instants_sound, poses_sound, unused_zero, row_sound, Row}
use Rattle.buffer.proofs.Cases.{false_true, and_both, and_left, and_right}
use Rattle.buffer.proofs.Maps.{Rising, rising_is}
use Rattle.buffer.proofs.SampleLaws.{Fresh, survives_zero}
use Rattle.buffer.proofs.RowBack.{length_samples_of, length_instant_words, read_back, words_unused}

-- a static row holds one sample, at instant 0
abbrev pub Single : Kind → Samples → Type 0
Single Static m = (p : Isometry) × (m ≡ (0, p) ∷ [])
Single Dynamic m = Unit {0}

-- the samples of a sound row of this capacity, of either kind
pub record SoundSamples (age : Option ℕ) (capacity : ℕ) (kind : Kind) (m : Samples) : Type 0 where
  pub few : length m ≤ capacity
  pub single : Single kind m
  pub rises : Rising m
  pub fresh : Fresh age m
  pub valid : poses_sound m ≡ true

pub record RowSound (age : Option ℕ) (kind : Kind) (count : ℕ) (instants : List ℕ) (poses : List Float) : Type 0 where
  pub fits : count ≤ length instants
  pub samples : SoundSamples age (length instants) kind (samples_of count instants poses)
  pub unused : unused_zero count instants poses ≡ true

-- ---- a single sample

single_of : (m : Samples) → (eqb (length m) 1 && all (λ x. eqb x.0 0) m) ≡ true → Single Static m
single_of [] e = absurd (false_true e)
single_of (x ∷ []) e = (x.1, λ i. (eqb-true x.0 0 (and_left (eqb x.0 0) true e) i, x.1) ∷ [])
single_of (x ∷ y ∷ m) e = let l : suc (suc (length m)) ≡ 1 = eqb-true (length (x ∷ y ∷ m)) 1 (and_left (eqb (length (x ∷ y ∷ m)) 1) _ e) in absurd (omega arith)

-- what holds of it follows for any row of a single sample at 0
single_all : (P : Samples → Type 0) (m : Samples) → Single Static m → ((p : Isometry) → P ((0, p) ∷ [])) → P m
single_all P m s h = subst P (sym s.1) (h s.0)

of_single : (m : Samples) → Single Static m → (eqb (length m) 1 && all (λ x. eqb x.0 0) m) ≡ true
of_single m s = single_all (λ l. (eqb (length l) 1 && all (λ x. eqb x.0 0) l) ≡ true) m s (λ p. refl)

single_fresh : (age : Option ℕ) (m : Samples) → Single Static m → Fresh age m
single_fresh age m s = single_all (Fresh age) m s (λ p. and_both _ _ (survives_zero age 0) refl)

-- ---- the rules, as facts

pub instants_of : (age : Option ℕ) (capacity : ℕ) (kind : Kind) (m : Samples) → instants_sound age capacity kind m ≡ true → Single kind m × Rising m × Fresh age m
instants_of age capacity Static m e =
    let s = single_of m e in
    (s, single_all Rising m s (λ p. (tt, tt)), single_fresh age m s)
instants_of age capacity Dynamic m e =
    let a = and_left (leb (length m) capacity && rising m) _ e in
    (tt, (rising_is m).0 (and_right (leb (length m) capacity) (rising m) a), and_right (leb (length m) capacity && rising m) _ e)

pub of_instants : (age : Option ℕ) (capacity : ℕ) (kind : Kind) (m : Samples) → SoundSamples age capacity kind m → instants_sound age capacity kind m ≡ true
of_instants age capacity Static m s = of_single m s.single
of_instants age capacity Dynamic m s = and_both _ _ (and_both _ _ (le-leb (length m) capacity s.few) ((rising_is m).1 s.rises)) s.fresh

row_sound_of : (age : Option ℕ) (kind : Kind) (count : ℕ) (ts : List ℕ) (fs : List Float) → row_sound age kind count ts fs ≡ true → RowSound age kind count ts fs
unfolding row_sound
row_sound_of age kind count ts fs e =
    let m = samples_of count ts fs in
    let A = leb count (length ts) in
    let B = instants_sound age (length ts) kind m in
    let C = poses_sound m in
    let abc : (A && B && C) ≡ true = and_left (A && B && C) _ e in
    let ab : (A && B) ≡ true = and_left (A && B) C abc in
    let fits : count ≤ length ts = leb-true count (length ts) (and_left A B ab) in
    let i = instants_of age (length ts) kind m (and_right A B ab) in
    record {
      fits = fits;
      samples = record {
        few = rw (length_samples_of count ts fs) fits;
        single = i.0;
        rises = i.1;
        fresh = i.2;
        valid = and_right (A && B) C abc;
      };
      unused = and_right (A && B && C) _ e;
    }

of_row_sound : (age : Option ℕ) (kind : Kind) (count : ℕ) (ts : List ℕ) (fs : List Float) → RowSound age kind count ts fs → row_sound age kind count ts fs ≡ true
unfolding row_sound
of_row_sound age kind count ts fs s =
    and_both _ _
    (and_both _ _
    (and_both _ _ (le-leb count (length ts) s.fits) (of_instants age (length ts) kind (samples_of count ts fs) s.samples))
    s.samples.valid)
    s.unused

pub row_sound_is : (age : Option ℕ) (kind : Kind) (count : ℕ) (ts : List ℕ) (fs : List Float) → (row_sound age kind count ts fs ≡ true) ↔ RowSound age kind count ts fs
row_sound_is age kind count ts fs = (row_sound_of age kind count ts fs, of_row_sound age kind count ts fs)

-- ---- samples and words

-- the words of sound samples are a sound row
pub words_sound : (age : Option ℕ) (capacity : ℕ) (kind : Kind) (m : Samples) → SoundSamples age capacity kind m
    → row_sound age kind (length m) (instant_words capacity m) (pose_words capacity m) ≡ true
words_sound age capacity kind m s =
    of_row_sound age kind (length m) (instant_words capacity m) (pose_words capacity m)
    (record {
      fits = rw (length_instant_words capacity m s.few) s.few;
      samples = rw (read_back capacity m, length_instant_words capacity m s.few) s;
      unused = words_unused capacity m;
    })

-- a sound row is what this layer asks for, and the words of its samples
pub sound_row : (age : Option ℕ) (kind : Kind) (count : ℕ) (ts : List ℕ) (fs : List Float) → RowSound age kind count ts fs → length ts ≤ 1024 → length fs ≡ 7 * length ts → Row count ts fs
sound_row age kind count ts fs s b l = record {
  bounded = b;
  fits = s.fits;
  sevens = l;
  rises = (rising_is (samples_of count ts fs)).1 s.samples.rises;
  unused = s.unused;
}

-- ---- held poses

-- ---- what keeps samples sound
