-- A row's samples are read back from its words, and the words of a row with zeros after its samples are those of the samples.
use Prim.Native.Nat.{ℕ, zero, suc, ◌+◌, ◌-◌, ◌*◌, ◌≤◌}
use mathlib.Core.Path.{◌≡◌, refl, sym, ap, ◌∙◌}
use mathlib.Core.Bool.{true}
use mathlib.Core.List.{List, [], ◌∷◌, ◌++◌}
use native.Mathlib.Omega.{arith}
use lib.ListN.{length, take, drop, replicate, length-append, length-drop, length-map, length-replicate, take-append-drop}
use lib.Seq.{length-take-le, take-add, drop_at}
use lib.Dec.{eqb}
use lib.Ieee.{Float}
use borrow.Author.Tests.{eqb-true}
use Rattle.time.specs.Float.{zero64}
use Rattle.buffer.specs.Map.{all, keys}
use Rattle.buffer.specs.Samples.{Samples}
use Rattle.buffer.specs.Row.{floats, pose_of, concat_map, padded, instant_words, pose_words, samples_of, is_zero, unused_zero, Row, FloatsFit}
use Rattle.buffer.proofs.Cases.{and_both, and_left, and_right}
use Rattle.buffer.proofs.Maps.{Rising, rising_is}
use Rattle.buffer.proofs.Alls.{all_replicate, all_only}
use Rattle.buffer.proofs.Floats.{fit_drop, is_zero64, zeros}

-- the held words, before the zeros: the instants are the `keys`
abbrev pub poses_of : Samples → List Float
poses_of m = concat_map (λ x. floats x.1) m

-- ---- how many words

pub length_samples_of : (n : ℕ) (ts : List ℕ) (fs : List Float) → length (samples_of n ts fs) ≡ n
length_samples_of zero ts fs = refl
length_samples_of (suc n) ts fs = ap suc (length_samples_of n (drop 1 ts) (drop 7 fs))

pub length_poses_of : (m : Samples) → length (poses_of m) ≡ 7 * length m
length_poses_of [] = refl
length_poses_of (x ∷ m) = let ih = length_poses_of m in omega arith

pub length_padded : {A : Type 0} (n : ℕ) (z : A) (xs : List A) → length xs ≤ n → length (padded n z xs) ≡ n
length_padded n z xs h = rw (length-append xs (replicate (n - length xs) z), length-replicate (n - length xs) z) (omega arith)

pub length_instant_words : (capacity : ℕ) (m : Samples) → length m ≤ capacity → length (instant_words capacity m) ≡ capacity
length_instant_words capacity m h = length_padded capacity 0 (keys m) (rw (length-map m (λ x. x.0)) h)

pub length_pose_words : (capacity : ℕ) (m : Samples) → length m ≤ capacity → length (pose_words capacity m) ≡ 7 * capacity
length_pose_words capacity m h = length_padded (7 * capacity) zero64 (poses_of m) (rw (length_poses_of m) (omega arith))

-- ---- from samples to words and back

-- whatever stands after the held words
pub samples_back : (m : Samples) (ts : List ℕ) (fs : List Float) → samples_of (length m) (keys m ++ ts) (poses_of m ++ fs) ≡ m
samples_back [] ts fs = refl
samples_back (x ∷ m) ts fs = ap {B = Samples} (λ r. x ∷ r) (samples_back m ts fs)

pub read_back : (capacity : ℕ) (m : Samples) → samples_of (length m) (instant_words capacity m) (pose_words capacity m) ≡ m
read_back capacity m = samples_back m (replicate (capacity - length (keys m)) 0) (replicate (7 * capacity - length (poses_of m)) zero64)

-- after the held words there are zeros
pub words_unused : (capacity : ℕ) (m : Samples) → unused_zero (length m) (instant_words capacity m) (pose_words capacity m) ≡ true
words_unused capacity m =
    rw (
      drop_at (keys m) (replicate (capacity - length (keys m)) 0) (length m) (length-map m (λ x. x.0)),
      drop_at (poses_of m) (replicate (7 * capacity - length (poses_of m)) zero64) (7 * length m) (length_poses_of m),
    )
    (and_both _ _
    (all_replicate (eqb 0) (capacity - length (keys m)) 0 refl)
    (all_replicate is_zero (7 * capacity - length (poses_of m)) zero64 is_zero64))

pub words_row : (capacity : ℕ) (m : Samples) → capacity ≤ 1024 → length m ≤ capacity → Rising m → Row (length m) (instant_words capacity m) (pose_words capacity m)
words_row capacity m b h r = record {
  bounded = rw (length_instant_words capacity m h) b;
  fits = rw (length_instant_words capacity m h) h;
  sevens = rw (length_instant_words capacity m h, length_pose_words capacity m h);
  rises = rw (read_back capacity m) ((rising_is m).1 r);
  unused = words_unused capacity m;
}

-- ---- from words to samples and back

seven_floats : (fs : List Float) → 7 ≤ length fs → floats (pose_of fs) ≡ take 7 fs
seven_floats [] h = absurd (omega arith)
seven_floats (a ∷ []) h = absurd (omega arith)
seven_floats (a ∷ b ∷ []) h = absurd (omega arith)
seven_floats (a ∷ b ∷ c ∷ []) h = absurd (omega arith)
seven_floats (a ∷ b ∷ c ∷ d ∷ []) h = absurd (omega arith)
seven_floats (a ∷ b ∷ c ∷ d ∷ e ∷ []) h = absurd (omega arith)
seven_floats (a ∷ b ∷ c ∷ d ∷ e ∷ f ∷ []) h = absurd (omega arith)
seven_floats (a ∷ b ∷ c ∷ d ∷ e ∷ f ∷ g ∷ fs) h = refl

pub held_instants : (n : ℕ) (ts : List ℕ) (fs : List Float) → n ≤ length ts → keys (samples_of n ts fs) ≡ take n ts
held_instants zero ts fs h = refl
held_instants (suc n) [] fs h = absurd (omega arith)
held_instants (suc n) (t ∷ ts) fs h = ap {B = List ℕ} (λ r. t ∷ r) (held_instants n ts (drop 7 fs) (omega arith))

pub held_poses : (n : ℕ) (ts : List ℕ) (fs : List Float) → 7 * n ≤ length fs → poses_of (samples_of n ts fs) ≡ take (7 * n) fs
held_poses zero ts fs h = refl
held_poses (suc n) ts fs h =
    let e : 7 * suc n ≡ 7 + 7 * n = omega arith in
    (λ i. seven_floats fs (omega arith) i ++ held_poses n (drop 1 ts) (drop 7 fs) (rw (length-drop 7 fs) (omega arith)) i)
    ∙ sym (take-add 7 (7 * n) fs)
    ∙ ap (λ (k : ℕ). take k fs) (sym e)

-- a list whose rest is z is its first k, padded
padded_is : {A : Type 0} (k : ℕ) (z : A) (l : List A) → k ≤ length l → drop k l ≡ replicate (length (drop k l)) z → l ≡ padded (length l) z (take k l)
padded_is k z l h e =
    sym (take-append-drop k l)
    ∙ ap (λ r. take k l ++ r) (e ∙ ap (λ (n : ℕ). replicate n z) (length-drop k l ∙ ap (λ (n : ℕ). length l - n) (sym (length-take-le k l h))))

module _ (n : ℕ) (ts : List ℕ) (fs : List Float) (h : n ≤ length ts) (z : unused_zero n ts fs ≡ true) where
  pub instants_are : ts ≡ instant_words (length ts) (samples_of n ts fs)
  instants_are =
      padded_is n 0 ts h (all_only (eqb 0) 0 (drop n ts) (λ t e. sym (eqb-true 0 t e)) (and_left _ _ z))
      ∙ ap (padded (length ts) 0) (sym (held_instants n ts fs h))

  pub poses_are : length fs ≡ 7 * length ts → FloatsFit fs → fs ≡ pose_words (length ts) (samples_of n ts fs)
  poses_are l f =
      let k : 7 * n ≤ length fs = omega arith in
      let q = sym (held_poses n ts fs k) in
      padded_is (7 * n) zero64 fs k (zeros (drop (7 * n) fs) (fit_drop (7 * n) fs f) (and_right (all (eqb 0) (drop n ts)) _ z))
      ∙ (λ i. padded (l i) zero64 (q i))
