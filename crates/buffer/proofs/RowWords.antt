-- A row's words as blocks, and where each sample lies in them.
use Prim.Native.Nat.{ℕ, zero, suc, ◌+◌, ◌*◌, ◌<◌}
use mathlib.Core.Path.{◌≡◌, refl, ap, ◌∙◌}
use mathlib.Core.List.{List, [], ◌∷◌}
use native.Mathlib.Nat.{not-suc-le-zero, le_of_suc-le-suc, one-mul}
use native.Mathlib.Omega.{arith}
use lib.ListN.{get_or, take, drop}
use lib.Seq.{get_or-drop, drop-drop}
use lib.Ieee.{Float}
use Rattle.std.specs.Simd.{first_chunks}
use Rattle.geometry.specs.declared.isometry.Isometry.{Isometry}
use Rattle.buffer.specs.Map.{keys}
use Rattle.buffer.specs.Samples.{Samples}
use Rattle.buffer.specs.Row.{floats, pose_of, concat_map, instant_words, samples_of}
use Rattle.buffer.proofs.Strides.{blocks}

-- ---- one pose

-- a pose is read from the first seven floats
pub pose_front : (fs : List Float) → pose_of (take 7 fs) ≡ pose_of fs
pose_front [] = refl
pose_front (a ∷ []) = refl
pose_front (a ∷ b ∷ []) = refl
pose_front (a ∷ b ∷ c ∷ []) = refl
pose_front (a ∷ b ∷ c ∷ d ∷ []) = refl
pose_front (a ∷ b ∷ c ∷ d ∷ e ∷ []) = refl
pose_front (a ∷ b ∷ c ∷ d ∷ e ∷ f ∷ []) = refl
pose_front (a ∷ b ∷ c ∷ d ∷ e ∷ f ∷ g ∷ fs) = refl

-- the pose at a place, where the floats are read by sevens
pub pose_at : (n : ℕ) (fs : List Float) (k : ℕ) (d : List Float) → k < n → pose_of (get_or (first_chunks 7 n fs) k d) ≡ pose_of (drop (7 * k) fs)
pose_at zero fs k d h = absurd (not-suc-le-zero h)
pose_at (suc n) fs zero d h = pose_front fs
pose_at (suc n) fs (suc k) d h =
    let q : 7 + 7 * k ≡ 7 * suc k = omega arith in
    pose_at n (drop 7 fs) k d (le_of_suc-le-suc h) ∙ ap pose_of (drop-drop (7 * k) 7 fs ∙ ap (λ (i : ℕ). drop i fs) q)

-- ---- a row

-- an instant as a block of one word, a pose as one of seven floats
abbrev pub word : ℕ × Isometry → List ℕ
word x = x.0 ∷ []

abbrev pub block : ℕ × Isometry → List Float
block x = floats x.1

map_concat : (m : Samples) → keys m ≡ concat_map word m
map_concat [] = refl
map_concat (x ∷ m) = ap (λ (l : List ℕ). x.0 ∷ l) (map_concat m)

pub instant_blocks : (capacity : ℕ) (m : Samples) → instant_words capacity m ≡ blocks word 1 (λ x. refl) capacity 0 m
instant_blocks capacity m = rw (map_concat m, one-mul capacity)

-- the k-th sample
pub sample_at : (n : ℕ) (ts : List ℕ) (fs : List Float) (k : ℕ) (d : ℕ × Isometry) → k < n → get_or (samples_of n ts fs) k d ≡ (get_or ts k 0, pose_of (drop (7 * k) fs))
sample_at zero ts fs k d h = absurd (not-suc-le-zero h)
sample_at (suc n) ts fs zero d h = refl
sample_at (suc n) ts fs (suc k) d h =
    let p : 1 + k ≡ suc k = omega arith in
    let q : 7 + 7 * k ≡ 7 * suc k = omega arith in
    let a : get_or (drop 1 ts) k 0 ≡ get_or ts (suc k) 0 = get_or-drop 1 ts k 0 ∙ ap (λ (i : ℕ). get_or ts i 0) p in
    let b : drop (7 * k) (drop 7 fs) ≡ drop (7 * suc k) fs = drop-drop (7 * k) 7 fs ∙ ap (λ (i : ℕ). drop i fs) q in
    sample_at n (drop 1 ts) (drop 7 fs) k d (le_of_suc-le-suc h) ∙ (λ i. (a i, pose_of (b i)))
