-- What a query is served, by its place among a row's instants.
use Prim.Native.Nat.{ℕ, zero, suc, ◌-◌, ◌*◌, ◌≤◌, ◌<◌}
use mathlib.Core.Path.{◌≡◌, sym, ap, ◌∙◌, subst}
use mathlib.Core.Bool.{false, and-false}
use Rattle.std.specs.Prelude.{Option, Some}
use mathlib.Core.List.{List, [], ◌∷◌, ◌++◌}
use native.Mathlib.Nat.{not-suc-le-zero}
use native.Mathlib.Omega.{arith}
use lib.Dec.{leb}
use lib.ListN.{length, get_or, take, drop}
use lib.Seq.{split_at, drop-cons}
use lib.Ieee.{Float}
use borrow.Author.Tests.{lt-leb}
use Rattle.time.specs.Reply.{Reply, Carried, answer, refusal, hop}
use Rattle.time.proofs.Replies.{refusal_answer}
use Rattle.geometry.specs.declared.isometry.Isometry.{Isometry}
use Rattle.geometry.specs.Isometry.{interpolated}
use Rattle.buffer.specs.declared.kind.Kind.TheVariants.{Static, Dynamic}
use Rattle.buffer.specs.Map.{get}
use Rattle.buffer.specs.Samples.{Samples, range, served}
use Rattle.buffer.specs.Row.{pose_of, samples_of, below, Row}
use Rattle.buffer.proofs.Maps.{Rising, get_at}
use Rattle.buffer.proofs.RangeLaws.{within}
use Rattle.buffer.proofs.ServedLaws.{served_held, served_static, served_outside, served_between, interpolated_answers}
use Rattle.buffer.proofs.RowBack.{length_samples_of}
use Rattle.buffer.proofs.RowWords.{sample_at}
use Rattle.buffer.proofs.Places.{cut, place_le, cut_below, cut_above, row_held, rising_held, key_at, range_held, place_cut}

-- a static row's first pose
pub first_served : (n : ℕ) (ts : List ℕ) (fs : List Float) (child t : ℕ) → 0 < n → served child Static (samples_of n ts fs) t ≡ answer (pose_of fs)
first_served zero ts fs child t h = absurd (not-suc-le-zero h)
first_served (suc n) ts fs child t h = served_static child (get_or ts 0 0, pose_of fs) (samples_of n (drop 1 ts) (drop 7 fs)) t

module _ (n : ℕ) (ts : List ℕ) (fs : List Float) (row : Row n ts fs) (t k : ℕ) (q : k ≡ below t (take n ts)) (child : ℕ) where
  abbrev held : Samples
  held = samples_of n ts fs

  abbrev default : ℕ × Isometry
  default = (0, pose_of [])

  rises : Rising held
  rises = rising_held n ts fs (row_held n ts fs row)

  place_of : k ≡ cut t held
  place_of = place_cut n ts fs (row_held n ts fs row) t k q

  below_at : (i : ℕ) → i < k → get_or ts i 0 < t
  below_at i h =
      let g : i < cut t held = omega (arith, place_of) in
      let l = cut_below t held rises i g in
      omega (arith, key_at n ts fs (row_held n ts fs row) i (omega (arith, place_le n ts (row_held n ts fs row) t k q)))

  above_at : (i : ℕ) → k ≤ i → i < n → t ≤ get_or ts i 0
  above_at i h g =
      let l = cut_above t held rises i (omega (arith, place_of)) (omega (arith, length_samples_of n ts fs)) in
      omega (arith, key_at n ts fs (row_held n ts fs row) i g)

  -- a held instant
  pub exact : k < n → get_or ts k 0 ≡ t → served child Dynamic held t ≡ answer (pose_of (drop (7 * k) fs))
  exact h e =
      let s : get_or held k default ≡ (get_or ts k 0, pose_of (drop (7 * k) fs)) = sample_at n ts fs k default h in
      let g : get held (get_or held k default).0 ≡ Some (get_or held k default).1 = get_at held k default rises (omega (arith, length_samples_of n ts fs)) in
      let a : (get_or held k default).0 ≡ t = ap (λ (x : ℕ × Isometry). x.0) s ∙ e in
      served_held child held t (pose_of (drop (7 * k) fs)) (ap (get held) (sym a) ∙ g ∙ ap (λ (x : ℕ × Isometry). Some x.1) s)

  -- outside the range: before the first instant, and after the last
  outside : 0 < n → within (Some (get_or ts 0 0, get_or ts (n - 1) 0)) t ≡ false → served child Dynamic held t ≡ refusal 11 (hop child (range held))
  outside h w = served_outside child held t rises (ap (λ (o : Option (ℕ × ℕ)). within o t) (range_held n ts fs (row_held n ts fs row) h) ∙ w)

  pub too_early : 0 < n → k ≡ 0 → (get_or ts k 0 ≡ t → ⊥) → served child Dynamic held t ≡ refusal 11 (hop child (range held))
  too_early h z ne = outside h (rw (lt-leb (get_or ts 0 0) t (first (rw z at ne))))
    where
      first : (get_or ts 0 0 ≡ t → ⊥) → t < get_or ts 0 0
      first ne = let l = above_at 0 (omega arith) h in omega arith

  pub too_late : 0 < n → k ≡ n → served child Dynamic held t ≡ refusal 11 (hop child (range held))
  too_late h z =
      let l = below_at (n - 1) (omega arith) in
      outside h (rw (lt-leb t (get_or ts (n - 1) 0) l) (and-false (leb (get_or ts 0 0) t)))

  -- between two
  around : (i : ℕ) → k ≡ suc i → k < n → (get_or ts k 0 ≡ t → ⊥)
      → served child Dynamic held t ≡ interpolated (pose_of (drop (7 * i) fs)) (pose_of (drop (7 * k) fs)) (get_or ts i 0) (get_or ts k 0) t
  around i e h ne =
      let l : length held ≡ n = length_samples_of n ts fs in
      let x : ℕ × Isometry = (get_or ts i 0, pose_of (drop (7 * i) fs)) in
      let y : ℕ × Isometry = (get_or ts k 0, pose_of (drop (7 * k) fs)) in
      let a : get_or held i default ≡ x = sample_at n ts fs i default (omega arith) in
      let b : drop (suc i) held ≡ y ∷ drop (suc k) held =
      ap (λ (j : ℕ). drop j held) (sym e) ∙ drop-cons held k default (omega arith) ∙ ap (λ (z : ℕ × Isometry). z ∷ drop (suc k) held) (sample_at n ts fs k default h) in
      let split : held ≡ take i held ++ (x ∷ y ∷ drop (suc k) held) = split_at held i default (omega arith) ∙ (λ j. take i held ++ (a j ∷ b j)) in
      let u = below_at i (omega arith) in
      let v = above_at k (omega arith) h in
      ap (λ (m : Samples). served child Dynamic m t) split
      ∙ served_between child (take i held) x y (drop (suc k) held) t (subst Rising split rises) u (omega arith)

  pub amid : 0 < k → k < n → (get_or ts k 0 ≡ t → ⊥)
      → (r : Reply Isometry) → r ≡ interpolated (pose_of (drop (7 * (k - 1)) fs)) (pose_of (drop (7 * k) fs)) (get_or ts (k - 1) 0) (get_or ts k 0) t → r ≡ served child Dynamic held t
  amid z h ne r e = e ∙ sym (around (k - 1) (omega arith) h ne)

  -- where the interpolation refuses nothing
  pub never_refused : 0 < k → k < n → (a b : Isometry) (r : Reply Isometry) → r ≡ interpolated a b (get_or ts (k - 1) 0) (get_or ts k 0) t → (j : ℕ) (c : Carried) → r ≡ refusal j c → ⊥
  never_refused z h a b r e j c f =
      let u = below_at (k - 1) (omega arith) in
      let v = above_at k (omega arith) h in
      refusal_answer (sym f ∙ e ∙ interpolated_answers a b (get_or ts (k - 1) 0) (get_or ts k 0) t (omega arith) (omega arith))
