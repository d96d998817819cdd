-- The clauses of a row's soundness as the code tests them.
use Prim.Native.Nat.{ℕ, zero, suc, ◌-◌, ◌≤◌}
use mathlib.Core.Path.{◌≡◌, refl, sym, ap, ◌∙◌}
use mathlib.Core.Bool.{true, false, ◌&&◌, and-false}
use Rattle.std.specs.Prelude.{Option, None, Some}
use Rattle.std.specs.List.{list_all}
use Rattle.std.specs.Simd.{first_chunks}
use mathlib.Core.List.{List, [], ◌∷◌}
use native.Mathlib.Omega.{arith}
use lib.Dec.{eqb, leb}
use lib.Ieee.{Float}
use lib.ListN.{length, take, drop}
use borrow.Author.Tests.{leb-true, leb-false, le-leb, lt-leb, ne_eqb}
use Rattle.geometry.specs.Transform.{is_valid}
use Rattle.buffer.specs.Map.{all, ascending, rising}
use Rattle.buffer.specs.Samples.{Samples, newest, survives, range}
use Rattle.buffer.specs.declared.kind.Kind.TheVariants.{Static, Dynamic}
use Rattle.buffer.specs.Row.{pose_of, instants_sound, poses_sound, samples_of}
use Rattle.buffer.proofs.Cases.{both, none_some}
use Rattle.buffer.proofs.Maps.{Rising}
use Rattle.buffer.proofs.SampleLaws.{fresh_first}
use Rattle.buffer.proofs.RangeLaws.{range_parts}
use Rattle.buffer.proofs.RowBack.{held_instants, length_samples_of}
use Rattle.buffer.proofs.RowWords.{pose_front}

-- ---- instants

pub rising_words : (n : ℕ) (ts : List ℕ) (fs : List Float) → n ≤ length ts → rising (samples_of n ts fs) ≡ ascending (take n ts)
rising_words n ts fs h = ap ascending (held_instants n ts fs h)

pub all_survive : (k : ℕ) (m : Samples) → all (λ x. survives None k x.0) m ≡ true
all_survive k [] = refl
all_survive k (x ∷ m) = all_survive k m

age_test : (age first last : ℕ) → first ≤ last → leb (last - first) age ≡ leb (last - age) first
age_test age first last h =
    both (leb (last - first) age)
    (λ e. let l = leb-true (last - first) age e in e ∙ sym (le-leb (last - age) first (omega arith)))
    (λ e. let l = leb-false (last - first) age e in e ∙ sym (lt-leb (last - age) first (omega arith)))

pub range_up : (m : Samples) (first last : ℕ) → range m ≡ Some (first, last) → first ≤ last
range_up [] first last e = absurd (none_some e)
range_up (x ∷ m) first last e = let ends = range_parts x m first last e in omega arith

-- where the first survives, all do
pub range_fresh : (age : ℕ) (m : Samples) (first last : ℕ) → Rising m → range m ≡ Some (first, last)
    → leb (last - first) age ≡ all (λ x. survives (Some age) (newest m) x.0) m
range_fresh age [] first last r e = absurd (none_some e)
range_fresh age (x ∷ m) first last r e =
    let ends = range_parts x m first last e in
    age_test age first last (range_up (x ∷ m) first last e)
    ∙ (λ i. survives (Some age) (sym ends.1 i) (sym ends.0 i))
    ∙ both (survives (Some age) (newest (x ∷ m)) x.0)
    (λ t. t ∙ sym (fresh_first (Some age) x m r t))
    (λ f. rw f)

module _ (age : Option ℕ) (n : ℕ) (ts : List ℕ) (fs : List Float) where
  pub static_others : (n ≡ 1 → ⊥) → eqb n 1 ≡ instants_sound age (length ts) Static (samples_of n ts fs)
  static_others h = rw (length_samples_of n ts fs, ne_eqb n 1 h)

  pub not_rising : n ≤ length ts → ascending (take n ts) ≡ false → false ≡ instants_sound age (length ts) Dynamic (samples_of n ts fs)
  not_rising h e = rw (rising_words n ts fs h, e, and-false (leb (length (samples_of n ts fs)) (length ts)))

  pub when_rising : n ≤ length ts → ascending (take n ts) ≡ true
      → all (λ x. survives age (newest (samples_of n ts fs)) x.0) (samples_of n ts fs) ≡ instants_sound age (length ts) Dynamic (samples_of n ts fs)
  when_rising h e = rw (length_samples_of n ts fs, le-leb n (length ts) h, rising_words n ts fs h, e)

-- ---- poses

-- the first n of m, as the code tests them
pub poses_tested : (n m : ℕ) (ts : List ℕ) (fs : List Float) → n ≤ m
    → list_all (λ c. is_valid (pose_of c)) (take n (first_chunks 7 m fs)) ≡ poses_sound (samples_of n ts fs)
poses_tested zero m ts fs h = refl
poses_tested (suc n) zero ts fs h = absurd (omega arith)
poses_tested (suc n) (suc m) ts fs h = λ i. is_valid (pose_front fs i) && poses_tested n m (drop 1 ts) (drop 7 fs) (omega arith) i
