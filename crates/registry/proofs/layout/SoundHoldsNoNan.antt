-- No float of a sound store is a NaN: a held pose is finite, and the others are zero by their bits.
use Prim.Native.Nat.{ℕ, ◌*◌, ◌≤◌, ◌<◌}
use mathlib.Core.Path.{◌≡◌, refl, sym, ap, ◌∙◌}
use mathlib.Core.Bool.{Bool, true, not, ◌&&◌, and_assoc, and-true}
use mathlib.Core.List.{List, [], ◌∷◌}
use native.Mathlib.Nat.{mul_left_comm}
use native.Mathlib.Omega.{arith}
use lib.ListN.{length, take, drop, take-append-drop}
use lib.Dec.{eqb}
use lib.Ieee.{Float, nan, inf, fin, to_bits, is_nan}
use lib.Ieee.Scale.{finite}
use Rattle.time.specs.Reply.{Carried, nothing, Reply, refusal}
use Rattle.geometry.specs.declared.isometry.Isometry.{Isometry}
use Rattle.geometry.specs.Vector3 as vector
use Rattle.geometry.specs.Quaternion as quaternion
use Rattle.geometry.specs.Transform.{validate, is_valid}
use Rattle.buffer.specs.Map.{all}
use Rattle.buffer.specs.Samples.{Samples}
use Rattle.buffer.specs.Row.{floats, concat_map, samples_of, poses_sound, is_zero}
use Rattle.buffer.proofs.Cases.{both, false_true, and_both, and_right}
use Rattle.buffer.proofs.Alls.{all_append, all_weaken}
use Rattle.buffer.proofs.RowBack.{poses_of, held_poses}
use Rattle.registry.specs.Tree.{Tree, Limits, add, wipe}
use Rattle.registry.specs.Store.{Store, poses_length, rows_in, capacity_in, used_in, limits_of, count_in, row_instants, row_poses, tabulate, sized}
use Rattle.registry.specs.Sound.{sound}
use Rattle.registry.specs.Answers.{Value}
use Rattle.registry.specs.Calls.{written, on_tree, add_of, wipe_of}
use Rattle.registry.specs.Laws.{no_nan, SoundHoldsNoNan, ExactRefusals}
use Rattle.registry.proofs.layout.SizeLaws.{Sizes, sized_is}
use Rattle.registry.proofs.layout.Blocks.{blocks_split}
use Rattle.registry.proofs.layout.RowParts.{instants_long, poses_long}
use Rattle.registry.proofs.layout.StoreRows.{row_part, row_sound_lem}
use Rattle.registry.proofs.soundness.Rules.{Rules, sound_is}
use Rattle.registry.proofs.soundness.Everys.{and_parts, all_tabulate}

abbrev a_number : Float → Bool
a_number x = not (is_nan x)

-- ---- one float

zero_number : (x : Float) → is_zero x ≡ true → a_number x ≡ true
unfolding to_bits is_nan
zero_number nan h = absurd (false_true h)
zero_number (inf s) h = refl
zero_number (fin s m e) h = refl

finite_number : (x : Float) → finite x ≡ true → a_number x ≡ true
unfolding is_nan
finite_number nan h = absurd (false_true h)
finite_number (inf s) h = refl
finite_number (fin s m e) h = refl

-- ---- held poses

-- the first test of `validate`
all_finite : (p : Isometry) → is_valid p ≡ true → (vector.is_finite p.translation && quaternion.is_finite p.rotation) ≡ true
unfolding validate
all_finite p h = both _ (λ e. e) (λ e. absurd (false_true (rw e at h)))

valid_numbers : (p : Isometry) → is_valid p ≡ true → all a_number (floats p) ≡ true
valid_numbers p h = all_weaken finite a_number (floats p) finite_number (simp and-true (simp and_assoc at (all_finite p h)))

held_numbers : (m : Samples) → poses_sound m ≡ true → all a_number (poses_of m) ≡ true
held_numbers [] h = refl
held_numbers (x ∷ m) h =
    let q = and_parts _ _ h in
    all_append a_number (floats x.1) (poses_of m) ∙ and_both _ _ (valid_numbers x.1 q.0) (held_numbers m q.1)

-- ---- parts of a list

module _ {A : Type 0} (test : A → Bool) where
  -- a list's first k and its rest
  all_split : (k : ℕ) (l : List A) → all test (take k l) ≡ true → all test (drop k l) ≡ true → all test l ≡ true
  all_split k l p q = ap (all test) (sym (take-append-drop k l)) ∙ all_append test (take k l) (drop k l) ∙ and_both _ _ p q

  all_concat : (ls : List (List A)) → all (all test) ls ≡ true → all test (concat_map (λ l. l) ls) ≡ true
  all_concat [] h = refl
  all_concat (l ∷ ls) h =
      let q = and_parts (all test l) (all (all test) ls) h in
      all_append test l (concat_map (λ l. l) ls) ∙ and_both _ _ q.0 (all_concat ls q.1)

  -- n blocks of one width and the rest
  all_blocks : (w n : ℕ) (l : List A) → ((r : ℕ) → r < n → all test (take w (drop (r * w) l)) ≡ true) → all test (drop (n * w) l) ≡ true → all test l ≡ true
  all_blocks w n l p q =
      let block : ℕ → List A = λ r. take w (drop (r * w) l) in
      ap (all test) (sym (blocks_split (λ b. b) w n block l (λ r k. refl)))
      ∙ all_append test (concat_map (λ b. b) (tabulate n block)) (drop (n * w) l)
      ∙ and_both _ _ (all_concat (tabulate n block) (all_tabulate (all test) n block p)) q

-- ---- a store

module _ (s : Store) (z : Sizes (rows_in s) (capacity_in s) s) (k : Rules s) where
  row_numbers : (r : ℕ) → r < used_in s → all a_number (row_poses s r) ≡ true
  row_numbers r l =
      let x = row_sound_lem s z k r l in
      let n = count_in s r in
      let fits : 7 * n ≤ length (row_poses s r) = let a = x.fits in let b = instants_long s r (row_part s z k r l) in let c = poses_long s r (row_part s z k r l) in omega arith in
      all_split a_number (7 * n) (row_poses s r)
      (ap (all a_number) (sym (held_poses n (row_instants s r) (row_poses s r) fits)) ∙ held_numbers (samples_of n (row_instants s r) (row_poses s r)) x.samples.valid)
      (all_weaken is_zero a_number (drop (7 * n) (row_poses s r)) zero_number (and_right (all (eqb 0) (drop n (row_instants s r))) _ x.unused))

  store_numbers : no_nan s ≡ true
  store_numbers =
      let n = used_in s in
      let S = capacity_in s in
      all_blocks a_number (7 * S) n s.poses
      (λ r l. rw (mul_left_comm r 7 S) (row_numbers r l))
      (rw (mul_left_comm n 7 S) (all_weaken is_zero a_number (drop (poses_length n S) s.poses) zero_number k.poses_rest))

pub sound_holds_no_nan : SoundHoldsNoNan
sound_holds_no_nan s sizes rules = store_numbers s ((sized_is s).0 sizes) ((sound_is s).0 rules)

-- ---- calls that write

-- where a call on a tree is refused with a number other than 1 and 2, the store is sized and sound
other_refusal : (s : Store) (call : Limits → Tree → Reply Tree) (k : ℕ) (c : Carried) → (written s (limits_of s) (on_tree s call)).reply ≡ refusal k c
    → (k ≡ 1 → ⊥) → (k ≡ 2 → ⊥) → no_nan s ≡ true
unfolding on_tree
other_refusal s call k c e n1 n2 =
    both (sized s)
    (λ p. both (sound s) (λ q. sound_holds_no_nan s p q) (λ q. absurd (n2 (number 2 (rw (p, q) at e)))))
    (λ p. absurd (n1 (number 1 (rw p at e))))
  where
    number : (n : ℕ) → ◌≡◌ {A = Reply Value} (refusal n nothing) (refusal k c) → k ≡ n
    number n z = cc

pub exact_refusals : ExactRefusals
unfolding add_of wipe_of
exact_refusals = record {
  adds = λ s a. other_refusal s (λ L t. add L t a);
  wipes = λ s f i. other_refusal s (λ L t. wipe t f i);
}
