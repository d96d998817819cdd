-- A sound store is the words of the tree that it holds, and that tree is sound.
use Prim.Native.Nat.{ℕ, zero, suc, ◌+◌, ◌*◌, ◌≤◌, ◌<◌}
use mathlib.Core.Path.{◌≡◌, refl, sym, ap, ◌∙◌}
use mathlib.Core.Bool.{true, ◌||◌}
use mathlib.Core.List.{List, [], ◌∷◌}
use native.Mathlib.Nat.{mul_left_comm}
use native.Mathlib.Omega.{arith}
use lib.Dec.{eqb, leb}
use lib.ListN.{length, get_or, take, drop, replicate, length-drop}
use lib.Seq.{get_or-drop, drop-drop}
use borrow.Author.Tests.{leb-true, eqb-true}
use Rattle.time.specs.Float.{zero64}
use Rattle.buffer.specs.Map.{all}
use Rattle.buffer.specs.Row.{padded, concat_map, instant_words, pose_words, instants_sound, poses_sound, FloatsFit}
use Rattle.buffer.proofs.Alls.{all_only}
use Rattle.buffer.proofs.Floats.{fit_drop, fit_take, zeros}
use Rattle.buffer.proofs.RowBack.{length_samples_of, instants_are, poses_are}
use Rattle.registry.specs.Tree.{Edge}
use Rattle.registry.specs.Store.{Store, kind_word, flag_word, age_word, row_words, encode, rows_in, capacity_in, used_in, age_of, age_in, limits_of, row_word, kind_of_word, row_instants, row_poses, row_at, tabulate, tree_of, stored}
use Rattle.registry.specs.Laws.{SoundTree, SoundIsStored}
use Rattle.registry.proofs.layout.SizeLaws.{Sizes, sized_is}
use Rattle.registry.proofs.soundness.Rules.{Rules, sound_is}
use Rattle.registry.proofs.soundness.Everys.{every_is, length_tabulate, all_tabulate}
use Rattle.registry.proofs.layout.RowLaws.{seven_floats}
use Rattle.registry.proofs.layout.RowParts.{instants_long}
use Rattle.registry.proofs.layout.StoreRows.{row_part, row_sound_lem, row_instants_lem}
use Rattle.registry.proofs.layout.Blocks.{blocks_padded}

-- ---- single words

kind_word_lem : (k : ℕ) → leb k 1 ≡ true → kind_word (kind_of_word k) ≡ k
kind_word_lem zero h = refl
kind_word_lem (suc k) h = let l = leb-true (suc k) 1 h in omega arith

flag_word_lem : (flag age : ℕ) → leb flag 1 ≡ true → flag_word (age_of flag age) ≡ flag
flag_word_lem zero age h = refl
flag_word_lem (suc flag) age h = let l = leb-true (suc flag) 1 h in omega arith

age_word_lem : (flag age : ℕ) → (eqb flag 1 || eqb age 0) ≡ true → age_word (age_of flag age) ≡ age
age_word_lem zero age h = sym (eqb-true age 0 h)
age_word_lem (suc flag) age h = refl

four_words : (l : List ℕ) → 4 ≤ length l → take 4 l ≡ get_or l 0 0 ∷ get_or l 1 0 ∷ get_or l 2 0 ∷ get_or l 3 0 ∷ []
four_words [] h = absurd (omega arith)
four_words (a ∷ []) h = absurd (omega arith)
four_words (a ∷ b ∷ []) h = absurd (omega arith)
four_words (a ∷ b ∷ c ∷ []) h = absurd (omega arith)
four_words (a ∷ b ∷ c ∷ d ∷ l) h = refl

five_words : (l : List ℕ) → 5 ≤ length l → l ≡ get_or l 0 0 ∷ get_or l 1 0 ∷ get_or l 2 0 ∷ get_or l 3 0 ∷ get_or l 4 0 ∷ drop 5 l
five_words [] h = absurd (omega arith)
five_words (a ∷ []) h = absurd (omega arith)
five_words (a ∷ b ∷ []) h = absurd (omega arith)
five_words (a ∷ b ∷ c ∷ []) h = absurd (omega arith)
five_words (a ∷ b ∷ c ∷ d ∷ []) h = absurd (omega arith)
five_words (a ∷ b ∷ c ∷ d ∷ e ∷ l) h = refl

zero_words : (l : List ℕ) → all (eqb 0) l ≡ true → l ≡ replicate (length l) 0
zero_words l h = all_only (eqb 0) 0 l (λ x e. sym (eqb-true 0 x e)) h

-- ---- the tree

module _ (s : Store) (z : Sizes (rows_in s) (capacity_in s) s) (k : Rules s) where
  pub sound_tree : SoundTree (limits_of s) (tree_of s)
  unfolding limits_of tree_of
  sound_tree = record {
    few = rw (length_tabulate (used_in s) (row_at s)) k.few;
    rises = k.rises;
    frames = k.frames;
    parents = k.parents;
    circles = k.circles;
    instants = all_tabulate (λ x. instants_sound (age_in s) (capacity_in s) x.1.kind x.1.samples) (used_in s) (row_at s) (row_instants_lem s z k);
    poses = all_tabulate (λ x. poses_sound x.1.samples) (used_in s) (row_at s) (λ r l. (row_sound_lem s z k r l).samples.valid);
  }

  -- ---- the words

  word_is : (r j : ℕ) → get_or (drop (r * 4) (drop 5 s.head)) j 0 ≡ row_word s r j
  word_is r j =
      let e : 5 + (r * 4 + j) ≡ 5 + 4 * r + j = omega arith in
      get_or-drop (r * 4) (drop 5 s.head) j 0 ∙ get_or-drop 5 s.head (r * 4 + j) 0 ∙ ap (λ (n : ℕ). get_or s.head n 0) e

  rest_long : length (drop 5 s.head) ≡ 4 * rows_in s
  rest_long = length-drop 5 s.head ∙ (let n = z.head in omega arith)

  row_words_lem : (r : ℕ) → r < used_in s → row_words (row_at s r) ≡ take 4 (drop (r * 4) (drop 5 s.head))
  row_words_lem r l =
      let named = (every_is (λ r. leb (row_word s r 2) 1) (used_in s)).0 k.kinds r l in
      let kind = kind_word_lem (row_word s r 2) named in
      let count = length_samples_of (row_word s r 3) (row_instants s r) (row_poses s r) in
      let long : 4 ≤ length (drop (r * 4) (drop 5 s.head)) = rw (length-drop (r * 4) (drop 5 s.head), rest_long) (let f = k.few in omega arith) in
      (λ i. sym (word_is r 0) i ∷ sym (word_is r 1) i ∷ (kind ∙ sym (word_is r 2)) i ∷ (count ∙ sym (word_is r 3)) i ∷ [])
      ∙ sym (four_words (drop (r * 4) (drop 5 s.head)) long)

  rest_is : drop 5 s.head ≡ padded (4 * rows_in s) 0 (concat_map row_words (tabulate (used_in s) (row_at s)))
  rest_is =
      let n = used_in s in
      let e : drop (n * 4) (drop 5 s.head) ≡ drop (5 + 4 * n) s.head = drop-drop (n * 4) 5 s.head ∙ ap (λ (j : ℕ). drop j s.head) (let q : 5 + n * 4 ≡ 5 + 4 * n = omega arith in q) in
      blocks_padded row_words 4 n (row_at s) 0 (drop 5 s.head) row_words_lem
      (zero_words _ (ap (all (eqb 0)) e ∙ k.head_rest))
      ∙ ap (λ (j : ℕ). padded j 0 (concat_map row_words (tabulate n (row_at s)))) rest_long

  head_is : s.head ≡ (stored (limits_of s) (tree_of s)).head
  unfolding stored encode limits_of tree_of
  head_is =
      let flag = get_or s.head 3 0 in
      let age = get_or s.head 4 0 in
      let flag_is = flag_word_lem flag age k.flag in
      let age-is = age_word_lem flag age k.age in
      five_words s.head (let n = z.head in omega arith)
      ∙ (λ i. rows_in s ∷ capacity_in s ∷ sym (length_tabulate (used_in s) (row_at s)) i ∷ sym flag_is i ∷ sym age-is i ∷ rest_is i)

  instants_is : s.instants ≡ (stored (limits_of s) (tree_of s)).instants
  unfolding stored encode limits_of tree_of
  instants_is =
      blocks_padded (λ x. instant_words (capacity_in s) x.1.samples) (capacity_in s) (used_in s) (row_at s) 0 s.instants row
      (zero_words _ k.instants_rest)
      ∙ ap (λ (n : ℕ). padded n 0 (concat_map (λ (x : ℕ × Edge). instant_words (capacity_in s) x.1.samples) (tabulate (used_in s) (row_at s)))) z.instants
    where
      row : (r : ℕ) → r < used_in s → instant_words (capacity_in s) (row_at s r).1.samples ≡ row_instants s r
      row r l =
          let x = row_sound_lem s z k r l in
          ap (λ (n : ℕ). instant_words n (row_at s r).1.samples) (sym (instants_long s r (row_part s z k r l)))
          ∙ sym (instants_are (row_word s r 3) (row_instants s r) (row_poses s r) x.fits x.unused)

  poses_is : FloatsFit s.poses → s.poses ≡ (stored (limits_of s) (tree_of s)).poses
  unfolding stored encode limits_of tree_of
  poses_is fit =
      let n = used_in s in
      let e : n * (7 * capacity_in s) ≡ 7 * (n * capacity_in s) = mul_left_comm n 7 (capacity_in s) in
      blocks_padded (λ x. pose_words (capacity_in s) x.1.samples) (7 * capacity_in s) n (row_at s) zero64 s.poses row
      (rw e (zeros (drop (7 * (n * capacity_in s)) s.poses) (fit_drop (7 * (n * capacity_in s)) s.poses fit) k.poses_rest))
      ∙ ap (λ (j : ℕ). padded j zero64 (concat_map (λ (x : ℕ × Edge). pose_words (capacity_in s) x.1.samples) (tabulate n (row_at s)))) z.poses
    where
      row : (r : ℕ) → r < used_in s → pose_words (capacity_in s) (row_at s r).1.samples ≡ take (7 * capacity_in s) (drop (r * (7 * capacity_in s)) s.poses)
      row r l =
          let x = row_sound_lem s z k r l in
          rw (mul_left_comm r 7 (capacity_in s))
          (ap (λ (n : ℕ). pose_words n (row_at s r).1.samples) (sym (instants_long s r (row_part s z k r l)))
          ∙ sym (poses_are (row_word s r 3) (row_instants s r) (row_poses s r) x.fits x.unused (seven_floats s r (row_part s z k r l))
          (fit_take (7 * capacity_in s) (drop (7 * (r * capacity_in s)) s.poses) (fit_drop (7 * (r * capacity_in s)) s.poses fit))))

pub sound_is_stored : SoundIsStored
sound_is_stored s fit sizes rules =
    let z = (sized_is s).0 sizes in
    let k = (sound_is s).0 rules in (
      λ i. record { head = head_is s z k i; instants = instants_is s z k i; poses = poses_is s z k fit i },
      sound_tree s z k,
    )
