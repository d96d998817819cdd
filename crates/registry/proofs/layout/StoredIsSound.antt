-- The words of a sound tree are a sound store.
use Prim.Native.Nat.{ℕ, ◌+◌, ◌-◌, ◌*◌, ◌<◌}
use mathlib.Core.Path.{◌≡◌, refl, sym, ap, ◌∙◌}
use mathlib.Core.Bool.{Bool, true, ◌||◌}
use Rattle.std.specs.Prelude.{Option, None, Some}
use mathlib.Core.List.{List}
use native.Mathlib.Nat.{mul_left_comm}
use native.Mathlib.Omega.{arith}
use lib.Dec.{eqb, leb}
use lib.ListN.{length, get_or, drop, replicate}
use lib.Seq.{drop_at, drop-drop}
use Rattle.time.specs.Float.{zero64}
use Rattle.buffer.specs.declared.kind.Kind.{Kind}
use Rattle.buffer.specs.declared.kind.Kind.TheVariants.{Static, Dynamic}
use Rattle.buffer.specs.Map.{all, rising}
use Rattle.buffer.specs.Row.{is_zero, padded, concat_map, instant_words, pose_words, instants_sound, poses_sound, row_sound}
use Rattle.buffer.proofs.Alls.{all_at, all_replicate}
use Rattle.buffer.specs.Row.{is_zero64}
use Rattle.buffer.proofs.SoundRows.{words_sound}
use Rattle.registry.specs.Tree.{Edge, Tree, Limits}
use Rattle.registry.specs.Store.{kind_word, flag_word, age_word, row_words, encode, age_in, row_word, kind_of_word, row_instants, row_poses, stored, sized}
use Rattle.registry.specs.Sound.{frames_fit, parents_differ, no_circle, sound}
use Rattle.registry.specs.Laws.{InRange, SoundTree, StoredIsSound}
use Rattle.registry.proofs.layout.StoreBack.{age_back, kind_back, Fits, blank, length_blocks, wide_rows, wide_instants, wide_poses, length_head, length_instants, length_poses, word_back, instants_back, poses_back, tree_back}
use Rattle.registry.proofs.soundness.SoundEdges.{samples_sound, sound_fits}
use Rattle.registry.proofs.layout.SizeLaws.{sized_is}
use Rattle.registry.proofs.soundness.Rules.{sound_is}
use Rattle.registry.proofs.soundness.Everys.{every_is}

-- what follows a padded list's own elements
padded_rest : {A : Type 0} (n k : ℕ) (z : A) (xs : List A) (test : A → Bool) → length xs ≡ k → test z ≡ true → all test (drop k (padded n z xs)) ≡ true
padded_rest n k z xs test l h = rw (drop_at xs (replicate (n - length xs) z) k l) (all_replicate test (n - length xs) z h)

module _ (L : Limits) (t : Tree) (range : InRange L.rows L.capacity) (s : SoundTree L t) where
  fits : Fits L t
  fits = sound_fits L t range.positive_capacity s

  pub stored_sized : sized (stored L t) ≡ true
  unfolding stored encode
  stored_sized = (sized_is (stored L t)).1 (record {
    range = range;
    head = length_head L t fits;
    instants = length_instants L t fits;
    poses = length_poses L t fits;
  })

  -- ---- named values

  stored_kind : (r : ℕ) → r < length t → leb (row_word (stored L t) r 2) 1 ≡ true
  stored_kind r l = rw (word_back L t fits r 2 l (omega arith)) (named (get_or t r blank).1.kind)
    where
      named : (k : Kind) → leb (kind_word k) 1 ≡ true
      named Static = refl
      named Dynamic = refl

  stored_flag : leb (flag_word L.age) 1 ≡ true
  stored_flag = named L.age
    where
      named : (age : Option ℕ) → leb (flag_word age) 1 ≡ true
      named None = refl
      named (Some a) = refl

  stored_word : (eqb (flag_word L.age) 1 || eqb (age_word L.age) 0) ≡ true
  stored_word = named L.age
    where
      named : (age : Option ℕ) → (eqb (flag_word age) 1 || eqb (age_word age) 0) ≡ true
      named None = refl
      named (Some a) = refl

  -- ---- rows

  stored_age : age_in (stored L t) ≡ L.age
  unfolding stored encode
  stored_age = age_back L.age

  stored_row : (r : ℕ) → r < length t
      → row_sound (age_in (stored L t)) (kind_of_word (row_word (stored L t) r 2)) (row_word (stored L t) r 3) (row_instants (stored L t) r) (row_poses (stored L t) r) ≡ true
  stored_row r l =
      let x = get_or t r blank in
      let at : (test : ℕ × Edge → Bool) → all test t ≡ true → test x ≡ true = λ test h. (all_at test t blank).0 h r l in
      rw (stored_age, word_back L t fits r 2 l (omega arith), word_back L t fits r 3 l (omega arith), instants_back L t fits r l, poses_back L t fits r l, kind_back x.1.kind)
      (words_sound L.age L.capacity x.1.kind x.1.samples
      (samples_sound L.age L.capacity x.1.kind x.1.samples range.positive_capacity
      (at (λ y. instants_sound L.age L.capacity y.1.kind y.1.samples) s.instants)
      (at (λ y. poses_sound y.1.samples) s.poses)))

  -- ---- the rest

  head_rest_lem : all (eqb 0) (drop (5 + 4 * length t) (stored L t).head) ≡ true
  unfolding stored encode
  head_rest_lem =
      let n = length t in
      let four : length (concat_map row_words t) ≡ 4 * n = omega (arith, length_blocks row_words 4 blank t (wide_rows L t fits)) in
      ap (all (eqb 0)) (sym (drop-drop (4 * n) 5 (stored L t).head)) ∙ padded_rest (4 * L.rows) (4 * n) 0 (concat_map row_words t) (eqb 0) four refl

  instants_rest_lem : all (eqb 0) (drop (length t * L.capacity) (stored L t).instants) ≡ true
  unfolding stored encode
  instants_rest_lem =
      padded_rest (L.rows * L.capacity) (length t * L.capacity) 0 (concat_map (λ x. instant_words L.capacity x.1.samples) t) (eqb 0)
      (length_blocks (λ x. instant_words L.capacity x.1.samples) L.capacity blank t (wide_instants L t fits)) refl

  poses_rest_lem : all is_zero (drop (7 * (length t * L.capacity)) (stored L t).poses) ≡ true
  unfolding stored encode
  poses_rest_lem =
      padded_rest (7 * (L.rows * L.capacity)) (7 * (length t * L.capacity)) zero64 (concat_map (λ x. pose_words L.capacity x.1.samples) t) is_zero
      (length_blocks (λ x. pose_words L.capacity x.1.samples) (7 * L.capacity) blank t (wide_poses L t fits) ∙ mul_left_comm (length t) 7 L.capacity) is_zero64

  pub stored_sound : sound (stored L t) ≡ true
  unfolding stored encode
  stored_sound =
      let back = tree_back L t fits in
      (sound_is (stored L t)).1 (record {
        few = s.few;
        rises = ap rising back ∙ s.rises;
        frames = ap frames_fit back ∙ s.frames;
        parents = ap parents_differ back ∙ s.parents;
        circles = ap no_circle back ∙ s.circles;
        flag = stored_flag;
        age = stored_word;
        kinds = (every_is (λ r. leb (row_word (stored L t) r 2) 1) (length t)).1 stored_kind;
        rows = (every_is _ (length t)).1 stored_row;
        head_rest = head_rest_lem;
        instants_rest = instants_rest_lem;
        poses_rest = poses_rest_lem;
      })

pub stored_is_sound : StoredIsSound
stored_is_sound L t range s = (stored_sized L t range s, stored_sound L t range s)
