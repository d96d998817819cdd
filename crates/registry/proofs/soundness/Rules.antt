-- What `sound` says of a store, clause by clause.
use Prim.Native.Nat.{◌≤◌}
use mathlib.Core.Path.{◌≡◌}
use mathlib.Core.Logic.{◌↔◌}
use mathlib.Core.Bool.{true, ◌||◌}
use lib.Dec.{eqb, leb}
use borrow.Author.Tests.{leb-true, le-leb}
use Rattle.buffer.specs.Map.{all, rising}
use Rattle.buffer.specs.Row.{is_zero}
use Rattle.buffer.proofs.Cases.{and_both}
use Rattle.registry.specs.Store.{Store, rows_in, used_in, flag_in, age_word_in, kind_in, unused_head, unused_instants, unused_poses, tree_of}
use Rattle.registry.specs.Sound.{every, frames_fit, parents_differ, no_circle, rows_sound, sound}
use Rattle.registry.proofs.soundness.Everys.{and_parts}

pub record Rules (s : Store) : Type 0 where
  pub few : used_in s ≤ rows_in s
  pub rises : rising (tree_of s) ≡ true
  pub frames : frames_fit (tree_of s) ≡ true
  pub parents : parents_differ (tree_of s) ≡ true
  pub circles : no_circle (tree_of s) ≡ true
  pub flag : leb (flag_in s) 1 ≡ true
  pub age : (eqb (flag_in s) 1 || eqb (age_word_in s) 0) ≡ true
  pub kinds : every (used_in s) (λ r. leb (kind_in s r) 1) ≡ true
  pub rows : rows_sound s ≡ true
  pub head_rest : all (eqb 0) (unused_head s) ≡ true
  pub instants_rest : all (eqb 0) (unused_instants s) ≡ true
  pub poses_rest : all is_zero (unused_poses s) ≡ true

module _ (s : Store) where
  rules_of : sound s ≡ true → Rules s
  unfolding sound
  rules_of h =
      let h7 = and_parts _ _ h in
      let h6 = and_parts _ _ h7.0 in
      let h5 = and_parts _ _ h6.0 in
      let h4 = and_parts _ _ h5.0 in
      let h3 = and_parts _ _ h4.0 in
      let h2 = and_parts _ _ h3.0 in
      let h1 = and_parts _ _ h2.0 in
      let named = and_parts _ _ h5.1 in
      let flag = and_parts _ _ named.0 in
      let zeros = and_parts _ _ h7.1 in
      let words = and_parts _ _ zeros.0 in
      record {
        few = leb-true (used_in s) (rows_in s) h1.0;
        rises = h1.1;
        frames = h2.1;
        parents = h3.1;
        circles = h4.1;
        flag = flag.0;
        age = flag.1;
        kinds = named.1;
        rows = h6.1;
        head_rest = words.0;
        instants_rest = words.1;
        poses_rest = zeros.1;
      }

  of_rules : Rules s → sound s ≡ true
  unfolding sound
  of_rules k =
      and_both _ _
      (and_both _ _
      (and_both _ _
      (and_both _ _
      (and_both _ _ (and_both _ _ (and_both _ _ (le-leb (used_in s) (rows_in s) k.few) k.rises) k.frames) k.parents)
      k.circles)
      (and_both _ _ (and_both _ _ k.flag k.age) k.kinds))
      k.rows)
      (and_both _ _ (and_both _ _ k.head_rest k.instants_rest) k.poses_rest)

  pub sound_is : (sound s ≡ true) ↔ Rules s
  sound_is = (rules_of, of_rules)
