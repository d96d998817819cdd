-- The tests of an addition before 17: one of them refuses, or what follows them decides.
use Prim.Native.Nat.{ℕ, ◌<◌}
use mathlib.Core.Path.{◌≡◌, refl, sym, ap, ap₂, ◌∙◌}
use mathlib.Core.Bool.{Bool, true, false, not, ◌&&◌}
use Rattle.std.specs.Prelude.{Option, None, Some}
use native.Mathlib.Omega.{arith}
use lib.Dec.{eqb, leb}
use lib.ListN.{length}
use borrow.Author.Tests.{leb-false}
use Rattle.time.specs.Reply.{Reply, Carried, answer, refusal, nothing, frame, refuse, ◌then◌}
use Rattle.time.proofs.Replies.{refusal_answer}
use Rattle.time.specs.declared.stamp.Stamp.{Stamp}
use Rattle.geometry.specs.declared.isometry.Isometry.{Isometry}
use Rattle.geometry.specs.Transform.{validate}
use denote.Enum.Bare.{sameb}
use Rattle.buffer.specs.contracts.kind.Kind.{the_type}
use Rattle.buffer.specs.declared.kind.Kind.{Kind}
use Rattle.buffer.specs.declared.kind.Kind.TheVariants.{Static, Dynamic}
use Rattle.buffer.specs.Kind.{kind_of}
use Rattle.registry.specs.Tree.{Edge, Tree, Limits, Addition, addition, is_absent, ancestors, member, same_kind, other_parent, current_parent, other_kind}
use Rattle.registry.specs.Answers.{Value, done}
use Rattle.registry.specs.Store.{Store, rows_in, used_in, limits_of, tree_of}
use Rattle.registry.specs.addition.Adding.{pose_tests, admits}
use Rattle.registry.proofs.layout.TreeRows.{length_tree}

-- ---- tests in a row: all pass, or one refuses whatever follows

-- tests answer what follows them, or refuse, as they do before `done`
pub data Decides {A : Type 0} (tried : Reply Value) (next whole : Reply A) : Type 0 where
  pass : tried ≡ answer done → whole ≡ next → Decides tried next whole
  fail : (k : ℕ) (c : Carried) → tried ≡ refusal k c → whole ≡ refusal k c → Decides tried next whole

module _ {A : Type 0} where
  pose_tests_cases : (v : Reply Isometry) (b : Bool) (next : Reply A)
      → Decides (v then λ p. refuse b 5 nothing (answer done)) next (v then λ p. refuse b 5 nothing next)
  pose_tests_cases (refusal k c) b next = fail k c refl refl
  pose_tests_cases (answer q) true next = fail 5 nothing refl refl
  pose_tests_cases (answer q) false next = pass refl refl

  pub pose_tests_decides : (child parent : ℕ) (p : Isometry) (next : Reply A) → Decides (pose_tests child parent p (answer done)) next (pose_tests child parent p next)
  pose_tests_decides child parent p next = pose_tests_cases (validate p) (eqb parent child) next

  admits_cases : (b7 : Bool) (v : Reply Isometry) (b5 b6 b8 b16 : Bool) (d : Carried) (next : Reply A)
      → Decides
      (refuse b7 7 nothing (v then λ p. refuse b5 5 nothing (refuse b6 6 d (refuse b8 8 nothing (refuse b16 16 nothing (answer done))))))
      next
      (refuse b7 7 nothing (v then λ p. refuse b5 5 nothing (refuse b6 6 d (refuse b8 8 nothing (refuse b16 16 nothing next)))))
  admits_cases true v b5 b6 b8 b16 d next = fail 7 nothing refl refl
  admits_cases false (refusal k c) b5 b6 b8 b16 d next = fail k c refl refl
  admits_cases false (answer q) true b6 b8 b16 d next = fail 5 nothing refl refl
  admits_cases false (answer q) false true b8 b16 d next = fail 6 d refl refl
  admits_cases false (answer q) false false true b16 d next = fail 8 nothing refl refl
  admits_cases false (answer q) false false false true d next = fail 16 nothing refl refl
  admits_cases false (answer q) false false false false d next = pass refl refl

  pub admits_decides : (L : Limits) (t : Tree) (a : Addition) (held : Option Edge) (next : Reply A) → Decides (admits L t a held (answer done)) next (admits L t a held next)
  unfolding admits
  admits_decides L t a held next =
      admits_cases (is_absent held && member a.child (ancestors t a.parent)) (validate a.pose) (eqb a.parent a.child) (other_parent held a.parent) (other_kind held (kind_of a.stamp))
      (is_absent held && leb L.rows (length t)) (current_parent held) next

-- ---- what an answer to the tests says of the whole

module _ {A : Type 0} {tried : Reply Value} {next whole : Reply A} where
  pub passed : Decides tried next whole → answer done ≡ tried → whole ≡ next
  passed (pass e f) d = f
  passed (fail k c e f) d = absurd (refusal_answer (sym e ∙ sym d))

  pub failed : Decides tried next whole → {k : ℕ} {c : Carried} → refusal k c ≡ tried → refusal k c ≡ whole
  failed (pass e f) d = absurd (refusal_answer (d ∙ e))
  failed (fail n b e f) {k} {c} d =
      let same : ◌≡◌ {A = Reply Value} (refusal k c) (refusal n b) = d ∙ e in
      let number : k ≡ n = cc in
      let carried : c ≡ b = cc in
      (λ j. refusal (number j) (carried j)) ∙ sym f

-- ---- the tests one by one

-- the test of `==` is that of the tree
same_kind_is : (a b : Kind) → sameb the_type a b ≡ same_kind a b
same_kind_is Static Static = refl
same_kind_is Static Dynamic = refl
same_kind_is Dynamic Static = refl
same_kind_is Dynamic Dynamic = refl

-- 8, by the kinds as code compares them
pub kind_is : (a b x y : Kind) (s : Bool) → a ≡ x → b ≡ y → not (sameb the_type a b) ≡ s
    → refuse {A = Value} s 8 nothing (answer done) ≡ refuse (not (same_kind x y)) 8 nothing (answer done)
kind_is a b x y s p q e =
    ap (λ (z : Bool). refuse {A = Value} z 8 nothing (answer done)) (sym e ∙ ap not (same_kind_is a b ∙ ap₂ same_kind p q))

module _ (L : Limits) (t : Tree) (child parent : ℕ) (stamp : Stamp) (p : Isometry) where
  abbrev a : Addition
  a = addition child parent stamp p

  abbrev tested : Reply Value
  tested = pose_tests child parent p (answer done)

  -- of a child that is held
  module _ (e : Edge) where
    abbrev held : Reply Value
    held = admits L t a (Some e) (answer done)

    abbrev after_pose : Reply Value
    after_pose = refuse (not (eqb e.parent parent)) 6 (frame e.parent) (refuse (not (same_kind e.kind (kind_of stamp))) 8 nothing (answer done))

    held_is : held ≡ pose_tests child parent p after_pose
    unfolding admits
    held_is = refl

    pub held_tested : {k : ℕ} {c : Carried} → refusal k c ≡ tested → refusal k c ≡ held
    held_tested d = failed (pose_tests_decides child parent p after_pose) d ∙ sym held_is

    held_after : answer done ≡ tested → held ≡ after_pose
    held_after d = held_is ∙ passed (pose_tests_decides child parent p after_pose) d

    pub held_other : answer done ≡ tested → eqb e.parent parent ≡ false → refusal 6 (frame e.parent) ≡ held
    held_other d q = sym (held_after d ∙ rw q)

    pub held_kind : answer done ≡ tested → eqb e.parent parent ≡ true → refuse (not (same_kind e.kind (kind_of stamp))) 8 nothing (answer done) ≡ held
    held_kind d q = sym (held_after d ∙ rw q)

  -- of a new child
  abbrev new : Reply Value
  new = admits L t a None (answer done)

  pub new_circle : member child (ancestors t parent) ≡ true → refusal 7 nothing ≡ new
  unfolding admits
  new_circle q = rw q

  module _ (q : member child (ancestors t parent) ≡ false) where
    abbrev after_tested : Reply Value
    after_tested = refuse (leb L.rows (length t)) 16 nothing (answer done)

    new_is : new ≡ pose_tests child parent p after_tested
    unfolding admits
    new_is = rw q

    pub new_tested : {k : ℕ} {c : Carried} → refusal k c ≡ tested → refusal k c ≡ new
    new_tested d = failed (pose_tests_decides child parent p after_tested) d ∙ sym new_is

    pub new_room : answer done ≡ tested → after_tested ≡ new
    new_room d = sym (new_is ∙ passed (pose_tests_decides child parent p after_tested) d)

-- 16, by the head's words
pub room_is : (s : Store) (b : Bool) → leb (rows_in s) (used_in s) ≡ b
    → refuse {A = Value} (leb (limits_of s).rows (length (tree_of s))) 16 nothing (answer done) ≡ refuse b 16 nothing (answer done)
unfolding limits_of
room_is s b q = ap (λ (x : Bool). refuse {A = Value} x 16 nothing (answer done)) (ap (leb (rows_in s)) (length_tree s) ∙ q)

room_cases : (b7 : Bool) (v : Reply Isometry) (b5 b16 : Bool)
    → answer done ≡ refuse b7 7 nothing (v then λ p. refuse b5 5 nothing (refuse b16 16 nothing (answer done))) → b16 ≡ false
room_cases true v b5 b16 e = absurd (refusal_answer (sym e))
room_cases false (refusal k c) b5 b16 e = absurd (refusal_answer (sym e))
room_cases false (answer q) true b16 e = absurd (refusal_answer (sym e))
room_cases false (answer q) false true e = absurd (refusal_answer (sym e))
room_cases false (answer q) false false e = refl

-- a new child that is admitted has room
pub admits_room : (s : Store) (a : Addition) → answer done ≡ admits (limits_of s) (tree_of s) a None (answer done) → used_in s < rows_in s
unfolding admits limits_of
admits_room s a e =
    let q : leb (rows_in s) (length (tree_of s)) ≡ false = room_cases (member a.child (ancestors (tree_of s) a.parent)) (validate a.pose) (eqb a.parent a.child) _ e in
    let l = leb-false (rows_in s) (length (tree_of s)) q in
    let n = length_tree s in
    omega arith
