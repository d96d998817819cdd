use Prim.Native.Nat.{ℕ}
use mathlib.Core.Path.{◌≡◌, sym, ◌∙◌}
use mathlib.Core.Bool.{true, false}
use mathlib.Core.List.{List}
use lib.Ieee.{Float}
use native.Mathlib.Omega.{arith}
use borrow.Author.Tests.{le-leb, lt-leb}
use Rattle.registry.specs.Tree.{ancestors, member}
use Rattle.registry.specs.Store.{Store, rows_in, used_in, limits_of, tree_of}
use Rattle.registry.specs.Calls.{store_of}
use Rattle.registry.specs.Answers.{told_done}
use Rattle.registry.proofs.Errors.{passed_on}
use Rattle.registry.proofs.addition.Admitting.{new_circle, new_tested, new_room, room_is}
use Rattle.registry.proofs.addition.Addition.admit_new.Goals as goal

pub returns-then-creates_cycle : goal.returns-then-creates_cycle
returns-then-creates_cycle c =
    let a = c.args.self.now in
    let s : List ℕ → List Float → Store = λ i p. store_of c.args.rows.now.head.now i p in
    let circle : ((i : List ℕ) (p : List Float) → member a.child (ancestors (tree_of (s i p)) a.parent) ≡ true) = λ i p. sym (λ j. member (c.from.ensures j) (ancestors (tree_of (s i p)) (c.from-2.ensures j))) ∙ sym (c.creates_cycle.ensures i p) ∙ c.if-creates_cycle.true in
    λ i p. new_circle (limits_of (s i p)) (tree_of (s i p)) a.child a.parent a.stamp a.pose (circle i p)

pub returns-in_err-test_pose : goal.returns-in_err-test_pose
returns-in_err-test_pose c =
    let a = c.args.self.now in
    let s : List ℕ → List Float → Store = λ i p. store_of c.args.rows.now.head.now i p in
    let none : ((i : List ℕ) (p : List Float) → member a.child (ancestors (tree_of (s i p)) a.parent) ≡ false) = λ i p. sym (λ j. member (c.from.ensures j) (ancestors (tree_of (s i p)) (c.from-2.ensures j))) ∙ sym (c.creates_cycle.ensures i p) ∙ c.if-creates_cycle.false in
    λ i p. passed_on told_done c.from_residual.result c.in_err-test_pose.field-0.0 c.from_residual.ensures.1
    ∙ new_tested (limits_of (s i p)) (tree_of (s i p)) a.child a.parent a.stamp a.pose (none i p) c.in_err-test_pose.ensures

pub returns-then-rows-used : goal.returns-then-rows-used
returns-then-rows-used c =
    let a = c.args.self.now in
    let s : List ℕ → List Float → Store = λ i p. store_of c.args.rows.now.head.now i p in
    let none : ((i : List ℕ) (p : List Float) → member a.child (ancestors (tree_of (s i p)) a.parent) ≡ false) = λ i p. sym (λ j. member (c.from.ensures j) (ancestors (tree_of (s i p)) (c.from-2.ensures j))) ∙ sym (c.creates_cycle.ensures i p) ∙ c.if-creates_cycle.false in
    λ i p. sym (room_is (s i p) _ (le-leb (rows_in (s i p)) (used_in (s i p)) (omega (arith, c.if-rows-used.true, c.used.ensures, (rw c.head.ensures at c.rows.ensures)))))
    ∙ new_room (limits_of (s i p)) (tree_of (s i p)) a.child a.parent a.stamp a.pose (none i p) c.in_ok-test_pose.ensures

pub returns : goal.returns
returns c =
    let a = c.args.self.now in
    let s : List ℕ → List Float → Store = λ i p. store_of c.args.rows.now.head.now i p in
    let none : ((i : List ℕ) (p : List Float) → member a.child (ancestors (tree_of (s i p)) a.parent) ≡ false) = λ i p. sym (λ j. member (c.from.ensures j) (ancestors (tree_of (s i p)) (c.from-2.ensures j))) ∙ sym (c.creates_cycle.ensures i p) ∙ c.if-creates_cycle.false in
    λ i p. sym (room_is (s i p) _ (lt-leb (rows_in (s i p)) (used_in (s i p)) (omega (arith, c.if-rows-used.false, c.used.ensures, (rw c.head.ensures at c.rows.ensures)))))
    ∙ new_room (limits_of (s i p)) (tree_of (s i p)) a.child a.parent a.stamp a.pose (none i p) c.in_ok-test_pose.ensures
