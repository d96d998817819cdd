use Prim.Native.Nat.{ℕ}
use mathlib.Core.Path.{◌≡◌, sym, ap, ◌∙◌}
use mathlib.Core.Bool.{true, false}
use mathlib.Core.List.{List}
use lib.Dec.{eqb}
use lib.Ieee.{Float}
use borrow.Author.Tests.{eq-eqb, ne_eqb}
use Rattle.time.specs.Reply.{Reply, frame, refusal}
use Rattle.registry.specs.Tree.{Edge}
use Rattle.registry.specs.Store.{row_at}
use Rattle.registry.specs.Answers.{Value}
use Rattle.registry.specs.Calls.{store_of}
use Rattle.registry.specs.Answers.{told_done}
use Rattle.registry.proofs.Errors.{passed_on}
use Rattle.registry.proofs.addition.Admitting.{held_tested, held_other, held_kind, kind_is}
use Rattle.registry.proofs.addition.Addition.admit_held.Goals as goal

pub returns-in_err-test_pose : goal.returns-in_err-test_pose
returns-in_err-test_pose c =
    let a = c.args.self.now in
    λ L t i p. passed_on told_done c.from_residual.result c.in_err-test_pose.field-0.0 c.from_residual.ensures.1
    ∙ held_tested L t a.child a.parent a.stamp a.pose (row_at (store_of c.args.rows.now.head.now i p) c.args.r).1 c.in_err-test_pose.ensures

pub returns-then-held-from : goal.returns-then-held-from
returns-then-held-from c =
    let a = c.args.self.now in
    let edge : List ℕ → List Float → Edge = λ i p. (row_at (store_of c.args.rows.now.head.now i p) c.args.r).1 in
    let e = c.parent-held.ensures in
    λ L t i p. ap {B = Reply Value} (λ (f : ℕ). refusal 6 (frame f)) e
    ∙ held_other L t a.child a.parent a.stamp a.pose (edge i p) c.in_ok-test_pose.ensures (ne_eqb _ _ (λ q. c.if-held-from.true (e ∙ q ∙ sym c.from.ensures)))

pub returns-then-ne : goal.returns-then-ne
returns-then-ne c =
    let a = c.args.self.now in
    let edge : List ℕ → List Float → Edge = λ i p. (row_at (store_of c.args.rows.now.head.now i p) c.args.r).1 in
    let same_parent : ((i : List ℕ) (p : List Float) → eqb (edge i p).parent a.parent ≡ true) = λ i p. eq-eqb _ _ (sym c.parent-held.ensures ∙ c.if-held-from.false ∙ c.from.ensures) in
    λ L t i p. kind_is _ _ _ _ true c.kind.ensures c.kind-2.ensures (sym c.if-ne.ensures)
    ∙ held_kind L t a.child a.parent a.stamp a.pose (edge i p) c.in_ok-test_pose.ensures (same_parent i p)

pub returns : goal.returns
returns c =
    let a = c.args.self.now in
    let edge : List ℕ → List Float → Edge = λ i p. (row_at (store_of c.args.rows.now.head.now i p) c.args.r).1 in
    let same_parent : ((i : List ℕ) (p : List Float) → eqb (edge i p).parent a.parent ≡ true) = λ i p. eq-eqb _ _ (sym c.parent-held.ensures ∙ c.if-held-from.false ∙ c.from.ensures) in
    λ L t i p. kind_is _ _ _ _ false c.kind.ensures c.kind-2.ensures (sym c.if-ne.ensures)
    ∙ held_kind L t a.child a.parent a.stamp a.pose (edge i p) c.in_ok-test_pose.ensures (same_parent i p)
