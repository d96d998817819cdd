use Prim.Native.Nat.{ℕ, ◌≤◌}
use mathlib.Core.Path.{◌≡◌, sym, ap, ◌∙◌}
use mathlib.Core.Bool.{true}
use mathlib.Core.List.{List}
use native.Mathlib.Omega.{arith}
use Rattle.buffer.proofs.Cases.{false_true}
use Rattle.buffer.specs.Map.{rising}
use Rattle.registry.specs.Store.{rows_in, used_in, tree_of}
use Rattle.registry.specs.Sound.{no_circle}
use Rattle.registry.specs.Calls.{store_of}
use Rattle.registry.specs.layout.Rows.{head_of}
use Rattle.registry.proofs.soundness.HeadTests.{not_fitting, not_named, circle_decides}
use Rattle.registry.proofs.layout.head.Head.is_sound.Goals as goal
use Rattle.registry.proofs.layout.head.Head.is_sound.Goals.{then-rows_fit, else-rows_fit}

pub returns-then-age_named : goal.returns-then-age_named
returns-then-age_named c i p =
    let few : (let h = head_of c.args.self.now.words.now in used_in h ≤ rows_in h) = omega (arith, c.if-rows-used.false, c.used.ensures, c.rows.ensures) in
    let rises : rising (tree_of (store_of c.args.self.now.words.now i p)) ≡ true = sym (c.in-Some.ensures.rises i p) in
    c.has_no_circle.ensures i p
    ∙ ap (λ (h : List ℕ). no_circle (tree_of (store_of h i p))) c.in-Some.ensures.same
    ∙ elim c.if-rows_fit.branch [
      | then-rows_fit w ↦ circle_decides (store_of c.args.self.now.words.now i p) few rises
          (sym c.rows_fit.ensures ∙ w.if-rows_fit.true) (sym w.age_named.ensures ∙ sym w.value-is ∙ c.if-age_named.true)
      | else-rows_fit w ↦ absurd (false_true (sym w.if-rows_fit.false ∙ sym w.value-is ∙ c.if-age_named.true))
    ]

pub returns-else-age_named : goal.returns-else-age_named
returns-else-age_named c i p =
    let few : (let h = head_of c.args.self.now.words.now in used_in h ≤ rows_in h) = omega (arith, c.if-rows-used.false, c.used.ensures, c.rows.ensures) in
    let rises : rising (tree_of (store_of c.args.self.now.words.now i p)) ≡ true = sym (c.in-Some.ensures.rises i p) in
    c.if-age_named.false
    ∙ elim c.if-rows_fit.branch [
      | then-rows_fit w ↦ not_named (store_of c.args.self.now.words.now i p) few rises
          (sym c.rows_fit.ensures ∙ w.if-rows_fit.true) (sym w.age_named.ensures ∙ sym w.value-is ∙ c.if-age_named.false)
      | else-rows_fit w ↦ not_fitting (store_of c.args.self.now.words.now i p) few rises (sym c.rows_fit.ensures ∙ w.if-rows_fit.false)
    ]
