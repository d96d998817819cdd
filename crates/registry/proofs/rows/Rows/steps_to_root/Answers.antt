use Prim.Native.Nat.{ℕ, ◌+◌, ◌-◌}
use mathlib.Core.Path.{◌≡◌, sym, ap, ◌∙◌}
use mathlib.Core.List.{List, ◌∷◌}
use native.Mathlib.Omega.{arith}
use Rattle.registry.specs.Tree.{above}
use Rattle.registry.specs.Store.{used_in, tree_of}
use Rattle.registry.specs.Calls.{store_of}
use Rattle.registry.specs.layout.Rows.{head_of}
use Rattle.registry.specs.paths.Walks.{steps_to_root}
use Rattle.registry.proofs.paths.TreeWalks.{above_by, above_used, steps_on, steps_start, steps_end, steps_here, steps_up}
use Rattle.registry.proofs.rows.Rows.steps_to_root.Goals as goal

pub loop-steps-init : goal.loop-steps-init
loop-steps-init c i p = let a = c.args in
    let e : c.used-used.result - 0 ≡ used_in (head_of a.self.now.head.now) = omega (arith, c.used-used.ensures) in
    steps_start (tree_of (store_of a.self.now.head.now i p)) a.frame a.goal ∙ ap (steps_on a.goal 0) (above_used a.self.now.head.now _ a.frame e i p)

pub returns-in_default : goal.returns-in_default
returns-in_default c i p = let goal = c.args.goal in
    sym
    (c.loop-steps.invariant i p
    ∙ ap (steps_on goal c.loop-steps.steps)
    (above_by _ c.loop-steps.at _ c.in_default.ensures (c.used-used.result - c.loop-steps.steps) (omega arith) i p)
    ∙ steps_end goal _)

pub returns-then-at-goal : goal.returns-then-at-goal
returns-then-at-goal c i p =
    let rest : List ℕ = above (c.used-used.result - c.loop-steps.steps - 1) (tree_of (store_of c.args.self.now.head.now i p)) c.in-Some.parent in
    let step : (let a = c.args in steps_to_root (tree_of (store_of a.self.now.head.now i p)) a.frame a.goal ≡ steps_on a.goal c.loop-steps.steps (c.in-Some.parent ∷ rest)) = c.loop-steps.invariant i p
    ∙ ap (steps_on c.args.goal c.loop-steps.steps)
    (above_by _ c.loop-steps.at _ c.in-Some.ensures (c.used-used.result - c.loop-steps.steps) (omega arith) i p) in
    sym (step ∙ steps_here c.args.goal c.loop-steps.steps _ rest c.if-at-goal.true)

pub loop-steps-preserved : goal.loop-steps-preserved
loop-steps-preserved c i p =
    let rest : List ℕ = above (c.used-used.result - c.loop-steps.steps - 1) (tree_of (store_of c.args.self.now.head.now i p)) c.in-Some.parent in
    let step : (let a = c.args in steps_to_root (tree_of (store_of a.self.now.head.now i p)) a.frame a.goal ≡ steps_on a.goal c.loop-steps.steps (c.in-Some.parent ∷ rest)) = c.loop-steps.invariant i p
    ∙ ap (steps_on c.args.goal c.loop-steps.steps)
    (above_by _ c.loop-steps.at _ c.in-Some.ensures (c.used-used.result - c.loop-steps.steps) (omega arith) i p) in
    let less : c.used-used.result - c.loop-steps.steps - 1 ≡ c.used-used.result - (c.loop-steps.steps + 1) = omega arith in
    rw (← less) (step ∙ steps_up c.args.goal c.loop-steps.steps _ rest c.if-at-goal.false)

pub returns : goal.returns
returns c i p = let l = c.loop-steps in
    let none : c.used-used.result - l.steps ≡ 0 = omega arith in
    let all : l.steps ≡ c.used-used.result = omega arith in
    sym (l.invariant i p ∙ rw (none, all) (steps_end c.args.goal c.used-used.result))
