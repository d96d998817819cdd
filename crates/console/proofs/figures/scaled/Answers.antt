use Rattle.std.proofs.Common.{◌≡◌, ℕ, ◌+◌, ◌-◌, sym, ap, ◌∙◌, arith}
use lib.Ieee.{Float}
use Rattle.console.specs.Steps.{stepped}
use Rattle.console.proofs.Scaling.{no_steps, near_enough, one_step}
use Rattle.console.proofs.figures.scaled.Goals as goal

pub returns-then-near : goal.returns-then-near
returns-then-near g c = λ h f near step. let l = c.loop-power in sym (l.invariant h f near step ∙ near_enough h f l.number l.power (400 - l.power) (omega (arith, c.loop-power-test.true)) (sym (near _ _ c.near.ensures) ∙ c.if-near.true))

pub loop-power-preserved : goal.loop-power-preserved
loop-power-preserved g c = λ h f near step. let l = c.loop-power in
    l.invariant h f near step
    ∙ one_step h f l.number l.power (400 - l.power) (400 - (l.power + 1)) (omega (arith, c.loop-power-test.true)) (sym (near _ _ c.near.ensures) ∙ c.if-near.false)
    ∙ ap (λ (y : Float). stepped h f (400 - (l.power + 1)) y (l.power + 1)) (sym (step _ _ c.step-number.ensures))

pub returns : goal.returns
returns g c = λ h f near step. let l = c.loop-power in
    let all : 400 ≡ l.power = omega (arith, c.loop-power-test.false) in
    ap {B = Float × ℕ} (λ (p : ℕ). (l.number, p)) all ∙ sym (l.invariant h f near step ∙ no_steps h f l.number l.power (400 - l.power) (omega arith))
