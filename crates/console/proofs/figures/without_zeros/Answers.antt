use Rattle.std.proofs.Common.{◌≡◌, ℕ, suc, ◌-◌, ap, ◌∙◌, arith}
use Rattle.text.specs.Digits.{digits}
use Rattle.console.specs.Figures.{without_zeros}
use Rattle.console.proofs.Decimals.{zero_dropped, digit_kept}
use Rattle.console.proofs.figures.without_zeros.Goals as goal

pub returns-then-rest-ne0 : goal.returns-then-rest-ne0
returns-then-rest-ne0 c = let l = c.loop-left in l.invariant ∙ digit_kept l.left l.rest c.loop-left-test.true c.if-rest-ne0.true

pub loop-left-preserved : goal.loop-left-preserved
loop-left-preserved c = let l = c.loop-left in
    let one_more : l.left ≡ suc (l.left - 1) = omega arith in
    l.invariant ∙ ap (λ (k : ℕ). without_zeros (digits 10 k l.rest)) one_more ∙ zero_dropped (l.left - 1) l.rest c.if-rest-ne0.false

pub returns : goal.returns
unfolding without_zeros digits
returns c = let l = c.loop-left in
    let ended : l.left ≡ 0 = omega arith in
    l.invariant ∙ ap (λ (k : ℕ). without_zeros (digits 10 k l.rest)) ended
