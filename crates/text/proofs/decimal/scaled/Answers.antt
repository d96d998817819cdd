use native.Mathlib.Omega.{arith}
use Rattle.text.proofs.Scaled.{multiplied, divided}
use Rattle.text.proofs.decimal.scaled.Goals as goal

pub returns-in_ok-power : goal.returns-in_ok-power
returns-in_ok-power c = let a = c.args in
    divided a.negative a.d a.up a.down c.if-d-gt-LARGEST.false _ _ c.signed-x.ensures c.if-up-down.true c.in_ok-power.ensures.0 c.in_ok-power.ensures.1 (omega arith)

pub returns-in_ok-power-2 : goal.returns-in_ok-power-2
returns-in_ok-power-2 c = let a = c.args in
    multiplied a.negative a.d a.up a.down c.if-d-gt-LARGEST.false _ _ c.signed-x.ensures c.if-up-down.false c.in_ok-power-2.ensures.0 c.in_ok-power-2.ensures.1 (omega arith)
