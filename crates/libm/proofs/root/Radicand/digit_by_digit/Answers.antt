use Rattle.std.proofs.Common.{refl, arith}
use native.Mathlib.Nat.{zero-add}
use Rattle.libm.proofs.RootDigits.{digit_one, digit_zero}
use Rattle.libm.proofs.root.Radicand.digit_by_digit.Goals as goal

pub loop-bit-init : goal.loop-bit-init
loop-bit-init c = ((54, refl), zero-add _, omega (arith, c.args.self.in_range), omega arith)

pub loop-bit-preserved-then-trial-rest : goal.loop-bit-preserved-then-trial-rest
loop-bit-preserved-then-trial-rest c = digit_one _ _ _ _ c.loop-bit.invariant c.loop-bit-test.true c.if-trial-rest.true

pub loop-bit-preserved : goal.loop-bit-preserved
loop-bit-preserved c = digit_zero _ _ _ _ c.loop-bit.invariant c.loop-bit-test.true c.if-trial-rest.false
