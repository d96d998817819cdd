use Rattle.libm.proofs.RootDigits.{Turn}
use Rattle.libm.proofs.root.Radicand.digit_by_digit.Given as goal

abbrev pub invariant-loop-bit : goal.invariant-loop-bit
invariant-loop-bit l = Turn l.fn.self.n l.root l.rest l.bit

abbrev pub decreases-loop-bit : goal.decreases-loop-bit
decreases-loop-bit l = l.bit
