use Rattle.std.proofs.Common.{◌≡◌, fold}
use Rattle.libm.proofs.Series.{turn}
use Rattle.libm.proofs.terms.steps.Given as goal

abbrev pub invariant-loop-numerator : goal.invariant-loop-numerator
invariant-loop-numerator l = (l.low ≡ fold (λ h r. turn l.squares.low h r.now) l.initial.low l.yielded) × (l.high ≡ fold (λ h r. turn l.squares.high h r.now) l.initial.high l.yielded)
