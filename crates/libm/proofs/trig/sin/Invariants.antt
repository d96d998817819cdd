use Rattle.std.proofs.Common.{◌≡◌, fold}
use Rattle.time.specs.Float.{one64}
use Rattle.libm.proofs.Series.{sin_turn}
use Rattle.libm.proofs.trig.sin.Given as goal

abbrev pub invariant-loop-denominator : goal.invariant-loop-denominator
invariant-loop-denominator l = l.s ≡ fold (λ s r. sin_turn l.a s r.now) one64 l.yielded
