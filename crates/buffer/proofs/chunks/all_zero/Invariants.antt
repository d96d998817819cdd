use Rattle.std.proofs.Common.{◌≡◌, length}
use Rattle.buffer.specs.Map.{all}
use Rattle.buffer.proofs.chunks.all_zero.Given as goal

-- the test of the whole is the test of what is left
abbrev pub invariant-loop-chunk : goal.invariant-loop-chunk
invariant-loop-chunk g l = all g.T.Zero.is_zero l.s ≡ all g.T.Zero.is_zero l.rest

abbrev pub decreases-loop-chunk : goal.decreases-loop-chunk
decreases-loop-chunk g l = length l.rest
