use Rattle.std.proofs.Common.{◌≡◌, length}
use Rattle.buffer.specs.Map.{ascending}
use Rattle.buffer.proofs.chunks.rising.Given as goal

-- the test of the whole is the test of what is left
abbrev pub invariant-loop-chunk : goal.invariant-loop-chunk
invariant-loop-chunk l = ascending l.s ≡ ascending l.rest

abbrev pub decreases-loop-chunk : goal.decreases-loop-chunk
decreases-loop-chunk l = length l.rest
