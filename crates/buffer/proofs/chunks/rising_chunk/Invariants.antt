use Rattle.std.proofs.Common.{◌≡◌, ◌-◌, ◌&&◌, drop}
use Rattle.buffer.specs.Map.{ascending}
use Rattle.buffer.proofs.chunks.rising_chunk.Given as goal

-- the flag and the test from the last number passed on are the test of the whole
abbrev pub invariant-loop-i : goal.invariant-loop-i
invariant-loop-i l = l.rising && ascending (drop (l.i - 1) l.chunk) ≡ ascending l.chunk
