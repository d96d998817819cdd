use Rattle.buffer.proofs.Alls.{all_cut}
use Rattle.buffer.proofs.ChunkTests.{chunk_passes, chunk_fails}
use Rattle.buffer.proofs.chunks.all_zero.Goals as goal

pub returns-then-not-zero_chunk : goal.returns-then-not-zero_chunk
returns-then-not-zero_chunk g c = let cut = rw c.in-Some.is at c.split_at_checked.ensures.cases in
    chunk_fails _ c.loop-chunk.invariant (all_cut g.T.Zero.is_zero 64 c.loop-chunk.rest.now _ _ cut.1 cut.2) c.zero_chunk.ensures c.if-not-zero_chunk.true

pub loop-chunk-preserved : goal.loop-chunk-preserved
loop-chunk-preserved g c = let cut = rw c.in-Some.is at c.split_at_checked.ensures.cases in
    chunk_passes _ c.loop-chunk.invariant (all_cut g.T.Zero.is_zero 64 c.loop-chunk.rest.now _ _ cut.1 cut.2) c.zero_chunk.ensures c.if-not-zero_chunk.false
