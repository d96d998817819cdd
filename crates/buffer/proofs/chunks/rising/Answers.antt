use Rattle.std.proofs.Common.{arith, ap, sym, drop, ◌∙◌}
use lib.ListN.{length-drop}
use lib.Seq.{take_all}
use Rattle.buffer.specs.Map.{ascending}
use Rattle.buffer.proofs.Ascending.{rising_cut}
use Rattle.buffer.proofs.ChunkTests.{chunk_passes, chunk_fails}
use Rattle.buffer.proofs.chunks.rising.Goals as goal

pub returns-then-not-rising_chunk : goal.returns-then-not-rising_chunk
returns-then-not-rising_chunk c = let cut = rw c.in-Some.is at c.split_at_checked.ensures.cases in
    chunk_fails _ c.loop-chunk.invariant (rising_cut 64 c.loop-chunk.rest.now _ (omega arith) cut.1) c.rising_chunk.ensures c.if-not-rising_chunk.true

pub loop-chunk-preserved : goal.loop-chunk-preserved
loop-chunk-preserved c = let cut = rw c.in-Some.is at c.split_at_checked.ensures.cases in
    let rest = c.loop-chunk.rest.now in
    chunk_passes _ c.loop-chunk.invariant (rising_cut 64 rest _ (omega arith) cut.1) c.rising_chunk.ensures c.if-not-rising_chunk.false
    ∙ ap ascending (sym (take_all _ (drop 64 rest) (rw length-drop (omega arith))))
