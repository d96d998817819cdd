use Rattle.std.proofs.Common.{rules, tests, bit_or}
use Rattle.std.proofs.lemmas.Iterator.{YieldsList-from_slice}
use Rattle.std.proofs.lemmas.Iterator.Consumers.{fold_from_yields_List}
use Rattle.buffer.proofs.ChunkTests.{all_by_bits}
use Rattle.buffer.proofs.chunks.zero_chunk.Goals as goal

pub returns : goal.returns
returns g c = let zero = g.T.Zero in
    all_by_bits zero.bits zero.is_zero g.met.T.Zero.by_bits _ c.args.chunk.now
    (fold_from_yields_List _ (λ b x. bit_or b (zero.bits x)) 0 c.fold.result c.fold.ensures.ran (YieldsList-from_slice c.args.chunk.now (cc)) (λ a x b q k. search (rules, tests)))
