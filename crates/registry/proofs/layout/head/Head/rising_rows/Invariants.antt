use Rattle.registry.proofs.soundness.HeadTests.{Neighbours}
use Rattle.registry.proofs.layout.head.Head.rising_rows.Given as goal

-- `registry::layout::head::Head::rising_rows` meets its contract. The invariant of its loop: each child passed is above the one before.
abbrev pub invariant-loop-r : goal.invariant-loop-r
invariant-loop-r l = Neighbours l.self.words.now l.r
