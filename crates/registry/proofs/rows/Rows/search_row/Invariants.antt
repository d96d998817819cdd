use Prim.Native.Nat.{◌-◌}
use Rattle.registry.proofs.layout.RowSearch.{Between}
use Rattle.registry.proofs.rows.Rows.search_row.Given as goal

-- `registry::rows::Rows::search_row` meets its contract. The invariant of its loop: the frame's row, if there is one, is from `low` up to `high`.
abbrev pub invariant-loop-low : goal.invariant-loop-low
invariant-loop-low l = Between l.self.head.now l.frame l.low l.high

abbrev pub decreases-loop-low : goal.decreases-loop-low
decreases-loop-low l = l.high - l.low
