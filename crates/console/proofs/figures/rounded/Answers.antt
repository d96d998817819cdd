use Rattle.std.proofs.Common.{arith}
use Rattle.console.proofs.Rounding.{whole_small, near, below_million, a_million}
use Rattle.console.proofs.figures.rounded.Goals as goal

pub returns-then-millionths-lt1000000 : goal.returns-then-millionths-lt1000000
returns-then-millionths-lt1000000 c = below_million _ _ _ c.whole_part-whole.ensures (near _ _ _ _ c.whole_part-whole.ensures c.nearest_u64_to_f64.ensures c.whole_part-millionths.ensures) c.if-millionths-lt1000000.true

pub overflow_add-result : goal.overflow_add-result
overflow_add-result c = omega (arith, c.whole_part-whole.ensures, whole_small c.args.x)

pub returns-else-millionths-lt1000000 : goal.returns-else-millionths-lt1000000
returns-else-millionths-lt1000000 c = a_million _ _ _ c.whole_part-whole.ensures (near _ _ _ _ c.whole_part-whole.ensures c.nearest_u64_to_f64.ensures c.whole_part-millionths.ensures) c.if-millionths-lt1000000.false
