use Rattle.std.proofs.Common.{sym, arith}
use Rattle.text.proofs.DigitCounts.{digit_count_last, counted_by_power}
use Rattle.text.proofs.write.digit_count.Goals as goal

pub returns-then-n-eq0 : goal.returns-then-n-eq0
returns-then-n-eq0 c = sym (digit_count_last 19 c.args.n (omega arith))

pub returns : goal.returns
returns c = let h = c.ilog10.ensures in omega (arith, counted_by_power c.ilog10.result c.args.n h.bound h.power_le h.next_power_gt)
