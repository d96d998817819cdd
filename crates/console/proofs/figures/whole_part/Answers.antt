use Rattle.std.proofs.Common.{T, sym, subst, rules}
use Rattle.std.specs.Float.Ieee.{neg, of_bits}
use Rattle.console.specs.Figures.{whole_part}
use Rattle.console.proofs.Rounding.{below_next}
use Rattle.console.proofs.figures.whole_part.Goals as goal

pub truncating_f64_to_u64-requires : goal.truncating_f64_to_u64-requires
unfolding of_bits neg
truncating_f64_to_u64-requires c = record { lower_bound = subst T (sym c.if-x.true) tt; upper_bound = below_next c.args.x c.if-x-2.true }

pub returns-then-x-2 : goal.returns-then-x-2
unfolding whole_part
returns-then-x-2 c = rw (c.if-x.true, c.if-x-2.true) c.truncating_f64_to_u64.ensures

pub returns-else-x : goal.returns-else-x
unfolding whole_part
returns-else-x c = search rules
