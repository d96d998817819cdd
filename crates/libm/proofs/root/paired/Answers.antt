use Rattle.std.proofs.Common.{arith}
use Rattle.libm.proofs.Split.{even_exponent, odd_exponent}
use Rattle.libm.proofs.root.paired.Goals as goal

pub returns-then-p-eq0 : goal.returns-then-p-eq0
returns-then-p-eq0 c = (omega arith, even_exponent c.args.p.significand c.args.p.exponent c.if-p-eq0.true)

pub returns : goal.returns
returns c = (omega arith, odd_exponent c.args.p.significand c.args.p.exponent c.if-p-eq0.false)
