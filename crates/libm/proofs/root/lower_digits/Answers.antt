use Rattle.std.proofs.Common.{arith}
use Rattle.libm.proofs.LowerDigits.{quotient, room, lowered}
use Rattle.libm.proofs.root.lower_digits.Goals as goal

pub overflow_sub-result-4 : goal.overflow_sub-result-4
overflow_sub-result-4 c = room _ _ _ _ (quotient c.args.upper.root c.args.upper.rest (omega arith) c.args.upper.greatest) c.requires.0

pub returns : goal.returns
returns c = lowered _ _ _ _ (quotient c.args.upper.root c.args.upper.rest (omega arith) c.args.upper.greatest) c.requires.0
