use Rattle.std.proofs.Common.{arith}
use Rattle.libm.proofs.SqrtCases.{finite_bits}
use Rattle.libm.proofs.root.Radicand.upper_estimate.Goals as goal

pub float_from_bits-y : goal.float_from_bits-y
float_from_bits-y c = finite_bits _ (omega arith)
