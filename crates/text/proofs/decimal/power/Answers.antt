use borrow.Author.Rules.{rules}
use native.Mathlib.Omega.{arith}
use lib.Ieee.{of_bits, round}
use Rattle.text.proofs.Exact.{entry, tens}
use Rattle.text.proofs.decimal.power.Goals as goal

pub returns : goal.returns
unfolding of_bits tens round
returns c = (omega arith, entry (tens 0 23) tt c.args.k (search rules))
