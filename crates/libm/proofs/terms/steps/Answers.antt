use Rattle.std.proofs.Common.{◌-◌, take, drop, ◌∙◌}
use Rattle.std.proofs.lemmas.Iterator.Adapters.{YieldsList-from_rev_slice}
use Rattle.std.proofs.lemmas.Iterator.Consumers.{YieldsList-end}
use Rattle.std.proofs.Common.{arith}
use Rattle.libm.proofs.Series.{run_over}
use Rattle.libm.proofs.Table.{rows}
use Rattle.libm.proofs.terms.steps.Goals as goal

pub returns : goal.returns
unfolding rows
returns c =
    let from = c.args.from in
    let to = c.args.to in
    let l = c.loop-numerator in
    let (all, n) = YieldsList-end (YieldsList-from_rev_slice (take (from - to) (drop to (rows 1 48))) cc) l.yielded _ l.yielded_by _ _ c.in-None.is c.next.ensures.steps in (
      l.invariant.0 ∙ run_over (from - to) to c.args.squares.low c.args.start.low l.yielded all (omega arith),
      l.invariant.1 ∙ run_over (from - to) to c.args.squares.high c.args.start.high l.yielded all (omega arith),
    )
