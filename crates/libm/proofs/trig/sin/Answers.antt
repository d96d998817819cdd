use Rattle.std.proofs.Common.{ap, ◌∙◌}
use Rattle.std.proofs.lemmas.Iterator.Adapters.{YieldsList-from_rev_slice}
use Rattle.std.proofs.lemmas.Iterator.Consumers.{YieldsList-end}
use Rattle.time.specs.Float.{◌⊗◌}
use Rattle.libm.specs.Libm.{sin}
use Rattle.libm.proofs.Series.{sin_over}
use Rattle.libm.proofs.Table.{rows}
use Rattle.libm.proofs.trig.sin.Goals as goal

pub returns : goal.returns
unfolding sin rows
returns c =
    let l = c.loop-denominator in
    let (all, n) = YieldsList-end (YieldsList-from_rev_slice (rows 1 10) cc) l.yielded _ l.yielded_by _ _ c.in-None.is c.next.ensures.steps in
    ap (◌⊗◌ c.args.a) (l.invariant ∙ sin_over c.args.a l.yielded all)
