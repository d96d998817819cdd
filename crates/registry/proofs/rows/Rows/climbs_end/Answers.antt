use native.Mathlib.Omega.{arith}
use Rattle.registry.proofs.soundness.Doubling.{climbed_twice, ended_is}
use Rattle.registry.proofs.rows.Rows.climbs_end.Goals as goal

pub loop-steps-preserved : goal.loop-steps-preserved
loop-steps-preserved c = let l = c.loop-steps in
    (omega arith, climbed_twice c.args.self.now.head.now l.steps l.rows _ c.double.ensures l.invariant.1)

pub returns : goal.returns
returns c i p = let l = c.loop-steps in
    let self = c.args.self.now in
    ended_is self.head.now self.rising l.steps l.rows l.invariant.1 (omega arith) i p _ c.all_ended.ensures
