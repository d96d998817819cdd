use Rattle.console.proofs.Turns.{leads_on, leads_end}
use Rattle.console.proofs.ClimbLines.{end_lines, root_lines, fewer_hops, next_lines}
use Rattle.console.proofs.why.put_hops.Goals as goal

pub returns-in_default : goal.returns-in_default
returns-in_default c = let l = c.loop-from in leads_end l.invariant (root_lines _ c.args.store.now.sound c.args.t l.from c.args.end c.in_default.ensures)

pub loop-from-smaller : goal.loop-from-smaller
loop-from-smaller c = fewer_hops _ c.args.store.now.sound c.args.t c.loop-from.from c.args.end c.in-Some.hop c.in-Some.ensures c.loop-from-test.true

pub loop-from-preserved : goal.loop-from-preserved
loop-from-preserved c = let l = c.loop-from in leads_on l.invariant (next_lines _ c.args.store.now.sound c.args.t l.from c.args.end c.in-Some.hop c.in-Some.ensures c.loop-from-test.true) c.put_hop.ensures

pub returns : goal.returns
returns c = let l = c.loop-from in leads_end l.invariant (end_lines _ c.args.store.now.sound c.args.t l.from c.args.end c.loop-from-test.false)
