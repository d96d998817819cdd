use Rattle.std.proofs.Common.{sym, arith}
use Rattle.console.specs.Reading.{tree_in}
use Rattle.console.proofs.Turns.{leads_on, leads_end}
use Rattle.console.proofs.Roots.{lowest_fits, roots_none, roots_more, roots_full}
use Rattle.console.proofs.tree.put_roots.Goals as goal

pub returns-in_default : goal.returns-in_default
returns-in_default c = let l = c.loop in leads_end l.invariant (roots_none (tree_in c.args.store.now) l.counter l.from c.loop-test.true (sym c.in_default.ensures))

pub overflow_add-from : goal.overflow_add-from
overflow_add-from c = omega (arith, lowest_fits _ c.args.store.now.sound c.loop.from _ (sym c.in-Some.ensures))

pub loop-preserved : goal.loop-preserved
loop-preserved c = let l = c.loop in leads_on l.invariant (roots_more (tree_in c.args.store.now) l.counter l.from c.loop-test.true c.in-Some.root (sym c.in-Some.ensures)) c.put_root.ensures

pub returns : goal.returns
returns c = let l = c.loop in leads_end l.invariant (roots_full (tree_in c.args.store.now) l.counter l.from c.loop-test.false)
