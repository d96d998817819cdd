use Rattle.std.proofs.Common.{ap, arith}
use Rattle.console.specs.Tree.{joined_lines}
use Rattle.console.specs.Reading.{tree_in}
use Rattle.console.proofs.Turns.{leads_start, leads_on, leads_end}
use Rattle.console.proofs.LinesLeft.{left_start, left_none}
use Rattle.console.proofs.tree.put_below.Goals as goal

pub loop-walk-init : goal.loop-walk-init
loop-walk-init c = leads_start (ap joined_lines (left_start (tree_in c.args.store.now) c.args.root))

pub loop-walk-smaller : goal.loop-walk-smaller
loop-walk-smaller c = c.turn-walk.ensures.fewer

pub loop-walk-preserved : goal.loop-walk-preserved
loop-walk-preserved c = leads_on c.loop-walk.invariant c.turn-walk.ensures.left c.turn-walk.ensures.wrote

pub returns : goal.returns
returns c = let l = c.loop-walk in leads_end l.invariant (left_none (tree_in c.args.store.now) l.walk (omega (arith, c.loop-walk-test.false)))
