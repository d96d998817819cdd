use Rattle.std.proofs.Common.{arith}
use Rattle.registry.proofs.Held.{tree_rises, child_fits}
use Rattle.console.specs.Reading.{tree_in}
use Rattle.console.proofs.EdgesUnder.{edge_next, none_next}
use Rattle.console.proofs.LinesLeft.{turned_up, turned_down, turned_on}
use Rattle.console.proofs.tree.turn.Goals as goal

pub returns-in_default : goal.returns-in_default
returns-in_default c = let t = tree_in c.args.store.now in
    let none = none_next t (tree_rises _ c.args.store.now.sound) c.args.walk.under c.args.walk.from c.in_default.ensures in
    turned_up t _ c.args.walk _ c.requires none c.up.ensures.lower c.up.ensures.left

pub returns-then-level-lt-MOST : goal.returns-then-level-lt-MOST
returns-then-level-lt-MOST c = let t = tree_in c.args.store.now in
    let next = edge_next t (tree_rises _ c.args.store.now.sound) c.args.walk.under c.args.walk.from c.in-Some.edge c.in-Some.ensures in
    turned_down t _ _ c.args.walk c.requires c.in-Some.edge next c.put_line.ensures c.if-level-lt-MOST.true

pub overflow_add-from : goal.overflow_add-from
overflow_add-from c = let t = tree_in c.args.store.now in
    let next = edge_next t (tree_rises _ c.args.store.now.sound) c.args.walk.under c.args.walk.from c.in-Some.edge c.in-Some.ensures in
    omega (arith, child_fits _ c.args.store.now.sound c.in-Some.edge.child next.edge next.held)

pub returns : goal.returns
returns c = let t = tree_in c.args.store.now in
    let next = edge_next t (tree_rises _ c.args.store.now.sound) c.args.walk.under c.args.walk.from c.in-Some.edge c.in-Some.ensures in
    turned_on t _ _ c.args.walk c.requires c.in-Some.edge next c.put_line.ensures c.if-level-lt-MOST.false
