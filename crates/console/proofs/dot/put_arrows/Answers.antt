use Rattle.std.proofs.Common.{ap, ◌∙◌}
use Rattle.registry.specs.Edges.{edges_left}
use Rattle.text.proofs.Behind.{writes_behind}
use Rattle.console.proofs.Turns.{leads_start, leads_on, leads_end}
use Rattle.console.proofs.ToldTexts.{told_arrow, told_arrows, arrows_told}
use Rattle.console.proofs.dot.put_arrows.Goals as goal

pub loop-edge-init : goal.loop-edge-init
loop-edge-init c = leads_start (ap told_arrows (ap edges_left c.into_iter-edge-iterator.ensures.into_iter_gives ∙ c.edges-edge-items.ensures) ∙ arrows_told _)

pub loop-edge-preserved : goal.loop-edge-preserved
loop-edge-preserved c = leads_on {xs = told_arrow c.in-Some.edge} c.loop-edge.invariant (ap told_arrows c.in-Some.ensures.steps) (writes_behind c.put_ends.ensures c.put_label.ensures)

pub returns : goal.returns
returns c = leads_end c.loop-edge.invariant (ap told_arrows c.in-None.ensures.steps.0)
