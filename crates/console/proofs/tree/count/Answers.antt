use Rattle.std.proofs.Common.{length, ap, ◌∙◌, arith, inl}
use Rattle.std.proofs.lemmas.Iterator.Consumers.{count_from_yields_List, YieldsList-from_first}
use Rattle.registry.specs.Edges.{edges_left}
use Rattle.console.specs.Reading.{tree_in}
use Rattle.std.proofs.lemmas.List.{length-map}
use Rattle.registry.specs.NextEdge.{told_edge}
use Rattle.console.proofs.FewEdges.{few_edges}
use Rattle.console.proofs.tree.count.Goals as goal

pub count-requires-clause-fits : goal.count-requires-clause-fits
count-requires-clause-fits c = let s = c.args.store.now in
    let n = few_edges _ s.sound in
    let told = ap length c.edges.ensures ∙ length-map (tree_in s) told_edge in
    inl (omega arith)

pub returns : goal.returns
returns c = count_from_yields_List c.edges.result c.count.result c.count.ensures.ran (YieldsList-from_first (λ x. x) edges_left _ c.edges.ensures) ∙ length-map (tree_in c.args.store.now) told_edge
