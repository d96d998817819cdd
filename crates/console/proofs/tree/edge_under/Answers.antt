use Rattle.std.proofs.Common.{rules, tests, sym, ◌∙◌}
use Rattle.std.proofs.lemmas.Iterator.{YieldsList-from_map}
use Rattle.std.proofs.lemmas.Iterator.Consumers.{YieldsList-from_first, YieldsList-at}
use Rattle.std.proofs.lemmas.Iterator.Search.{find_from_yields_List}
use Rattle.std.proofs.lemmas.Iterator.Adapters.{option_map_id}
use Rattle.registry.specs.Edges.{edges_left}
use Rattle.registry.proofs.Held.{tree_rises}
use Rattle.console.specs.Reading.{tree_in}
use Rattle.console.proofs.EdgesUnder.{frames_of, is_under, find_under, none_told, own_told}
use Rattle.console.proofs.tree.edge_under.Goals as goal

pub returns-in_err-child : goal.returns-in_err-child
returns-in_err-child c = let t = tree_in c.args.store.now in
    let f = c.args.frame in
    let k = c.args.from in
    c.from_residual.ensures
    ∙ none_told f k t
    (sym c.in_err-child.was
    ∙ sym (option_map_id c.find.result)
    ∙ find_from_yields_List (is_under f k) c.find.new.self _ c.find.result c.find.ensures.ran
    (YieldsList-from_map _ (frames_of f k) (YieldsList-at c.map.ensures.source (YieldsList-from_first (λ x. x) edges_left _ c.edges.ensures)) c.map.ensures.closure (λ x r q k. search (rules, tests)))
    (λ x b q k. search (rules, tests))
    ∙ find_under f k t)

pub returns : goal.returns
returns c = let t = tree_in c.args.store.now in
    let f = c.args.frame in
    let k = c.args.from in
    c.edge_from.ensures
    ∙ own_told f k t (tree_rises _ c.args.store.now.sound) _
    (sym c.in_ok-child.was
    ∙ sym (option_map_id c.find.result)
    ∙ find_from_yields_List (is_under f k) c.find.new.self _ c.find.result c.find.ensures.ran
    (YieldsList-from_map _ (frames_of f k) (YieldsList-at c.map.ensures.source (YieldsList-from_first (λ x. x) edges_left _ c.edges.ensures)) c.map.ensures.closure (λ x r q k. search (rules, tests)))
    (λ x b q k. search (rules, tests))
    ∙ find_under f k t)
