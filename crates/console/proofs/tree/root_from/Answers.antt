use Rattle.std.proofs.Common.{rules, tests, sym, ◌∙◌}
use Rattle.std.proofs.lemmas.Iterator.{YieldsList-from_map}
use Rattle.std.proofs.lemmas.Iterator.Consumers.{YieldsList-from_first, YieldsList-from_filter, YieldsList-at, min_from_yields_List}
use Rattle.registry.specs.Edges.{edges_left}
use Rattle.console.specs.Reading.{tree_in}
use Rattle.std.proofs.lemmas.Iterator.Adapters.{option_map_id}
use Rattle.console.proofs.Roots.{is_root_from, lowest_is}
use Rattle.console.proofs.tree.root_from.Goals as goal

pub returns : goal.returns
returns c = let t = tree_in c.args.store.now in
    sym (option_map_id c.min.result)
    ∙ min_from_yields_List c.filter.result c.min.result c.min.ensures.ran
    (YieldsList-from_filter _ (is_root_from t c.args.from)
    (YieldsList-at c.filter.ensures.source
    (YieldsList-from_map _ (λ y. y.parent) (YieldsList-at c.map.ensures.source (YieldsList-from_first (λ x. x) edges_left _ c.edges.ensures)) c.map.ensures.closure (λ x r q k. search (rules, tests))))
    c.filter.ensures.closure (λ x b q k. search (rules, tests)))
    ∙ sym (lowest_is t c.args.from t)
