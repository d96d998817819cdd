use Rattle.std.proofs.Common.{ap, ◌∙◌}
use mathlib.Core.Bool.{not}
use mathlib.Core.List.{List}
use Rattle.time.specs.Reply.{Reply, answer, nothing, refuse}
use Rattle.registry.specs.Tree.{Tree, Limits, Addition, holds_no_frame}
use Rattle.registry.specs.Store.{Store}
use Rattle.registry.specs.Calls.{words_mut, on_tree}
use Rattle.registry.proofs.Held.{called}
use Rattle.map_file.specs.Form.{records, formed}
use Rattle.map_loading.specs.Loading.{loading, additions, load_into, load_of}
use Rattle.map_loading.proofs.Turns.{error_is}
use Rattle.map_loading.proofs.load_map.load_map.Goals as goal

pub returns-in_err-check-clause-outcome : goal.returns-in_err-check-clause-outcome
unfolding load_of
returns-in_err-check-clause-outcome c =
    let store : Store = words_mut c.args.store.now in
    let asked : Limits → Tree → Reply (List Addition) = λ L t. refuse (not (holds_no_frame t)) 19 nothing (formed (records c.args.map.now) additions) in
    let found = c.in_err-check.ensures.tests ∙ ap (λ (s : Store). on_tree s (λ L t. answer (tt {0}))) c.as_ref.ensures.words in
    ap (λ r. loading r c.args.store.now) (error_is c.from_residual.result _ c.from_residual.ensures.1) ∙ ap (load_into store) (called store _ found asked)
