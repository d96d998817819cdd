use Rattle.std.specs.Prelude.{None, option_map}
use Rattle.std.proofs.Common.{◌≡◌, sym, ap, ◌∙◌, true}
use Rattle.std.specs.Result.{result_ok}
use Rattle.registry.specs.Tree.{holds_no_frame}
use Rattle.registry.specs.Store.{Store, tree_of}
use Rattle.registry.specs.Calls.{words_mut}
use Rattle.map_file.specs.Form.{records}
use Rattle.map_file.specs.Files.{records_of}
use Rattle.map_loading.specs.Loading.{loading}
use Rattle.map_loading.proofs.LoadTests.{load_in_use, load_no_form, load_into_lem}
use Rattle.map_loading.proofs.Turns.{error_is}
use Rattle.map_loading.proofs.load_map.load_checked.Goals as goal

pub returns-then-not-is_empty-clause-outcome : goal.returns-then-not-is_empty-clause-outcome
returns-then-not-is_empty-clause-outcome c =
    let store : Store = words_mut c.args.store.now.store.now in
    let empty : holds_no_frame (tree_of store) ≡ c.is_empty.result = ap (λ (s : Store). holds_no_frame (tree_of s)) (sym c.as_ref.ensures.words) ∙ sym c.is_empty.ensures in
    sym (load_in_use store c.args.map.now c.args.store.now.sound (empty ∙ c.if-not-is_empty.true))

pub returns-in_err-file-clause-outcome : goal.returns-in_err-file-clause-outcome
returns-in_err-file-clause-outcome c =
    let store : Store = words_mut c.args.store.now.store.now in
    let empty : holds_no_frame (tree_of store) ≡ true = ap (λ (s : Store). holds_no_frame (tree_of s)) (sym c.as_ref.ensures.words) ∙ sym c.is_empty.ensures ∙ c.if-not-is_empty.false in
    let none : records c.args.map.now ≡ None = sym c.parse.ensures ∙ ap (λ r. option_map records_of (result_ok r)) c.in_err-file.was in
    ap (λ r. loading r c.args.store.now.store.now) (error_is c.from_residual.result _ c.from_residual.ensures.1) ∙ sym (load_no_form store c.args.map.now c.args.store.now.sound empty none)

pub returns-clause-outcome : goal.returns-clause-outcome
returns-clause-outcome c =
    let store : Store = words_mut c.args.store.now.store.now in
    let empty : holds_no_frame (tree_of store) ≡ true = ap (λ (s : Store). holds_no_frame (tree_of s)) (sym c.as_ref.ensures.words) ∙ sym c.is_empty.ensures ∙ c.if-not-is_empty.false in
    let file = sym c.parse.ensures ∙ ap (λ r. option_map records_of (result_ok r)) c.in_ok-file.was in
    c.add_records.ensures.outcome ∙ sym (load_into_lem store c.args.map.now c.args.store.now.sound _ empty file)
