use mathlib.Core.Path.{refl, ◌∙◌}
use Rattle.std.proofs.lemmas.Result.{err_from_is_err_and}
use Rattle.registry.specs.Store.{Store}
use Rattle.registry.specs.Calls.{words}
use Rattle.registry.proofs.lookup.LookupEnds.{lookup_ends, lookup_apart_lem, lookup_meets}
use Rattle.registry.proofs.checked.Checked.resolve_known.Goals as goal

pub returns-in_err-target_side : goal.returns-in_err-target_side
returns-in_err-target_side c =
    let self = c.args.self.now in
    let s : Store = words self.store in
    let p = err_from_is_err_and c.from_residual.result c.from_residual.ensures.1 in
    rw (p.1, p.2)
    (lookup_ends s self.sound c.args.target c.args.source _ _ c.args.t (rw c.rows.ensures at c.climb_ends-ends.ensures) _ _ c.in_err-target_side.ensures refl)

pub returns-in_err-source_side : goal.returns-in_err-source_side
returns-in_err-source_side c =
    let self = c.args.self.now in
    let s : Store = words self.store in
    let p = err_from_is_err_and c.from_residual-in_err-source_side.result c.from_residual-in_err-source_side.ensures.1 in
    rw (p.1, p.2)
    (lookup_ends s self.sound c.args.target c.args.source _ _ c.args.t (rw c.rows.ensures at c.climb_ends-ends.ensures) _ _
    c.in_ok-target_side.ensures c.in_err-source_side.ensures)

pub returns-then-ends : goal.returns-then-ends
returns-then-ends c =
    let self = c.args.self.now in
    let s : Store = words self.store in
    lookup_apart_lem s self.sound c.args.target c.args.source _ _ c.args.t (rw c.rows.ensures at c.climb_ends-ends.ensures) _ _
    c.in_ok-target_side.ensures c.in_ok-source_side.ensures c.if-ends.true

pub returns : goal.returns
returns c =
    let self = c.args.self.now in
    let s : Store = words self.store in
    c.combine_transforms.ensures
    ∙ lookup_meets s self.sound c.args.target c.args.source _ _ c.args.t (rw c.rows.ensures at c.climb_ends-ends.ensures) _ _
    c.in_ok-target_side.ensures c.in_ok-source_side.ensures c.if-ends.false
