use mathlib.Core.Path.{ap, ◌∙◌}
use Rattle.std.proofs.lemmas.Result.{err_from_is_err_and}
use Rattle.time.specs.Reply.{Reply, ◌then◌}
use Rattle.registry.specs.Store.{Store}
use Rattle.registry.specs.Calls.{words}
use Rattle.registry.specs.common_time.Spans.{CommonSpan, agreed}
use Rattle.registry.proofs.common_time.CommonHops.{common_apart, common_meets}
use Rattle.registry.proofs.checked.Checked.common_time_known.Goals as goal

pub returns-then-ends : goal.returns-then-ends
returns-then-ends c =
    let self = c.args.self.now in
    let s : Store = words self.store in
    common_apart s self.sound c.args.target c.args.source _ _ (rw c.rows.ensures at c.climb_ends-ends.ensures) c.if-ends.true

pub returns-in_err-target_common : goal.returns-in_err-target_common
returns-in_err-target_common c =
    let self = c.args.self.now in
    let s : Store = words self.store in
    let p = err_from_is_err_and c.from_residual.result c.from_residual.ensures.1 in
    rw (p.1, p.2)
    (common_meets s self.sound c.args.target c.args.source _ _ (rw c.rows.ensures at c.climb_ends-ends.ensures) c.if-ends.false _
    c.in_err-target_common.ensures)

pub returns-in_err-common : goal.returns-in_err-common
returns-in_err-common c =
    let self = c.args.self.now in
    let s : Store = words self.store in
    let p = err_from_is_err_and c.from_residual-in_err-common.result c.from_residual-in_err-common.ensures.1 in
    rw (p.1, p.2)
    (ap (λ (r : Reply CommonSpan). r then agreed) c.in_err-common.ensures
    ∙ common_meets s self.sound c.args.target c.args.source _ _ (rw c.rows.ensures at c.climb_ends-ends.ensures) c.if-ends.false _
    c.in_ok-target_common.ensures)

pub returns : goal.returns
returns c =
    let self = c.args.self.now in
    let s : Store = words self.store in
    c.agreed.ensures
    ∙ ap (λ (r : Reply CommonSpan). r then agreed) c.in_ok-common.ensures
    ∙ common_meets s self.sound c.args.target c.args.source _ _ (rw c.rows.ensures at c.climb_ends-ends.ensures) c.if-ends.false _
    c.in_ok-target_common.ensures
