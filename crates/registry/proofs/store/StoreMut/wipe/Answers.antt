use mathlib.Core.Path.{ap, subst, ◌∙◌}
use Rattle.time.specs.Reply.{answer}
use Rattle.buffer.specs.Row.{FloatsFit}
use Rattle.registry.specs.Store.{Store}
use Rattle.registry.specs.Answers.{done}
use Rattle.registry.specs.Calls.{words_mut}
use Rattle.registry.specs.layout.Rows.{IsRow, AbsentAt}
use Rattle.registry.proofs.layout.StoredRows.{sound_held}
use Rattle.registry.proofs.remove_before.WipeWritten.{wipe_absent, wipe_held}
use Rattle.registry.proofs.store.StoreMut.wipe.Goals as goal

pub returns-in_default-clause-outcome : goal.returns-in_default-clause-outcome
returns-in_default-clause-outcome c =
    let s = words_mut c.args.self.now in
    let same = c.rows.ensures ∙ ap (λ (z : Store). z.head) c.as_checked.ensures.words in
    let absent : AbsentAt s.head c.args.child c.in_default.field-0 = rw (same, c.from.ensures) at c.in_default.ensures in
    wipe_absent s c.args.child c.args.t _ absent

pub wipe_row-requires : goal.wipe_row-requires
wipe_row-requires c =
    let s = words_mut c.args.self.now in
    let same = c.rows.ensures ∙ ap (λ (z : Store). z.head) c.as_checked.ensures.words in
    let row : IsRow s.head c.args.child c.in-Ok.row = rw (same, c.from.ensures) at c.in-Ok.ensures in
    let fit = subst (λ (z : Store). FloatsFit z.poses) c.as_checked.ensures.words c.as_checked.ensures.floats in
    sound_held s c.requires fit _ row.used

pub returns-clause-outcome : goal.returns-clause-outcome
returns-clause-outcome c =
    let s = words_mut c.args.self.now in
    let same = c.rows.ensures ∙ ap (λ (z : Store). z.head) c.as_checked.ensures.words in
    let row : IsRow s.head c.args.child c.in-Ok.row = rw (same, c.from.ensures) at c.in-Ok.ensures in
    ap (λ (z : Store). record { reply = answer done; store = z }) c.wipe_row.ensures.words ∙ wipe_held s c.requires c.args.child c.args.t _ row
