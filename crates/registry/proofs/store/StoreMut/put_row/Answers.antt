use mathlib.Core.Path.{refl, ap}
use Rattle.time.specs.Reply.{answer, refusal}
use Rattle.buffer.specs.Answers.{insert_refusal_of}
use Rattle.registry.specs.Store.{Store}
use Rattle.registry.specs.Answers.{told_done}
use Rattle.registry.specs.Calls.{words_mut}
use Rattle.registry.proofs.Errors.{passed_as}
use Rattle.registry.proofs.layout.RowParts.{Cut}
use Rattle.registry.proofs.layout.RowPutting.{row_refused, row_held}
use Rattle.registry.proofs.store.StoreMut.put_row.Goals as goal

pub returns-in_err-held-clause-outcome : goal.returns-in_err-held-clause-outcome
returns-in_err-held-clause-outcome c =
    let same = ap (λ (s : Store). s.head) c.as_ref.ensures.words in
    let cut : Cut (words_mut c.args.self.now) c.args.r c.capacity-width.result c.instants_length-first.result c.poses_length-float.result c.row_floats-floats.result = record {
      wide = rw same at c.capacity-width.ensures;
      instants = c.instants_length-first.ensures;
      poses = c.poses_length-float.ensures;
      sevens = c.row_floats-floats.ensures;
    } in
    let a = c.args in
    let why = insert_refusal_of c.in_err-held.field-0.0 in
    rw (passed_as told_done c.from_residual.result why c.from_residual.ensures.1)
    (row_refused (words_mut a.self.now) a.r c.requires a.instant a.pose cut c.max_age-age.result _
    (rw same at c.max_age-age.ensures) (rw same at c.count-count.ensures) (refusal why.0 why.1) _ _ c.in_err-held.ensures why.0 why.1 refl)

pub returns-clause-outcome : goal.returns-clause-outcome
returns-clause-outcome c =
    let same = ap (λ (s : Store). s.head) c.as_ref.ensures.words in
    let cut : Cut (words_mut c.args.self.now) c.args.r c.capacity-width.result c.instants_length-first.result c.poses_length-float.result c.row_floats-floats.result = record {
      wide = rw same at c.capacity-width.ensures;
      instants = c.instants_length-first.ensures;
      poses = c.poses_length-float.ensures;
      sevens = c.row_floats-floats.ensures;
    } in
    let a = c.args in
    row_held (words_mut a.self.now) a.r c.requires a.instant a.pose cut c.max_age-age.result _
    (rw same at c.max_age-age.ensures) (rw same at c.count-count.ensures) (answer c.in_ok-held.held) _ _ c.in_ok-held.ensures c.in_ok-held.held refl _ c.set_count.ensures
