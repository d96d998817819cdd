use mathlib.Core.Path.{ap}
use Rattle.registry.specs.Store.{Store}
use Rattle.registry.specs.Calls.{words_mut}
use Rattle.registry.proofs.layout.RowParts.{Cut}
use Rattle.registry.proofs.layout.RowWiping.{row_wiped}
use Rattle.registry.proofs.store.StoreMut.wipe_row.Goals as goal

pub returns-clause-words : goal.returns-clause-words
returns-clause-words c =
    let same = ap (λ (s : Store). s.head) c.as_ref.ensures.words in
    let cut : Cut (words_mut c.args.self.now) c.args.r c.capacity-width.result c.instants_length-first.result c.poses_length-float.result c.row_floats-floats.result = record {
      wide = rw same at c.capacity-width.ensures;
      instants = c.instants_length-first.ensures;
      poses = c.poses_length-float.ensures;
      sevens = c.row_floats-floats.ensures;
    } in
    row_wiped (words_mut c.args.self.now) c.args.r c.requires cut c.args.t _ _ _ _ _ _
    (rw same at c.kind-kind.ensures) (rw same at c.count-count.ensures) c.set_count.ensures c.remove_samples-left.ensures
