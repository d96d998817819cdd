use Rattle.std.specs.Prelude.{Some}
use Rattle.std.proofs.Common.{◌≡◌, refl, sym, ap, ◌∙◌, inl, length}
use native.Mathlib.Omega.{arith}
use Rattle.std.specs.declared.iter.Enumerate.{Enumerate}
use Rattle.std.specs.Iterator.Adapters.{enumerate_source, enumerate_count}
use Rattle.time.specs.Reply.{refusal}
use Rattle.registry.specs.Answers.{refusal_of, replied, told_done}
use Rattle.registry.specs.Calls.{outcome_of}
use Rattle.map_file.specs.Reads.{record_of}
use Rattle.map_file.specs.Files.{records_left, records_of}
use Rattle.map_file.specs.declared.records.Records.{Records}
use Rattle.map_file.proofs.Placed.{all_counted}
use Rattle.map_loading.proofs.Adding.{adding_first, adding_room, adding_ends, adding_refused, adding_next}
use Rattle.map_loading.proofs.Turns.{Taken, taken, none_left, same_over}
use Rattle.map_loading.proofs.records.add_each.Goals as goal

pub loop-k-init : goal.loop-k-init
loop-k-init c =
    let start = c.into_iter-k-iterator.ensures.into_iter_gives in
    let count : enumerate_count c.into_iter-k-iterator.result ≡ 0 = ap enumerate_count start ∙ c.enumerate-k-items.ensures.count in
    let left : records_left (enumerate_source c.into_iter-k-iterator.result) ≡ records_of c.args.file =
    ap (λ (i : Enumerate Records). records_left (enumerate_source i)) start ∙ ap records_left c.enumerate-k-items.ensures.source ∙ c.records.ensures.left in (
      (tt, tt, inl (omega (arith, count, ap length left, all_counted c.records.result, c.records.type_inv, ap length c.records.ensures.left))),
      tt,
      refl,
      record { head = refl; instants = refl; poses = refl },
      adding_first _ _ c.requires.floats c.args.store.now.sound c.requires.empty _ c.requires.unnamed _ left _ count,
    )

pub add_record-requires : goal.add_record-requires
add_record-requires c = adding_room c.loop-k.invariant.4

pub overflow_cast-result : goal.overflow_cast-result
overflow_cast-result c =
    let turn : Taken c.loop-k.k-iterator c.in-Some.k c.in-Some.record c.next.new.self = taken _ _ _ _ c.in-Some.ensures.steps in
    omega (arith, turn.number, ap length turn.left, c.loop-k.invariant.4.number, all_counted c.records.result, c.records.type_inv, ap length c.records.ensures.left)

pub returns-in-Err : goal.returns-in-Err
returns-in-Err c =
    let turn : Taken c.loop-k.k-iterator c.in-Some.k c.in-Some.record c.next.new.self = taken _ _ _ _ c.in-Some.ensures.steps in
    let left = adding_refused c.loop-k.invariant.4 (record_of c.in-Some.record) _ turn.left (outcome_of c.add_record.result c.add_record.new.store.store.now) c.add_record.ensures.outcome _ _ (ap (replied told_done) c.in-Err.is) in
    let store = c.clear.ensures.words ∙ left.0 in
    record {
      same = c.clear.ensures.same ∙ c.add_record.ensures.same ∙ c.loop-k.invariant.2;
      slices = same_over c.loop-k.invariant.3 (same_over c.add_record.ensures.slices c.clear.ensures.slices);
      outcome = (λ i. record { record? = Some (turn.number i); reply = refusal (refusal_of c.in-Err.error).0 (refusal_of c.in-Err.error).1; store = store i }) ∙ sym left.1;
    }

pub loop-k-preserved : goal.loop-k-preserved
loop-k-preserved c =
    let turn : Taken c.loop-k.k-iterator c.in-Some.k c.in-Some.record c.next.new.self = taken _ _ _ _ c.in-Some.ensures.steps in
    let next = adding_next c.loop-k.invariant.4 (record_of c.in-Some.record) _ turn.left (outcome_of c.add_record.result c.add_record.new.store.store.now) c.add_record.ensures.outcome _ c.add_record.ensures.names _ turn.counted (ap (replied told_done) c.in_default.is) in (
      (tt, tt, inl (omega (arith, next.number, all_counted c.records.result, c.records.type_inv, ap length c.records.ensures.left))),
      tt,
      c.add_record.ensures.same ∙ c.loop-k.invariant.2,
      same_over c.loop-k.invariant.3 c.add_record.ensures.slices,
      next,
    )

pub returns : goal.returns
returns c = record { same = c.loop-k.invariant.2; slices = c.loop-k.invariant.3; outcome = sym (adding_ends c.loop-k.invariant.4 (none_left c.loop-k.k-iterator c.next.new.self c.in-None.ensures.steps)) }
