use Rattle.std.proofs.Common.{◌≡◌}
use Rattle.std.specs.Iterator.Adapters.{enumerate_source, enumerate_count}
use Rattle.registry.specs.Calls.{words_mut, SameSlices}
use Rattle.map_file.specs.Files.{records_left, records_of}
use Rattle.map_loading.specs.Numbering.{names_of}
use Rattle.map_loading.proofs.Adding.{Adding}
use Rattle.map_loading.proofs.records.add_each.Given as goal

-- those that are left are still to be added
abbrev pub invariant-loop-k : goal.invariant-loop-k
invariant-loop-k l = (goal.iterator-loop-k).can_next l.k-iterator × (goal.iterator-loop-k).is_finite l.k-iterator
    × (l.store.store.ghost_name ≡ l.fn.store.store.ghost_name) × SameSlices l.fn.store.store.now l.store.store.now
    × Adding (words_mut l.fn.store.store.now) (records_of l.fn.file) (words_mut l.store.store.now) (names_of l.names) (records_left (enumerate_source l.k-iterator)) (enumerate_count l.k-iterator)
