-- A sound tree and its limits are read back from its words, so its words fix it.
use mathlib.Core.Path.{sym, ap, ◌∙◌}
use Rattle.registry.specs.Store.{tree_of}
use Rattle.registry.specs.Laws.{StoredReadsBack, StoredInjective}
use Rattle.registry.proofs.layout.StoreBack.{limits_back, tree_back}
use Rattle.registry.proofs.soundness.SoundEdges.{sound_fits}

pub stored_reads_back : StoredReadsBack
stored_reads_back L t p a = (limits_back L t, tree_back L t (sound_fits L t p a))

pub stored_injective : StoredInjective
stored_injective L t u p a b e = sym (stored_reads_back L t p a).1 ∙ ap tree_of e ∙ (stored_reads_back L u p b).1
