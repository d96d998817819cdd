use mathlib.Core.Path.{◌∙◌}
use Rattle.registry.specs.Limits.{limits_by}
use Rattle.registry.specs.Calls.{store_of, words_mut}
use Rattle.registry.proofs.layout.HeaderWriting.{opened_words}
use Rattle.registry.proofs.store.StoreMut.overwrite.Goals as goal

pub returns-clause-words : goal.returns-clause-words
returns-clause-words c =
    let a = c.args in
    let s = words_mut a.self.now in
    (λ j. store_of (c.write_head.ensures j) (c.clear.ensures j) (c.clear-2.ensures j))
    ∙ opened_words s.head s.instants s.poses (limits_by a.limits) c.requires
