use mathlib.Core.Path.{sym, ◌∙◌}
use Rattle.registry.specs.Calls.{words}
use Rattle.registry.proofs.soundness.Called.{finds_sizes, finds_unsound, finds_sound}
use Rattle.registry.proofs.store.Store.check.Goals as goal

pub returns-then-not-sized-clause-tests : goal.returns-then-not-sized-clause-tests
returns-then-not-sized-clause-tests c = finds_sizes (words c.args.self.now) (sym c.sized.ensures ∙ c.if-not-sized.true)

pub returns-then-not-sound-clause-tests : goal.returns-then-not-sound-clause-tests
returns-then-not-sound-clause-tests c =
    finds_unsound (words c.args.self.now) (sym c.sized.ensures ∙ c.if-not-sized.false) (sym c.sound.ensures ∙ c.if-not-sound.true)

pub invariant_of-checked : goal.invariant_of-checked
invariant_of-checked c = record { sound = record { sizes = sym c.sized.ensures ∙ c.if-not-sized.false; rules = sym c.sound.ensures ∙ c.if-not-sound.false } }

pub returns-clause-tests : goal.returns-clause-tests
returns-clause-tests c =
    finds_sound (words c.args.self.now) (record { sizes = sym c.sized.ensures ∙ c.if-not-sized.false; rules = sym c.sound.ensures ∙ c.if-not-sound.false })
