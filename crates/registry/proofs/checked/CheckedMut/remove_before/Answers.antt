use mathlib.Core.Path.{ap, sym, subst}
use Rattle.registry.specs.Sound.{SoundStore}
use Rattle.registry.specs.Calls.{Outcome, words_mut}
use Rattle.registry.proofs.soundness.Called.{wiped_sound}
use Rattle.registry.proofs.checked.CheckedMut.remove_before.Goals as goal

pub invariant_of-self : goal.invariant_of-self
invariant_of-self c =
    let a = c.args in
    record { sound = subst SoundStore (sym (ap (λ (o : Outcome). o.store) c.wipe.ensures.outcome)) (wiped_sound (words_mut a.self.now.store.now) a.self.now.sound a.child a.t) }
