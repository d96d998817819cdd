use mathlib.Core.Path.{ap, sym, subst}
use native.Mathlib.Omega.{arith}
use Rattle.registry.specs.Tree.{addition}
use Rattle.registry.specs.Sound.{SoundStore}
use Rattle.registry.specs.Calls.{Outcome, words_mut}
use Rattle.registry.proofs.soundness.Called.{added_sound}
use Rattle.registry.proofs.checked.CheckedMut.add_transform.Goals as goal

pub invariant_of-self : goal.invariant_of-self
invariant_of-self c =
    let a = c.args in
    record { sound = subst SoundStore (sym (ap (λ (o : Outcome). o.store) c.add.ensures.outcome)) (added_sound (words_mut a.self.now.store.now) a.self.now.sound (addition a.child a.parent a.stamp a.pose) (omega arith) (omega arith)) }
