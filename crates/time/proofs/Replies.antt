-- A refusal is no answer; what a step that is answered has passed.
use Prim.Native.Nat.{ℕ}
use mathlib.Core.Path.{◌≡◌, refl}
use mathlib.Core.Bool.{Bool, true, false}
use Rattle.time.specs.Reply.{Carried, Reply, answer, refusal, refuse, ◌then◌}

pub refusal_answer : {A : Type 0} {k : ℕ} {c : Carried} {v : A} → refusal k c ≡ answer v → ⊥
refusal_answer e = cc e

pub answer_in : {A : Type 0} {v w : A} → answer v ≡ answer w → v ≡ w
answer_in e = cc e

pub refuse_answered : {A : Type 0} (test : Bool) (k : ℕ) (c : Carried) (next : Reply A) (v : A) → refuse test k c next ≡ answer v
    → (test ≡ false) × (next ≡ answer v)
refuse_answered true k c next v e = absurd (refusal_answer e)
refuse_answered false k c next v e = (refl, e)

pub then_answered : {A B : Type 0} (r : Reply A) (next : A → Reply B) (v : B) → (r then next) ≡ answer v
    → (a : A) × (r ≡ answer a) × (next a ≡ answer v)
then_answered (answer a) next v e = (a, refl, e)
then_answered (refusal k c) next v e = absurd (refusal_answer e)
