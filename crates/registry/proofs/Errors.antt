-- What a call replies that passes an error on by `?`, and what it leaves.
use Prim.Native.Nat.{ℕ}
use mathlib.Core.Path.{◌≡◌, ap}
use Rattle.std.specs.Prelude.{Result, Ok, Err}
use Rattle.std.specs.Result.{IsErrAnd}
use Rattle.time.specs.Reply.{Reply, Carried, refusal}
use Rattle.registry.specs.declared.error.RegistryError.{RegistryError}
use Rattle.registry.specs.declared.store.StoreMut.{StoreMut}
use Rattle.registry.specs.Answers.{Value, refusal_of, replied, told_done}
use Rattle.registry.specs.Calls.{outcome_of, words_mut}

-- the refusal that the error is
abbrev pub refused_by : {A : Type 0} → RegistryError → Reply A
refused_by e = refusal (refusal_of e).0 (refusal_of e).1

pub passed_on : {A : Type 0} (told : A → Value) (r : Result A RegistryError) (e : RegistryError) → IsErrAnd r (λ x. x ≡ e) → replied told r ≡ refused_by e
passed_on told (Ok a) e h = absurd h
passed_on told (Err x) e h = ap refused_by h

-- of a call that writes, where it has left every word
pub passed_written : (r : Result (Unit {0}) RegistryError) (e : RegistryError) (s : StoreMut) → IsErrAnd r (λ x. x ≡ e) → outcome_of r s ≡ record { reply = refused_by e; store = words_mut s }
passed_written r e s h = λ j. record { reply = passed_on told_done r e h j; store = words_mut s }

-- of an error that was made from another, which tells the refusal
pub passed_as : {A : Type 0} (told : A → Value) (r : Result A RegistryError) (x : ℕ × Carried) → IsErrAnd r (λ e. refusal_of e ≡ x) → replied told r ≡ refusal x.0 x.1
passed_as told (Ok a) x h = absurd h
passed_as told (Err e) x h = λ j. refusal (h j).0 (h j).1
