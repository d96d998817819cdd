-- What is replied to a load, with the record's number, fixes its result: a refusal of the calls has a number up to 17.
use Rattle.std.proofs.Common.{ℕ, ◌≡◌, ◌<◌, refl, sym, ap, arith}
use Rattle.std.specs.Prelude.{Ok, Err}
use Rattle.time.proofs.Options.{Some-injective, None-ne-Some, Some-ne-None}
use Rattle.time.proofs.Replies.{refusal_answer}
use Rattle.registry.specs.declared.error.RegistryError.{RegistryError}
use Rattle.registry.specs.declared.error.RegistryError.TheVariants as call
use Rattle.registry.specs.Answers.{refusal_of as call_refusal_of}
use Rattle.registry.proofs.ReplyInjective.{refusal_injective}
use Rattle.map_loading.specs.declared.error.LoadError.{LoadError}
use Rattle.map_loading.specs.declared.error.LoadError.TheVariants as load
use Rattle.map_loading.specs.Answers.{refusal_of}
use Rattle.map_loading.specs.Loading.{record_of, load_reply}
use Rattle.map_loading.specs.Laws.{LoadInjective}

small : (e : RegistryError) → (call_refusal_of e).0 < 18
small call.Sizes = omega arith
small call.UnsoundStore = omega arith
small call.NonFiniteValues = omega arith
small (call.NonUnitRotation n) = omega arith
small call.SelfReferentialFrame = omega arith
small (call.ReparentingNotSupported f) = omega arith
small call.CycleDetected = omega arith
small call.StaticDynamicConflict = omega arith
small (call.UnknownFrame f) = omega arith
small call.Disconnected = omega arith
small (call.NotFoundAt child range) = omega arith
small (call.NoCommonTime child range) = omega arith
small call.NonFinite = omega arith
small call.ZeroLengthNormalization = omega arith
small call.DurationUnderflow = omega arith
small call.TreeFull = omega arith
small call.RowFull = omega arith

-- a refusal of the calls is not one of 18 and 19
other : (e : RegistryError) (k : ℕ) → (call_refusal_of e).0 ≡ k → 17 < k → ⊥
other e k q h = let s = small e in omega arith

-- the same refusal, read from the reply
refused : (a b : LoadError) → load_reply (Err a) ≡ load_reply (Err b) → refusal_of a ≡ refusal_of b
refused a b e =
    let number : (refusal_of a).0 ≡ (refusal_of b).0 = cc e in
    let carried : (refusal_of a).1 ≡ (refusal_of b).1 = cc e in
    λ j. (number j, carried j)

errors : (a b : LoadError) → record_of (Err a) ≡ record_of (Err b) → refusal_of a ≡ refusal_of b → a ≡ b
errors (load.Store d) (load.Store e) r q = ap load.Store (refusal_injective d e q)
errors (load.Store d) load.StoreInUse r q = absurd (other d 19 (λ j. (q j).0) (omega arith))
errors (load.Store d) load.MapForm r q = absurd (other d 18 (λ j. (q j).0) (omega arith))
errors (load.Store d) (load.Record n e) r q = absurd (None-ne-Some _ r)
errors load.StoreInUse (load.Store e) r q = absurd (other e 19 (sym (λ j. (q j).0)) (omega arith))
errors load.StoreInUse load.StoreInUse r q = refl
errors load.StoreInUse load.MapForm r q = absurd (let z : ◌≡◌ {A = ℕ} 19 18 = λ j. (q j).0 in omega arith)
errors load.StoreInUse (load.Record n e) r q = absurd (None-ne-Some _ r)
errors load.MapForm (load.Store e) r q = absurd (other e 18 (sym (λ j. (q j).0)) (omega arith))
errors load.MapForm load.StoreInUse r q = absurd (let z : ◌≡◌ {A = ℕ} 18 19 = λ j. (q j).0 in omega arith)
errors load.MapForm load.MapForm r q = refl
errors load.MapForm (load.Record n e) r q = absurd (None-ne-Some _ r)
errors (load.Record m d) (load.Store e) r q = absurd (Some-ne-None _ r)
errors (load.Record m d) load.StoreInUse r q = absurd (Some-ne-None _ r)
errors (load.Record m d) load.MapForm r q = absurd (Some-ne-None _ r)
errors (load.Record m d) (load.Record n e) r q =
    let number = Some-injective m n r in
    let error = refusal_injective d e q in
    λ j. load.Record (number j) (error j)

pub load_injective : LoadInjective
load_injective (Ok u) (Ok v) r e = refl
load_injective (Ok u) (Err b) r e = absurd (refusal_answer (sym e))
load_injective (Err a) (Ok v) r e = absurd (refusal_answer e)
load_injective (Err a) (Err b) r e = ap Err (errors a b r (refused a b e))
