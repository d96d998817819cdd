-- Two forms, one behind the other: the whole is read exactly where each is. Assumes nothing.
use Prim.Native.Nat.{ℕ, zero, suc, ◌+◌, ◌-◌, ◌<◌}
use mathlib.Core.Path.{◌≡◌, refl, sym, ap, ◌∙◌}
use Rattle.std.specs.Prelude.{Option, None, Some, option_map}
use Rattle.time.proofs.Options.{Some-injective}
use mathlib.Core.List.{List, ◌∷◌}
use native.Mathlib.Omega.{arith}
use lib.ListN.{length}
use Rattle.buffer.proofs.Cases.{none_some}
use Rattle.map_file.specs.Form.{◌and_then◌, times}

pub record Steps {A B : Type 0} (o : Option (A × List ℕ)) (next : A → List ℕ → Option B) (b : B) : Type 0 where
  pub first : A
  pub rest : List ℕ
  pub read : o ≡ Some (first, rest)
  pub more : next first rest ≡ Some b

pub steps : {A B : Type 0} (o : Option (A × List ℕ)) (next : A → List ℕ → Option B) (b : B) → (o and_then next) ≡ Some b → Steps o next b
steps None next b e = absurd (none_some e)
steps (Some x) next b e = record { first = x.0; rest = x.1; read = refl; more = e }

pub then_some : {A B : Type 0} (o : Option (A × List ℕ)) (next : A → List ℕ → Option B) (a : A) (rest : List ℕ) (b : B) → o ≡ Some (a, rest) → next a rest ≡ Some b → (o and_then next) ≡ Some b
then_some o next a rest b e h = rw e h

-- as many are read as are asked for
pub times_count : {A : Type 0} (form : List ℕ → Option (A × List ℕ)) (n : ℕ) (bytes : List ℕ) (xs : List A) (rest : List ℕ) → times n form bytes ≡ Some (xs, rest) → length xs ≡ n
times_count form zero bytes xs rest e = ap (λ x. length x.0) (sym (Some-injective _ _ e))
times_count form (suc n) bytes xs rest e =
    let one = steps (form bytes) _ (xs, rest) e in
    let rest = steps (times n form one.rest) _ (xs, rest) one.more in
    ap (λ x. length x.0) (sym (Some-injective _ _ rest.more)) ∙ ap suc (times_count form n one.rest rest.first rest.rest rest.read)

-- ---- the bytes behind what was read

abbrev pub behind : {A : Type 0} → Option (A × List ℕ) → Option (List ℕ)
behind o = option_map (λ x. x.1) o

pub behind_one : {A : Type 0} (form : List ℕ → Option (A × List ℕ)) (n k : ℕ) (bytes : List ℕ) (a : A) (rest : List ℕ) → Some (a, rest) ≡ form bytes → k < n
    → behind (times (n - k) form bytes) ≡ behind (times (n - (k + 1)) form rest)
behind_one {A} form n k bytes a rest e l =
    let q : n - k ≡ suc (n - (k + 1)) = omega arith in
    rw (q, sym e) (go (times (n - (k + 1)) form rest))
  where
    go : (o : Option (List A × List ℕ)) → behind (o and_then λ more end. Some (a ∷ more, end)) ≡ behind o
    go None = refl
    go (Some x) = refl
