-- An error's refusal fixes its case and its values, and a reply fixes the result of the call. The cases stand in the order of their numbers, and their values can be read back: both are computed from the enum and `refusal_of`, so that no line here is for one error.
use Prim.Native.Nat.{ℕ, ◌<◌}
use mathlib.Core.Path.{◌≡◌, refl, sym, ap, ◌∙◌}
use mathlib.Core.Bool.{Bool, true, ◌&&◌}
use mathlib.Core.List.{List, [], ◌∷◌}
use mathlib.Core.Logic.{inl, inr}
use Rattle.std.specs.Prelude.{Option, None, Result, Ok, Err}
use native.Mathlib.Omega.{arith}
use lib.Dec.{ltb}
use lib.Ieee.{Float}
use borrow.Author.Tests.{ltb-true}
use denote.Struct.Field.{Field}
use denote.Struct.Values.{Values}
use denote.Enum.Declared.{Choice, values_one}
use Rattle.time.specs.Float.{zero64}
use Rattle.time.specs.declared.stamp.Stamp.{Stamp}
use Rattle.time.specs.declared.stamp.Stamp.TheVariants as stamp
use Rattle.time.specs.Reply.{Carried, nothing, norm, frame, hop}
use Rattle.time.proofs.Replies.{refusal_answer}
use Rattle.geometry.specs.declared.isometry.Isometry.{Isometry}
use Rattle.buffer.proofs.Cases.{and_left, and_right}
use Rattle.registry.specs.declared.error.RegistryError.{RegistryError}
use Rattle.registry.specs.Answers.{Value, pose, refusal_of, replied, told_done, told_time}
use Rattle.registry.specs.Laws.{RefusalInjective, SameError, ReplyInjective}
use Rattle.registry.specs.contracts.error.RegistryError.{the_parts as parts, as_values, the_make as make, the_eta as eta, enum}

-- ---- what is read in a refusal

-- its number and what it carries
abbrev Refusal : Type 0
Refusal = ℕ × Carried

abbrev place : Refusal → ℕ
place r = r.0

-- a frame or a hop's child
abbrev number_in : Carried → ℕ
number_in nothing = 0
number_in (norm n) = 0
number_in (frame f) = f
number_in (hop f range) = f

-- the norm of 4
abbrev norm_in : Carried → Float
norm_in nothing = zero64
norm_in (norm n) = n
norm_in (frame f) = zero64
norm_in (hop f range) = zero64

-- a hop's range
abbrev range_in : Carried → Option (ℕ × ℕ)
range_in nothing = None
range_in (norm n) = None
range_in (frame f) = None
range_in (hop f range) = range

-- ---- the cases of an enum whose refusals are F

-- values for each case
abbrev AllValues : List (List Field) → Type 0
AllValues [] = Unit {0}
AllValues (fields ∷ cases) = Values fields × AllValues cases

-- for each case the place of its refusal, given its values
abbrev Places : List (List Field) → Type 0
Places [] = Unit {0}
Places (fields ∷ cases) = (Values fields → ℕ) × Places cases

abbrev places : (cases : List (List Field)) → (Choice cases → Refusal) → Places cases
places [] F = tt
places (fields ∷ cases) F = (λ v. place (F (inl v)), places cases (λ c. F (inr c)))

-- the place whatever the values, as that of the values x
abbrev placed : (cases : List (List Field)) → AllValues cases → (Choice cases → Refusal) → Places cases
placed [] x F = tt
placed (fields ∷ cases) x F = (λ v. place (F (inl x.0)), placed cases x.1 (λ c. F (inr c)))

-- these rise from case to case, the first behind n
abbrev rising : (cases : List (List Field)) → AllValues cases → (Choice cases → Refusal) → ℕ → Bool
rising [] x F n = true
rising (fields ∷ cases) x F n = ltb n (place (F (inl x.0))) && rising cases x.1 (λ c. F (inr c)) (place (F (inl x.0)))

-- for each case what is read as its values in its refusal, given its values
abbrev Readings : List (List Field) → Type 0
Readings [] = Unit {0}
Readings (fields ∷ cases) = (Values fields → Values fields) × Readings cases

abbrev readings : (cases : List (List Field)) → (Refusal → AllValues cases) → (Choice cases → Refusal) → Readings cases
readings [] X F = tt
readings (fields ∷ cases) X F = (λ v. (X (F (inl v))).0, readings cases (λ r. (X r).1) (λ c. F (inr c)))

-- the values themselves
abbrev unchanged : (cases : List (List Field)) → Readings cases
unchanged [] = tt
unchanged (fields ∷ cases) = (λ v. v, unchanged cases)

-- every place is behind n
behind : (cases : List (List Field)) (x : AllValues cases) (F : Choice cases → Refusal) (n : ℕ)
    → places cases F ≡ placed cases x F → rising cases x F n ≡ true → (c : Choice cases) → n < place (F c)
behind [] x F n p r c = absurd c
behind (fields ∷ cases) x F n p r (inl v) =
    let m = place (F (inl x.0)) in
    let h = ltb-true n m (and_left (ltb n m) _ r) in
    let k : place (F (inl v)) ≡ m = λ j. (p j).0 v in
    omega arith
behind (fields ∷ cases) x F n p r (inr c) =
    let m = place (F (inl x.0)) in
    let h = ltb-true n m (and_left (ltb n m) _ r) in
    let k = behind cases x.1 (λ c. F (inr c)) m (λ j. (p j).1) (and_right (ltb n m) _ r) c in
    omega arith

-- a case is apart from those behind it
apart : (fields : List Field) (cases : List (List Field)) (x : AllValues (fields ∷ cases)) (F : Choice (fields ∷ cases) → Refusal) (n : ℕ)
    → places (fields ∷ cases) F ≡ placed (fields ∷ cases) x F → rising (fields ∷ cases) x F n ≡ true
    → (v : Values fields) (c : Choice cases) → F (inl v) ≡ F (inr c) → ⊥
apart fields cases x F n p r v c e =
    let m = place (F (inl x.0)) in
    let k : place (F (inl v)) ≡ m = λ j. (p j).0 v in
    let h = behind cases x.1 (λ c. F (inr c)) m (λ j. (p j).1) (and_right (ltb n m) _ r) c in
    let s = ap place e in
    omega arith

-- two cases with one refusal are one, with the same values
one : (cases : List (List Field)) (x : AllValues cases) (X : Refusal → AllValues cases) (F : Choice cases → Refusal) (n : ℕ)
    → places cases F ≡ placed cases x F → rising cases x F n ≡ true → readings cases X F ≡ unchanged cases
    → (c d : Choice cases) → F c ≡ F d → c ≡ d
one [] x X F n p r u c d e = absurd c
one (fields ∷ cases) x X F n p r u (inl v) (inl w) e =
    let back : (a : Values fields) → (X (F (inl a))).0 ≡ a = λ a j. (u j).0 a in
    ap inl (sym (back v) ∙ (λ j. (X (e j)).0) ∙ back w)
one (fields ∷ cases) x X F n p r u (inr c) (inr d) e =
    let m = place (F (inl x.0)) in
    ap inr (one cases x.1 (λ r. (X r).1) (λ c. F (inr c)) m (λ j. (p j).1) (and_right (ltb n m) _ r) (λ j. (u j).1) c d e)
one (fields ∷ cases) x X F n p r u (inl v) (inr d) e = absurd (apart fields cases x F n p r v d e)
one (fields ∷ cases) x X F n p r u (inr c) (inl w) e = absurd (apart fields cases x F n p r w c (sym e))

-- ---- the cases of the errors

-- values of every case, from one of each type
from : ℕ → Float → Option (ℕ × ℕ) → AllValues parts
from i n range = search

-- the values that a refusal shows, for every case
abbrev read : Refusal → AllValues parts
read r = from (number_in r.1) (norm_in r.1) (range_in r.1)

-- the refusal of a case with its values
abbrev refused : Choice parts → Refusal
refused c = refusal_of (make c)

pub refusal_injective : RefusalInjective
unfolding from
refusal_injective a b e =
    values_one enum a b
    (one parts (read (0, nothing)) read refused 0 refl refl refl (as_values a) (as_values b)
    (ap refusal_of (eta a) ∙ e ∙ sym (ap refusal_of (eta b))))

-- ---- the results of calls

replied_injective : {A : Type 0} (told : A → Value) → ((v w : A) → told v ≡ told w → v ≡ w) → (a b : Result A RegistryError) → replied told a ≡ replied told b → a ≡ b
replied_injective told apart (Ok v) (Ok w) e = let same : told v ≡ told w = cc e in ap Ok (apart v w same)
replied_injective told apart (Ok v) (Err d) e = absurd (refusal_answer (sym e))
replied_injective told apart (Err d) (Ok v) e = absurd (refusal_answer e)
replied_injective told apart (Err d) (Err b) e =
    let number : (refusal_of d).0 ≡ (refusal_of b).0 = cc e in
    let carried : (refusal_of d).1 ≡ (refusal_of b).1 = cc e in
    ap Err (refusal_injective d b (λ j. (number j, carried j)))

times_apart : (v w : Stamp) → told_time v ≡ told_time w → v ≡ w
times_apart stamp.Static stamp.Static e = refl
times_apart stamp.Static (stamp.At j) e = absurd (let z : ◌≡◌ {A = ℕ} 0 1 = cc e in omega arith)
times_apart (stamp.At i) stamp.Static e = absurd (let z : ◌≡◌ {A = ℕ} 0 1 = cc e in omega arith)
times_apart (stamp.At i) (stamp.At j) e = let same : i ≡ j = cc e in ap stamp.At same

-- the results of two calls whose values are never told the same
replied_apart : {A B : Type 0} (told : A → Value) (other : B → Value) → ((v : A) (w : B) → told v ≡ other w → ⊥)
    → (a : Result A RegistryError) (b : Result B RegistryError) → replied told a ≡ replied other b → SameError a b
replied_apart told other apart (Ok v) (Ok w) e = let same : told v ≡ other w = cc e in absurd (apart v w same)
replied_apart told other apart (Ok v) (Err d) e = absurd (refusal_answer (sym e))
replied_apart told other apart (Err d) (Ok v) e = absurd (refusal_answer e)
replied_apart told other apart (Err d) (Err b) e =
    let number : (refusal_of d).0 ≡ (refusal_of b).0 = cc e in
    let carried : (refusal_of d).1 ≡ (refusal_of b).1 = cc e in
    (d, refl, ap Err (sym (refusal_injective d b (λ j. (number j, carried j)))))

done_no_time : (u : Unit {0}) (v : Stamp) → told_done u ≡ told_time v → ⊥
done_no_time u stamp.Static e = cc e
done_no_time u (stamp.At i) e = cc e

pose_no_time : (p : Isometry) (v : Stamp) → pose p ≡ told_time v → ⊥
pose_no_time p stamp.Static e = cc e
pose_no_time p (stamp.At i) e = cc e

pub reply_injective : ReplyInjective
reply_injective = record {
  dones = replied_injective told_done (λ v w e. refl);
  poses = replied_injective (λ p. pose p) (λ v w e. cc e);
  times = replied_injective told_time times_apart;
  done_and_pose = replied_apart told_done (λ p. pose p) (λ u p e. cc e);
  done_and_time = replied_apart told_done told_time done_no_time;
  pose_and_time = replied_apart (λ p. pose p) told_time pose_no_time;
}
