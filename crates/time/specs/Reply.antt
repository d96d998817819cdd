-- What a call replies, in document 01's terms: an answer, or a refusal by its number in the table of noes with the data listed there.
use Rattle.std.specs.Prelude.{ℕ, Bool, cond, Float, Option, Result, Ok, Err}

-- what a refusal carries: nothing; the norm of 4; the parent of 6 or the frame of 9; a hop's child and its range, if any, of 11 and 12
pub data Carried : Type 0 where
  nothing : Carried
  norm : Float → Carried
  frame : ℕ → Carried
  hop : ℕ → Option (ℕ × ℕ) → Carried

pub data Reply (A : Type 0) : Type 0 where
  answer : A → Reply A
  refusal : ℕ → Carried → Reply A

-- the reply that a result of the code is, each error told by its number and what it carries
abbrev pub reply_by : {A E : Type 0} → (E → ℕ × Carried) → Result A E → Reply A
reply_by told (Ok a) = answer a
reply_by told (Err e) = refusal (told e).0 (told e).1

-- the first refusal of two steps in order, or what the second makes of the first's answer
infixr 1 ◌then◌
abbrev pub ◌then◌ : {A B : Type 0} → Reply A → (A → Reply B) → Reply B
answer a then next = next a
refusal k c then next = refusal k c

-- refusal k where the test holds, else the reply that follows
abbrev pub refuse : {A : Type 0} → Bool → ℕ → Carried → Reply A → Reply A
refuse test k c next = cond test (refusal k c) next
