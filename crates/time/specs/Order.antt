-- An order of refusals as data: the numbers as document 01 prints them, and beside them what makes each number due, whatever the order is.
use Rattle.std.specs.Prelude.{ℕ, Bool, cond, List, [], ◌∷◌, eqb}
use Rattle.std.specs.Prelude.{Option, None, Some}
use Rattle.time.specs.Reply.{Carried, Reply, answer, refusal}

-- what a number carries, if it is due
abbrev pub when : Bool → Carried → Option Carried
when test c = cond test (Some c) None

-- of the numbers that a call can be refused with: what each carries, if it is due
abbrev pub Dues : Type 0
Dues = List (ℕ × Option Carried)

-- what the number k carries, if it is due
abbrev pub due_at : Dues → ℕ → Option Carried
due_at [] k = None
due_at (x ∷ dues) k = cond (eqb k x.0) x.1 (due_at dues k)

-- the number k where it is due, else what comes later
abbrev pub due_or : ℕ → Option Carried → Option (ℕ × Carried) → Option (ℕ × Carried)
due_or k (Some c) later = Some (k, c)
due_or k None later = later

-- the first number of the order that is due, with what it carries
abbrev pub first_due : Dues → List ℕ → Option (ℕ × Carried)
first_due dues [] = None
first_due dues (k ∷ ks) = due_or k (due_at dues k) (first_due dues ks)

-- what a reply refuses with, none for an answer
abbrev pub refused : {A : Type 0} → Reply A → Option (ℕ × Carried)
refused (answer a) = None
refused (refusal k c) = Some (k, c)
