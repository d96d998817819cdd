-- Document 01's number and values for each error of the calls, what each number carries, and the reply that a result of a call stands for.
use Rattle.std.specs.Prelude.{ℕ, Bool, List, [], ◌∷◌}
use Rattle.std.specs.Prelude.{Result}
use Rattle.time.specs.declared.stamp.Stamp.{Stamp}
use Rattle.time.specs.declared.stamp.Stamp.TheVariants as stamp
use Rattle.time.specs.Reply.{Reply, Carried, answer, nothing, norm, frame, hop, reply_by, ◌then◌}
use Rattle.geometry.specs.declared.isometry.Isometry.{Isometry}
use Rattle.registry.specs.declared.error.Carried.{Carried as CarriedEnum}
use Rattle.registry.specs.declared.error.Carried.TheVariants as carried
use Rattle.registry.specs.declared.error.RegistryError.{RegistryError}
use Rattle.registry.specs.declared.error.RegistryError.TheVariants as error
use Rattle.registry.specs.Tree.{member}

-- what a call answers: done, a pose, Static, or an instant
pub data Value : Type 0 where
  done : Value
  pose : Isometry → Value
  static : Value
  at : ℕ → Value

-- the number and the data of each error
abbrev pub refusal_of : RegistryError → ℕ × Carried
refusal_of error.Sizes = (1, nothing)
refusal_of error.UnsoundStore = (2, nothing)
refusal_of error.NonFiniteValues = (3, nothing)
refusal_of (error.NonUnitRotation n) = (4, norm n)
refusal_of error.SelfReferentialFrame = (5, nothing)
refusal_of (error.ReparentingNotSupported f) = (6, frame f)
refusal_of error.CycleDetected = (7, nothing)
refusal_of error.StaticDynamicConflict = (8, nothing)
refusal_of (error.UnknownFrame f) = (9, frame f)
refusal_of error.Disconnected = (10, nothing)
refusal_of (error.NotFoundAt child range) = (11, hop child range)
refusal_of (error.NoCommonTime child range) = (12, hop child range)
refusal_of error.NonFinite = (13, nothing)
refusal_of error.ZeroLengthNormalization = (14, nothing)
refusal_of error.DurationUnderflow = (15, nothing)
refusal_of error.TreeFull = (16, nothing)
refusal_of error.RowFull = (17, nothing)

-- what a call with this result replies, its value told
abbrev pub replied : {A : Type 0} → (A → Value) → Result A RegistryError → Reply Value
replied told r = reply_by refusal_of r then λ a. answer (told a)

-- a call that writes is answered done, a common time with Static or with an instant
abbrev pub told_done : Unit {0} → Value
told_done u = done

abbrev pub told_time : Stamp → Value
told_time stamp.Static = static
told_time (stamp.At i) = at i

-- what the code's enum of carried data says
abbrev pub carried_by : CarriedEnum → Carried
carried_by carried.Nothing = nothing
carried_by (carried.Norm n) = norm n
carried_by (carried.Frame f) = frame f
carried_by (carried.Hop child range) = hop child range

-- "A refusal carries the listed data": these numbers nothing, 4 the norm, 6 that parent and 9 the frame, 11 and 12 a hop's child and its range, if any
abbrev pub with_nothing : List ℕ
with_nothing = 1 ∷ 2 ∷ 3 ∷ 5 ∷ 7 ∷ 8 ∷ 10 ∷ 13 ∷ 14 ∷ 15 ∷ 16 ∷ 17 ∷ 18 ∷ 19 ∷ []

abbrev pub with_norm : List ℕ
with_norm = 4 ∷ []

abbrev pub with_frame : List ℕ
with_frame = 6 ∷ 9 ∷ []

abbrev pub with_hop : List ℕ
with_hop = 11 ∷ 12 ∷ []

-- whether a refusal of this number carries such data
abbrev pub carries : ℕ → Carried → Bool
carries k nothing = member k with_nothing
carries k (norm n) = member k with_norm
carries k (frame f) = member k with_frame
carries k (hop f range) = member k with_hop
