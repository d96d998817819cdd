-- What holds of a row's samples, for the tree above. Proved in proofs/BufferLaws.antt under the same names.
use Rattle.std.specs.Prelude.{ℕ, max, ◌≤◌, ◌≡◌, ◌⊎◌, true, false, cond, eqb, leb}
use Rattle.std.specs.Prelude.{Option, None, Some}
use Rattle.time.specs.Reply.{Carried, nothing, hop, answer, refusal}
use Rattle.geometry.specs.declared.isometry.Isometry.{Isometry}
use Rattle.geometry.specs.Isometry.{is_finite}
use Rattle.buffer.specs.declared.kind.Kind.{Kind}
use Rattle.buffer.specs.declared.kind.Kind.TheVariants.{Dynamic}
use Rattle.buffer.specs.Map.{get, rising}
use Rattle.buffer.specs.Samples.{Samples, newest, survives, insert, remove_before, range, served, query}

-- what an insertion leaves at each instant: the new pose or what was held, where it survives the newest
abbrev pub GetInsert : Type 0
GetInsert = (age : Option ℕ) (i : ℕ) (p : Isometry) (m : Samples) (j : ℕ)
    → get (insert age i p m) j ≡ cond (survives age (max i (newest m)) j) (cond (eqb i j) (Some p) (get m j)) None

-- what a wipe leaves at each instant
abbrev pub GetRemoveBefore : Type 0
GetRemoveBefore = (i : ℕ) (m : Samples) (j : ℕ) → get (remove_before Dynamic i m) j ≡ cond (leb i j) (get m j) None

-- a late sample, even one too old to be held, leaves the newest as it is
abbrev pub NewestInsert : Type 0
NewestInsert = (age : Option ℕ) (i : ℕ) (p : Isometry) (m : Samples) → newest (insert age i p m) ≡ max i (newest m)

-- what is too old stays too old as the newest grows
abbrev pub ExpiryMonotone : Type 0
ExpiryMonotone = (age : Option ℕ) (n later i : ℕ) → n ≤ later → survives age n i ≡ false → survives age later i ≡ false

-- the order of insertions at different instants does not matter
abbrev pub OrderFree : Type 0
OrderFree = (age : Option ℕ) (i j : ℕ) (p q : Isometry) (m : Samples) → rising m ≡ true → (i ≡ j → ⊥)
    → insert age j q (insert age i p m) ≡ insert age i p (insert age j q m)

-- "A query on a sample's instant returns it without slerp."
abbrev pub ExactSample : Type 0
ExactSample = (child : ℕ) (m : Samples) (t : ℕ) (p : Isometry) → get m t ≡ Some p → served child Dynamic m t ≡ answer p

-- a row whose instants rise is refused with 11 or not at all, never with 15
abbrev pub OnlyNotServed : Type 0
OnlyNotServed = (child : ℕ) (kind : Kind) (m : Samples) (t n : ℕ) (c : Carried) → rising m ≡ true
    → served child kind m t ≡ refusal n c → (n ≡ 11) × (c ≡ hop child (range m))

-- "No overflowed pose leaves the module" (M-103): the pose that a query answers is finite, and is the one that its steps come to
abbrev pub QueryFinite : Type 0
QueryFinite = (child : ℕ) (kind : Kind) (m : Samples) (t : ℕ) (p : Isometry)
    → query child kind m t ≡ answer p → (served child kind m t ≡ answer p) × (is_finite p ≡ true)

-- a query on a row whose instants rise is refused with 11, else with 3, and with no other number
abbrev pub QueryRefusals : Type 0
QueryRefusals = (child : ℕ) (kind : Kind) (m : Samples) (t n : ℕ) (c : Carried) → rising m ≡ true → query child kind m t ≡ refusal n c
    → ((n ≡ 11) × (c ≡ hop child (range m))) ⊎ ((n ≡ 3) × (c ≡ nothing))
