-- One turn of the loop over the records, and what a refusal that is handed on is.
use Prim.Native.Nat.{ℕ, ◌+◌}
use mathlib.Core.Path.{◌≡◌, ap, ◌∙◌}
use mathlib.Core.List.{[], ◌∷◌}
use Rattle.std.specs.Prelude.{None, Some, Result, Ok, Err, IsErrAnd}
use Rattle.std.specs.declared.iter.Enumerate.{Enumerate}
use Rattle.std.specs.Iterator.{YieldsFirstBy}
use Rattle.std.specs.Iterator.Adapters.{enumerate_source, enumerate_count, enumerate_steps}
use Rattle.registry.specs.Calls.{SameSlices}
use Rattle.registry.specs.declared.store.StoreMut.{StoreMut}
use Rattle.map_file.specs.Reads.{record_of}
use Rattle.map_file.specs.Files.{records_left}
use Rattle.map_file.specs.declared.record.Record.{Record as Parts}
use Rattle.map_file.specs.declared.records.Records.{Records}
use Rattle.map_loading.specs.declared.error.LoadError.{LoadError}

-- a record is taken from those that are left
pub record Taken (s : Enumerate Records) (k : ℕ) (r : Parts) (t : Enumerate Records) : Type 0 where
  pub left : records_left (enumerate_source s) ≡ record_of r ∷ records_left (enumerate_source t)
  pub number : k ≡ enumerate_count s
  pub counted : enumerate_count t ≡ enumerate_count s + 1

pub taken : (s t : Enumerate Records) (k : ℕ) (r : Parts) → enumerate_steps (YieldsFirstBy record_of records_left) s (Some (k, r)) t → Taken s k r t
taken s t k r h = record { left = h.0; number = h.1; counted = h.2 }

-- none is left
pub none_left : (s t : Enumerate Records) → enumerate_steps (YieldsFirstBy record_of records_left) s None t → records_left (enumerate_source s) ≡ []
none_left s t h = h.0.0

-- the slices are the same over two calls
pub same_over : {a b c : StoreMut} → SameSlices a b → SameSlices b c → SameSlices a c
same_over p q = record { head = q.head ∙ p.head; instants = q.instants ∙ p.instants; poses = q.poses ∙ p.poses }

pub error_is : (r : Result (Unit {0}) LoadError) (e : LoadError) → IsErrAnd r (λ x. x ≡ e) → r ≡ Err e
error_is (Ok u) e h = absurd h
error_is (Err x) e h = ap Err h
