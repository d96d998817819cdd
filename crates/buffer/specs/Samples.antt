-- A row's samples: poses by instant, what an insertion and a wipe leave of them, and what a query is served.
use Rattle.std.specs.Prelude.{ℕ, ◌-◌, max, Bool, true, leb, ltb}
use Rattle.std.specs.Prelude.{Option, None, Some}
use mathlib.Core.List.{List, [], ◌∷◌}
use Rattle.time.specs.Reply.{Reply, answer, refusal, hop, ◌then◌}
use Rattle.geometry.specs.declared.isometry.Isometry.{Isometry}
use Rattle.geometry.specs.Isometry.{finite, interpolated}
use Rattle.buffer.specs.declared.kind.Kind.{Kind}
use Rattle.buffer.specs.declared.kind.Kind.TheVariants.{Static, Dynamic}
use Rattle.buffer.specs.declared.coverage.Coverage.{Coverage}
use Rattle.buffer.specs.declared.coverage.Coverage.TheVariants.{AllTime, Range, Empty}
use Rattle.buffer.specs.Map.{Map, get, put, keep}

-- a static row's single pose stands at instant 0
abbrev pub Samples : Type 0
Samples = Map Isometry

-- the greatest instant held
abbrev pub newest : Samples → ℕ
newest [] = 0
newest (x ∷ m) = max x.0 (newest m)

-- An instant survives where it is not below the newest less the age. An age above the newest evicts nothing: the difference then is 0.
abbrev pub survives : Option ℕ → ℕ → ℕ → Bool
survives None latest i = true
survives (Some age) latest i = leb (latest - age) i

-- "puts one in, then, where there is an age, drops a moving child's poses older than its newest less the age"
abbrev pub expire : Option ℕ → Samples → Samples
expire age m = keep (survives age (newest m)) m

abbrev pub insert : Option ℕ → ℕ → Isometry → Samples → Samples
insert age i p m = expire age (put i p m)

-- "A wipe drops a moving child's poses before its instant"; on a static one it does nothing
abbrev pub remove_before : Kind → ℕ → Samples → Samples
remove_before Static i m = m
remove_before Dynamic i m = keep (leb i) m

-- the first and the last instant, if any
abbrev pub range : Samples → Option (ℕ × ℕ)
range [] = None
range (x ∷ m) = Some (x.0, newest (x ∷ m))

-- when a row is served: at all times, from its first to its last instant, or never
abbrev pub coverage : Kind → Samples → Coverage
coverage Static m = AllTime
coverage Dynamic [] = Empty
coverage Dynamic (x ∷ m) = Range x.0 (newest (x ∷ m))

module _ {A : Type 0} where
  abbrev pub first? : List A → Option A
  first? [] = None
  first? (x ∷ xs) = Some x

  abbrev pub last? : List A → Option A
  last? [] = None
  last? (x ∷ []) = Some x
  last? (x ∷ y ∷ xs) = last? (y ∷ xs)

-- the two neighbouring samples interpolated, where both are there
abbrev pub between_samples : Reply Isometry → Option (ℕ × Isometry) → Option (ℕ × Isometry) → ℕ → Reply Isometry
between_samples unserved (Some x) (Some y) t = interpolated x.1 y.1 x.0 y.0 t
between_samples unserved (Some x) None t = unserved
between_samples unserved None y t = unserved

-- a held pose at its instant; else the last below and the first above interpolated
abbrev pub served_at : Reply Isometry → Option Isometry → Samples → ℕ → Reply Isometry
served_at unserved (Some p) m t = answer p
served_at unserved None m t = between_samples unserved (last? (keep (λ i. ltb i t) m)) (first? (keep (ltb t) m)) t

abbrev pub single : Reply Isometry → Option (ℕ × Isometry) → Reply Isometry
single unserved None = unserved
single unserved (Some x) = answer x.1

-- The steps to the pose of a hop at the instant t, which need not be finite: a static one's at any instant. Refusal 11 carries the hop's child and its
-- range, if any.
unfoldable pub served : ℕ → Kind → Samples → ℕ → Reply Isometry
served child Static m t = single (refusal 11 (hop child (range m))) (first? m)
served child Dynamic m t = served_at (refusal 11 (hop child (range m))) (get m t) m t

-- "sample query" (M-103): 11, then 3
unfoldable pub query : ℕ → Kind → Samples → ℕ → Reply Isometry
query child kind m t = served child kind m t then finite
