-- "No overflowed pose leaves the module" (M-103), of lookups. Proved in proofs/lookup/Overflow.antt under the same names.
use Rattle.std.specs.Prelude.{ℕ, ◌≡◌, true, List, ◌++◌}
use Rattle.std.specs.Prelude.{Option, None, Some}
use Rattle.time.specs.Reply.{Reply, answer, ◌then◌}
use Rattle.geometry.specs.declared.isometry.Isometry.{Isometry}
use Rattle.geometry.specs.Isometry.{is_finite, finite}
use Rattle.buffer.specs.Samples.{query}
use Rattle.registry.specs.Tree.{Tree}
use Rattle.registry.specs.Store.{Store}
use Rattle.registry.specs.Answers.{pose}
use Rattle.registry.specs.Path.{Hop, hops, side, fold, lookup}
use Rattle.registry.specs.PathLaws.{Every}
use Rattle.registry.specs.Calls.{lookup_of}

-- the pose that a lookup answers is finite
abbrev pub LookupFinite : Type 0
LookupFinite = (s : Store) (f g i : ℕ) (p : Isometry) → lookup_of s f g i ≡ answer (pose p) → is_finite p ≡ true

abbrev pub Answered : {A : Type 0} → Reply A → Type 0
Answered {A} r = (a : A) × (r ≡ answer a)

-- a side's product tested by itself; an empty side has none
abbrev pub finite_side : Option Isometry → Reply (Option Isometry)
finite_side None = answer None
finite_side (Some p) = finite p then λ q. answer (Some q)

-- a side's hops up to any frame of it: each hop's query is answered, and so is their fold, each "a pose or refusal 3"
pub record FiniteAlong (i : ℕ) (hs : List Hop) : Type 0 where
  pub queries : Every (λ h. Answered (query h.0 h.1.kind h.1.samples i)) hs
  pub folds : (before after : List Hop) → hs ≡ before ++ after → Answered (fold None before i then finite_side)

-- "and so does every fold, lookup and sample query above them": what a lookup reckons through is tested at its end alone, and nothing that is not finite
-- is lost on the way, so an answered lookup means that every query and every fold on both sides of its path would have been answered as well
abbrev pub LookupFiniteThroughout : Type 0
LookupFiniteThroughout = (t : Tree) (f g i : ℕ) (p : Isometry) → lookup t f g i ≡ answer (pose p)
    → FiniteAlong i (hops t (side t f g)) × FiniteAlong i (hops t (side t g f))
