-- What a list of additions says of each frame, told from the accepted ones alone, in the words of demand 3.
use Rattle.std.specs.Prelude.{ℕ, max, ◌-◌, ◌≡◌, Bool, true, false, cond, ◌||◌, eqb, ltb, leb}
use Rattle.std.specs.Prelude.{Option, None, Some, option_map}
use mathlib.Core.List.{List, [], ◌∷◌, map}
use Rattle.std.specs.Float.{binary64}
use Rattle.std.specs.Float.Ieee.{to_bits}
use Rattle.time.specs.Reply.{Reply, answer, refusal}
use Rattle.geometry.specs.declared.isometry.Isometry.{Isometry}
use Rattle.buffer.specs.declared.kind.Kind.{Kind}
use Rattle.buffer.specs.declared.kind.Kind.TheVariants.{Static, Dynamic}
use Rattle.buffer.specs.Row.{floats}
use Rattle.buffer.specs.Samples.{last?, first?}
use Rattle.buffer.specs.Kind.{kind_of}
use Rattle.registry.specs.Tree.{Addition, instant_of}
use Rattle.registry.specs.Store.{Store}
use Rattle.registry.specs.Answers.{Value}
use Rattle.registry.specs.Calls.{Outcome}

-- ---- running a list, over any kind of call

-- answered with done
abbrev pub is_answer : Reply Value → Bool
is_answer (answer v) = true
is_answer (refusal k c) = false

module _ {C : Type 0} (call : Store → C → Outcome) where
  -- each call gets the slices as the one before left them, refused or not
  abbrev pub run : Store → List C → Store
  run s [] = s
  run s (c ∷ cs) = run (call s c).store cs

  -- those that are answered with done
  abbrev pub accepted : Store → List C → List C
  accepted s [] = []
  accepted s (c ∷ cs) = cond (is_answer (call s c).reply) (c ∷ accepted (call s c).store cs) (accepted (call s c).store cs)

-- ---- a frame's history

module _ {A : Type 0} where
  abbrev pub select : (A → Bool) → List A → List A
  select test [] = []
  select test (x ∷ xs) = cond (test x) (x ∷ select test xs) (select test xs)

abbrev pub greatest : List ℕ → ℕ
greatest [] = 0
greatest (n ∷ ns) = max n (greatest ns)

-- the additions with f as child
abbrev pub own : ℕ → List Addition → List Addition
own f xs = select (λ a. eqb a.child f) xs

-- "A frame's parent and kind are those of the first accepted addition with it as child"
unfoldable pub parent_of : ℕ → List Addition → Option ℕ
parent_of f xs = option_map (λ a. a.parent) (first? (own f xs))

unfoldable pub frame_kind : ℕ → List Addition → Option Kind
frame_kind f xs = option_map (λ a. kind_of a.stamp) (first? (own f xs))

-- the pose of the last; "last means last in the list"
abbrev pub last_pose : List Addition → Option Isometry
last_pose xs = option_map (λ a. a.pose) (last? xs)

-- those at the instant i
abbrev pub at_instant : ℕ → List Addition → List Addition
at_instant i xs = select (λ a. eqb (instant_of a.stamp) i) xs

-- "A moving frame's newest instant is the greatest among its accepted additions"
abbrev pub newest_instant : List Addition → ℕ
newest_instant xs = greatest (map (λ a. instant_of a.stamp) xs)

-- the instant i is not older than the newest less the age; without an age, or with one above the newest, every instant counts
abbrev pub recent : Option ℕ → ℕ → ℕ → Bool
recent None newest i = true
recent (Some age) newest i = ltb newest age || leb (newest - age) i

-- The survivor at the instant i of a frame of this kind with these accepted additions. A static frame's only one is the pose of its last, and
-- stands at instant 0. A moving frame's at i is the last pose accepted there, where i is not too old.
abbrev pub survivor_in : Option ℕ → Option Kind → List Addition → ℕ → Option Isometry
survivor_in age None xs i = None
survivor_in age (Some Static) xs i = cond (eqb i 0) (last_pose xs) None
survivor_in age (Some Dynamic) xs i = cond (recent age (newest_instant xs) i) (last_pose (at_instant i xs)) None

unfoldable pub survivor : Option ℕ → ℕ → List Addition → ℕ → Option Isometry
survivor age f xs i = survivor_in age (frame_kind f xs) (own f xs) i

-- a pose by its bits
abbrev pub pose_bits : Isometry → List ℕ
pose_bits p = map (to_bits binary64) (floats p)

-- two lists of accepted additions give the frame f the same parent, kind and survivors
pub record SameFrame (age : Option ℕ) (f : ℕ) (xs ys : List Addition) : Type 0 where
  pub parents : parent_of f xs ≡ parent_of f ys
  pub kinds : frame_kind f xs ≡ frame_kind f ys
  pub survivors : (i : ℕ) → option_map pose_bits (survivor age f xs i) ≡ option_map pose_bits (survivor age f ys i)
