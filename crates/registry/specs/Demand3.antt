-- Demand 3: one statement about two whole lists of additions. Proved in proofs/histories/Demand3.antt.
use Rattle.std.specs.Prelude.{ℕ, ◌≡◌, ◌↔◌, List, map}
use Rattle.std.specs.Float.{binary64}
use Rattle.std.specs.Float.Ieee.{to_bits}
use Rattle.time.specs.Reply.{answer}
use Rattle.registry.specs.Tree.{Limits, Addition}
use Rattle.registry.specs.Store.{Store}
use Rattle.registry.specs.Answers.{done}
use Rattle.registry.specs.Calls.{open_of, add_of}
use Rattle.registry.specs.History.{run, accepted, SameFrame}

-- "Equal in every bit takes in each word of head, instants and poses, unused ones too": floats by their bits
pub record EveryBit (s t : Store) : Type 0 where
  pub head : s.head ≡ t.head
  pub instants : s.instants ≡ t.instants
  pub poses : map (to_bits binary64) s.poses ≡ map (to_bits binary64) t.poses

-- the slices as an opening answered with done left them
pub record Opened (L : Limits) (s : Store) : Type 0 where
  pub lent : Store
  pub done : (open_of lent L).reply ≡ answer done
  pub left : s ≡ (open_of lent L).store

-- Two lists of additions, refused ones included, run from freshly opened stores of the same sizes and age, leave stores equal in every bit exactly
-- when their accepted additions give every frame the same parent, kind and survivors.
abbrev pub Demand3 : Type 0
Demand3 = (L : Limits) (s t : Store) → Opened L s → Opened L t → (xs ys : List Addition)
    → EveryBit (run add_of s xs) (run add_of t ys) ↔ ((f : ℕ) → SameFrame L.age f (accepted add_of s xs) (accepted add_of t ys))
