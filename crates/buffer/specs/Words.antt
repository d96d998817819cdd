-- What the moves of a slice's elements leave in it.
use Rattle.std.specs.Prelude.{ℕ, ◌+◌, ◌-◌, List, ◌++◌, length, take, drop, replicate}

module _ {A : Type 0} where
  -- the elements from `at` up to `end` moved up by `gap`; what they leave behind stands as it was
  unfoldable pub moved_up : ℕ → ℕ → ℕ → List A → List A
  moved_up at end gap l = take (at + gap) l ++ (take (end - at) (drop at l) ++ drop (end + gap) l)

  -- the elements from `gap` up to `end` moved down by `gap`; what they leave behind stands as it was
  unfoldable pub moved_down : ℕ → ℕ → List A → List A
  moved_down gap end l = take (end - gap) (drop gap l) ++ drop (end - gap) l

  -- v in the place of the elements from `at` on
  unfoldable pub replaced : ℕ → List A → List A → List A
  replaced at v l = take at l ++ (v ++ drop (at + length v) l)

  -- v put in at `at`: the elements up to `end` make way for it
  unfoldable pub inserted : ℕ → ℕ → List A → List A → List A
  inserted at end v l = take at l ++ (v ++ (take (end - at) (drop at l) ++ drop (end + length v) l))

  -- the first `gap` elements taken out: those up to `end` move down, and z stands in the places that they leave
  unfoldable pub removed : ℕ → ℕ → A → List A → List A
  removed gap end z l = take (end - gap) (drop gap l) ++ (replicate gap z ++ drop end l)
