-- A call on a store that is lent: 1 and 2 come first, and then what the call on its tree is refused with.
use Prim.Native.Nat.{ℕ}
use mathlib.Core.Path.{◌≡◌, ◌∙◌}
use mathlib.Core.Bool.{not}
use Rattle.std.specs.Prelude.{Option}
use mathlib.Core.List.{List}
use Rattle.time.specs.Reply.{Carried, Reply, nothing}
use Rattle.time.specs.Order.{Dues, when, due_or, first_due, refused}
use Rattle.buffer.proofs.Cases.{both}
use Rattle.registry.specs.Tree.{Tree, Limits}
use Rattle.registry.specs.Store.{Store, limits_of, tree_of, sized}
use Rattle.registry.specs.Sound.{sound, SoundStore}
use Rattle.registry.specs.Calls.{on_tree}
use Rattle.registry.specs.Order.{lent, lent_due}

module _ {A : Type 0} (s : Store) (call : Limits → Tree → Reply A) where
  -- 1, else 2, else what the call on the tree of a sound store is refused with
  on_tree_due : (later : Option (ℕ × Carried)) → (SoundStore s → refused (call (limits_of s) (tree_of s)) ≡ later)
      → refused (on_tree s call) ≡ due_or 1 (when (not (sized s)) nothing) (due_or 2 (when (not (sound s)) nothing) later)
  unfolding on_tree
  on_tree_due later h =
      both (sized s)
      (λ z. both (sound s) (λ k. rw (z, k) (h (record { sizes = z; rules = k }))) (λ k. rw (z, k)))
      (λ z. rw z)

  -- the first equation is refl for an order that is written out without 1 and 2
  pub lent_due_lem : (dues : Dues) (order : List ℕ) → first_due dues order ≡ first_due (lent_due s dues) order
      → (SoundStore s → refused (call (limits_of s) (tree_of s)) ≡ first_due dues order)
      → refused (on_tree s call) ≡ first_due (lent_due s dues) (lent order)
  lent_due_lem dues order passed h = on_tree_due (first_due (lent_due s dues) order) (λ ok. h ok ∙ passed)
