-- What the sizes of a store say, clause by clause.
use Prim.Native.Nat.{ℕ}
use mathlib.Core.Path.{◌≡◌}
use mathlib.Core.Logic.{◌↔◌}
use mathlib.Core.Bool.{true}
use native.Mathlib.Omega.{arith}
use lib.Dec.{leb}
use lib.ListN.{length}
use borrow.Author.Tests.{leb-true, le-leb, eqb-true, eq-eqb}
use Rattle.buffer.proofs.Cases.{and_both, and_right}
use Rattle.registry.specs.Store.{Store, head_length, instants_length, poses_length, rows_in, capacity_in, sizes_fit, sized}
use Rattle.registry.specs.Laws.{InRange}
use Rattle.registry.proofs.soundness.Everys.{and_parts}

pub record Sizes (rows capacity : ℕ) (s : Store) : Type 0 where
  pub range : InRange rows capacity
  pub head : length s.head ≡ head_length rows
  pub instants : length s.instants ≡ instants_length rows capacity
  pub poses : length s.poses ≡ poses_length rows capacity

module _ (E S : ℕ) (s : Store) where
  sizes_of : sizes_fit E S s ≡ true → Sizes E S s
  sizes_of h =
      let h6 = and_parts _ _ h in
      let h5 = and_parts _ _ h6.0 in
      let h4 = and_parts _ _ h5.0 in
      let h3 = and_parts _ _ h4.0 in
      let h2 = and_parts _ _ h3.0 in
      let h1 = and_parts _ _ h2.0 in
      record {
        range = record {
          some_rows = leb-true 1 E h1.0;
          few_rows = leb-true E 256 h1.1;
          positive_capacity = leb-true 1 S h2.1;
          bounded_capacity = leb-true S 1024 h3.1;
        };
        head = eqb-true _ _ h4.1;
        instants = eqb-true _ _ h5.1;
        poses = eqb-true _ _ h6.1;
      }

  of_sizes : Sizes E S s → sizes_fit E S s ≡ true
  of_sizes z =
      let r = z.range in
      and_both _ _
      (and_both _ _
      (and_both _ _
      (and_both _ _
      (and_both _ _ (and_both _ _ (le-leb 1 E r.some_rows) (le-leb E 256 r.few_rows)) (le-leb 1 S r.positive_capacity))
      (le-leb S 1024 r.bounded_capacity))
      (eq-eqb _ _ z.head))
      (eq-eqb _ _ z.instants))
      (eq-eqb _ _ z.poses)

  pub sizes_fit_is : (sizes_fit E S s ≡ true) ↔ Sizes E S s
  sizes_fit_is = (sizes_of, of_sizes)

pub sized_is : (s : Store) → (sized s ≡ true) ↔ Sizes (rows_in s) (capacity_in s) s
unfolding sized
sized_is s = (
  λ h. sizes_of (rows_in s) (capacity_in s) s (and_right (leb 5 (length s.head)) _ h),
  λ z. and_both _ _ (le-leb 5 (length s.head) (let h = z.head in omega arith)) (of_sizes (rows_in s) (capacity_in s) s z),
)
