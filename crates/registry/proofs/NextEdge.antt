-- What is read of a tree from a frame on: the law, and the row of a store that has it.
use Prim.Native.Nat.{ℕ, zero, suc, ◌+◌, ◌≤◌, ◌<◌}
use mathlib.Core.Path.{◌≡◌, refl, sym, ap, ◌∙◌}
use mathlib.Core.Bool.{true}
use Rattle.std.specs.Prelude.{None, Some, map}
use Rattle.std.proofs.lemmas.List.{at_drop_more, at_drop_all}
use mathlib.Core.List.{[], ◌∷◌}
use native.Mathlib.Omega.{arith}
use lib.ListN.{length, get_or}
use lib.Dec.{leb}
use borrow.Author.Tests.{le-leb, lt-leb, leb-true}
use Rattle.buffer.specs.Map.{get, keep, rising}
use Rattle.buffer.proofs.Cases.{both, none_some, Tri, less, same, more, tri}
use Rattle.buffer.proofs.Maps.{Rising, rising_is, rising_keep, get_floor, get_here, get_there, get_keep}
use Rattle.registry.specs.Tree.{Edge, Tree}
use Rattle.registry.specs.Store.{Store, used_in, row_at, tree_of}
use Rattle.registry.specs.NextEdge.{edge_from, told_edge, told_from, ReadsThrough}
use Rattle.registry.specs.layout.Rows.{FirstRow}
use Rattle.registry.proofs.layout.MapRows.{key}
use Rattle.registry.proofs.layout.StoreBack.{blank}
use Rattle.registry.proofs.layout.TreeRows.{length_tree, tree_row, tree_key}
use Rattle.buffer.specs.Samples.{first?}

-- ---- the law

head_held : (m : Tree) (x : ℕ × Edge) → first? m ≡ Some x → get m x.0 ≡ Some x.1
head_held [] x q = absurd (none_some q)
head_held (y ∷ m) x q =
    let e : y ≡ x = cc q in
    get_here y m x.0 (ap (λ (z : ℕ × Edge). z.0) (sym e)) ∙ ap (λ (z : ℕ × Edge). Some z.1) e

head_first : (m : Tree) (c : ℕ) (e : Edge) → Rising m → get m c ≡ Some e → (x : ℕ × Edge) × (first? m ≡ Some x) × (x.0 ≤ c)
head_first [] c e r q = absurd (none_some q)
head_first (y ∷ m) c e r q = (y, refl, by (tri c y.0))
  where
    by : Tri c y.0 → y.0 ≤ c
    by (less l) = absurd (none_some (sym (get_there y m c (λ p. omega arith) ∙ get_floor y.0 c m r.0 (omega arith)) ∙ q))
    by (same p) = omega arith
    by (more l) = omega arith

pub reads_through : ReadsThrough
reads_through = record { held = held; first = first; own = own }
  where
    held : (t : Tree) (f : ℕ) (x : ℕ × Edge) → edge_from t f ≡ Some x → (f ≤ x.0) × (get t x.0 ≡ Some x.1)
    held t f x q =
        let g = sym (get_keep (leb f) t x.0) ∙ head_held (keep (leb f) t) x q in
        both (leb f x.0) (λ e. (leb-true f x.0 e, rw e at g)) (λ e. absurd (none_some (rw e at g)))

    first : (t : Tree) (f c : ℕ) (e : Edge) → rising t ≡ true → get t c ≡ Some e → f ≤ c → (x : ℕ × Edge) × (edge_from t f ≡ Some x) × (x.0 ≤ c)
    first t f c e r q l =
        head_first (keep (leb f) t) c e (rising_keep (leb f) t ((rising_is t).0 r)) (get_keep (leb f) t c ∙ rw (le-leb f c l) q)

    own : (t : Tree) (f : ℕ) (e : Edge) → rising t ≡ true → get t f ≡ Some e → edge_from t f ≡ Some (f, e)
    own t f e r q =
        let z = first t f f e r q (omega arith) in
        let h = held t f z.0 z.1 in
        let l = z.2 in
        let m = h.0 in
        let k : z.0.0 ≡ f = omega arith in
        let v : z.0.1 ≡ e = cc (sym h.1 ∙ ap (get t) k ∙ q) in
        z.1 ∙ (λ i. Some (k i, v i))

-- ---- by rows

from_row : (t : Tree) (f k : ℕ) → k < length t → ((j : ℕ) → j < k → key blank t j < f) → f ≤ key blank t k → edge_from t f ≡ Some (get_or t k blank)
from_row [] f k l below from = absurd (omega arith)
from_row (x ∷ t) f zero l below from = rw (le-leb f x.0 from)
from_row (x ∷ t) f (suc k) l below from =
    rw (lt-leb f x.0 (below 0 (omega arith))) (from_row t f k (omega arith) (λ j u. below (suc j) (omega arith)) from)

from_none : (t : Tree) (f : ℕ) → ((j : ℕ) → j < length t → key blank t j < f) → edge_from t f ≡ None
from_none [] f below = refl
from_none (x ∷ t) f below = rw (lt-leb f x.0 (below 0 (omega arith))) (from_none t f (λ j u. below (suc j) (omega arith)))

module _ (s : Store) (f k : ℕ) (row : FirstRow s.head f k) where
  pub edge_of_row : k < used_in s → edge_from (tree_of s) f ≡ Some (row_at s k)
  edge_of_row l =
      from_row (tree_of s) f k (rw (length_tree s) l) (λ j u. rw (tree_key s j (omega arith)) (row.below j u)) (rw (tree_key s k l) (row.from l))
      ∙ ap Some (tree_row s k l)

  pub edge_of_none : k ≡ used_in s → edge_from (tree_of s) f ≡ None
  edge_of_none e =
      from_none (tree_of s) f (λ j u.
      let w : j < used_in s = rw (length_tree s) at u in
      rw (tree_key s j w) (row.below j (omega arith)))

-- ---- the edges from row r on

module _ (s : Store) (r : ℕ) where
  pub told_end : used_in s ≤ r → told_from r (tree_of s) ≡ []
  unfolding told_from
  told_end l = at_drop_all (map told_edge) (tree_of s) r (omega (arith, length_tree s))

  pub told_more : r < used_in s → told_from r (tree_of s) ≡ told_edge (row_at s r) ∷ told_from (r + 1) (tree_of s)
  unfolding told_from
  told_more l =
      at_drop_more (map told_edge) (tree_of s) r blank (omega (arith, length_tree s))
      ∙ ap (λ (x : ℕ × Edge). told_edge x ∷ told_from (r + 1) (tree_of s)) (tree_row s r l)
