-- Demand 3: two lists of additions leave stores equal in every bit exactly when their accepted additions give every frame the same parent, kind
-- and survivors.
use Prim.Native.Nat.{ℕ}
use mathlib.Core.Path.{◌≡◌, refl, sym, ap, ◌∙◌}
use mathlib.Core.Logic.{◌↔◌}
use mathlib.Core.Bool.{Bool, true, false, not}
use Rattle.std.specs.Prelude.{Option, None, Some, option_map}
use mathlib.Core.List.{List, [], ◌∷◌, ◌++◌}
use native.Mathlib.Omega.{arith}
use lib.Dec.{eqb}
use borrow.Author.Tests.{eqb-true, eqb-false}
use Rattle.time.specs.Reply.{answer, nothing, refuse}
use Rattle.buffer.specs.Map.{Map, get, put}
use Rattle.buffer.proofs.Cases.{both, none_some}
use Rattle.buffer.proofs.Maps.{Rising, get_put_same, get_put_other, rising_put, ext}
use Rattle.registry.specs.Tree.{Edge, Tree, Limits, Addition, updated_edge, add}
use Rattle.registry.specs.Store.{Store, limits_of, stored, sizes_fit}
use Rattle.registry.specs.Answers.{done}
use Rattle.registry.specs.Calls.{written, open_of, on_tree, add_of}
use Rattle.registry.specs.History.{is_answer, run, accepted, own, pose_bits, SameFrame}
use Rattle.registry.specs.Demand3.{EveryBit, Opened, Demand3}
use Rattle.registry.proofs.layout.StoreBack.{Fits}
use Rattle.registry.proofs.layout.StoredBits.{map_values, get_map_values, rising_map_values, EdgeBits, edge_bits, tree_bits, same_bits}
use Rattle.registry.proofs.addition.Accepted.{Suits, add_accepted, accepted_fits}
use Rattle.registry.proofs.histories.Histories.{select_snoc, HeldIs, edge_updated, parent_in, kind_in, sample_in, RisingIn, FrameIs, frame_is}
use Rattle.registry.proofs.histories.Runs.{run_ind, written_refused, on_encoded}

-- ---- a tree and the accepted additions

-- the tree t is what the accepted additions xs say
pub record Holds (age : Option ℕ) (t : Tree) (xs : List Addition) : Type 0 where
  pub rising : Rising t
  pub edges : (f : ℕ) → HeldIs age (own f xs) (get t f)

-- one more accepted addition
pub holds_more : (age : Option ℕ) (t : Tree) (xs : List Addition) (a : Addition) → Holds age t xs → Suits (get t a.child) a
    → Holds age (put a.child (updated_edge age a (get t a.child)) t) (xs ++ (a ∷ []))
holds_more age t xs a h s = record { rising = rising_put a.child _ t h.rising; edges = edges }
  where
    edges : (f : ℕ) → HeldIs age (own f (xs ++ (a ∷ []))) (get (put a.child (updated_edge age a (get t a.child)) t) f)
    edges f =
        rw select_snoc
        (both (eqb a.child f)
        (λ e.
        rw (e, ← eqb-true a.child f e, get_put_same)
        (edge_updated age (own a.child xs) (get t a.child) a (h.edges a.child) s))
        (λ e. rw (e, get_put_other a.child f (updated_edge age a (get t a.child)) t (λ q. eqb-false a.child f e (sym q))) (h.edges f)))

-- ---- a store and the accepted additions, through a whole list

-- the store is the words of a tree that fits the limits and is what the accepted additions say
pub record Stands (L : Limits) (s : Store) (xs : List Addition) : Type 0 where
  pub tree : Tree
  pub words : s ≡ stored L tree
  pub fits : Fits L tree
  pub holds : Holds L.age tree xs

opened_stands : (L : Limits) (s : Store) → Opened L s → Stands L s []
unfolding open_of
opened_stands L s o = record {
  tree = [];
  words = o.left ∙ opened (not (sizes_fit L.rows L.capacity o.lent)) o.done;
  fits = record { rows = omega arith; samples = refl };
  holds = record { rising = tt; edges = λ f. refl };
}
  where
    opened : (b : Bool) → (written o.lent L (refuse b 1 nothing (answer []))).reply ≡ answer done
        → (written o.lent L (refuse b 1 nothing (answer []))).store ≡ stored L []
    opened true e = cc e
    opened false e = refl

add_refused : (s : Store) (a : Addition) → is_answer (add_of s a).reply ≡ false → (add_of s a).store ≡ s
unfolding add_of
add_refused s a e = written_refused s (limits_of s) (on_tree s (λ L t. add L t a)) e

add_encoded : (L : Limits) (t : Tree) → Fits L t → (a : Addition) → is_answer (add_of (stored L t) a).reply ≡ true
    → (u : Tree) × (add L t a ≡ answer u) × ((add_of (stored L t) a).store ≡ stored L u)
unfolding add_of
add_encoded L t fits a e = on_encoded L t fits (λ M v. add M v a) e

add_stands : (L : Limits) (s : Store) (xs : List Addition) (a : Addition) → Stands L s xs → is_answer (add_of s a).reply ≡ true
    → Stands L (add_of s a).store (xs ++ (a ∷ []))
add_stands L s xs a h e =
    let t = h.tree in
    let o = add_encoded L t h.fits a (rw h.words at e) in
    let acc = add_accepted L t a o.0 o.1 in
    record {
      tree = o.0;
      words = ap (λ (v : Store). (add_of v a).store) h.words ∙ o.2;
      fits = accepted_fits L t a o.0 h.holds.rising h.fits acc;
      holds = rw acc.left (holds_more L.age t xs a h.holds acc.suits);
    }

pub stands : (L : Limits) (s : Store) → Opened L s → (xs : List Addition) → Stands L (run add_of s xs) (accepted add_of s xs)
stands L s o xs = run_ind add_of (Stands L) (add_stands L) add_refused s [] xs (opened_stands L s o)

-- ---- two edges by bits are the same parent, kind and samples by bits

record SameHeld (h k : Option Edge) : Type 0 where
  parents : parent_in h ≡ parent_in k
  kinds : kind_in h ≡ kind_in k
  samples : (i : ℕ) → option_map pose_bits (sample_in h i) ≡ option_map pose_bits (sample_in k i)

same_held : (h k : Option Edge) → option_map edge_bits h ≡ option_map edge_bits k → SameHeld h k
same_held None None e = record { parents = refl; kinds = refl; samples = λ i. refl }
same_held None (Some d) e = absurd (none_some e)
same_held (Some c) None e = absurd (none_some (sym e))
same_held (Some c) (Some d) e =
    let q : edge_bits c ≡ edge_bits d = cc e in
    record {
      parents = ap (λ (b : EdgeBits). Some b.parent) q;
      kinds = ap (λ (b : EdgeBits). Some b.kind) q;
      samples = λ i.
          sym (get_map_values pose_bits c.samples i)
          ∙ ap (λ (b : EdgeBits). get b.samples i) q
          ∙ get_map_values pose_bits d.samples i;
    }

held_same : (h k : Option Edge) → RisingIn h → RisingIn k → SameHeld h k → option_map edge_bits h ≡ option_map edge_bits k
held_same None None rh rk s = refl
held_same None (Some d) rh rk s = absurd (none_some s.parents)
held_same (Some c) None rh rk s = absurd (none_some (sym s.parents))
held_same (Some c) (Some d) rh rk s =
    let parents : c.parent ≡ d.parent = cc s.parents in
    let kinds : c.kind ≡ d.kind = cc s.kinds in
    let samples : map_values pose_bits c.samples ≡ map_values pose_bits d.samples =
    ext _ _ (rising_map_values pose_bits c.samples rh) (rising_map_values pose_bits d.samples rk)
    (λ i. get_map_values pose_bits c.samples i ∙ s.samples i ∙ sym (get_map_values pose_bits d.samples i)) in
    λ i. Some (record { parent = parents i; kind = kinds i; samples = samples i })

-- ---- the demand, of two trees and what is accepted

module _ (age : Option ℕ) (t u : Tree) (xs ys : List Addition) (ht : Holds age t xs) (hu : Holds age u ys) where
  first : (f : ℕ) → FrameIs age f xs (get t f)
  first f = frame_is age f xs (get t f) (ht.edges f)

  second : (f : ℕ) → FrameIs age f ys (get u f)
  second f = frame_is age f ys (get u f) (hu.edges f)

  same_frames : tree_bits t ≡ tree_bits u → (f : ℕ) → SameFrame age f xs ys
  same_frames e f =
      let same = same_held (get t f) (get u f) (sym (get_map_values edge_bits t f) ∙ ap (λ (m : Map EdgeBits). get m f) e ∙ get_map_values edge_bits u f) in
      record {
        parents = (first f).parents ∙ same.parents ∙ sym (second f).parents;
        kinds = (first f).kinds ∙ same.kinds ∙ sym (second f).kinds;
        survivors = λ i.
            ap (option_map pose_bits) ((first f).survivors i) ∙ same.samples i ∙ sym (ap (option_map pose_bits) ((second f).survivors i));
      }

  same_trees : ((f : ℕ) → SameFrame age f xs ys) → tree_bits t ≡ tree_bits u
  same_trees s =
      ext (tree_bits t) (tree_bits u) (rising_map_values edge_bits t ht.rising) (rising_map_values edge_bits u hu.rising)
      (λ f.
      get_map_values edge_bits t f
      ∙ held_same (get t f) (get u f) (first f).rising (second f).rising (same f)
      ∙ sym (get_map_values edge_bits u f))
    where
      same : (f : ℕ) → SameHeld (get t f) (get u f)
      same f = record {
        parents = sym (first f).parents ∙ (s f).parents ∙ (second f).parents;
        kinds = sym (first f).kinds ∙ (s f).kinds ∙ (second f).kinds;
        samples = λ i.
            sym (ap (option_map pose_bits) ((first f).survivors i)) ∙ (s f).survivors i ∙ ap (option_map pose_bits) ((second f).survivors i);
      }

-- ---- the demand

pub demand3 : Demand3
demand3 L s t os ot xs ys = (
  λ e. same_frames L.age sx.tree sy.tree _ _ sx.holds sy.holds (bits.0 (rw (sx.words, sy.words) at e)),
  λ f. rw (sx.words, sy.words) (bits.1 (same_trees L.age sx.tree sy.tree _ _ sx.holds sy.holds f)),
)
  where
    sx : Stands L (run add_of s xs) (accepted add_of s xs)
    sx = stands L s os xs

    sy : Stands L (run add_of t ys) (accepted add_of t ys)
    sy = stands L t ot ys

    bits : EveryBit (stored L sx.tree) (stored L sy.tree) ↔ (tree_bits sx.tree ≡ tree_bits sy.tree)
    bits = same_bits L sx.tree sy.tree sx.fits sy.fits
