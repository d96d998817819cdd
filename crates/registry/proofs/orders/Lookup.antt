-- "Lookup: 9 (target first), 11, 10, 13, 14, 3": a lookup is refused with the first number that is due.
use Prim.Native.Nat.{ℕ}
use mathlib.Core.Path.{◌≡◌, refl, ◌∙◌}
use mathlib.Core.Bool.{true, false, not}
use Rattle.std.specs.Prelude.{Option, None, Some}
use Rattle.std.specs.Option.{option_or}
use mathlib.Core.List.{List, [], ◌++◌}
use Rattle.time.specs.Reply.{Carried, Reply, answer, refusal, nothing, hop, ◌then◌}
use Rattle.time.specs.Order.{Dues, due_at, due_or, first_due, refused}
use Rattle.geometry.specs.declared.isometry.Isometry.{Isometry}
use Rattle.geometry.specs.Isometry.{identity, finite, product, inverse}
use Rattle.geometry.specs.Order.{inverse_order, inverse_due, overflow_due}
use Rattle.geometry.proofs.Order.{finite_due, inverse_first_due}
use Rattle.buffer.specs.Samples.{range}
use Rattle.buffer.proofs.Cases.{both, none_some}
use Rattle.registry.specs.Tree.{Tree, Limits}
use Rattle.registry.specs.Answers.{Value, pose}
use Rattle.registry.specs.Store.{limits_of, tree_of}
use Rattle.registry.specs.Path.{Hop, chain, hops, side, connected, known, ask, fold, joined, combined, lookup}
use Rattle.registry.specs.Laws.{SoundTree}
use Rattle.registry.specs.PathLaws.{path, asked, cover, Every, Inside, TwoKnown}
use Rattle.registry.specs.Calls.{lookup_of}
use Rattle.registry.specs.Order.{lookup_order, covers, not_served_due, inverse_of, lookup_due, LookupFirstDue}
use Rattle.registry.proofs.layout.SizeLaws.{sized_is}
use Rattle.registry.proofs.soundness.Rules.{sound_is}
use Rattle.registry.proofs.layout.SoundIsStored.{sound_tree}
use Rattle.registry.proofs.lookup.Joining.{tested}
use Rattle.registry.proofs.lookup.NotServed.{Fails, Walked, arrives, halts, on_path, off_path}
use Rattle.registry.proofs.orders.Lent.{lent_due_lem}
use Rattle.registry.proofs.orders.FirstHops.{covers_inside, outside_covers, first_none, first_placed}

-- ---- 11 is due where a hop fails, and of the first that does

module _ (i : ℕ) where
  free : (h : Hop) → Inside i h → not (covers (cover h) i) ≡ false
  free h k = rw (covers_inside i (cover h) k)

  none_due : (hs : List Hop) → Every (Inside i) hs → not_served_due hs i ≡ None
  none_due hs k = first_none (λ c. not (covers c i)) (Inside i) free hs k

-- ---- 13, 14 and 3 are due where the inverse of the target side is refused, and 3 where what comes out is not finite

then_refused : {A B : Type 0} (r : Reply A) (next : A → B) → refused (r then λ x. answer (next x)) ≡ refused r
then_refused (answer x) next = refl
then_refused (refusal k c) next = refl

-- the last three, with what is due of the steps and of their result
abbrev last_due : Dues → Reply Isometry → Option (ℕ × Carried)
last_due dues r = due_or 13 (due_at dues 13) (due_or 14 (due_at dues 14) (due_or 3 (option_or (due_at dues 3) (overflow_due r)) None))

tested_due : (dues : Dues) (r : Reply Isometry) → refused r ≡ first_due dues inverse_order → refused (r then tested) ≡ last_due dues r
tested_due dues r h = by (due_at dues 13) (due_at dues 14) (due_at dues 3) r h
  where
    by : (a b c : Option Carried) (r : Reply Isometry) → refused r ≡ due_or 13 a (due_or 14 b (due_or 3 c None))
        → refused (r then tested) ≡ due_or 13 a (due_or 14 b (due_or 3 (option_or c (overflow_due r)) None))
    by None None None (answer p) e = then_refused (finite p) pose ∙ finite_due p
    by None None (Some z) (answer p) e = absurd (none_some e)
    by None (Some y) c (answer p) e = absurd (none_some e)
    by (Some x) b c (answer p) e = absurd (none_some e)
    by None None None (refusal k d) e = e
    by None None (Some z) (refusal k d) e = e
    by None (Some y) c (refusal k d) e = e
    by (Some x) b c (refusal k d) e = e

join_due : (x y : Option Isometry) → refused (combined x y) ≡ last_due (inverse_of (answer x)) (joined x y)
join_due None None = tested_due [] (answer identity) refl
join_due None (Some y) = tested_due [] (answer y) refl
join_due (Some x) None = tested_due (inverse_due x) (inverse x) (inverse_first_due x)
join_due (Some x) (Some y) =
    tested_due (inverse_due x) (inverse x then λ back. answer (product back y)) (then_refused (inverse x) (λ back. product back y) ∙ inverse_first_due x)

-- ---- two walks

module _ (age : Option ℕ) (capacity i : ℕ) where
  fails_due : (h : Hop) (hs : List Hop) → Fails age capacity i h hs → not_served_due hs i ≡ Some (hop h.0 (range h.1.samples))
  fails_due h hs k =
      first_placed (λ c. not (covers c i)) (Inside i) (free i) (λ x. Unit {0}) h hs k.placed (rw (outside_covers i (cover h) k.outside))

  -- without a path: 11, then 10, whatever is due of later numbers
  apart_due_lem : (a b : List Hop) (r : Reply Value) (rest : Option (ℕ × Carried)) → Walked age capacity i a b (λ x y. refusal 10 nothing) r
      → refused r ≡ due_or 11 (not_served_due (a ++ b) i) (due_or 10 (Some nothing) rest)
  apart_due_lem a b r rest (arrives x y p q e k) = rw (e, none_due i (a ++ b) k)
  apart_due_lem a b r rest (halts h e k) = rw (e, fails_due h (a ++ b) k)

  -- on a path: 11, then those of the inverse and of what comes out
  along_due : (a b : List Hop) (r : Reply Value) → Walked age capacity i a b combined r
      → refused r ≡ due_or 11 (not_served_due (a ++ b) i) (last_due (inverse_of (fold None a i)) (fold None a i then λ x. fold None b i then λ y. joined x y))
  along_due a b r (arrives x y p q e k) = rw (e, p, q, none_due i (a ++ b) k) (join_due x y)
  along_due a b r (halts h e k) = rw (e, fails_due h (a ++ b) k)

-- ---- a lookup of a sound tree

module _ (L : Limits) (t : Tree) (s : SoundTree L t) (f g i : ℕ) where
  known_due : known t f ≡ true → known t g ≡ true → refused (lookup t f g i) ≡ first_due (lookup_due t f g i) lookup_order
  unfolding lookup_due asked path
  known_due p q =
      let two : TwoKnown t f g = record { target = p; source = q } in
      let a = fold None (hops t (side t f g)) i in
      let b = fold None (hops t (side t g f)) i in
      both (connected t f g)
      (λ m.
      rw (p, q, m)
      (along_due L.age L.capacity i (hops t (side t f g)) (hops t (side t g f)) (lookup t f g i) (on_path L t s f g two i m)))
      (λ m.
      rw (p, q, m)
      (apart_due_lem L.age L.capacity i (hops t (chain t f)) (hops t (chain t g)) (lookup t f g i) (last_due (inverse_of a) (a then λ x. b then λ y. joined x y))
      (off_path L t s f g two i m)))

  tree_due : refused (lookup t f g i) ≡ first_due (lookup_due t f g i) lookup_order
  unfolding lookup ask lookup_due
  tree_due =
      both (known t f)
      (λ p. both (known t g) (λ q. known_due p q) (λ q. rw (p, q)))
      (λ p. rw p)

-- ---- the call

pub lookup_first_due : LookupFirstDue
unfolding lookup_of
lookup_first_due s f g i =
    lent_due_lem s (λ L t. lookup t f g i) (lookup_due (tree_of s) f g i) lookup_order refl
    (λ ok. tree_due (limits_of s) (tree_of s) (sound_tree s ((sized_is s).0 ok.sizes) ((sound_is s).0 ok.rules)) f g i)
