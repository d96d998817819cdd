-- The frames of the tree while a map is loaded are numbers of names, and there are at most two names to an edge.
use Prim.Native.Nat.{ℕ, ◌+◌, ◌*◌, ◌≤◌, ◌<◌}
use mathlib.Core.Path.{◌≡◌, refl, ap, ◌∙◌}
use mathlib.Core.Bool.{true, ◌&&◌}
use Rattle.std.specs.Prelude.{Option, None, Some}
use mathlib.Core.List.{List, [], ◌∷◌}
use native.Mathlib.Omega.{arith}
use lib.Dec.{ltb}
use lib.ListN.{length, length-append}
use borrow.Author.Tests.{lt-ltb, ltb-true}
use Rattle.time.specs.declared.stamp.Stamp.TheVariants.{Static}
use Rattle.time.specs.Reply.{answer}
use Rattle.geometry.specs.declared.isometry.Isometry.{Isometry}
use Rattle.buffer.specs.Map.{all, get, put, rising}
use Rattle.buffer.proofs.Cases.{both, and_both, and_left, and_right}
use Rattle.buffer.proofs.Maps.{rising_is, length_put_new, length_put_held}
use Rattle.buffer.proofs.Alls.{all_weaken, all_get, all_put}
use Rattle.registry.specs.Tree.{Edge, Tree, Limits, Addition, addition, updated_edge, add}
use Rattle.registry.proofs.Held.{Accepted, add_accepted}
use Rattle.map_file.specs.Form.{Name}
use Rattle.map_file.specs.Book.{among, numbered, position}
use Rattle.map_file.proofs.BookLists.{at_below, at_position}
use Rattle.map_loading.proofs.MapAdditions.{position_absent, among_self, position_numbered}

-- ---- frames below a number

-- every child and every parent is below n
abbrev pub FramesBelow : ℕ → Tree → Type 0
FramesBelow n t = all (λ x. ltb x.0 n && ltb x.1.parent n) t ≡ true

below_up : (n m : ℕ) (t : Tree) → n ≤ m → FramesBelow n t → FramesBelow m t
below_up n m t l h =
    all_weaken (λ x. ltb x.0 n && ltb x.1.parent n) (λ x. ltb x.0 m && ltb x.1.parent m) t
    (λ x p.
    let c = ltb-true x.0 n (and_left _ _ p) in
    let q = ltb-true x.1.parent n (and_right (ltb x.0 n) _ p) in
    and_both _ _ (lt-ltb x.0 m (omega arith)) (lt-ltb x.1.parent m (omega arith)))
    h

below_put : (n k : ℕ) (e : Edge) (t : Tree) → k < n → e.parent < n → FramesBelow n t → FramesBelow n (put k e t)
below_put n k e t c p h =
    all_put (λ x. ltb x.0 n && ltb x.1.parent n) k e t (and_both _ _ (lt-ltb k n c) (lt-ltb e.parent n p)) h

below_held : (n k : ℕ) (e : Edge) (t : Tree) → rising t ≡ true → FramesBelow n t → get t k ≡ Some e → (k < n) × (e.parent < n)
below_held n k e t r h g =
    let p : (ltb k n && ltb e.parent n) ≡ true = (all_get (λ x. ltb x.0 n && ltb x.1.parent n) t ((rising_is t).0 r)).0 h k e g in
    (ltb-true k n (and_left _ _ p), ltb-true e.parent n (and_right (ltb k n) _ p))

-- ---- the numbers of names

-- one name more at most
pub numbered_longer : (n : Name) (names : List Name) → (length names ≤ length (numbered names n)) × (length (numbered names n) ≤ length names + 1)
numbered_longer n names = both (among n names) (λ e. rw e (omega arith, omega arith)) (λ e. let l = length-append names (n ∷ []) in rw e (omega arith, omega arith))

-- a name with a number below their count is among them
pub position_among : (n : Name) (names : List Name) → position n names < length names → among n names ≡ true
position_among n names l = both (among n names) (λ e. e) (λ e. absurd (omega (arith, position_absent n names e)))

-- and the other way round
pub among_position : (n : Name) (names : List Name) → among n names ≡ true → position n names < length names
among_position n names e = at_below (position n names) names n (at_position n names e)

pub position_most : (n : Name) (names : List Name) → position n names ≤ length names
position_most n names = both (among n names) (λ e. omega (arith, among_position n names e)) (λ e. omega (arith, position_absent n names e))

-- a numbered name has a number below their count
position_below : (n : Name) (names : List Name) → position n names < length (numbered names n)
position_below n names = omega (arith, among_position n (numbered names n) (among_self n names), position_numbered n names)

-- no name more where it has a number
numbered_held : (n : Name) (names : List Name) → position n names < length names → numbered names n ≡ names
numbered_held n names l = rw (position_among n names l)

-- ---- one more record

module _ (L : Limits) (t u : Tree) (names : List Name) (child parent : Name) (pose : Isometry) (r : rising t ≡ true) (h : FramesBelow (length names) t)
    (few : length names ≤ 2 * length t) where
  abbrev new : Addition
  new = addition (position child names) (position parent (numbered names child)) Static pose

  abbrev after : List Name
  after = numbered (numbered names child) parent

  -- what is left where the child is held, or is not
  bound : (held : Option Edge) → get t new.child ≡ held → Accepted L t new held u → FramesBelow (length after) u × (length after ≤ 2 * length u)
  bound None g acc =
      let e = updated_edge L.age new None in
      let one = numbered_longer child names in
      let two = numbered_longer parent (numbered names child) in
      let c : new.child < length after = let p = position_below child names in let q = two.0 in omega arith in
      let p : new.parent < length after = position_below parent (numbered names child) in
      let more : length names ≤ length after = let a = one.0 in let b = two.0 in omega arith in
      rw acc.left (
        below_put (length after) new.child e t c p (below_up (length names) (length after) t more h),
        let n = length_put_new new.child e t g in let a = one.1 in let b = two.1 in omega arith,
      )
  bound (Some e) g acc =
      let here = below_held (length names) new.child e t r h g in
      let first : numbered names child ≡ names = numbered_held child names here.0 in
      let held : e.parent ≡ position parent names = acc.suits.0 ∙ ap (λ (ns : List Name). position parent ns) first in
      let above : position parent names < length names = let l = here.1 in omega (arith, held) in
      let same : after ≡ names = ap (λ (ns : List Name). numbered ns parent) first ∙ numbered_held parent names above in
      rw (acc.left, same) (
        below_put (length names) new.child (updated_edge L.age new (Some e)) t here.0 here.1 h,
        let n = length_put_held new.child (updated_edge L.age new (Some e)) e t ((rising_is t).0 r) g in omega arith,
      )

  -- the frames stay numbers of names, and the names at most two to an edge
  pub names_bound : add L t new ≡ answer u → FramesBelow (length after) u × (length after ≤ 2 * length u)
  names_bound e = bound (get t new.child) refl (add_accepted L t new u e)
