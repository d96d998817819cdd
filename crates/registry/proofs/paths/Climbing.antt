-- Climbing in a tree without circles: it ends, and what holds above a frame is told with no count of steps.
use Prim.Native.Nat.{ℕ, zero, suc, ◌≤◌, ◌<◌}
use mathlib.Core.Path.{◌≡◌, refl, sym, ap, ◌∙◌}
use mathlib.Core.Bool.{true, false, not}
use Rattle.std.specs.Prelude.{Option, None, Some}
use mathlib.Core.List.{List, [], ◌∷◌}
use native.Mathlib.Omega.{arith}
use lib.ListN.{length}
use lib.Dec.{eqb}
use borrow.Author.Tests.{eq-eqb, ne_eqb, eqb-true, eqb-false}
use Rattle.buffer.specs.Map.{get, keep}
use Rattle.buffer.proofs.Cases.{both, none_some, false_true}
use Rattle.buffer.proofs.Maps.{get_keep, length_keep_le}
use Rattle.registry.specs.Tree.{Edge, Tree, above, ancestors, member}
use Rattle.registry.specs.Sound.{climb, NotAboveItself}

-- an Option's two shapes, with the equation
pub edge_or : {C : Type 0} (o : Option Edge) → (o ≡ None → C) → ((e : Edge) → o ≡ Some e → C) → C
edge_or None f g = f refl
edge_or (Some e) f g = g e refl

-- n steps lead from any frame to one that is no child
abbrev pub Ends : ℕ → Tree → Type 0
Ends n t = (f : ℕ) → get t (climb n t f) ≡ None

-- as many steps as there are rows do
abbrev pub Grounded : Tree → Type 0
Grounded t = Ends (length t) t

-- every parent ranks below its child
abbrev pub Ranked : Tree → (ℕ → ℕ) → Type 0
Ranked t r = (f : ℕ) (e : Edge) → get t f ≡ Some e → r e.parent < r f

-- ---- from the rule that can be computed to a rank

module _ (t : Tree) where
  -- where the climb has ended, more steps find no more
  pub above_more : (n f : ℕ) → get t (climb n t f) ≡ None → above (suc n) t f ≡ above n t f
  above_more zero f h = rw h
  above_more (suc n) f h =
      edge_or (get t f)
      (λ q. rw q)
      (λ e q. rw q (ap {B = List ℕ} (λ r. e.parent ∷ r) (above_more n e.parent (rw q at h))))

  ends_step : (n f : ℕ) (e : Edge) → get t f ≡ Some e → get t (climb n t f) ≡ None → length (above n t e.parent) < length (above n t f)
  ends_step zero f e q h = absurd (none_some (sym h ∙ q))
  ends_step (suc n) f e q h =
      let stays : above (suc n) t e.parent ≡ above n t e.parent = above_more n e.parent (rw q at h) in
      let longer : length (above (suc n) t f) ≡ suc (length (above n t e.parent)) = rw q in
      omega (arith, ap length stays)

  -- a frame's rank is the number of frames above it
  pub ends_ranked : (n : ℕ) → Ends n t → Ranked t (λ f. length (above n t f))
  ends_ranked n g f e q = ends_step n f e q (g f)

  pub grounded_ranked : Grounded t → Ranked t (λ f. length (ancestors t f))
  grounded_ranked g = ends_ranked (length t) g

  -- who is no child climbs nowhere
  pub climb_none : (n f : ℕ) → get t f ≡ None → climb n t f ≡ f
  climb_none zero f h = refl
  climb_none (suc n) f h = rw h

  -- where the climb has ended, more steps lead no further
  pub climb_more : (n m f : ℕ) → n ≤ m → get t (climb n t f) ≡ None → climb m t f ≡ climb n t f
  climb_more zero m f l h = climb_none m f h
  climb_more (suc n) zero f l h = absurd (omega arith)
  climb_more (suc n) (suc m) f l h = edge_or (get t f) (λ q. rw q) (λ e q. rw q (climb_more n m e.parent (omega arith) (rw q at h)))

-- ---- from a rank to no circle

module _ (t : Tree) (r : ℕ → ℕ) (k : Ranked t r) where
  pub above_lower : (n f x : ℕ) → member x (above n t f) ≡ true → r x < r f
  above_lower zero f x h = absurd (false_true h)
  above_lower (suc n) f x h =
      edge_or (get t f)
      (λ q. absurd (false_true (rw q at h)))
      (λ e q.
      let step = k f e q in
      both (eqb x e.parent)
      (λ s. let z : r x ≡ r e.parent = ap r (eqb-true x e.parent s) in omega arith)
      (λ s. let ih = above_lower n e.parent x (rw s at (rw q at h)) in omega arith))

  pub ranked_apart : NotAboveItself t
  ranked_apart n f = both (member f (above n t f)) (λ h. let z = above_lower n f f h in absurd (omega arith)) (λ h. h)

-- ---- from no circle to the rule that can be computed: a climb passes each child once

-- every frame of the list is a child
abbrev Children : Tree → List ℕ → Type 0
Children t [] = Unit {0}
Children t (x ∷ xs) = ((e : Edge) × (get t x ≡ Some e)) × Children t xs

-- none comes again
abbrev Once : List ℕ → Type 0
Once [] = Unit {0}
Once (x ∷ xs) = (member x xs ≡ false) × Once xs

abbrev others : ℕ → Tree → Tree
others x t = keep (λ k. not (eqb k x)) t

length_others : (x : ℕ) (t : Tree) (e : Edge) → get t x ≡ Some e → length (others x t) < length t
length_others x [] e q = absurd (none_some q)
length_others x (y ∷ t) e q =
    both (eqb x y.0)
    (λ s. rw (eq-eqb y.0 x (sym (eqb-true x y.0 s))) (let h = length_keep_le (λ k. not (eqb k x)) t in omega arith))
    (λ s.
    let ih = length_others x t e (rw s at q) in
    rw (ne_eqb y.0 x (λ z. eqb-false x y.0 s (sym z))) (omega arith))

children_others : (x : ℕ) (t : Tree) (xs : List ℕ) → member x xs ≡ false → Children t xs → Children (others x t) xs
children_others x t [] m c = tt
children_others x t (y ∷ xs) m c =
    both (eqb x y)
    (λ e. absurd (false_true (sym m ∙ rw e)))
    (λ e. (
      (c.0.0, get_keep (λ k. not (eqb k x)) t y ∙ rw (ne_eqb y x (λ z. eqb-false x y e (sym z))) c.0.1),
      children_others x t xs (rw e at m) c.1,
    ))

-- a list of children in which none comes again is no longer than the tree
pigeons : (t : Tree) (xs : List ℕ) → Once xs → Children t xs → length xs ≤ length t
pigeons t [] o c = omega arith
pigeons t (x ∷ xs) o c =
    let ih = pigeons (others x t) xs o.1 (children_others x t xs o.0 c.1) in
    let less = length_others x t c.0.0 c.0.1 in
    omega arith

abbrev pass_from : Option Edge → ℕ → (ℕ → List ℕ) → List ℕ
pass_from None f next = []
pass_from (Some e) f next = f ∷ next e.parent

-- the children that n steps from f leave behind
abbrev passed : ℕ → Tree → ℕ → List ℕ
passed zero t f = []
passed (suc n) t f = pass_from (get t f) f (λ p. passed n t p)

module _ (t : Tree) where
  passed_long : (n f : ℕ) → length (passed n t f) ≡ length (above n t f)
  passed_long zero f = refl
  passed_long (suc n) f = edge_or (get t f) (λ q. rw q) (λ e q. rw q (ap suc (passed_long n e.parent)))

  passed_children : (n f : ℕ) → Children t (passed n t f)
  passed_children zero f = tt
  passed_children (suc n) f = edge_or (get t f) (λ q. rw q tt) (λ e q. rw q ((e, q), passed_children n e.parent))

  -- whom a climb passes after its first step stands above its start
  passed_above : (n f x : ℕ) → member x (passed n t f) ≡ true → member x (f ∷ above n t f) ≡ true
  passed_above zero f x h = absurd (false_true h)
  passed_above (suc n) f x h =
      edge_or (get t f)
      (λ q. absurd (false_true (rw q at h)))
      (λ e q.
      both (eqb x f)
      (λ s. rw s)
      (λ s. rw (s, q) (passed_above n e.parent x (rw s at (rw q at h)))))

  passed_once : NotAboveItself t → (n f : ℕ) → Once (passed n t f)
  passed_once a zero f = tt
  passed_once a (suc n) f =
      edge_or (get t f)
      (λ q. rw q tt)
      (λ e q.
      rw q (
        both (member f (passed n t e.parent))
            (λ h. absurd (false_true (sym (rw q at (a (suc n) f)) ∙ passed_above n e.parent f h)))
            (λ h. h),
        passed_once a n e.parent,
      ))

  above_ends : (n f : ℕ) → length (above (suc n) t f) ≤ n → get t (climb n t f) ≡ None
  above_ends zero f h = edge_or (get t f) (λ q. q) (λ e q. absurd (too_long e q))
    where
      too_long : (e : Edge) → get t f ≡ Some e → ⊥
      too_long e q = let z : length (above 1 t f) ≡ 1 = rw q in omega arith
  above_ends (suc n) f h =
      edge_or (get t f)
      (λ q. rw q q)
      (λ e q. rw q (above_ends n e.parent (let z : length (above (suc (suc n)) t f) ≡ suc (length (above (suc n) t e.parent)) = rw q in omega arith)))

  -- as many steps as there are rows suffice
  pub apart_grounded : NotAboveItself t → Grounded t
  apart_grounded a f =
      let n = suc (length t) in
      above_ends (length t) f (omega (arith, passed_long n f, pigeons t (passed n t f) (passed_once a n f) (passed_children n f)))

pub ranked_grounded : (t : Tree) (r : ℕ → ℕ) → Ranked t r → Grounded t
ranked_grounded t r k = apart_grounded t (ranked_apart t r k)
