-- The frames at which the climbs from two frames end, told one step at a time: they are one frame exactly where there is a path, and the hops up to them are those of
-- the path's sides.
use Prim.Native.Nat.{ℕ, ◌≤◌}
use mathlib.Core.Path.{◌≡◌, refl, sym, ap, subst, ◌∙◌}
use mathlib.Core.Bool.{Bool, true, false}
use Rattle.std.specs.Prelude.{None, Some}
use mathlib.Core.List.{List, [], ◌∷◌}
use native.Mathlib.Omega.{arith}
use lib.ListN.{length}
use lib.Dec.{eqb}
use borrow.Author.Tests.{eq-eqb, ne_eqb, eqb-true}
use Rattle.buffer.specs.Map.{get}
use Rattle.buffer.proofs.Cases.{both, false_true}
use Rattle.buffer.proofs.Maps.{rising_is}
use Rattle.registry.specs.Tree.{Edge, Tree, ancestors, member}
use Rattle.registry.specs.Path.{Hop, chain, until, any, side, connected, first_or_last, climb_end, hops}
use Rattle.registry.specs.PathLaws.{ClimbsMeet}
use Rattle.registry.specs.paths.Walks.{hops_to}
use Rattle.registry.proofs.soundness.NoCircle.{circle_grounded}
use Rattle.registry.proofs.paths.Climbing.{Grounded, grounded_ranked, above_lower}
use Rattle.registry.proofs.paths.Ancestors.{ancestors_none, ancestors_some, climb_ind}
use Rattle.registry.proofs.paths.SideHops.{chain_up, hops_end, hops_up, hops_root}

-- the climbs from f and g end at x and y
abbrev pub EndAt : Tree → ℕ → ℕ → ℕ → ℕ → Type 0
EndAt t f g x y = (x ≡ climb_end t f g) × (y ≡ climb_end t g f)

-- ---- the first that passes, or the last

module _ (test : ℕ → Bool) where
  first_here : (x : ℕ) (xs : List ℕ) → test x ≡ true → first_or_last test x xs ≡ x
  first_here x [] h = refl
  first_here x (y ∷ ys) h = rw h

  first_member : (x : ℕ) (xs : List ℕ) → member (first_or_last test x xs) (x ∷ xs) ≡ true
  first_member x [] = rw (eq-eqb x x refl)
  first_member x (y ∷ ys) = both (test x) (λ h. rw (h, eq-eqb x x refl)) (λ h. let e : first_or_last test x (y ∷ ys) ≡ first_or_last test y ys = rw h refl in
      subst (λ (k : ℕ). member k (x ∷ y ∷ ys) ≡ true) (sym e) (behind x _ (first_member y ys)))
    where
      behind : (x k : ℕ) → member k (y ∷ ys) ≡ true → member k (x ∷ y ∷ ys) ≡ true
      behind x k m = both (eqb k x) (λ e. rw e) (λ e. rw e m)

first_same : (p q : ℕ → Bool) (x : ℕ) (xs : List ℕ) → ((y : ℕ) → member y (x ∷ xs) ≡ true → p y ≡ q y) → first_or_last p x xs ≡ first_or_last q x xs
first_same p q x [] h = refl
first_same p q x (y ∷ ys) h =
    let here : p x ≡ q x = h x (rw (eq-eqb x x refl)) in
    let rest : first_or_last p y ys ≡ first_or_last q y ys = first_same p q y ys (λ k m. h k (both (eqb k x) (λ e. rw e) (λ e. rw e m))) in
    rw (here, rest)

-- ---- where a climb ends

pub climb_end_here : (t : Tree) (f g : ℕ) → member f (chain t g) ≡ true → climb_end t f g ≡ f
unfolding climb_end
climb_end_here t f g m = first_here (λ x. member x (chain t g)) f (ancestors t f) m

pub climb_end_same : (t : Tree) (f : ℕ) → climb_end t f f ≡ f
climb_end_same t f = climb_end_here t f f (rw (eq-eqb f f refl))

climb_end_member : (t : Tree) (f g : ℕ) → member (climb_end t f g) (chain t f) ≡ true
unfolding climb_end
climb_end_member t f g = first_member (λ x. member x (chain t g)) f (ancestors t f)

module _ (t : Tree) (gr : Grounded t) where
  pub climb_end_root : (f g : ℕ) → get t f ≡ None → climb_end t f g ≡ f
  unfolding climb_end
  climb_end_root f g q = rw (ancestors_none t gr f q)

  -- a frame that is not on the other's climb goes up
  module _ (f g : ℕ) (e : Edge) (q : get t f ≡ Some e) (out : member f (chain t g) ≡ false) where
    pub climb_end_up : climb_end t f g ≡ climb_end t e.parent g
    unfolding climb_end
    climb_end_up = ap (first_or_last (λ x. member x (chain t g)) f) (ancestors_some t gr f e q) ∙ rw out

    pub climb_end_stays : climb_end t g f ≡ climb_end t g e.parent
    unfolding climb_end
    climb_end_stays =
        first_same (λ x. member x (chain t f)) (λ x. member x (chain t e.parent)) g (ancestors t g)
        (λ x m. ap (member x) (chain_up t gr f e q) ∙ both (eqb x f) (λ s. absurd (false_true (sym out ∙ subst (λ (k : ℕ). member k (chain t g) ≡ true) (eqb-true x f s) m))) (λ s. rw s))

    side_up : side t f g ≡ f ∷ side t e.parent g
    unfolding side
    side_up = ap (until (λ x. member x (chain t g))) (chain_up t gr f e q) ∙ rw out

    connected_up : connected t f g ≡ connected t e.parent g
    unfolding connected
    connected_up = ap (any (λ x. member x (chain t g))) (chain_up t gr f e q) ∙ rw out

  -- who lies no higher than another is not above it
  pub not_above : (f g : ℕ) → (f ≡ g → ⊥) → length (ancestors t g) ≤ length (ancestors t f) → member f (chain t g) ≡ false
  not_above f g ne l =
      rw (ne_eqb f g ne)
      (both (member f (ancestors t g))
      (λ m. let z = above_lower t _ (grounded_ranked t gr) (length t) g f m in absurd (omega arith))
      (λ m. m))

  -- a child is not on its parent's climb
  up_apart : (f k : ℕ) (e : Edge) → get t f ≡ Some e → member k (chain t e.parent) ≡ true → k ≡ f → ⊥
  up_apart f k e q m s =
      let d = ap length (ancestors_some t gr f e q) in
      let out : member f (chain t e.parent) ≡ false =
      not_above f e.parent (λ z. let w = ap (λ (x : ℕ). length (ancestors t x)) z in omega arith) (omega arith)
      in
      false_true (sym out ∙ subst (λ (z : ℕ). member z (chain t e.parent) ≡ true) s m)

  -- where g is f or above it, the climb from f ends at g
  pub climb_end_above : (g f : ℕ) → member g (chain t f) ≡ true → climb_end t f g ≡ g
  climb_end_above g =
      climb_ind t _ (grounded_ranked t gr) (λ f. member g (chain t f) ≡ true → climb_end t f g ≡ g)
      (λ f q m. climb_end_root f g q ∙ sym (both (eqb g f) (eqb-true g f) (λ s. absurd (false_true (rw (ancestors_none t gr f q) at (rw s at m))))))
      (λ f e q ih m.
      both (eqb g f)
      (λ s. rw (← eqb-true g f s) (climb_end_same t g))
      (λ s.
      let up : member g (chain t e.parent) ≡ true = rw (ancestors_some t gr f e q) at (rw s at m) in
      let z = above_lower t _ (grounded_ranked t gr) (length t) f g (rw s at m) in
      let out : member f (chain t g) ≡ false = not_above f g (λ w. absurd (omega (arith, ap (λ (x : ℕ). length (ancestors t x)) w))) (omega arith) in
      climb_end_up f g e q out ∙ ih up))

  -- ---- what the two ends tell

  side_here : (f g : ℕ) → member f (chain t g) ≡ true → side t f g ≡ []
  unfolding side
  side_here f g m = rw m

  side_root : (f g : ℕ) → get t f ≡ None → hops t (side t f g) ≡ []
  unfolding side
  side_root f g q = rw (ancestors_none t gr f q) (both (member f (chain t g)) (λ m. rw m) (λ m. rw (m, q)))

  connected_here : (f g : ℕ) → member f (chain t g) ≡ true → connected t f g ≡ true
  unfolding connected
  connected_here f g m = rw m

  connected_root : (f g : ℕ) → get t f ≡ None → member f (chain t g) ≡ false → connected t f g ≡ false
  unfolding connected
  connected_root f g q m = rw (ancestors_none t gr f q, m)

  -- the climbs end at one frame exactly where there is a path
  pub ends_meet : (f g : ℕ) → connected t f g ≡ eqb (climb_end t f g) (climb_end t g f)
  ends_meet f g =
      climb_ind t _ (grounded_ranked t gr) (λ f. connected t f g ≡ eqb (climb_end t f g) (climb_end t g f))
      (λ f q. both (member f (chain t g)) (here f) (λ out. connected_root f g q out ∙ sym (ne_eqb _ _ (apart f q out))))
      (λ f e q ih.
      both (member f (chain t g))
      (here f)
      (λ out. connected_up f g e q out ∙ ih ∙ λ i. eqb (sym (climb_end_up f g e q out) i) (sym (climb_end_stays f g e q out) i)))
      f
    where
      here : (f : ℕ) → member f (chain t g) ≡ true → connected t f g ≡ eqb (climb_end t f g) (climb_end t g f)
      here f m = connected_here f g m ∙ sym (eq-eqb _ _ (climb_end_here t f g m ∙ sym (climb_end_above f g m)))

      apart : (f : ℕ) → get t f ≡ None → member f (chain t g) ≡ false → climb_end t f g ≡ climb_end t g f → ⊥
      apart f q out e = false_true (sym out ∙ ap (λ (x : ℕ). member x (chain t g)) (sym (climb_end_root f g q) ∙ e) ∙ climb_end_member t g f)

  -- the hops up to where the climb ends are those of the path's side, or all up to the root
  pub hops_end_at : (f g : ℕ) → hops_to t f (climb_end t f g) ≡ hops t (side t f g)
  hops_end_at f g =
      climb_ind t _ (grounded_ranked t gr) (λ f. hops_to t f (climb_end t f g) ≡ hops t (side t f g))
      (λ f q. hops_root t gr f (climb_end t f g) q ∙ sym (side_root f g q))
      (λ f e q ih.
      both (member f (chain t g))
      (λ m. ap (hops_to t f) (climb_end_here t f g m) ∙ hops_end t f ∙ sym (ap (hops t) (side_here f g m)))
      (λ out.
      ap (hops_to t f) (climb_end_up f g e q out)
      ∙ hops_up t gr f (climb_end t e.parent g) e q (up_apart f _ e q (climb_end_member t e.parent g))
      ∙ ap {B = List Hop} (λ hs. (f, e) ∷ hs) ih
      ∙ sym (ap (hops t) (side_up f g e q out) ∙ rw q)))
      f

-- ---- the law

pub climbs_meet : ClimbsMeet
climbs_meet t rises circles f g = let gr = circle_grounded t ((rising_is t).0 rises) circles in (ends_meet t gr f g, sym (hops_end_at t gr f g))
