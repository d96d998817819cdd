-- The frames above a frame, told with no count of steps, and what one more edge does to a tree without circles.
use Prim.Native.Nat.{ℕ, zero, suc, ◌+◌, ◌<◌}
use mathlib.Core.Path.{◌≡◌, refl, sym, ap, ◌∙◌}
use mathlib.Core.Bool.{false, cond}
use Rattle.std.specs.Prelude.{None, Some}
use mathlib.Core.List.{[], ◌∷◌}
use native.Mathlib.Omega.{arith}
use lib.ListN.{length}
use lib.Dec.{eqb}
use borrow.Author.Tests.{eq-eqb, ne_eqb, eqb-true, eqb-false}
use Rattle.buffer.specs.Map.{get, put}
use Rattle.buffer.proofs.Cases.{both}
use Rattle.buffer.proofs.Maps.{get_put_same, get_put_other}
use Rattle.registry.specs.Tree.{Edge, Tree, rise, ancestors, member}
use Rattle.registry.proofs.paths.Climbing.{edge_or, Grounded, Ranked, above_more, ranked_grounded}

pub some_in : {A : Type 0} {a b : A} → Some a ≡ Some b → a ≡ b
some_in h = cc

module _ (t : Tree) (g : Grounded t) where
  -- one step at a time
  pub ancestors_rise : (f : ℕ) → ancestors t f ≡ rise (get t f) (ancestors t)
  ancestors_rise f = sym (above_more t (length t) f (g f))

  pub ancestors_none : (f : ℕ) → get t f ≡ None → ancestors t f ≡ []
  ancestors_none f q = ancestors_rise f ∙ rw q

  pub ancestors_some : (f : ℕ) (e : Edge) → get t f ≡ Some e → ancestors t f ≡ e.parent ∷ ancestors t e.parent
  ancestors_some f e q = ancestors_rise f ∙ rw q

module _ (t : Tree) (r : ℕ → ℕ) (k : Ranked t r) where
  -- what holds of frames that are no child, and of a child where it holds of its parent, holds of every frame
  pub climb_ind : (P : ℕ → Type 0) → ((f : ℕ) → get t f ≡ None → P f) → ((f : ℕ) (e : Edge) → get t f ≡ Some e → P e.parent → P f) → (f : ℕ) → P f
  climb_ind P base step f = go (suc (r f)) f (omega arith)
    where
      go : (n f : ℕ) → r f < n → P f
      go zero f h = absurd (omega arith)
      go (suc n) f h = edge_or (get t f) (base f) (λ e q. step f e q (go n e.parent (let z = k f e q in omega arith)))

  -- ---- one more edge

  -- an edge that keeps its parent
  pub ranked_held : (c : ℕ) (e d : Edge) → get t c ≡ Some e → d.parent ≡ e.parent → Ranked (put c d t) r
  ranked_held c e d q s f x z =
      both (eqb f c)
      (λ w.
      let same : f ≡ c = eqb-true f c w in
      let here : Some d ≡ Some x = sym (get_put_same c d t) ∙ ap (get (put c d t)) (sym same) ∙ z in
      let up : x.parent ≡ e.parent = ap (λ (o : Edge). o.parent) (sym (some_in here)) ∙ s in
      rw (up, same) (k c e q))
      (λ w. k f x (sym (get_put_other c f d t (eqb-false f c w)) ∙ z))

  -- whoever has c above it, and c itself, moves above c's new parent p
  abbrev lifted : ℕ → ℕ → ℕ → ℕ
  lifted c p x = r x + cond (member c (x ∷ ancestors t x)) (suc (r p)) 0

  -- a new child under a frame that it is not above
  pub ranked_new : (c : ℕ) (d : Edge) → get t c ≡ None → member c (d.parent ∷ ancestors t d.parent) ≡ false → Ranked (put c d t) (lifted c d.parent)
  ranked_new c d n h f x z =
      both (eqb f c)
      (λ w.
      let same : f ≡ c = eqb-true f c w in
      let here : Some d ≡ Some x = sym (get_put_same c d t) ∙ ap (get (put c d t)) (sym same) ∙ z in
      rw (← some_in here, same, eq-eqb c c refl, h) (omega arith))
      (λ w.
      let old : get t f ≡ Some x = sym (get_put_other c f d t (eqb-false f c w)) ∙ z in
      let step = k f x old in
      rw (ne_eqb c f (λ s. eqb-false f c w (sym s)), ancestors_some t (ranked_grounded t r k) f x old) (omega arith))
