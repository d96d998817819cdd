-- The lines that are left of the walk over the frames below a root, turn by turn.
use Rattle.std.proofs.Common.{◌≡◌, ℕ, zero, suc, ◌+◌, ◌-◌, ◌<◌, ◌≤◌, leb, [], ◌∷◌, ◌++◌, sym, refl, ap, ◌∙◌, append_assoc, append-nil, add-one, arith}
use Rattle.std.specs.Prelude.{Option, None, Some}
use Rattle.buffer.specs.Map.{get, keep}
use Rattle.text.specs.Writing.{Writes}
use Rattle.text.specs.declared.write.Writer.{Writer}
use Rattle.registry.specs.Tree.{Edge, Tree}
use Rattle.registry.specs.declared.checked.Edge.{Edge as Told}
use Rattle.console.specs.Tree.{line_texts, under, lines_of, below, joined_lines}
use Rattle.console.specs.Walk.{behind_frame, lines_left, left_of, Turned}
use Rattle.console.specs.declared.tree.Walk.{Walk}
use Rattle.console.proofs.Turns.{writes_none}
use Rattle.console.proofs.ToldTexts.{told_line, line_told}
use Rattle.console.proofs.EdgesUnder.{from_zero, Next}

module _ (t : Tree) where
  -- at the start: all lines below the root
  pub left_start : (f : ℕ) → lines_left t 1 f 0 ≡ below 256 t 1 f
  unfolding lines_left below
  left_start f = rw (from_zero (under t f)) (none_above (get t f))
    where
      none_above : (m : Option Edge) → lines_of 1 (below 255 t 2) (under t f) ++ behind_frame (lines_left t 0) f m ≡ lines_of 1 (below 255 t 2) (under t f)
      none_above None = append-nil _
      none_above (Some e) = append-nil _

  -- at level 0 no line is left
  pub left_none : (w : Walk) → w.level ≡ 0 → joined_lines (left_of t w) ≡ []
  unfolding lines_left
  left_none w e = rw e refl

  -- no edge is left under the frame
  pub left_up : (level f k : ℕ) → 0 < level → keep (leb k) (under t f) ≡ [] → lines_left t level f k ≡ behind_frame (lines_left t (level - 1)) f (get t f)
  unfolding lines_left
  left_up zero f k l q = absurd (omega arith)
  left_up (suc l) f k h q = let e : suc l - 1 ≡ l = omega arith in rw (q, e) refl

  -- the first line, those below its child, and those behind the child
  pub left_first : (level f k : ℕ) (y : Told) (x : Next t f k y) → 0 < level
      → lines_left t level f k ≡ line_texts level (y.child, x.edge) ∷ (below (256 - level) t (level + 1) y.child ++ lines_left t level f (y.child + 1))
  unfolding lines_left
  left_first zero f k y x l = absurd (omega arith)
  left_first (suc l) f k y x h = rw (x.left, append_assoc) refl

  -- the walk below a child, and behind it
  pub left_below : (level f c : ℕ) (e : Edge) → level < 256 → get t c ≡ Some e → e.parent ≡ f
      → lines_left t (level + 1) c 0 ≡ below (256 - level) t (level + 1) c ++ lines_left t level f (c + 1)
  unfolding lines_left below
  left_below level f c e l g p =
      let q : 256 - level ≡ suc (256 - suc level) = omega arith in
      rw (add-one level, from_zero (under t c), g, q, p) refl

  -- ---- turns

  -- no edge is left under the frame: the same lines are left, at a lower level
  pub turned_up : (v : Writer) (w w₁ : Walk) → 0 < w.level → keep (leb w.from) (under t w.under) ≡ [] → w₁.level < w.level
      → left_of t w₁ ≡ behind_frame (lines_left t (w.level - 1)) w.under (get t w.under) → Turned t v w v w₁
  turned_up v w w₁ l q lower left =
      let e : left_of t w ≡ left_of t w₁ = left_up w.level w.under w.from l q ∙ sym left in
      record { texts = []; wrote = writes_none v [] refl; left = ap joined_lines e; fewer = rw e (omega arith) }

  -- the first line is written, and the others are left
  module _ (v v₁ : Writer) (w : Walk) (l : 0 < w.level) (y : Told) (x : Next t w.under w.from y) (wrote : Writes v v₁ (told_line w.level y)) where
    turned : (w₁ : Walk) → w₁.level ≤ w.level + 1 → below (256 - w.level) t (w.level + 1) y.child ++ lines_left t w.level w.under (y.child + 1) ≡ left_of t w₁ → Turned t v w v₁ w₁
    turned w₁ k q =
        let line : told_line w.level y ≡ line_texts w.level (y.child, x.edge) = ap (told_line w.level) x.told ∙ line_told w.level (y.child, x.edge) in
        let e : left_of t w ≡ told_line w.level y ∷ left_of t w₁ =
        left_first w.level w.under w.from y x l ∙ (λ i. sym line i ∷ q i) in
        record { texts = told_line w.level y; wrote = wrote; left = ap joined_lines e; fewer = rw e (omega arith) }

    -- on below the child
    pub turned_down : w.level < 256 → Turned t v w v₁ (record { under = y.child; from = 0; level = w.level + 1 })
    turned_down k = turned _ (omega arith) (sym (left_below w.level w.under y.child x.edge k x.held x.parent))

    -- or, at the last level, on behind it
    pub turned_on : 256 ≤ w.level → Turned t v w v₁ (record { under = w.under; from = y.child + 1; level = w.level })
    unfolding below
    turned_on k =
        let q : 256 - w.level ≡ 0 = omega arith in
        turned _ (omega arith) (rw q refl)
