-- A sample put into one row of the words of a tree: the words of the tree with the child's edge updated, or 17.
use Prim.Native.Nat.{ℕ, ◌+◌, ◌-◌, ◌≤◌}
use mathlib.Core.Path.{◌≡◌, sym, ap, ◌∙◌}
use mathlib.Core.Bool.{true, false}
use Rattle.std.specs.Prelude.{Option}
use mathlib.Core.List.{List}
use native.Mathlib.Omega.{arith}
use lib.Dec.{ltb}
use lib.Ieee.{Float}
use lib.ListN.{length}
use borrow.Author.Tests.{ltb-false}
use borrow.Rule.Slice.PartMut.{put_mid, put_same}
use Rattle.time.specs.Reply.{Reply, Carried, answer, refusal, nothing}
use Rattle.time.proofs.Replies.{refusal_answer}
use Rattle.geometry.specs.declared.isometry.Isometry.{Isometry}
use Rattle.buffer.specs.Samples.{Samples, insert}
use Rattle.buffer.specs.Row.{RowOutcome, insert_row}
use Rattle.buffer.specs.Row as row
use Rattle.buffer.proofs.Cases.{both}
use Rattle.registry.specs.Store.{Store, capacity_in, age_in, limits_of, count_in, row_instants, row_poses, edge_at, with_count, stored}
use Rattle.registry.specs.Answers.{done}
use Rattle.registry.specs.Calls.{outcome, written}
use Rattle.registry.specs.layout.Rows.{StoredRow, resampled, put_into}
use Rattle.registry.proofs.layout.RowParts.{Cut, instants_long, lent_instants, lent_poses, instants_lent, poses_lent}
use Rattle.registry.proofs.layout.RowHolding.{row_holding}

module _ (s : Store) (r : ℕ) (h : StoredRow r s) (i : ℕ) (p : Isometry) where
  abbrev m : Samples
  m = insert (age_in s) i p (edge_at s r).samples

  written_full : ltb (capacity_in s) (length m) ≡ true → written s (limits_of s) (put_into s r i p) ≡ outcome (refusal 17 nothing) s.head s.instants s.poses
  unfolding put_into limits_of
  written_full q = rw q

  written_held : ltb (capacity_in s) (length m) ≡ false → written s (limits_of s) (put_into s r i p) ≡ record { reply = answer done; store = stored (limits_of s) (resampled s r m) }
  unfolding put_into limits_of
  written_held q = rw q

  -- ---- what `insert` leaves in the row's parts

  module _ {width first float floats : ℕ} (cut : Cut s r width first float floats) (age : Option ℕ) (count : ℕ) (a : age ≡ age_in s) (n : count ≡ count_in s r)
      (reply : Reply ℕ) (ts : List ℕ) (fs : List Float)
      (left : row.outcome reply ts fs ≡ insert_row age i p count (lent_instants s first width) (lent_poses s float floats)) where
    left_row : row.outcome reply ts fs ≡ insert_row (age_in s) i p (count_in s r) (row_instants s r) (row_poses s r)
    left_row = left ∙ (λ j. insert_row (a j) i p (n j) (instants_lent cut j) (poses_lent cut j))

    long : length (row_instants s r) ≡ capacity_in s
    long = instants_long s r h.row.part

    left_full : ltb (capacity_in s) (length m) ≡ true → row.outcome reply ts fs ≡ row.outcome (refusal 17 nothing) (row_instants s r) (row_poses s r)
    unfolding insert_row
    left_full q = left_row ∙ rw (ap (λ (w : ℕ). ltb w (length m)) long ∙ q)

    left_held : ltb (capacity_in s) (length m) ≡ false → row.outcome reply ts fs ≡ row.holding (capacity_in s) m
    unfolding insert_row
    left_held q = left_row ∙ rw (ap (λ (w : ℕ). ltb w (length m)) long ∙ q) (ap (λ (w : ℕ). row.holding w m) long)

    pub row_refused : (k : ℕ) (c : Carried) → reply ≡ refusal k c
        → outcome (refusal k c) s.head (put_mid first (first + width - first) s.instants ts) (put_mid float (float + floats - float) s.poses fs)
        ≡ written s (limits_of s) (put_into s r i p)
    row_refused k c f =
        both (ltb (capacity_in s) (length m))
        (λ q.
        let o = left_full q in
        let same : ◌≡◌ {A = Reply ℕ} (refusal k c) (refusal 17 nothing) = sym f ∙ ap (λ (z : RowOutcome). z.count) o in
        let number : k ≡ 17 = cc in
        let carried : c ≡ nothing = cc in
        let x : ts ≡ lent_instants s first width = ap (λ (z : RowOutcome). z.instants) o ∙ sym (instants_lent cut) in
        let y : fs ≡ lent_poses s float floats = ap (λ (z : RowOutcome). z.poses) o ∙ sym (poses_lent cut) in
        rw (number, carried, x, y, put_same first (first + width - first) s.instants, put_same float (float + floats - float) s.poses) (sym (written_full q)))
        (λ q. absurd (refusal_answer (sym f ∙ ap (λ (z : RowOutcome). z.count) (left_held q))))

    pub row_held : (k : ℕ) → reply ≡ answer k → (head : List ℕ) → head ≡ with_count r k s.head
        → outcome (answer done) head (put_mid first (first + width - first) s.instants ts) (put_mid float (float + floats - float) s.poses fs)
        ≡ written s (limits_of s) (put_into s r i p)
    row_held k f head g =
        both (ltb (capacity_in s) (length m))
        (λ q. absurd (refusal_answer (sym (ap (λ (z : RowOutcome). z.count) (left_full q)) ∙ f)))
        (λ q.
        let few : length m ≤ capacity_in s = let l = ltb-false (capacity_in s) (length m) q in omega arith in
        let words = row_holding s r h m few cut k head ts fs (ap (λ (z : Reply ℕ). row.outcome z ts fs) (sym f) ∙ left_held q) g in
        (λ j. record { reply = answer done; store = words j }) ∙ sym (written_held q))
