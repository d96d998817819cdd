-- A row's early samples removed: the words of the tree with its edge wiped.
use Prim.Native.Nat.{ℕ, ◌+◌, ◌-◌, ◌≤◌}
use mathlib.Core.Path.{◌≡◌, ap, ◌∙◌}
use mathlib.Core.List.{List}
use native.Mathlib.Omega.{arith}
use lib.Ieee.{Float}
use lib.ListN.{length}
use borrow.Rule.Slice.PartMut.{put_mid}
use Rattle.time.specs.Reply.{answer}
use Rattle.buffer.specs.declared.kind.Kind.{Kind}
use Rattle.buffer.specs.Samples.{Samples, remove_before}
use Rattle.buffer.specs.Row.{samples_of, remove_before_row}
use Rattle.buffer.specs.Row as row
use Rattle.buffer.proofs.RowBack.{length_samples_of}
use Rattle.buffer.proofs.SampleLaws.{length_remove_before_le}
use Rattle.registry.specs.Store.{Store, capacity_in, limits_of, kind_in, count_in, kind_of_word, row_instants, row_poses, edge_at, with_count, stored}
use Rattle.registry.specs.Calls.{store_of}
use Rattle.registry.specs.layout.Rows.{StoredRow, wiped_in}
use Rattle.registry.proofs.layout.RowParts.{Cut, instants_long, lent_instants, lent_poses, instants_lent, poses_lent}
use Rattle.registry.proofs.layout.RowHolding.{row_holding}

pub row_wiped : (s : Store) (r : ℕ) → StoredRow r s → {width first float floats : ℕ} → Cut s r width first float floats
    → (t : ℕ) (kind : Kind) (count held : ℕ) (head ts : List ℕ) (fs : List Float)
    → kind ≡ kind_of_word (kind_in s r) → count ≡ count_in s r → head ≡ with_count r held s.head
    → row.outcome (answer held) ts fs ≡ remove_before_row kind t count (lent_instants s first width) (lent_poses s float floats)
    → store_of head (put_mid first (first + width - first) s.instants ts) (put_mid float (float + floats - float) s.poses fs) ≡ stored (limits_of s) (wiped_in s r t)
unfolding remove_before_row wiped_in
row_wiped s r h cut t kind count held head ts fs k c p e =
    let old = edge_at s r in
    let m : Samples = remove_before old.kind t old.samples in
    let long = instants_long s r h.row.part in
    let few : length m ≤ capacity_in s =
    omega (arith, length_remove_before_le old.kind t old.samples, length_samples_of (count_in s r) (row_instants s r) (row_poses s r), h.row.held.fits, long)
    in
    let left : row.outcome (answer held) ts fs ≡ row.holding (capacity_in s) m =
    e
    ∙ (λ j. row.holding (length (instants_lent cut j)) (remove_before (k j) t (samples_of (c j) (instants_lent cut j) (poses_lent cut j))))
    ∙ ap (λ (w : ℕ). row.holding w m) long
    in
    row_holding s r h m few cut held head ts fs left p
