use mathlib.Core.Path.{◌≡◌, sym, ◌∙◌}
use Rattle.buffer.proofs.RowBack.{length_samples_of}
use Rattle.registry.specs.Store.{child_in, parent_in, count_in, row_instants, row_poses}
use Rattle.registry.specs.Calls.{words}
use Rattle.registry.proofs.checked.Checked.edge_at.Goals as goal

pub returns : goal.returns
returns c =
    let s = words c.args.self.now.store in
    let r = c.args.r in
    let child : c.child.result ≡ child_in s r = rw c.rows-rows.ensures at c.child.ensures in
    let parent : c.parent.result ≡ parent_in s r = rw c.rows-rows.ensures at c.parent.ensures in
    let count : c.count.result ≡ count_in s r = rw c.rows-rows.ensures at c.count.ensures in
    λ i. record {
      child = child i;
      parent = parent i;
      count = (count ∙ sym (length_samples_of (count_in s r) (row_instants s r) (row_poses s r))) i;
      coverage = c.row_coverage.ensures i;
    }
