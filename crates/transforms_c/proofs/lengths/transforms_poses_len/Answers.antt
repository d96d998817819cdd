use mathlib.Core.Path.{sym, ◌∙◌}
use Rattle.registry.proofs.layout.RowLaws.{poses_small}
use Rattle.transforms_c.proofs.Areas.{small_sizes}
use Rattle.transforms_c.proofs.lengths.transforms_poses_len.Goals as goal

pub returns-then-not-sizes_fit : goal.returns-then-not-sizes_fit
returns-then-not-sizes_fit c = rw (sym c.sizes_fit.ensures ∙ c.if-not-sizes_fit.true)

pub poses_length-requires : goal.poses_length-requires
poses_length-requires c =
    let small = small_sizes c.args.rows c.args.samples (sym c.sizes_fit.ensures ∙ c.if-not-sizes_fit.false) in
    poses_small _ _ small.0 small.1

pub returns : goal.returns
returns c = rw (sym c.sizes_fit.ensures ∙ c.if-not-sizes_fit.false) c.poses_length.ensures
