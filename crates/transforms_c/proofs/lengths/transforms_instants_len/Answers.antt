use mathlib.Core.Path.{sym, ◌∙◌}
use Rattle.registry.proofs.layout.RowLaws.{instants_small}
use Rattle.transforms_c.proofs.Areas.{small_sizes}
use Rattle.transforms_c.proofs.lengths.transforms_instants_len.Goals as goal

pub returns-then-not-sizes_fit : goal.returns-then-not-sizes_fit
returns-then-not-sizes_fit c = rw (sym c.sizes_fit.ensures ∙ c.if-not-sizes_fit.true)

pub instants_length-requires : goal.instants_length-requires
instants_length-requires c =
    let small = small_sizes c.args.rows c.args.samples (sym c.sizes_fit.ensures ∙ c.if-not-sizes_fit.false) in
    instants_small _ _ small.0 small.1

pub returns : goal.returns
returns c = rw (sym c.sizes_fit.ensures ∙ c.if-not-sizes_fit.false) c.instants_length.ensures
