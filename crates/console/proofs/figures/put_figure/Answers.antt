use Rattle.std.proofs.Common.{sym, ◌∙◌}
use Rattle.console.specs.Figures.{figure_texts}
use Rattle.console.proofs.figures.put_figure.Goals as goal

pub returns-then-is_nan : goal.returns-then-is_nan
unfolding figure_texts
returns-then-is_nan c = rw (sym c.is_nan.ensures.value ∙ c.if-is_nan.true) c.write_bytes.ensures
