use mathlib.Core.Path.{◌≡◌, sym, ◌∙◌}
use mathlib.Core.Bool.{true}
use native.Mathlib.Omega.{arith}
use Rattle.transforms_c.specs.Lengths.{rows_fit}
use Rattle.transforms_c.proofs.Areas.{few_rows_lem}
use Rattle.transforms_c.proofs.lengths.transforms_head_len.Goals as goal

pub returns-then-not-rows_fit : goal.returns-then-not-rows_fit
returns-then-not-rows_fit c = rw (sym c.rows_fit.ensures ∙ c.if-not-rows_fit.true)

pub head_length-requires : goal.head_length-requires
head_length-requires c =
    let rows : rows_fit c.args.rows ≡ true = sym c.rows_fit.ensures ∙ c.if-not-rows_fit.false in
    omega (arith, few_rows_lem c.args.rows rows)

pub returns : goal.returns
returns c =
    let rows : rows_fit c.args.rows ≡ true = sym c.rows_fit.ensures ∙ c.if-not-rows_fit.false in
    rw rows c.head_length.ensures
