use Rattle.std.proofs.Common.{sym, ◌∙◌, subst}
use lib.Dec.{T}
use lib.Ieee.{of_bits}
use Rattle.libm.proofs.SqrtCases.{at_nan, at_zero, below_zero, at_infinity, Positive, otherwise, bits_within, sqrt_by_bits, finite_bits}
use Rattle.libm.proofs.root.sqrt.Goals.{then-is_nan-via-then-is_nan, then-is_nan-via-else-is_nan+then-x, then-is_nan-via-else-is_nan+else-x+then-x-2}
use Rattle.libm.proofs.root.sqrt.Goals as goal

pub returns-then-is_nan : goal.returns-then-is_nan
returns-then-is_nan c = elim c.then-is_nan.branch [
  | then-is_nan-via-then-is_nan w ↦ at_nan c.args.x (sym c.is_nan.ensures.value ∙ w.if-is_nan.true)
  | then-is_nan-via-else-is_nan+then-x w ↦ at_zero c.args.x w.if-x.true
  | then-is_nan-via-else-is_nan+else-x+then-x-2 w ↦ at_infinity c.args.x w.if-x-2.true
]

pub returns-then-x-3 : goal.returns-then-x-3
unfolding of_bits
returns-then-x-3 c = below_zero c.args.x c.if-x-3.true

pub root_pattern-requires : goal.root_pattern-requires
root_pattern-requires c =
    let left : Positive c.args.x = otherwise _ (sym c.is_nan.ensures.value ∙ c.if-is_nan.false) c.if-x.false c.if-x-2.false c.if-x-3.false in
    bits_within _ (subst T (sym c.well_formed.0.1) tt) left

pub float_from_bits-result : goal.float_from_bits-result
float_from_bits-result c = finite_bits c.root_pattern.result c.root_pattern.ensures.0

pub returns : goal.returns
returns c =
    let left : Positive c.args.x = otherwise _ (sym c.is_nan.ensures.value ∙ c.if-is_nan.false) c.if-x.false c.if-x-2.false c.if-x-3.false in
    c.root_pattern.ensures.1 ∙ sqrt_by_bits _ (subst T (sym c.well_formed.0.1) tt) left
