use Rattle.std.proofs.Common.{◌+◌, ◌/◌, ◌%◌, arith, sym, ◌∙◌}
use Rattle.libm.specs.Sqrt.{units_of}
use Rattle.libm.proofs.Pack.{packed}
use Rattle.libm.proofs.RootRounded.{rounded, digits_range}
use Rattle.libm.proofs.root.root_pattern.Goals as goal

pub returns : goal.returns
returns c =
    let p = c.paired-p.result in
    let d = c.root-d.result in
    let (lo, hi) = p.full_width in
    let (exponent, value) = c.paired-p.ensures in
    let g = digits_range d.root d.rest p.significand c.root-d.ensures d.greatest lo hi in (
      omega arith,
      packed (p.exponent + 485) (d.root / 2 + d.root % 2) (omega arith) (omega arith) (omega arith)
          ∙ sym (rounded (units_of c.args.bits) p.significand p.exponent d.root d.rest (value ∙ c.split.ensures.2) lo hi c.root-d.ensures d.greatest),
    )
