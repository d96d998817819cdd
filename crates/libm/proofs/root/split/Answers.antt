use Rattle.std.proofs.Common.{ℕ, ◌*◌, ◌/◌, ◌%◌, ◌^◌, arith, sym, ap, ◌∙◌}
use Rattle.libm.proofs.Split.{normal, subnormal, subnormal_units}
use Rattle.libm.proofs.root.split.Goals as goal

pub overflow_sub-spare : goal.overflow_sub-spare
overflow_sub-spare c = (subnormal c.args.bits c.requires.0 c.if-field-eq0.true).0

pub invariant_of-result : goal.invariant_of-result
invariant_of-result c = let w = subnormal c.args.bits c.requires.0 c.if-field-eq0.true in record { full_width = (w.2, omega (arith, w.3)) }

pub returns-then-field-eq0 : goal.returns-then-field-eq0
returns-then-field-eq0 c =
    let b = c.args.bits in
    let w = subnormal b c.requires.0 c.if-field-eq0.true in
    (w.3, omega arith, w.4 ∙ ap (λ (x : ℕ). x * 2 ^ 52) (sym (subnormal_units (b / 2 ^ 52) (b % 2 ^ 52) c.if-field-eq0.true)))

pub returns : goal.returns
returns c = (omega arith, omega arith, normal (c.args.bits / 2 ^ 52) (c.args.bits % 2 ^ 52) c.if-field-eq0.false)
