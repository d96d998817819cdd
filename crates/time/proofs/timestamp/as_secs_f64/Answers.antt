use Rattle.std.proofs.Common.{ℕ, ◌≡◌, ◌/◌, ◌%◌, min, ap₂, arith, ◌∙◌}
use Rattle.std.specs.Float.Ieee.{of_int, of_bits}
use Rattle.time.specs.Float.{◌⊕◌, ◌⊘◌, whole}
use Rattle.time.specs.Timestamp.{as_secs_f64}
use Rattle.time.proofs.timestamp.as_secs_f64.Goals as goal

pub returns : goal.returns
unfolding as_secs_f64 of_int of_bits
returns c =
    let secs : c.from_nanos.result.secs ≡ c.args.nanos / 1000000000 = omega (arith, c.from_nanos.ensures) in
    let left : min c.from_nanos.result.nanos 999999999 ≡ c.args.nanos % 1000000000 = omega (arith, c.from_nanos.ensures) in
    c.as_secs_f64.ensures ∙ ap₂ (λ (s m : ℕ). whole s ⊕ whole m ⊘ whole 1000000000) secs left
