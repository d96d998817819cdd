use Rattle.std.proofs.Common.{◌≡◌}
use Rattle.text.specs.Digits.{digits}
use Rattle.console.specs.Figures.{without_zeros}
use Rattle.console.proofs.figures.without_zeros.Given as goal

-- The digits that are left are those of the number, less zeros that were dropped.
abbrev pub invariant-loop-left : goal.invariant-loop-left
invariant-loop-left l = without_zeros (digits 10 l.count l.number) ≡ without_zeros (digits 10 l.left l.rest)
