use Rattle.std.proofs.Common.{◌≡◌, ◌^◌, ◌<◌, drop}
use Rattle.text.specs.Digits.{number_from}
use Rattle.text.proofs.read.digits.Given as goal

-- the word's number is what the digits that are left make of the value
abbrev pub invariant-loop-b : goal.invariant-loop-b
invariant-loop-b l = (number_from l.base l.number l.word ≡ number_from l.base l.value (drop l.b-index l.word)) × (l.value < 2 ^ 64)
