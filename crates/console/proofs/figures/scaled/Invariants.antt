use Rattle.std.proofs.Common.{◌≡◌, ◌-◌, Bool}
use lib.Ieee.{Float}
use Rattle.console.specs.Steps.{Computes, stepped}
use Rattle.console.proofs.figures.scaled.Given as goal

-- the steps that are left lead to where all of them lead
abbrev pub invariant-loop-power : goal.invariant-loop-power
invariant-loop-power g l = (h : Float → Bool) (f : Float → Float) → Computes (goal.N-post g l.near) h → Computes (goal.S-post g l.step) f
    → stepped h f 400 l.x 0 ≡ stepped h f (400 - l.power) l.number l.power
