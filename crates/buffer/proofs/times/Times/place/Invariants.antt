use Rattle.std.proofs.Common.{ℕ, ◌-◌, ◌≤◌, ◌<◌, get_or}
use Rattle.buffer.proofs.times.Times.place.Given as goal

-- every instant before low is below t, and none from high on
abbrev pub invariant-loop-low : goal.invariant-loop-low
invariant-loop-low l = (l.low ≤ l.high) × (l.high ≤ l.self.count) × ((k : ℕ) → k < l.low → get_or l.instants k 0 < l.t) × ((k : ℕ) → l.high ≤ k → k < l.self.count → l.t ≤ get_or l.instants k 0)

abbrev pub decreases-loop-low : goal.decreases-loop-low
decreases-loop-low l = l.high - l.low
