-- What holds of the share.
use Rattle.std.specs.Prelude.{ℕ, ◌^◌, ◌≤◌, ◌<◌, ◌≡◌, true, Float}
use Rattle.std.specs.Prelude.{Some}
use Rattle.std.specs.Float.Ieee.{le}
use Rattle.time.specs.Float.{zero64, one64}
use Rattle.time.specs.Reply.{answer}
use Rattle.time.specs.Timestamp.{share}

-- "When from < to and from <= query <= to, the share computed from them never leaves 0 to 1." Proved in proofs/ShareWithin.antt.
abbrev pub ShareWithin : Type 0
ShareWithin = (from to query : ℕ) → from < to → from ≤ query → query ≤ to → to < 2 ^ 64
    → (r : Float) × (share from to query ≡ answer (Some r)) × (le zero64 r ≡ true) × (le r one64 ≡ true)
