-- Instants and their differences: nanoseconds in 64 unsigned bits.
use Rattle.std.specs.Prelude.{ℕ, ◌-◌, ◌/◌, ◌%◌, cond, ltb, eqb, Float}
use Rattle.std.specs.Prelude.{Option, None, Some}
use Rattle.time.specs.Float.{◌⊕◌, ◌⊘◌, whole}
use Rattle.time.specs.Reply.{Reply, answer, nothing, ◌then◌, refuse}

-- the time from an earlier instant to a later one; a difference below zero is refusal 15
abbrev pub duration_since : ℕ → ℕ → Reply ℕ
duration_since later earlier = refuse (ltb later earlier) 15 nothing (answer (later - earlier))

-- the seconds of a difference: whole seconds plus (nanoseconds left)/1e9
unfoldable pub as_secs_f64 : ℕ → Float
as_secs_f64 nanos = whole (nanos / 1000000000) ⊕ whole (nanos % 1000000000) ⊘ whole 1000000000

-- The share of a query in the interval of two instants, none where both ends are one instant. Refusal 15: the end, else the query, is before the start.
unfoldable pub share : ℕ → ℕ → ℕ → Reply (Option Float)
share from to query =
    duration_since to from then λ span.
    cond (eqb span 0) (answer None)
    (duration_since query from then λ elapsed.
    answer (Some (as_secs_f64 elapsed ⊘ as_secs_f64 span)))
