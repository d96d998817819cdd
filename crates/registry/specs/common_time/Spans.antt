-- Latest common time, hop by hop, as the contracts of the private functions cite it. No public contract rests on these.
use Rattle.std.specs.Prelude.{ℕ, min, cond, List, [], ◌∷◌, ltb}
use Rattle.std.specs.Prelude.{Option, None, Some, option_map, Result}
use Rattle.time.specs.Reply.{Reply, answer, refusal, hop, refuse, reply_by, ◌then◌}
use Rattle.buffer.specs.declared.coverage.Coverage.{Coverage}
use Rattle.buffer.specs.declared.coverage.Coverage.TheVariants.{AllTime, Range, Empty}
use Rattle.buffer.specs.Samples.{coverage}
use Rattle.registry.specs.declared.common_time.common.Span.{Span as SpanRead}
use Rattle.registry.specs.declared.common_time.common.Until.{Until}
use Rattle.registry.specs.declared.error.RegistryError.{RegistryError}
use Rattle.registry.specs.Answers.{Value, static, at}
use Rattle.registry.specs.Path.{Hop, Span}
use Rattle.registry.specs.Answers.{refusal_of}

-- of the hops so far: nothing where none moves, else the earliest end and the first span with the latest start
abbrev pub CommonSpan : Type 0
CommonSpan = Option (ℕ × Span)

-- one moving hop more
abbrev pub narrow : CommonSpan → Span → CommonSpan
narrow None x = Some (x.end, x)
narrow (Some c) x = Some (min c.0 x.end, cond (ltb c.1.start x.start) x c.1)

-- one hop more; 12 for an empty one
abbrev pub narrow_by : CommonSpan → ℕ → Coverage → Reply CommonSpan
narrow_by c child AllTime = answer c
narrow_by c child (Range start end) = answer (narrow c (record { child = child; start = start; end = end }))
narrow_by c child Empty = refusal 12 (hop child None)

abbrev pub narrowed : CommonSpan → List Hop → Reply CommonSpan
narrowed c [] = answer c
narrowed c (h ∷ hs) = narrow_by c h.0 (coverage h.1.kind h.1.samples) then λ d. narrowed d hs

-- what the hops then agree on
abbrev pub agreed : CommonSpan → Reply Value
agreed None = answer static
agreed (Some c) = refuse (ltb c.0 c.1.start) 12 (hop c.1.child (Some (c.1.start, c.1.end))) (answer (at c.0))

abbrev pub span_of : SpanRead → Span
span_of x = record { child = x.child; start = x.start; end = x.end }

abbrev pub common_of : Option Until → CommonSpan
common_of common = option_map (λ u. (u.end, span_of u.late)) common

abbrev pub narrowed_reply : Result (Option Until) RegistryError → Reply CommonSpan
narrowed_reply r = reply_by refusal_of r then λ c. answer (common_of c)
