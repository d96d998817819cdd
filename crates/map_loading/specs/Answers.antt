-- The number and the data of each refusal of a load.
use Rattle.std.specs.Prelude.{ℕ}
use Rattle.time.specs.Reply.{Carried, nothing}
use Rattle.registry.specs.Answers.{refusal_of as call_refusal_of}
use Rattle.map_loading.specs.declared.error.LoadError.{LoadError}
use Rattle.map_loading.specs.declared.error.LoadError.TheVariants as error

-- a record's refusal is that of its addition
abbrev pub refusal_of : LoadError → ℕ × Carried
refusal_of (error.Store e) = call_refusal_of e
refusal_of error.StoreInUse = (19, nothing)
refusal_of error.MapForm = (18, nothing)
refusal_of (error.Record n e) = call_refusal_of e
