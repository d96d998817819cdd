-- The walks up from two frames, as the contracts of the private functions cite them. No public contract rests on these.
use Rattle.std.specs.Prelude.{ℕ, cond, List, eqb, length}
use Rattle.std.specs.Prelude.{Option, None, Some, Result, Ok, Err}
use Rattle.time.specs.Reply.{Reply}
use Rattle.registry.specs.declared.error.RegistryError.{RegistryError}
use Rattle.registry.specs.declared.error.RegistryError.TheVariants.{UnknownFrame}
use Rattle.registry.specs.Tree.{Tree, ancestors, member}
use Rattle.registry.specs.Answers.{Value}
use Rattle.registry.specs.Path.{Hop, chain, until, side, connected, hops, known}

-- the hops from f up to the frame top, or to the root where top is not above f
abbrev pub hops_to : Tree → ℕ → ℕ → List Hop
hops_to t f top = hops t (until (eqb top) (chain t f))

-- how many steps the climb from f takes to its root, which passes every frame above f; none where the goal is one of these
abbrev pub steps_to_root : Tree → ℕ → ℕ → Option ℕ
steps_to_root t f goal = cond (member goal (ancestors t f)) None (Some (length (ancestors t f)))

-- ---- what the private functions answer

-- whether both frames are known, or the first that is not, of which the target comes first
abbrev pub known_frames : Tree → ℕ → ℕ → Result (Unit {0}) RegistryError
known_frames t target source = cond (known t target) (cond (known t source) (Ok tt) (Err (UnknownFrame source))) (Err (UnknownFrame target))

-- what is asked of two frames that are known and differ: the rest of `ask`
abbrev pub ask_known : Tree → ℕ → ℕ → (List Hop → List Hop → Reply Value) → (List Hop → List Hop → Reply Value) → Reply Value
ask_known t target source along apart =
    cond (connected t target source)
    (along (hops t (side t target source)) (hops t (side t source target)))
    (apart (hops t (chain t target)) (hops t (chain t source)))
