-- Latest common time is refused with the first number of its order that is due.
use Prim.Native.Nat.{ℕ}
use mathlib.Core.Path.{◌≡◌, refl}
use mathlib.Core.List.{◌++◌}
use Rattle.time.specs.Reply.{refusal, nothing, ◌then◌}
use Rattle.time.specs.Order.{first_due, refused}
use Rattle.buffer.proofs.Cases.{both}
use Rattle.registry.specs.Tree.{Tree}
use Rattle.registry.specs.Store.{tree_of}
use Rattle.registry.specs.Answers.{static}
use Rattle.registry.specs.Path.{connected, known, ask, spans, meet, common_time}
use Rattle.registry.specs.PathLaws.{path, TwoKnown}
use Rattle.registry.specs.Calls.{common_time_of}
use Rattle.registry.specs.Order.{common_time_order, common_time_due, CommonTimeFirstDue}
use Rattle.registry.proofs.paths.Paths.{ask_apart}
use Rattle.registry.proofs.common_time.CommonTimes.{common_time_lem}
use Rattle.registry.proofs.orders.Lent.{lent_due_lem}
use Rattle.registry.proofs.orders.NoCommonTime.{path_due}

common_time_due_lem : (t : Tree) (f g : ℕ) → refused (common_time t f g) ≡ first_due (common_time_due t f g) common_time_order
unfolding common_time ask path common_time_due
common_time_due_lem t f g =
    both (known t f)
    (λ p.
    both (known t g)
    (λ q.
    let k : TwoKnown t f g = record { target = p; source = q } in
    both (connected t f g)
    (λ m. rw (common_time_lem t f g k m, p, q, m) (path_due (path t f g)))
    (λ m. rw (ask_apart static (λ a b. spans (a ++ b) then meet) (λ a b. refusal 10 nothing) t f g k m, p, q, m)))
    (λ q. rw (p, q)))
    (λ p. rw p)

pub common_time_first_due : CommonTimeFirstDue
unfolding common_time_of
common_time_first_due s target source =
    lent_due_lem s (λ L t. common_time t target source) (common_time_due (tree_of s) target source) common_time_order refl
    (λ ok. common_time_due_lem (tree_of s) target source)
