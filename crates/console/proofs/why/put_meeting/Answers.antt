use Rattle.std.proofs.Common.{eq-eqb, ne_eqb}
use Rattle.console.specs.Why.{meeting_texts}
use Rattle.console.proofs.Turns.{in_turn}
use Rattle.console.proofs.why.put_meeting.Goals as goal

pub returns-then-target_end-source_end : goal.returns-then-target_end-source_end
unfolding meeting_texts
returns-then-target_end-source_end c = rw (eq-eqb _ _ c.if-target_end-source_end.true) (search in_turn depth 20)

pub returns-else-target_end-source_end : goal.returns-else-target_end-source_end
unfolding meeting_texts
returns-else-target_end-source_end c = rw (ne_eqb _ _ c.if-target_end-source_end.false) (search in_turn depth 20)
