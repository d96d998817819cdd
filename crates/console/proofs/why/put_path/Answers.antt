use Rattle.text.proofs.Behind.{writes_behind}
use Rattle.console.proofs.Path.{path_by}
use Rattle.console.proofs.why.put_path.Goals as goal

pub returns : goal.returns
returns c =
    rw (← path_by _ _ _ _ _ _ _ _ c.climb_ends-ends.ensures.0 c.climb_ends-ends.ensures.1 c.latest_common_time.ensures c.requires)
    (writes_behind c.put_side.ensures (writes_behind c.put_side-2.ensures (writes_behind c.put_meeting.ensures (writes_behind c.put_common.ensures c.put_lookup.ensures))))
