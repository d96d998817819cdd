use Rattle.registry.proofs.soundness.Doubling.{up_found}
use Rattle.registry.proofs.rows.Rows.parent_row.Goals as goal

pub returns : goal.returns
returns c = let a = c.args in
    rw (c.unwrap_or.ensures, c.used.ensures) (up_found a.self.now.head.now a.self.now.rising a.r c.requires c.find_row.result (rw (← c.parent.ensures) c.find_row.ensures))
