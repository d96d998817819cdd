use Rattle.console.proofs.dot.put_style.Goals as goal

pub returns-in-AllTime : goal.returns-in-AllTime
returns-in-AllTime c = rw c.in-AllTime.is c.write_bytes.ensures
