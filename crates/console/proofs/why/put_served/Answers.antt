use Rattle.console.proofs.why.put_served.Goals as goal

pub returns-else-served : goal.returns-else-served
returns-else-served c = rw c.if-served.false c.write_bytes-else-served.ensures
