use Rattle.console.proofs.why.put_time.Goals as goal

pub returns-in-Ok-Static : goal.returns-in-Ok-Static
returns-in-Ok-Static c = rw (c.in-Ok-Static.is, rw c.in-Ok-Static.is at c.in-Ok-Static.field-0-is) c.write_bytes.ensures
