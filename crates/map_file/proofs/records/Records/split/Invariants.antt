use Rattle.std.proofs.Common.{◌≡◌, ◌-◌}
use Rattle.map_file.specs.Form.{times, record_from}
use Rattle.map_file.proofs.Steps.{behind}
use Rattle.map_file.proofs.records.Records.split.Given as goal

-- the records that are left end where all of them do
abbrev pub invariant-loop : goal.invariant-loop
invariant-loop l = behind (times l.left record_from l.first.bytes.now) ≡ behind (times (l.left - l.counter) record_from l.rest.bytes.now)
