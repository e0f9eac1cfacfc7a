use Rattle.std.proofs.Common.{◌≡◌, drop}
use Rattle.json.specs.Tree.{MembersHaveNumbers}
use Rattle.json.specs.Value.{members_view}
use Rattle.trace_log.specs.Fields.{members_from}
use Rattle.wullaphi_record.specs.Logs.{fields_of}
use Rattle.wullaphi_record.proofs.ClockMembers.{joined}
use Rattle.wullaphi_record.proofs.log.clock_value.Given as goal

abbrev pub invariant-loop-place : goal.invariant-loop-place
invariant-loop-place l = record {
  members : joined (members_view l.members.items)
      (members_from (fields_of (drop l.place l.records) (drop l.place l.numbers)))
      ≡ members_from (fields_of l.records l.numbers);
  numbers : MembersHaveNumbers (members_view l.members.items);
}
