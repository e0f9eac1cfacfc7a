use Rattle.std.proofs.Common.{◌≡◌, drop}
use Rattle.wcp_meeting.specs.Steps.{all_here, all_here_from}
use Rattle.wcp_meeting.proofs.attendance.are_all_here.Given as goal

abbrev pub invariant-loop-process : goal.invariant-loop-process
invariant-loop-process l = all_here_from l.process l.members (drop l.process l.here) ≡ all_here l.members l.here
