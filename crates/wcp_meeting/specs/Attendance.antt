-- What an attendance tells of the steps that it took.
use Rattle.std.specs.Prelude.{◌≡◌, List, None}
use Rattle.std.specs.FinSet as set
use Rattle.wcp_meeting.specs.declared.attendance.Attendance.{Attendance}
use Rattle.wcp_meeting.specs.declared.step.MeetingStep.{MeetingStep}
use Rattle.wcp_meeting.specs.Steps.{Processes, came_after, first_meeting, here_after, nobody}

-- It is of these members, and tells the first point at which all of them were there, who is there as long as there is
-- no such point, and who came.
pub record StandsFor (members : Processes) (steps : List MeetingStep) (attendance : Attendance) : Type 0 where
  pub of : attendance.members ≡ members
  pub met : attendance.met ≡ first_meeting members nobody steps
  pub here : attendance.met ≡ None → attendance.here ≡ here_after nobody steps
  pub came : attendance.came ≡ came_after set.empty steps
