-- What processes do at a meeting, and when all members are there.
use Rattle.std.specs.Prelude.{ℕ, ◌+◌, ◌&&◌, ◌||◌, Bool, true, not, is_some, List, [], ◌∷◌, replicate, slice_set}
use Rattle.std.specs.Prelude.{Option, Some, None, if◌then◌else◌}
use Rattle.std.specs.FinSet as set
use Rattle.std.specs.Ordering.{nat_cmp}
use Rattle.wcp_clock.specs.Limits.{most_processes}
use Rattle.wcp_meeting.specs.declared.present.Present.{Present}
use Rattle.wcp_meeting.specs.declared.step.MeetingStep.{MeetingStep}
use Rattle.wcp_meeting.specs.declared.step.MeetingStep.TheVariants.{Arrive, Leave}

-- Sets of processes.
abbrev pub Processes : Type 0
Processes = set.FinSet nat_cmp

-- Whose step it is.
abbrev pub process_of : MeetingStep → ℕ
process_of (Arrive process present) = process
process_of (Leave process) = process

-- Where each process is that is there, in which interval and at which label.
abbrev pub nobody : List (Option Present)
nobody = replicate most_processes None

abbrev pub behind : List (Option Present) → MeetingStep → List (Option Present)
behind here (Arrive process present) = slice_set here process (Some present)
behind here (Leave process) = slice_set here process None

abbrev pub here_after : List (Option Present) → List MeetingStep → List (Option Present)
here_after here [] = here
here_after here (step ∷ steps) = here_after (behind here step) steps

-- Each member is there, of those from a number on.
abbrev pub all_here_from : ℕ → Processes → List (Option Present) → Bool
all_here_from p members [] = true
all_here_from p members (one ∷ others) =
    (not (set.contains members p) || is_some one) && all_here_from (p + 1) members others

abbrev pub all_here : Processes → List (Option Present) → Bool
all_here members here = all_here_from 0 members here

-- All members were there where they have met.
abbrev pub are_all_in : Processes → Option (List (Option Present)) → Bool
are_all_in members (Some there) = all_here members there
are_all_in members None = true

-- The first point at which all members are there, along these steps.
abbrev pub first_meeting : Processes → List (Option Present) → List MeetingStep → Option (List (Option Present))
first_meeting members here [] = if all_here members here then Some here else None
first_meeting members here (step ∷ steps) =
    if all_here members here then Some here else first_meeting members (behind here step) steps

-- Who arrives along these steps.
abbrev pub with_arrival : Processes → MeetingStep → Processes
with_arrival came (Arrive process present) = set.insert came process
with_arrival came (Leave process) = came

abbrev pub came_after : Processes → List MeetingStep → Processes
came_after came [] = came
came_after came (step ∷ steps) = came_after (with_arrival came step) steps
