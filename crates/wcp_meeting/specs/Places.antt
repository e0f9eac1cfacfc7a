-- Where a member of a meeting waits for the others.
use Rattle.std.specs.Prelude.{◌==◌, Bool, true}
use Rattle.wcp_meeting.specs.declared.place.MeetingPlace.{MeetingPlace}
use Rattle.wcp_meeting.specs.declared.place.MeetingPlace.TheVariants.{Anywhere, Interval, Label}
use Rattle.wcp_meeting.specs.declared.present.Present.{Present}

-- Anywhere, in its interval alone, or at its label alone.
abbrev pub waits_at : MeetingPlace → Present → Bool
waits_at Anywhere present = true
waits_at (Interval interval) present = interval == present.interval
waits_at (Label label) present = label == present.label
