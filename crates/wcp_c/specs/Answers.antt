use Rattle.std.specs.Prelude.{◌≡◌, ℕ, ◌≤◌, Option, MatchOption}
use Rattle.wcp_probe.specs.declared.probe.Refusal.{Refusal}
use Rattle.wcp_probe.specs.declared.probe.Refusal.TheVariants.{NoSuch, Closed, Backlog, Stranger, NotMine, Ahead}
use Rattle.wcp_probe.specs.declared.probe.Refusal.TheVariants.{ClockEnd}

-- What a call answers: it is done; it is done, and a note is to be sent to the checker; or a refusal's number.
abbrev pub done : ℕ
done = 0

abbrev pub done_with_note : ℕ
done_with_note = 1

-- A report: a cut was found; there is none; or neither is known yet.
abbrev pub found : ℕ
found = 2

abbrev pub nothing : ℕ
nothing = 3

abbrev pub undecided : ℕ
undecided = 4

-- What was passed is no probe, no stamp, no note, no checker; or it names no process or no flag.
abbrev pub no_probe : ℕ
no_probe = 16

abbrev pub no_stamp : ℕ
no_stamp = 17

abbrev pub no_note : ℕ
no_note = 18

abbrev pub no_checker : ℕ
no_checker = 19

abbrev pub out_of_range : ℕ
out_of_range = 20

-- The handle holds a checker already; there is no memory; the process is in no cut that was found.
abbrev pub in_use : ℕ
in_use = 21

abbrev pub no_memory : ℕ
no_memory = 22

abbrev pub not_in_cut : ℕ
not_in_cut = 23

-- There is no room for the text.
abbrev pub no_room : ℕ
no_room = 24

-- The bytes are those of no checker.
abbrev pub no_saved : ℕ
no_saved = 25

-- Why a checker refuses a note.
abbrev pub other_watch : ℕ
other_watch = 48

abbrev pub ended : ℕ
ended = 49

abbrev pub out_of_turn : ℕ
out_of_turn = 50

abbrev pub not_agreed : ℕ
not_agreed = 51

abbrev pub taken_already : ℕ
taken_already = 52

-- A stamp or a note is of another watch.
abbrev pub stranger : ℕ
stranger = 35

-- The number of a probe's refusal.
abbrev pub refusal_number : Refusal → ℕ
refusal_number NoSuch = 32
refusal_number Closed = 33
refusal_number Backlog = 34
refusal_number Stranger = stranger
refusal_number NotMine = 36
refusal_number Ahead = 37
refusal_number ClockEnd = 38

-- The call was accepted.
abbrev pub IsAccepted : ℕ → Type 0
IsAccepted answer = answer ≤ done_with_note

-- The answer is the number of this refusal, or that of an accepted call where there is none.
abbrev pub IsAnswer : Option Refusal → ℕ → Type 0
IsAnswer refusal answer = MatchOption refusal (IsAccepted answer) (λ why. answer ≡ refusal_number why)
