-- One step more of a meeting.
use Rattle.std.proofs.Common.{◌≡◌, ℕ, ◌+◌, ◌<◌, Bool, true, false, List, [], ◌∷◌, ◌++◌, length, drop, get_or, refl, sym, ap}
use Rattle.std.proofs.Common.{Option, Some, None}
use Rattle.std.proofs.lemmas.List.{drop_more}
use Rattle.std.proofs.lemmas.Option.{none-some}
use Rattle.std.specs.Prelude.{◌&&◌, ◌||◌, not, is_some, if◌then◌else◌}
use Rattle.std.specs.FinSet as set
use Rattle.wcp_meeting.specs.declared.present.Present.{Present}
use Rattle.wcp_meeting.specs.declared.step.MeetingStep.{MeetingStep}
use Rattle.wcp_meeting.specs.Steps.{Processes, all_here, all_here_from, behind, came_after, first_meeting, here_after}
use Rattle.wcp_meeting.specs.Steps.{with_arrival}

pub all-more : (members : Processes) (here : List (Option Present)) (p : ℕ) (one : Option Present) → p < length here
    → all_here_from p members (drop p here) ≡ ((not (set.contains members p) || is_some (get_or here p one))
    && all_here_from (p + 1) members (drop (p + 1) here))
all-more members here p one within = ap (all_here_from p members) (drop_more here p one within)

-- Who isn't missing is no member, or there.
pub not-missing : (member there : Bool) → (member && not there) ≡ false → (not member || there) ≡ true
not-missing true true none = refl
not-missing true false none = absurd (cc)
not-missing false there none = refl

pub missing : (member there : Bool) → (member && not there) ≡ true → (not member || there) ≡ false
missing true true is = absurd (cc)
missing true false is = refl
missing false there is = absurd (cc)

pub here-more : (here : List (Option Present)) (steps : List MeetingStep) (step : MeetingStep)
    → here_after here (steps ++ step ∷ []) ≡ behind (here_after here steps) step
here-more here [] step = refl
here-more here (first ∷ steps) step = here-more (behind here first) steps step

pub came-more : (came : Processes) (steps : List MeetingStep) (step : MeetingStep)
    → came_after came (steps ++ step ∷ []) ≡ with_arrival (came_after came steps) step
came-more came [] step = refl
came-more came (first ∷ steps) step = came-more (with_arrival came first) steps step

-- What was met stays so.
pub met-stays : (members : Processes) (here : List (Option Present)) (steps : List MeetingStep) (step : MeetingStep)
    (present : List (Option Present)) → first_meeting members here steps ≡ Some present
    → first_meeting members here (steps ++ step ∷ []) ≡ Some present
met-stays members here [] step present is = by (all_here members here) is
  where
    by : (all : Bool) → (if all then Some here else None) ≡ Some present
        → (if all then Some here else first_meeting members (behind here step) []) ≡ Some present
    by true is = is
    by false is = absurd (none-some present is)
met-stays members here (first ∷ steps) step present is =
    by (all_here members here) is (met-stays members (behind here first) steps step present)
  where
    by : (all : Bool) → (if all then Some here else first_meeting members (behind here first) steps) ≡ Some present
        → (first_meeting members (behind here first) steps ≡ Some present
        → first_meeting members (behind here first) (steps ++ step ∷ []) ≡ Some present)
        → (if all then Some here else first_meeting members (behind here first) (steps ++ step ∷ [])) ≡ Some present
    by true is later = is
    by false is later = later is

-- Where they haven't met before, they meet now if all are there.
pub met-next : (members : Processes) (here : List (Option Present)) (steps : List MeetingStep) (step : MeetingStep)
    → first_meeting members here steps ≡ None → first_meeting members here (steps ++ step ∷ [])
    ≡ (if all_here members (here_after here (steps ++ step ∷ [])) then Some (here_after here (steps ++ step ∷ [])) else None)
met-next members here [] step none = by (all_here members here) none
  where
    by : (all : Bool) → (if all then Some here else None) ≡ None
        → (if all then Some here else first_meeting members (behind here step) [])
        ≡ (if all_here members (behind here step) then Some (behind here step) else None)
    by true is = absurd (none-some here (sym is))
    by false is = refl
met-next members here (first ∷ steps) step none =
    by (all_here members here) none (met-next members (behind here first) steps step)
  where
    by : (all : Bool) → (if all then Some here else first_meeting members (behind here first) steps) ≡ None
        → (first_meeting members (behind here first) steps ≡ None
        → first_meeting members (behind here first) (steps ++ step ∷ [])
        ≡ (if all_here members (here_after (behind here first) (steps ++ step ∷ []))
        then Some (here_after (behind here first) (steps ++ step ∷ [])) else None))
        → (if all then Some here else first_meeting members (behind here first) (steps ++ step ∷ []))
        ≡ (if all_here members (here_after (behind here first) (steps ++ step ∷ []))
        then Some (here_after (behind here first) (steps ++ step ∷ [])) else None)
    by true is later = absurd (none-some here (sym is))
    by false is later = later is
