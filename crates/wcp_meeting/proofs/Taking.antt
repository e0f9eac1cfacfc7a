-- What an attendance tells of one step more.
use Rattle.std.proofs.Common.{◌≡◌, ◌∙◌, List, [], ◌∷◌, ◌++◌, sym, ap, Option, Some, None, refl}
use Rattle.std.proofs.lemmas.Option.{none-some}
use Rattle.std.specs.Prelude.{IfSome, IfNone, if◌then◌else◌}
use Rattle.std.specs.FinSet as set
use Rattle.wcp_meeting.specs.declared.attendance.Attendance.{Attendance}
use Rattle.wcp_meeting.specs.declared.present.Present.{Present}
use Rattle.wcp_meeting.specs.declared.step.MeetingStep.{MeetingStep}
use Rattle.wcp_meeting.specs.Attendance.{StandsFor}
use Rattle.wcp_meeting.specs.Steps.{Processes, all_here, behind, here_after, nobody, with_arrival}
use Rattle.wcp_meeting.proofs.Steps.{came-more, here-more, met-next, met-stays}

-- What a step does to it.
pub record Takes (step : MeetingStep) (old new : Attendance) : Type 0 where
  pub members : new.members ≡ old.members
  pub came : new.came ≡ with_arrival old.came step
  pub stays : IfSome old.met (λ _. new.met ≡ old.met)
  pub here : IfNone old.met (new.here ≡ behind old.here step)
  pub met : IfNone old.met (new.met ≡ (if all_here old.members new.here then Some new.here else None))

pub stands-next : (members : Processes) (steps : List MeetingStep) (step : MeetingStep) (old new : Attendance)
    → StandsFor members steps old → Takes step old new → StandsFor members (steps ++ step ∷ []) new
stands-next members steps step old new stands takes = by old.met refl takes.stays takes.here takes.met
  where
    by : (met : Option (List (Option Present))) → old.met ≡ met → IfSome met (λ _. new.met ≡ old.met)
        → IfNone met (new.here ≡ behind old.here step)
        → IfNone met (new.met ≡ (if all_here old.members new.here then Some new.here else None))
        → StandsFor members (steps ++ step ∷ []) new
    by (Some present) is stays here met = record {
      of = takes.members ∙ stands.of;
      met = stays ∙ is ∙ sym (met-stays members nobody steps step present (sym stands.met ∙ is));
      here = λ none. absurd (none-some present (sym none ∙ stays ∙ is));
      came = takes.came ∙ ap (λ (set : Processes). with_arrival set step) stands.came
          ∙ sym (came-more set.empty steps step);
    }
    by None is stays here met =
        let now : new.here ≡ here_after nobody (steps ++ step ∷ []) =
        here ∙ ap (λ (list : List (Option Present)). behind list step) (stands.here is)
        ∙ sym (here-more nobody steps step) in
        record {
          of = takes.members ∙ stands.of;
          met = met ∙ ap (λ (all : Processes). if all_here all new.here then Some new.here else None) stands.of
              ∙ ap (λ (list : List (Option Present)). if all_here members list then Some list else None) now
              ∙ sym (met-next members nobody steps step (sym stands.met ∙ is));
          here = λ none. now;
          came = takes.came ∙ ap (λ (set : Processes). with_arrival set step) stands.came
              ∙ sym (came-more set.empty steps step);
        }
