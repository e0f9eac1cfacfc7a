use Rattle.wcp_model.specs.FirstReason.{first_reason}
use Rattle.std.specs.Prelude.{◌≡◌, Bool, List, MatchOption}
use Rattle.wcp_model.specs.declared.step.Reply.{Reply}
use Rattle.wcp_model.specs.declared.step.Reply.TheVariants.{Done, Refused}
use Rattle.wcp_model.specs.declared.step.Why.{Why}

-- The answer is the first reason that holds, else that the step was done.
abbrev pub IsAnswer : List (Bool × Why) → Reply → Type 0
IsAnswer reasons answer = MatchOption (first_reason reasons) (answer ≡ Done) (λ why. answer ≡ Refused why)

-- A step that is refused changes nothing.
abbrev pub KeepsIfRefused : {S : Type 0} → S → Reply → S → Type 0
KeepsIfRefused old answer new = (why : Why) → answer ≡ Refused why → new ≡ old
