use Rattle.std.specs.Prelude.{◌≡◌, ◌==◌, ℕ, Bool, false, not, Option, Some, None, is_some, List, [], ◌∷◌, ◌++◌}
use Rattle.std.specs.Prelude.{slice_get, slice_set}
use Rattle.std.specs.Option.{option_and_then, option_map_or}
use Rattle.wcp_model.specs.declared.step.Why.TheVariants.{NoSuch, Closed, Backlog, Gone, ClockEnd}
use Rattle.wcp_probe.specs.declared.probe.Refusal.{Refusal}
use Rattle.wcp_probe.specs.declared.probe.Refusal.TheVariants as refusal
use Rattle.wcp_model.specs.declared.step.Why.{Why}
use Rattle.wcp_model.specs.ProbeLog.{Sent, Received}
use Rattle.wcp_probe.specs.Core.{Core, Accepts, IsSameProbe}
use Rattle.wcp_probe.specs.Seal.{seal_of}
use Rattle.wcp_probe.specs.Refusals.{receive_refusal}
use Rattle.wcp_probe.specs.declared.stamp.Stamped.{Stamped}
use Rattle.wcp_world.specs.declared.messages.Letter.{Letter}

-- What a step is answered whose event a probe refuses for this reason; no letter is strange, or of another process,
-- or ahead, so these come to no answer.
abbrev pub why_of : Refusal → Why
why_of refusal.NoSuch = NoSuch
why_of refusal.Closed = Closed
why_of refusal.Backlog = Backlog
why_of refusal.Stranger = ClockEnd
why_of refusal.NotMine = ClockEnd
why_of refusal.Ahead = ClockEnd
why_of refusal.ClockEnd = ClockEnd

-- A probe sent a message to a process: the letter at the end carries its stamp.
pub record IsPosted (old new : Core) (to : ℕ) (letters more : List Letter) : Type 0 where
  pub accepted : Accepts old Sent new
  pub same : IsSameProbe old new
  pub pending : new.pending ≡ old.pending
  pub message : Stamped (Unit {0})
  pub watch : (seal_of message).watch ≡ old.watch
  pub addressed : (seal_of message).to ≡ to
  pub clock : (seal_of message).clock ≡ new.clock
  pub letters_are : more ≡ letters ++ record { to = to; message = Some message } ∷ []

-- The letter of a number is addressed to a process; its message is there until it is taken.
abbrev pub is_addressed : List Letter → ℕ → ℕ → Bool
is_addressed letters number p = option_map_or (λ letter. letter.to == p) (slice_get letters number) false

abbrev pub message_of : List Letter → ℕ → Option (Stamped (Unit {0}))
message_of letters number = option_and_then (λ letter. letter.message) (slice_get letters number)

-- Why the probe of process p may refuse the message of a letter.
abbrev pub delivery_reasons : Core → List Letter → ℕ → ℕ → List (Bool × Why)
delivery_reasons core letters p number =
    (not (is_addressed letters number p), NoSuch) ∷ (core.closed, Closed) ∷ (is_some core.pending, Backlog)
    ∷ (not (is_some (message_of letters number)), Gone)
    ∷ (option_map_or (λ m. is_some (receive_refusal core (seal_of m))) (message_of letters number) false, ClockEnd)
    ∷ []

-- A probe received the message of a letter, which has it no more.
pub record IsDelivered (old new : Core) (letters fewer : List Letter) (number : ℕ) : Type 0 where
  pub letter : Letter
  pub at : slice_get letters number ≡ Some letter
  pub message : Stamped (Unit {0})
  pub was : letter.message ≡ Some message
  pub accepted : Accepts old (Received (seal_of message).clock) new
  pub same : IsSameProbe old new
  pub pending : new.pending ≡ old.pending
  pub emptied : fewer ≡ slice_set letters number (record { to = letter.to; message = None })
