-- Why there is no answer.
use Rattle.std.proofs.Common.{◌≡◌, ◌⊎◌, ℕ, Result, Ok, Err, IsErr, inl, inr, refl, sym, true≢false}
use Rattle.wcp_io.specs.Input.{Known}
use Rattle.wcp_io.specs.declared.io_fault.IoFault.TheVariants as io
use Rattle.draw_cli.specs.Answers.{IsWhyNoAnswer, IsWhyNoPicture, IsWhyRefused, seen_list}
use Rattle.draw_cli.specs.declared.fault.DrawFault.{DrawFault}
use Rattle.draw_cli.specs.declared.fault.DrawFault.TheVariants as fault
use Rattle.draw_cli.specs.declared.words.DrawRequest.{DrawRequest}
use Rattle.draw_cli.specs.declared.words.DrawRequest.TheVariants.{Picture, Help, Version, Unknown}
use Rattle.draw_cli.specs.Edge.{closed_pipe, refused, status_after, status_of_fault}

pub status_of_either : (given : DrawFault) → (status_of_fault given ≡ refused) ⊎ (status_of_fault given ≡ closed_pipe)
status_of_either (fault.Io io.Closed) = inr refl
status_of_either (fault.Io io.Read) = inl refl
status_of_either (fault.Io io.TooLarge) = inl refl
status_of_either (fault.Io io.Write) = inl refl
status_of_either (fault.Io io.Memory) = inl refl
status_of_either (fault.Usage why) = inl refl
status_of_either (fault.File given) = inl refl
status_of_either (fault.Sketch given) = inl refl

pub status_after_err : (r : Result ℕ DrawFault) → IsErr r → (status_after r ≡ refused) ⊎ (status_after r ≡ closed_pipe)
status_after_err (Ok status) bad = absurd (true≢false (sym bad))
status_after_err (Err given) is = status_of_either given

-- Why there is no picture isn't that nobody reads the output any more.
no_picture_refused : (list : _) (bytes bytes_after : Known) (given : DrawFault)
    → IsWhyNoPicture list bytes bytes_after given → status_of_fault given ≡ refused
no_picture_refused list bytes bytes_after (fault.Io io.Closed) why = absurd why
no_picture_refused list bytes bytes_after (fault.Io io.Read) why = refl
no_picture_refused list bytes bytes_after (fault.Io io.TooLarge) why = refl
no_picture_refused list bytes bytes_after (fault.Io io.Write) why = refl
no_picture_refused list bytes bytes_after (fault.Io io.Memory) why = refl
no_picture_refused list bytes bytes_after (fault.Usage text) why = refl
no_picture_refused list bytes bytes_after (fault.File file) why = refl
no_picture_refused list bytes bytes_after (fault.Sketch sketch) why = refl

-- Nor is why a request has no answer.
pub no_answer_refused : (request : DrawRequest) (bytes bytes_after : Known) (given : DrawFault)
    → IsWhyNoAnswer request bytes bytes_after given → status_of_fault given ≡ refused
no_answer_refused (Picture picture) bytes bytes_after given why =
    no_picture_refused (seen_list picture.names) bytes bytes_after given why
no_answer_refused (Help text) bytes bytes_after given why = absurd why
no_answer_refused Version bytes bytes_after given why = rw why refl
no_answer_refused (Unknown text) bytes bytes_after given why = rw why refl

-- Why a request has no answer is why it is refused.
pub why_refused : (request : DrawRequest) (bytes bytes_after : Known) (given : DrawFault)
    → IsWhyNoAnswer request bytes bytes_after given → IsWhyRefused request bytes bytes_after given
why_refused request bytes bytes_after (fault.Io io.Memory) why = tt
why_refused request bytes bytes_after (fault.Io io.Write) why = tt
why_refused request bytes bytes_after (fault.Io io.Closed) why = tt
why_refused request bytes bytes_after (fault.Io io.Read) why = why
why_refused request bytes bytes_after (fault.Io io.TooLarge) why = why
why_refused request bytes bytes_after (fault.Usage text) why = why
why_refused request bytes bytes_after (fault.File given) why = why
why_refused request bytes bytes_after (fault.Sketch given) why = why
