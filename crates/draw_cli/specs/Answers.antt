-- The answer to a request, and why there is none.
use Rattle.std.specs.Prelude.{◌≡◌, ◌<◌, ℕ, Bool, List, [], ◌∷◌, ◌++◌, length, Option, option_map, IfSome, is_some, codes}
use Rattle.std.specs.Prelude.{string_bytes}
use Rattle.std.specs.Prelude.{if◌then◌else◌}
use Rattle.std.specs.Borrow.{Bor}
use Rattle.std.specs.Io.KnownBytes.{Keeps}
use Rattle.wcp_io.specs.Input.{IsInput, Known, most_bytes}
use Rattle.wcp_io.specs.declared.io_fault.IoFault.{IoFault}
use Rattle.wcp_io.specs.declared.io_fault.IoFault.TheVariants as io
use Rattle.draw_cli.specs.SketchFaults.{IsWhy}
use Rattle.draw_cli.specs.Sketches.{IsSketchOf}
use Rattle.draw_cli.specs.declared.fault.DrawFault.{DrawFault}
use Rattle.draw_cli.specs.declared.fault.DrawFault.TheVariants as fault
use Rattle.draw_cli.specs.declared.words.DrawRequest.{DrawRequest}
use Rattle.draw_cli.specs.declared.words.DrawRequest.TheVariants.{Picture, Help, Version, Unknown}

-- A list of names that is borrowed, where there is one.
abbrev pub seen_list : Option (Bor (List ℕ)) → Option (List ℕ)
seen_list list = option_map (λ text. text.now) list

-- The exit status with a picture: 0 where it shows a cut.
abbrev pub status_of : Bool → ℕ
status_of found = if found then 0 else 1

-- The picture of the whole input, or else the page, with these names.
pub record AnswersPicture (page : Bool) (list : Option (List ℕ)) (input input_after : Known) (printed : List ℕ)
    (status : ℕ) : Type 0 where
  pub text : List ℕ
  pub is_input : IsInput input input_after text
  pub found : Bool
  pub is_sketch : IsSketchOf page list text printed found
  pub status_is : status ≡ status_of found

-- The answer to a request for the version: the program's name and version, and the toolchain that it is proved with,
-- a line each.
abbrev pub version_text : List ℕ
version_text = codes "wcpdraw 0.3.0" ++ 10 ∷ codes "rattle-kit-13f logic dac8208d650f15bf" ++ 10 ∷ []

-- The answer to a request. Help, whose text it carries, and the version read nothing.
abbrev pub AnswersRequest : DrawRequest → Known → Known → List ℕ → ℕ → Type 0
AnswersRequest (Picture picture) input input_after printed status =
    AnswersPicture (is_some picture.page) (seen_list picture.names) input input_after printed status
AnswersRequest (Help text) input input_after printed status =
    Keeps input input_after × (printed ≡ string_bytes text) × (status ≡ 0)
AnswersRequest Version input input_after printed status =
    Keeps input input_after × (printed ≡ version_text) × (status ≡ 0)
AnswersRequest (Unknown why) input input_after printed status = ⊥

-- A fault is why the input wasn't read: where that is its size, it has more bytes than a text may.
abbrev pub IsWhyUnread : Known → IoFault → Type 0
IsWhyUnread bytes io.Read = Unit {0}
IsWhyUnread bytes io.TooLarge = IfSome bytes (λ bytes. most_bytes < length bytes)
IsWhyUnread bytes io.Write = ⊥
IsWhyUnread bytes io.Closed = ⊥
IsWhyUnread bytes io.Memory = Unit {0}

-- A fault is why there is no picture with these names: the input wasn't read; or it was, whole, and has no picture.
abbrev pub IsWhyNoPicture : Option (List ℕ) → Known → Known → DrawFault → Type 0
IsWhyNoPicture list bytes bytes_after (fault.Io given) = IsWhyUnread bytes given
IsWhyNoPicture list bytes bytes_after (fault.Sketch given) =
    (text : List ℕ) × IsInput bytes bytes_after text × IsWhy list text given
IsWhyNoPicture list bytes bytes_after (fault.Usage why) = ⊥
IsWhyNoPicture list bytes bytes_after (fault.File given) = ⊥

-- A fault is why a request has no answer.
abbrev pub IsWhyNoAnswer : DrawRequest → Known → Known → DrawFault → Type 0
IsWhyNoAnswer (Picture picture) bytes bytes_after given =
    IsWhyNoPicture (seen_list picture.names) bytes bytes_after given
IsWhyNoAnswer (Help text) bytes bytes_after given = ⊥
IsWhyNoAnswer Version bytes bytes_after given = given ≡ fault.Io io.Memory
IsWhyNoAnswer (Unknown why) bytes bytes_after given = given ≡ fault.Usage why

-- A fault is why a request has no answer; or memory ran out, or a write failed, or nobody reads the output any more.
abbrev pub IsWhyRefused : DrawRequest → Known → Known → DrawFault → Type 0
IsWhyRefused request bytes bytes_after (fault.Io io.Memory) = Unit {0}
IsWhyRefused request bytes bytes_after (fault.Io io.Write) = Unit {0}
IsWhyRefused request bytes bytes_after (fault.Io io.Closed) = Unit {0}
IsWhyRefused request bytes bytes_after given = IsWhyNoAnswer request bytes bytes_after given
