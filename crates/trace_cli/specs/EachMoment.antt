-- The moments of a log, told one behind the other.
use Rattle.std.specs.Prelude.{◌≡◌, ◌⊎◌, ℕ, true, List, [], ◌∷◌, ◌++◌, length, map, All, Option, Some, None}
use Rattle.std.specs.Io.KnownBytes.{Appends, Keeps}
use Rattle.wcp_io.specs.Edge.{Edge}
use Rattle.wcp_io.specs.Prefixes.{AppendsPrefix}
use Rattle.trace_log.specs.declared.turn.Form.{Form}
use Rattle.trace_log.specs.Log.{Logged}
use Rattle.trace_log.specs.Reading.{SaysWhole}
use Rattle.trace_moment.specs.Standing.{HasNoMoment}
use Rattle.trace_condition.specs.declared.condition.Condition.{Condition}
use Rattle.trace_condition.specs.Asked.{conditions_of}
use Rattle.trace_condition.specs.Conditions.{said_by, IsRead}
use Rattle.trace_detect.specs.declared.moments.Moments.{Moments}
use Rattle.trace_detect.specs.Detection.{IsLastAnswer}
use Rattle.trace_detect.specs.declared.fault.DetectFault.{DetectFault}
use Rattle.trace_detect.specs.Moments.{HasNoneBehind, IsFollowing, IsNextMoment, StopsBehind, taken_behind}
use Rattle.trace_detect.specs.Told.{Told, found_told}
use Rattle.trace_detect.specs.Watching.{watches}
use Rattle.trace_text.specs.declared.format.AnswerFormat.{AnswerFormat}
use Rattle.trace_text.specs.Printed.{bytes_of, counted, told_status, unknown_bytes}
use Rattle.trace_text.specs.Waiting.{ToldWaiting}
use Rattle.trace_words.specs.declared.options.Options.{Options}
use Rattle.trace_cli.specs.Requested.{Known}
use Rattle.trace_words.specs.Fitting.{asked_by, go_together}
use Rattle.trace_cli.specs.Statuses.{closed_pipe, refused}
use Rattle.trace_text.specs.Unknown.{SaysWaiting}

-- A moment that was told, and the events of the log at which it became known.
pub record ToldMoment : Type 0 where
  pub logged : List Logged
  pub moment : ℕ → Logged

-- The moment that was told last, and its events. The last one stands first.
abbrev pub last_moment : List ToldMoment → Option (ℕ → Logged)
last_moment [] = None
last_moment (one ∷ earlier) = Some one.moment

abbrev pub last_logged : List ToldMoment → List Logged
last_logged [] = []
last_logged (one ∷ earlier) = one.logged

-- Each of these is the next moment behind the one that was told before.
abbrev pub AreMoments : Form → List Condition → Known → List ToldMoment → Type 0
AreMoments form conditions input [] = Unit {0}
AreMoments form conditions input (one ∷ earlier) =
    (rest : Known) × AreMoments form conditions input earlier
    × IsNextMoment form conditions input rest (last_moment earlier) (last_logged earlier) one.logged one.moment

-- What is printed of them, and of how many they are.
abbrev pub moments_text : AnswerFormat → List Condition → List ToldMoment → List ℕ
moments_text format conditions [] = []
moments_text format conditions (one ∷ earlier) =
    moments_text format conditions earlier ++ bytes_of format None (found_told conditions one.moment)

-- So many moments were told, and it can be gone on behind them.
pub record IsTellingMoments (form : Form) (format : AnswerFormat) (conditions : List Condition)
    (input rest output output_now : Known) (count : ℕ) (moments : Moments) : Type 0 where
  pub told : List ToldMoment
  pub are : AreMoments form conditions input told
  pub following : IsFollowing form conditions input rest (last_moment told) (last_logged told) moments
  pub written : Appends output output_now (moments_text format conditions told)
  pub many : length told ≡ count

-- So many moments were told of the whole log, and there is none behind them.
pub record HasToldLast (form : Form) (format : AnswerFormat) (conditions : List Condition)
    (input rest output output_now : Known) (count : ℕ) (moments : Moments) : Type 0 where
  pub told : List ToldMoment
  pub are : AreMoments form conditions input told
  pub none : HasNoneBehind form conditions input rest (last_moment told) moments
  pub written : Appends output output_now (moments_text format conditions told)
  pub many : length told ≡ count

-- These moments were told, and behind them reading stopped for this fault, before one more was known.
pub record HasToldSome (form : Form) (format : AnswerFormat) (conditions : List Condition)
    (input output output_now : Known) (why : DetectFault) : Type 0 where
  pub told : List ToldMoment
  pub are : AreMoments form conditions input told
  pub stops : StopsBehind form conditions input (last_moment told) why
  pub written : Appends output output_now (moments_text format conditions told)

-- The answer to the whole log: that it has no moment, as without the option; or the moments that were told, behind
-- which there is none, and how many they are; or that more aren't known behind them, as lines wait at its end.
pub data IsWhole (form : Form) (format : AnswerFormat) (conditions : List Condition) (input : Known) (printed : List ℕ)
    (status : ℕ) : Type 0 where
  NoneTold : (rest : Known) (logged : List Logged) (told : Told) → SaysWhole form input rest logged
      → IsLastAnswer conditions logged told → printed ≡ bytes_of format None told → status ≡ told_status told
      → IsWhole form format conditions input printed status
  Counted : (one : ToldMoment) (earlier : List ToldMoment) → AreMoments form conditions input (one ∷ earlier)
      → (rest : Known) (logged : List Logged) → SaysWhole form input rest logged
      → HasNoMoment (watches conditions) (taken_behind conditions (Some one.moment) logged)
      → printed ≡ moments_text format conditions (one ∷ earlier) ++ counted format (length (one ∷ earlier))
      → status ≡ 0 → IsWhole form format conditions input printed status
  NotKnown : (told : List ToldMoment) → AreMoments form conditions input told
      → (why : DetectFault) → StopsBehind form conditions input (last_moment told) why
      → (waiting : ToldWaiting) → SaysWaiting why waiting
      → printed ≡ moments_text format conditions told ++ unknown_bytes format None waiting
      → status ≡ refused → IsWhole form format conditions input printed status

-- The whole answer was printed, with its status; or telling stopped for a fault: then the moments so far were printed;
-- or a write failed, and a prefix was printed of the moments so far, or of the whole answer.
pub data HasToldAll (form : Form) (format : AnswerFormat) (conditions : List Condition)
    (input output output_now : Known) (status : ℕ) : Type 0 where
  WholeTold : (printed : List ℕ) → IsWhole form format conditions input printed status
      → Appends output output_now printed
      → HasToldAll form format conditions input output output_now status
  Stopped : (told : List ToldMoment) → AreMoments form conditions input told
      → Appends output output_now (moments_text format conditions told) → status ≡ refused
      → HasToldAll form format conditions input output output_now status
  CutWithin : (told : List ToldMoment) → AreMoments form conditions input told
      → AppendsPrefix output output_now (moments_text format conditions told)
      → (status ≡ refused) ⊎ (status ≡ closed_pipe)
      → HasToldAll form format conditions input output output_now status
  CutAtEnd : (printed : List ℕ) (wanted : ℕ) → IsWhole form format conditions input printed wanted
      → AppendsPrefix output output_now printed → (status ≡ refused) ⊎ (status ≡ closed_pipe)
      → HasToldAll form format conditions input output output_now status

-- What is told of a log under the conditions that the options say, whose words go together; or nothing is written.
pub data AnswersAll (options : Options) (edge : Edge) (status : ℕ) : Type 0 where
  AllTold : (conditions : List Condition) → go_together options ≡ true
      → conditions_of (asked_by options) ≡ Some (map said_by conditions) → All IsRead conditions
      → HasToldAll options.form options.format conditions edge.input edge.output edge.output_after status
      → AnswersAll options edge status
  NotTold : Keeps edge.output edge.output_after → status ≡ refused → AnswersAll options edge status
