-- Reading on behind an answer.
use Rattle.std.specs.Prelude.{◌≡◌, ◌⊎◌, ℕ, ◌≤◌, ◌<◌, Bool, true, false, List, ◌++◌, Option, Result, Ok, Err, length}
use Rattle.std.specs.Io.KnownBytes.{prepend_known}
use Rattle.wcp_io.specs.Input.{most_waiting}
use Rattle.trace_log.specs.declared.turn.Form.{Form}
use Rattle.trace_log.specs.Log.{Logged}
use Rattle.trace_log.specs.Reading.{Says, SaysWhole}
use Rattle.trace_source.specs.Story.{Story}
use Rattle.trace_detect.specs.declared.answer.ReasonedAnswer.{ReasonedAnswer}
use Rattle.trace_detect.specs.declared.fault.DetectFault.{DetectFault}
use Rattle.trace_asking.specs.declared.question.Question.{Question}
use Rattle.trace_asking.specs.declared.reading_on.Behind.{Behind}
use Rattle.trace_asking.specs.declared.reading_on.Behind.TheVariants.{GoesOn, Ended, Stopped}
use Rattle.trace_asking.specs.declared.reading_on.ReadOn.{ReadOn}
use Rattle.trace_asking.specs.declared.reading_on.Sighting.{Sighting}
use Rattle.trace_asking.specs.Answered.{AnswersOf}
use Rattle.trace_asking.specs.OfBytes.{Answers}

-- Behind these events, of which this is left at last, exactly so many more were read: as many as are wanted, and there
-- may be more; or fewer, where these are all, or a fault came, or a read failed, or memory ran out. What is left where
-- it stopped no clause says.
abbrev pub ReadsOn : {L : Type 0} → (List Logged → L → Type 0) → (List Logged → L → Type 0) → ℕ → List Logged → ℕ
    → Behind → L → Type 0
ReadsOn gave ended most logged count GoesOn left =
    (more : List Logged) × (length more ≡ count) × (count ≡ most) × gave (logged ++ more) left
ReadsOn gave ended most logged count Ended left =
    (more : List Logged) × (length more ≡ count) × (count < most) × ended (logged ++ more) left
ReadsOn {L = L} gave ended most logged count Stopped left =
    (more : List Logged) × (length more ≡ count) × (count < most) × ((then : L) × gave (logged ++ more) then)

-- The same of a source, which gave these events, by how it was and is; where they were all there is nothing more.
abbrev pub ReadsOnSo : {S : Type 0} → Bool → Story S → ℕ → List Logged → ReadOn → S → S → Type 0
ReadsOnSo true story most logged on old new = (new ≡ old) × (on.more ≡ 0) × (on.behind ≡ Ended)
ReadsOnSo false story most logged on old new = ReadsOn story.gave story.ended most logged on.more on.behind new

-- What is told of a log that is read, by what is left of it: that these events were read, or are all, and what is
-- answered.
pub record Reading (L : Type 0) : Type 1 where
  pub gave : List Logged → L → Type 0
  pub ended : List Logged → L → Type 0
  pub answers : L → Result ReasonedAnswer DetectFault → Type 0

-- It is the answer where this was left. Then so many events more were read.
pub record SightsBefore {L : Type 0} (reading : Reading L) (most : ℕ) (left : L) (sighting : Sighting) : Type 0 where
  pub left_then : L
  pub answer : reading.answers left_then (Ok sighting.answer)
  pub logged : List Logged
  pub gave : reading.gave logged left_then
  pub reads_on : ReadsOn reading.gave reading.ended most logged sighting.more sighting.behind left

-- It is the answer to the whole log, behind which there is nothing.
pub record SightsWhole {L : Type 0} (reading : Reading L) (left : L) (sighting : Sighting) : Type 0 where
  pub answer : reading.answers left (Ok sighting.answer)
  pub logged : List Logged
  pub ended : reading.ended logged left
  pub none_more : sighting.more ≡ 0
  pub has_ended : sighting.behind ≡ Ended

-- What is answered where the log is read on.
abbrev pub Sights : {L : Type 0} → Reading L → ℕ → L → Result Sighting DetectFault → Type 0
Sights reading most left (Ok sighting) = SightsBefore reading most left sighting ⊎ SightsWhole reading left sighting
Sights reading most left (Err why) = reading.answers left (Err why)

-- A source is read for this question.
abbrev pub of_story : {S : Type 0} → Story S → Question → Reading S
of_story story question = record { gave = story.gave; ended = story.ended; answers = AnswersOf story question }

-- A log of this form is read for this question, from an input.
abbrev pub of_bytes : Form → Question → Option (List ℕ) → Reading (Option (List ℕ))
of_bytes form question input = record {
  gave = λ logged left. Says form input left logged;
  ended = λ logged left. SaysWhole form input left logged;
  answers = Answers form question input;
}

-- What is answered to a question alone, where the log is read on behind the answer. Some bytes of the input were read
-- ahead, and are left too: no more than one read asks for.
pub record AnswersOn (form : Form) (question : Question) (most : ℕ) (input input_after : Option (List ℕ))
    (result : Result Sighting DetectFault) : Type 0 where
  pub ahead : List ℕ
  pub few : length ahead ≤ most_waiting
  pub sights : Sights (of_bytes form question input) most (prepend_known ahead input_after) result
