-- What is shown of several questions.
use Rattle.std.proofs.Common.{◌≡◌, ◌++◌, ℕ, Bool, true, false, List, Option, Some, None, Result, Ok, Err, IfOk, inl, inr}
use Rattle.std.proofs.Common.{subst, sym}
use Rattle.trace_log.specs.declared.turn.Form.{Form}
use Rattle.trace_log.specs.Log.{Logged}
use Rattle.trace_source.specs.declared.clocked.Clocked.{Clocked}
use Rattle.trace_source.specs.Clocked.{LogInput, left_of, log_story}
use Rattle.trace_detect.specs.declared.fault.DetectFault.{DetectFault}
use Rattle.trace_asking.specs.declared.asking.Asking.{Asking}
use Rattle.trace_asking.specs.declared.question.Question.{Question}
use Rattle.trace_asking.specs.declared.reading_on.Behind.{Behind}
use Rattle.trace_asking.specs.declared.reading_on.Behind.TheVariants.{Ended, GoesOn, Stopped}
use Rattle.trace_asking.specs.declared.reading_on.ReadOn.{ReadOn}
use Rattle.trace_asking.specs.Asking.{HasGivenSo, IsAsking}
use Rattle.trace_asking.specs.ReadingOn.{ReadsOnSo}
use Rattle.trace_text.specs.declared.printed.Printed.{Printed}
use Rattle.trace_text.specs.Unknown.{SaysWaiting}
use Rattle.trace_text.specs.Waiting.{ToldWaiting}
use Rattle.trace_pages.specs.declared.replying.Reply.{Reply}
use Rattle.trace_pages.specs.Pages.{Said}
use Rattle.trace_pages.specs.Replies.{AreReplies, StopOpen}
use Rattle.trace_pages.specs.Several.{AreSaidOf, AreShown, IsReadSo, ShowsSaid, ShowsWaiting, said_status}
use Rattle.trace_pages.proofs.SaidOfReplies.{all_said, some_said}

-- Where lines wait.
module _ (svg : Bool) (why : DetectFault) (replies : List Reply) (result : Result Printed DetectFault) where
  pub shows_waiting : (waiting : ToldWaiting) (saids : List Said) → SaysWaiting why waiting
      → AreSaidOf (Some waiting) replies saids → IfOk result (λ answer. ShowsSaid svg saids Ended answer.text.items)
      → IfOk result (λ answer. answer.status ≡ said_status saids)
      → IfOk result (λ answer. ShowsWaiting svg why replies answer.text.items answer.status)
  shows_waiting waiting saids waits are shows status = of result shows status
    where
      of : (r : Result Printed DetectFault) → IfOk r (λ answer. ShowsSaid svg saids Ended answer.text.items)
          → IfOk r (λ answer. answer.status ≡ said_status saids)
          → IfOk r (λ answer. ShowsWaiting svg why replies answer.text.items answer.status)
      of (Ok answer) shows status = record {
        waiting = waiting;
        waits = waits;
        saids = saids;
        are = are;
        status_is = status;
        shows = shows;
      }
      of (Err fault) shows status = tt

module _ (svg : Bool) (form : Form) (input : Option (List ℕ)) (questions : List Question) (replies : List Reply)
    (are : AreReplies form input questions replies) where
  pub waiting_shown : (why : DetectFault) (result : Result Printed DetectFault)
      → StopOpen form input questions replies why
      → IfOk result (λ answer. ShowsWaiting svg why replies answer.text.items answer.status)
      → IfOk result (λ answer. AreShown svg form input questions answer.text.items answer.status)
  waiting_shown why (Ok answer) stops shows = inr (record {
    saids = shows.saids;
    are = some_said form input questions replies shows.saids shows.waiting why shows.waits are stops shows.are;
    status_is = shows.status_is;
    shows = shows.shows;
  })
  waiting_shown why (Err fault) stops shows = tt

  pub answers_shown : (saids : List Said) (behind : Behind) (result : Result Printed DetectFault)
      → AreSaidOf None replies saids → IsReadSo form input behind
      → IfOk result (λ answer. ShowsSaid svg saids behind answer.text.items)
      → IfOk result (λ answer. answer.status ≡ said_status saids)
      → IfOk result (λ answer. AreShown svg form input questions answer.text.items answer.status)
  answers_shown saids behind (Ok answer) says read shows status = inl (record {
    saids = saids;
    are = all_said form input questions replies saids are says;
    status_is = status;
    behind = behind;
    read = read;
    shows = shows;
  })
  answers_shown saids behind (Err fault) says read shows status = tt

-- A log has ended behind what was read of it.
module _ {I : Type 0} (remaining : I → Option (List ℕ)) (log : LogInput) (most : ℕ) (logged : List Logged) where
  read_so_by : (ended : Bool) (on : ReadOn) (old new : Clocked I) → HasGivenSo ended (log_story remaining log) logged old
      → ReadsOnSo ended (log_story remaining log) most logged on old new → IsReadSo log.form log.bytes on.behind
  read_so_by true on old new given reads =
      subst (λ (b : Behind). IsReadSo log.form log.bytes b) (sym reads.2) (left_of remaining old, logged, given.says)
  read_so_by false on old new given reads = of on.behind on.more reads
    where
      of : (behind : Behind) (more : ℕ)
          → ReadsOnSo false (log_story remaining log) most logged (record { more = more; behind = behind }) old new
          → IsReadSo log.form log.bytes behind
      of GoesOn more on_so = tt
      of Ended more on_so = (left_of remaining new, logged ++ on_so.0, on_so.3.says)
      of Stopped more on_so = tt

pub read_so : {I : Type 0} (remaining : I → Option (List ℕ)) (log : LogInput) (most : ℕ) (questions : List Question)
    (asking : Asking (Clocked I)) (on : ReadOn) (new : Clocked I)
    → (is : IsAsking (log_story remaining log) questions asking)
    → ReadsOnSo asking.ended (log_story remaining log) most is.logged on asking.source new
    → IsReadSo log.form log.bytes on.behind
read_so remaining log most questions asking on new is reads =
    read_so_by remaining log most is.logged asking.ended on asking.source new is.given reads
