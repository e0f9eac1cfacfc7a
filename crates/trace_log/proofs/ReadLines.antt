-- What has been read of an input, line by line.
use Rattle.trace_log.proofs.EventWords.{◌≡◌, ◌∙◌, ◌++◌, ℕ, List, [], ◌∷◌, Option, Some, None, Result, Ok, Err, refl}
use Rattle.trace_log.proofs.EventWords.{sym}
use Rattle.trace_log.proofs.EventWords.{ap, subst, arith, append_assoc, append-nil, length-append, Consumes-trans}
use Rattle.trace_log.proofs.EventWords.{Consumes-kept, Consumes, IsAtEnd, Keeps, option_to_list, IfSome, Gives, IsFirst}
use Rattle.trace_log.proofs.EventWords.{Whole, Prefix, lines_of, LogFault, Log, Form, Event, Logged, SoFar, Bool}
use Rattle.trace_log.proofs.EventWords.{true, false, last_event, is_over, IsWithin, cut_behind, ◌⊎◌, ◌+◌, length}
use Rattle.trace_log.specs.Reading.{Says}
use Rattle.std.proofs.Common.{inl, inr}
use Rattle.trace_log.proofs.LinesRead.{one_more, within_more, cut_none, cut_more, cut_at, is_last}
use Rattle.trace_log.proofs.EventWords.{Turn}
use Rattle.trace_log.proofs.EventWords.{after, end_of, next_turn, no_lines, with_event, log_from, HasRead, IsTurn}
use Rattle.trace_log.proofs.EventWords.{whole_log, events_of, logged_from, FollowsIn, SaysWhole, HasFault}
use Rattle.trace_log.proofs.EventWords.{HasReadEvents, ReadsNext, ReadsEvent, EndsOneMore, FailAfter}
use Rattle.std.proofs.lemmas.List.{map-append}
use Rattle.std.proofs.KnownBytes.{prepend_known-nil, Consumes-nil, Keeps-refl}
use Rattle.std.specs.Io.KnownBytes.{prepend_known}
use Rattle.trace_log.specs.Judgement.{◌>>=◌}
use Rattle.std.specs.Option.{is_some, IsSomeAnd}
use Rattle.std.specs.Result.{IsErr, IsErrAnd}
use Rattle.std.proofs.lemmas.Result.{err_from_is_err_and}
use Rattle.wcp_io.specs.declared.line_fault.InputFault.{InputFault}
use Rattle.wcp_io.specs.declared.line_fault.InputFault.TheVariants as input
use Rattle.trace_log.specs.declared.fault.LogReadFault.{LogReadFault}
use Rattle.trace_log.specs.declared.fault.LogReadFault.TheVariants as read
use Rattle.trace_log.specs.State.{ReadsLine}
use Rattle.trace_log.specs.declared.event_fault.EventFault.{EventFault}
use Rattle.trace_log.specs.EventFaults.{fault_of_input, fault_of_read}
use Rattle.trace_log.proofs.Turns.{turn_follows, next_of_long}
use Rattle.trace_log.proofs.LogLines.{log_more, logged_more, log_line, logged_line, log_stops, logged_stops}

-- Which lines of the input were read.
abbrev IsFront : Option (List ℕ) → Option (List ℕ) → List (List ℕ) → Type 0
IsFront input left lines = IfSome input (λ bytes. IfSome left (λ rest. lines_of bytes ≡ lines ++ lines_of rest))

prefix_of_none : (input : Option (List ℕ)) → IsFront input input []
prefix_of_none None = tt
prefix_of_none (Some bytes) = refl

within_none : (last : Option ℕ) → IsWithin last 0
within_none None = tt
within_none (Some last) = omega arith

-- No line was read.
pub begins : (form : Form) (input : Option (List ℕ)) (ahead : List ℕ) (log : Log) → ahead ≡ []
    → HasRead form no_lines log → HasReadEvents form input (prepend_known ahead input) [] log
unfolding log_from logged_from
begins form input ahead log none read = rw (none, prepend_known-nil input) (record {
  says = record {
    lines = [];
    taken = [];
    consumed = Consumes-nil input;
    first = prefix_of_none input;
    so_far = no_lines;
    said = refl;
    ended = refl;
    within = within_none form.last;
  };
  read = read;
  events = refl;
  half = tt;
})

-- A line that says something was given whole.
line_is_whole : (form : Form) (so_far : SoFar) (bytes line rest : List ℕ) (turn : Turn)
    → next_turn form so_far line ≡ Ok turn → IsFirst bytes line rest → lines_of bytes ≡ line ∷ lines_of rest
line_is_whole form so_far bytes line rest turn said (Whole is) = is
line_is_whole form so_far bytes line rest turn said (Prefix more later is long parts) =
    let refused = next_of_long form so_far line (omega arith) in absurd (cc)

front_more : (form : Form) (so_far : SoFar) (input left left' : Option (List ℕ)) (taken taken' : List ℕ)
    (lines : List (List ℕ)) (line : List ℕ) (turn : Turn)
    → next_turn form so_far line ≡ Ok turn → Consumes input left taken → IsFront input left lines
    → Consumes left left' taken'
    → IfSome left (λ bytes. IfSome left' (λ rest. IsFirst bytes line rest)) → IsFront input left' (lines ++ line ∷ [])
front_more form so_far None left left' taken taken' lines line turn said consumed front consumed' first = tt
front_more form so_far (Some bytes) None left' taken taken' lines line turn said consumed front consumed' first =
    absurd consumed
front_more form so_far (Some bytes) (Some rest) None taken taken' lines line turn said consumed front consumed' first =
    tt
front_more form so_far (Some bytes) (Some rest)
    (Some rest') taken taken' lines line turn said consumed front consumed' first =
    front ∙ ap (λ l. lines ++ l) (line_is_whole form so_far rest line rest' turn said first)
    ∙ sym (append_assoc lines (line ∷ []) (lines_of rest'))

events_more : (events : List Event) (logged : List Logged) (event : Option Logged) → events ≡ events_of logged
    → with_event events event ≡ events_of (logged ++ option_to_list event)
events_more events logged None same = same ∙ ap events_of (sym (append-nil logged))
events_more events logged (Some one) same =
    ap (λ l. l ++ one.event ∷ []) same ∙ sym (map-append (λ one. one.event) logged (one ∷ []))

-- The events of one line more were read, and no line behind it.
abbrev ReadsMore : Form → Option (List ℕ) → Option (List ℕ) → List Logged → Option Logged → Log → Type 0
ReadsMore form input left logged more log =
    (read : HasReadEvents form input left (logged ++ option_to_list more) log)
    × EndsOneMore form read.says.lines logged

line_read : (form : Form) (input left left' : Option (List ℕ)) (logged : List Logged) (log log' : Log) (line : List ℕ)
    (one : Option Logged)
    → (before : HasReadEvents form input left logged log) → is_over log ≡ false → Gives left left' line
    → IsTurn form before.says.so_far line one log'
    → ReadsMore form input left' logged one log'
line_read form input left left' logged log log' line one before not_over given is =
    let says = before.says in
    rw is.event (
      record {
        says = record {
          lines = says.lines ++ line ∷ [];
          taken = says.taken ++ given.taken;
          consumed = Consumes-trans input left left' says.taken given.taken says.consumed given.consumed;
          first = front_more form says.so_far input left left' says.taken given.taken says.lines line is.turn is.said
              says.consumed says.first given.consumed given.first;
          so_far = after says.so_far is.turn;
          said = log_more form no_lines says.lines (line ∷ []) says.so_far says.said
              ∙ log_line form says.so_far line is.turn is.said;
          ended = logged_more form no_lines says.lines (line ∷ []) says.so_far says.said
              ∙ ap (λ l. l ++ logged_from form says.so_far (line ∷ [])) says.ended
              ∙ ap (λ l. logged ++ l)
              (logged_line form says.so_far line is.turn is.said ∙ append-nil (option_to_list is.turn.event));
          within = within_more form.last says.lines line
              (one_more form says.so_far says.lines log before.read says.said not_over);
        };
        read = is.read;
        events = events_more says.so_far.events logged is.turn.event before.events;
        half = (turn_follows form says.so_far line is.turn before.half is.said).half;
      },
      record { earlier = says.lines; line = line; parts = refl; ended = says.ended },
    )

-- One line more was read, which ended no event.
pub reads_line : (form : Form) (input left left' : Option (List ℕ)) (logged : List Logged) (log log' : Log)
    (line : List ℕ)
    → (before : HasReadEvents form input left logged log) → is_over log ≡ false → Gives left left' line
    → IsTurn form before.says.so_far line None log'
    → HasReadEvents form input left' logged log'
reads_line form input left left' logged log log' line before not_over given is =
    subst (λ (l : List Logged). HasReadEvents form input left' l log') (append-nil logged)
    (line_read form input left left' logged log log' line None before not_over given is).0

-- The clock of the event that it ended follows.
line_follows : (form : Form) (input left : Option (List ℕ)) (logged : List Logged) (log log' : Log) (line : List ℕ)
    (one : Logged)
    → (before : HasReadEvents form input left logged log) → IsTurn form before.says.so_far line (Some one) log'
    → FollowsIn logged one.event
line_follows form input left logged log log' line one before is =
    let follows = (turn_follows form before.says.so_far line is.turn before.half is.said).event in
    rw (← is.event, before.events) at follows

-- One line more was read, which ended this event.
pub reads_next : (form : Form) (input left left' : Option (List ℕ)) (logged : List Logged) (log log' : Log)
    (line : List ℕ) (one : Logged)
    → (before : HasReadEvents form input left logged log) → is_over log ≡ false → Gives left left' line
    → IsTurn form before.says.so_far line (Some one) log'
    → ReadsNext form input left' logged one log'
reads_next form input left left' logged log log' line one before not_over given is =
    let more = line_read form input left left' logged log log' line (Some one) before not_over given is in
    record {
      follows = line_follows form input left logged log log' line one before is;
      read = more.0;
      last = more.1;
    }

-- The same where it is answered that the line ended an event, or that it ended none.
pub reads_some : (form : Form) (input left left' : Option (List ℕ)) (logged : List Logged) (log log' : Log)
    (line : List ℕ)
    → (before : HasReadEvents form input left logged log) → is_over log ≡ false → Gives left left' line
    → IsTurn form before.says.so_far line (last_event log') log' → is_some (last_event log') ≡ true
    → IsSomeAnd (last_event log') (λ one. ReadsNext form input left' logged one log')
reads_some form input left left' logged log log' line before not_over given is some = by_event (last_event log') is some
  where
    by_event : (event : Option Logged) → IsTurn form before.says.so_far line event log' → is_some event ≡ true
        → IsSomeAnd event (λ one. ReadsNext form input left' logged one log')
    by_event None is some = cc
    by_event (Some one) is some = reads_next form input left left' logged log log' line one before not_over given is

pub reads_none : (form : Form) (input left left' : Option (List ℕ)) (logged : List Logged) (log log' : Log)
    (line : List ℕ)
    → (before : HasReadEvents form input left logged log) → is_over log ≡ false → Gives left left' line
    → IsTurn form before.says.so_far line (last_event log') log' → is_some (last_event log') ≡ false
    → HasReadEvents form input left' logged log'
reads_none form input left left' logged log log' line before not_over given is none = by_event (last_event log') is none
  where
    by_event : (event : Option Logged) → IsTurn form before.says.so_far line event log' → is_some event ≡ false
        → HasReadEvents form input left' logged log'
    by_event None is none = reads_line form input left left' logged log log' line before not_over given is
    by_event (Some one) is none = cc

faulty_more : (form : Form) (lines later : List (List ℕ)) (logged : List Logged) (so_far : SoFar) (line : List ℕ)
    (fault : LogFault)
    → log_from form no_lines lines ≡ Ok so_far → logged_from form no_lines lines ≡ logged
    → next_turn form so_far line ≡ Err fault
    → FailAfter form (lines ++ line ∷ later) logged fault
faulty_more form lines later logged so_far line fault said ended refused = record {
  failed = ap (λ r. r >>= λ so_far. end_of so_far >>= λ _. Ok so_far)
      (log_more form no_lines lines (line ∷ later) so_far said ∙ log_stops form so_far line later fault refused);
  ended = logged_more form no_lines lines (line ∷ later) so_far said
      ∙ ap (λ l. logged_from form no_lines lines ++ l) (logged_stops form so_far line later fault refused)
      ∙ append-nil (logged_from form no_lines lines) ∙ ended;
}

fault_of_bytes : (form : Form) (bytes rest rest' : List ℕ) (lines : List (List ℕ)) (logged : List Logged)
    (so_far : SoFar) (line : List ℕ) (fault : LogFault) → log_from form no_lines lines ≡ Ok so_far
    → logged_from form no_lines lines ≡ logged → next_turn form so_far line ≡ Err fault
    → lines_of bytes ≡ lines ++ lines_of rest → IsFirst rest line rest' → IsWithin form.last (length lines + 1)
    → FailAfter form (cut_behind form.last (lines_of bytes)) logged fault
fault_of_bytes form bytes rest rest' lines logged so_far line fault said ended refused front (Whole is) within =
    let cut = cut_more form.last lines (lines_of rest') line within in
    subst (λ (l : List (List ℕ)). FailAfter form l logged fault)
    (sym (ap (cut_behind form.last) (front ∙ ap (λ l. lines ++ l) is) ∙ cut.1))
    (faulty_more form lines cut.0 logged so_far line fault said ended refused)
fault_of_bytes form bytes rest rest' lines logged so_far line fault said ended refused front
    (Prefix more later is long parts) within =
    let same = sym (next_of_long form so_far line (omega arith)) ∙ refused in
    let cut = cut_more form.last lines later (line ++ more) within in
    subst (λ (l : List (List ℕ)). FailAfter form l logged fault)
    (sym (ap (cut_behind form.last) (front ∙ ap (λ l. lines ++ l) is) ∙ cut.1))
    (faulty_more form lines cut.0 logged so_far (line ++ more) fault said ended
    (next_of_long form so_far (line ++ more) (omega (arith, length-append line more)) ∙ same))

fault_of_known : (form : Form) (input left left' : Option (List ℕ)) (taken taken' : List ℕ) (lines : List (List ℕ))
    (logged : List Logged) (so_far : SoFar) (line : List ℕ) (fault : LogFault)
    → log_from form no_lines lines ≡ Ok so_far
    → logged_from form no_lines lines ≡ logged → next_turn form so_far line ≡ Err fault
    → Consumes input left taken → IsFront input left lines → Consumes left left' taken'
    → IfSome left (λ bytes. IfSome left' (λ rest. IsFirst bytes line rest)) → IsWithin form.last (length lines + 1)
    → IfSome input (λ bytes. FailAfter form (cut_behind form.last (lines_of bytes)) logged fault)
fault_of_known form None left left' taken taken' lines logged so_far line fault said ended refused consumed front
    consumed' first within = tt
fault_of_known form (Some bytes) None left' taken taken' lines logged so_far line fault said ended refused consumed
    front consumed' first within = absurd consumed
fault_of_known form (Some bytes) (Some rest) None taken taken' lines logged so_far line fault said ended refused
    consumed front consumed' first within = absurd consumed'
fault_of_known form (Some bytes) (Some rest) (Some rest') taken taken' lines logged so_far line fault said ended refused
    consumed front consumed' first within =
    fault_of_bytes form bytes rest rest' lines logged so_far line fault said ended refused front first within

-- The line has a fault.
pub reads_fault : (form : Form) (input left left' : Option (List ℕ)) (logged : List Logged) (log : Log) (line : List ℕ)
    (fault : LogFault)
    → (before : HasReadEvents form input left logged log) → is_over log ≡ false → Gives left left' line
    → next_turn form before.says.so_far line ≡ Err fault → HasFault form input logged fault
reads_fault form input left left' logged log line fault before not_over given refused =
    let says = before.says in
    record {
      lines = says.lines ++ line ∷ [];
      is = faulty_more form says.lines [] logged says.so_far line fault says.said says.ended refused;
      of_input = fault_of_known form input left left' says.taken given.taken says.lines logged says.so_far line fault
          says.said says.ended refused says.consumed says.first given.consumed given.first
          (one_more form says.so_far says.lines log before.read says.said not_over);
    }

all_lines : (last : Option ℕ) (input left left' : Option (List ℕ)) (taken : List ℕ) (lines : List (List ℕ))
    → Consumes input left taken → IsFront input left lines → Keeps left left' → IsAtEnd left'
    → IsWithin last (length lines) → IfSome input (λ bytes. cut_behind last (lines_of bytes) ≡ lines)
unfolding lines_of
all_lines last None left left' taken lines consumed front kept ended within = tt
all_lines last (Some bytes) None left' taken lines consumed front kept ended within = absurd consumed
all_lines last (Some bytes) (Some rest) None taken lines consumed front kept ended within = absurd kept
all_lines last (Some bytes) (Some rest) (Some rest') taken lines consumed front kept ended within =
    ap (cut_behind last) (front ∙ ap (λ l. lines ++ lines_of l) (sym kept ∙ ended) ∙ append-nil lines)
    ∙ cut_none last lines within

lines_to_last : (last : Option ℕ) (input left : Option (List ℕ)) (taken : List ℕ) (lines : List (List ℕ))
    → Consumes input left taken → IsFront input left lines → last ≡ Some (length lines)
    → IfSome input (λ bytes. cut_behind last (lines_of bytes) ≡ lines)
lines_to_last last None left taken lines consumed front is = tt
lines_to_last last (Some bytes) None taken lines consumed front is = absurd consumed
lines_to_last last (Some bytes) (Some rest) taken lines consumed front is =
    ap (cut_behind last) front ∙ cut_at last lines (lines_of rest) is

said_whole : (form : Form) (lines : List (List ℕ)) (so_far : SoFar) → log_from form no_lines lines ≡ Ok so_far
    → whole_log form lines ≡ (end_of so_far >>= λ _. Ok so_far)
said_whole form lines so_far said = ap (λ r. r >>= λ so_far. end_of so_far >>= λ _. Ok so_far) said

-- All lines that are read were read.
pub record EndsAt (form : Form) (input left left' : Option (List ℕ)) (logged : List Logged)
    (says : Says form input left logged) : Type 0 where
  pub kept : Keeps left left'
  pub at_end : IsAtEnd left' ⊎ (form.last ≡ Some (length says.lines))
  pub all : IfSome input (λ bytes. cut_behind form.last (lines_of bytes) ≡ says.lines)

-- The input has ended.
pub ends_input : (form : Form) (input left left' : Option (List ℕ)) (logged : List Logged) (log : Log)
    → (before : HasReadEvents form input left logged log) → Keeps left left' → IsAtEnd left'
    → EndsAt form input left left' logged before.says
ends_input form input left left' logged log before kept ended =
    let says = before.says in
    record {
      kept = kept;
      at_end = inl ended;
      all = all_lines form.last input left left' says.taken says.lines says.consumed says.first kept ended says.within;
    }

-- The last line that is read was read.
pub ends_log : (form : Form) (input left : Option (List ℕ)) (logged : List Logged) (log : Log)
    → (before : HasReadEvents form input left logged log) → is_over log ≡ true
    → EndsAt form input left left logged before.says
ends_log form input left logged log before over =
    let says = before.says in
    let last = is_last form says.so_far says.lines log before.read says.said says.within over in
    record {
      kept = Keeps-refl left;
      at_end = inr last;
      all = lines_to_last form.last input left says.taken says.lines says.consumed says.first last;
    }

-- The log may end there.
pub reads_end : (form : Form) (input left left' : Option (List ℕ)) (logged : List Logged) (log : Log)
    → (before : HasReadEvents form input left logged log) → EndsAt form input left left' logged before.says
    → end_of before.says.so_far ≡ Ok tt → SaysWhole form input left' logged
reads_end form input left left' logged log before ends may_end =
    let says = before.says in
    record {
      lines = says.lines;
      taken = says.taken;
      consumed = Consumes-kept input left left' says.taken says.consumed ends.kept;
      at_end = ends.at_end;
      all = ends.all;
      so_far = says.so_far;
      said = said_whole form says.lines says.so_far says.said ∙ ap (λ r. r >>= λ _. Ok says.so_far) may_end;
      ended = says.ended;
    }

fault_at_end : (form : Form) (input : Option (List ℕ)) (lines : List (List ℕ)) (logged : List Logged)
    (fault : LogFault)
    → IfSome input (λ bytes. cut_behind form.last (lines_of bytes) ≡ lines) → FailAfter form lines logged fault
    → IfSome input (λ bytes. FailAfter form (cut_behind form.last (lines_of bytes)) logged fault)
fault_at_end form None lines logged fault all is = tt
fault_at_end form (Some bytes) lines logged fault all is =
    subst (λ (l : List (List ℕ)). FailAfter form l logged fault) (sym all) is

-- The log may not end there.
pub reads_missing : (form : Form) (input left left' : Option (List ℕ)) (logged : List Logged) (log : Log)
    (fault : LogFault)
    → (before : HasReadEvents form input left logged log) → EndsAt form input left left' logged before.says
    → end_of before.says.so_far ≡ Err fault → HasFault form input logged fault
reads_missing form input left left' logged log fault before ends missing =
    let says = before.says in
    let whole : FailAfter form says.lines logged fault = record {
      failed = said_whole form says.lines says.so_far says.said ∙ ap (λ r. r >>= λ _. Ok says.so_far) missing;
      ended = says.ended;
    } in
    record {
      lines = says.lines;
      is = whole;
      of_input = fault_at_end form input says.lines logged fault ends.all whole;
    }

-- A fault that was handed on.
pub hands_on : (form : Form) (input left : Option (List ℕ)) (logged : List Logged)
    (answer : Result Bool EventFault) (log : Log) (given : EventFault)
    → IsErr answer × IsErrAnd answer (λ fault. fault ≡ given) → ReadsEvent form input left logged (Err given) log
    → ReadsEvent form input left logged answer log
hands_on form input left logged answer log given back reads =
    let found = err_from_is_err_and answer back.1 in
    subst (λ (r : Result Bool EventFault). ReadsEvent form input left logged r log)
    (sym (found.1 ∙ ap Err found.2)) reads

pub line_fault : (form : Form) (input left left' : Option (List ℕ)) (logged : List Logged) (log log' : Log)
    (line : List ℕ) (fault : LogReadFault)
    → (before : HasReadEvents form input left logged log) → is_over log ≡ false → Gives left left' line
    → ReadsLine form before.says.so_far line (Err fault) log'
    → ReadsEvent form input left' logged (Err (fault_of_read fault)) log'
line_fault form input left left' logged log log' line (read.Log what) before not_over given reads =
    reads_fault form input left left' logged log line what before not_over given reads.0
line_fault form input left left' logged log log' line read.Memory before not_over given reads = tt

pub input_fault : (form : Form) (known left : Option (List ℕ)) (logged : List Logged) (log : Log) (fault : InputFault)
    → ReadsEvent form known left logged (Err (fault_of_input fault)) log
input_fault form known left logged log input.Read = tt
input_fault form known left logged log input.Memory = tt
