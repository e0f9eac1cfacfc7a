-- What a line says after the lines so far: its event's clock follows, and a line that is too long says nothing.
use Rattle.trace_log.proofs.EventWords.{◌≡◌, ◌+◌, ◌<◌, ℕ, Bool, true, false, cond, List, Option, Some, None, Result, Ok}
use Rattle.trace_log.proofs.EventWords.{Err, length, refl, subst, IfSome, nat_lt, LogFaultKind, LogFault, Form, Lines}
use Rattle.trace_log.proofs.EventWords.{Shiviz}
use Rattle.trace_log.proofs.EventWords.{ShivizReversed, Numbered, Event, Stamp, ◌>>=◌, at_line, Member, event_in}
use Rattle.trace_log.proofs.EventWords.{stamp_in, numbered_in, place_of}
use Rattle.trace_log.proofs.EventWords.{text_in, fault_in, LogLayout, passed, said_at}
use Rattle.std.specs.Prelude.{nat_le, not}
use Rattle.trace_log.specs.Judgement.{ask}
use Rattle.trace_log.proofs.EventWords.{most_bytes, whole, if◌then◌else◌, Long, Many, Half, stamped, texted, SoFar}
use Rattle.trace_log.proofs.EventWords.{Turn}
use Rattle.trace_log.proofs.EventWords.{event_after, stamp_after, turn_of, next_turn, with_event, most_lines}
use Rattle.trace_log.proofs.EventWords.{last_clock, may_follow, is_in_cycle, Cycle}
use Rattle.trace_log.proofs.EventWords.{follows, HalfFollows}
use Rattle.std.proofs.lemmas.Bool.{lt-leb}
use Rattle.trace_log.proofs.Binds.{bind_gives, same_ok}

at_line_ok : {A : Type 0} (line : ℕ) (r : Result A LogFaultKind) (y : A) → at_line line r ≡ Ok y → r ≡ Ok y
at_line_ok line (Ok x) y said = cc
at_line_ok line (Err e) y said = cc

if_ok : {A E : Type 0} (b : Bool) (r : Result A E) (e : E) (y : A) → cond b r (Err e) ≡ Ok y → r ≡ Ok y
if_ok true r e y said = said
if_ok false r e y said = cc

abbrev half_turn : Half → Turn
half_turn half = record { half = Some half; event = None }

abbrev event_turn : ℕ → Event → Turn
event_turn line event = record { half = None; event = Some (record { line = line; event = event }) }

-- The clock of the turn's event follows, or that of its half.
pub record TurnFollows (earlier : List Event) (turn : Turn) : Type 0 where
  pub event : IfSome turn.event
      (λ one. follows one.event.host (last_clock one.event.host earlier) one.event.clock ≡ Ok tt)
  pub half : HalfFollows (with_event earlier turn.event) turn.half

-- The clock of a host follows that of its event before.
abbrev Follows : List Event → List ℕ → List Member → Type 0
Follows earlier host clock = follows host (last_clock host earlier) clock ≡ Ok tt

may_follow_follows : (earlier : List Event) (host : List ℕ) (clock : List Member) (u : Unit {0})
    → may_follow earlier host clock ≡ Ok u → Follows earlier host clock
may_follow_follows earlier host clock u may =
    bind_gives (Follows earlier host clock) (follows host (last_clock host earlier) clock)
    (λ _. ask (not (is_in_cycle (λ name. last_clock name earlier) host clock)) Cycle) u may (λ _ judged _. judged)

event_follows : (earlier : List Event) (line : List ℕ) (event : Event) → event_after earlier line ≡ Ok event
    → Follows earlier event.host event.clock
event_follows earlier line event said =
    bind_gives (Follows earlier event.host event.clock) (event_in line)
    (λ e. may_follow earlier e.host e.clock >>= λ _. Ok e) event said (λ e read rest.
    bind_gives (Follows earlier event.host event.clock) (may_follow earlier e.host e.clock)
    (λ _. Ok e) event rest (λ u judged is.
    subst (λ (one : Event). Follows earlier one.host one.clock) (same_ok e event is)
    (may_follow_follows earlier e.host e.clock u judged)))

stamp_follows : (earlier : List Event) (line : List ℕ) (stamp : Stamp) → stamp_after earlier line ≡ Ok stamp
    → Follows earlier stamp.host stamp.clock
stamp_follows earlier line stamp said =
    bind_gives (Follows earlier stamp.host stamp.clock) (stamp_in line)
    (λ e. may_follow earlier e.host e.clock >>= λ _. Ok e) stamp said (λ e read rest.
    bind_gives (Follows earlier stamp.host stamp.clock) (may_follow earlier e.host e.clock)
    (λ _. Ok e) stamp rest (λ u judged is.
    subst (λ (one : Stamp). Follows earlier one.host one.clock) (same_ok e stamp is)
    (may_follow_follows earlier e.host e.clock u judged)))

turn_of_follows : (layout : LogLayout) (half : Option Half) (earlier : List Event) (at : ℕ) (line : List ℕ)
    (turn : Turn)
    → HalfFollows earlier half → turn_of layout half earlier at line ≡ Ok turn → TurnFollows earlier turn
turn_of_follows Lines None earlier at line turn before said =
    bind_gives (TurnFollows earlier turn) (event_after earlier line) (λ event. Ok (event_turn at event)) turn said
    (λ event read is.
    subst (TurnFollows earlier) (same_ok (event_turn at event) turn is)
    (record { event = event_follows earlier line event read; half = tt }))
turn_of_follows Shiviz None earlier at line turn before said =
    bind_gives (TurnFollows earlier turn) (stamp_after earlier line) (λ stamp. Ok (half_turn (stamped stamp))) turn said
    (λ stamp read is.
    subst (TurnFollows earlier) (same_ok (half_turn (stamped stamp)) turn is)
    (record { event = tt; half = stamp_follows earlier line stamp read }))
turn_of_follows ShivizReversed None earlier at line turn before said =
    bind_gives (TurnFollows earlier turn) (text_in line) (λ text. Ok (half_turn (texted at text))) turn said
    (λ text read is.
    subst (TurnFollows earlier) (same_ok (half_turn (texted at text)) turn is) (record { event = tt; half = tt }))
turn_of_follows Numbered None earlier at line turn before said =
    bind_gives (TurnFollows earlier turn) (numbered_in line)
    (λ one. one.says >>= λ json. event_after earlier json >>= λ event. Ok (event_turn one.number event)) turn said
    (λ one numbered rest.
    bind_gives (TurnFollows earlier turn) one.says
    (λ json. event_after earlier json >>= λ event. Ok (event_turn one.number event)) turn rest (λ json says further.
    bind_gives (TurnFollows earlier turn) (event_after earlier json) (λ event. Ok (event_turn one.number event)) turn
    further (λ event read is.
    subst (TurnFollows earlier) (same_ok (event_turn one.number event) turn is)
    (record { event = event_follows earlier json event read; half = tt }))))
turn_of_follows layout (Some (stamped stamp)) earlier at line turn before said =
    bind_gives (TurnFollows earlier turn) (text_in line) (λ text. Ok (event_turn at (whole stamp text))) turn said
    (λ text read is.
    subst (TurnFollows earlier) (same_ok (event_turn at (whole stamp text)) turn is)
    (record { event = before; half = tt }))
turn_of_follows layout (Some (texted first text)) earlier at line turn before said =
    bind_gives (TurnFollows earlier turn) (stamp_after earlier line)
    (λ stamp. Ok (event_turn first (whole stamp text))) turn said (λ stamp read is.
    subst (TurnFollows earlier) (same_ok (event_turn first (whole stamp text)) turn is)
    (record { event = stamp_follows earlier line stamp read; half = tt }))

said_follows : (is_before : Bool) (half : Option Half) (earlier : List Event) (line : List ℕ)
    (said : Result Turn LogFaultKind) (turn : Turn) → HalfFollows earlier half
    → (said ≡ Ok turn → TurnFollows earlier turn) → cond is_before (passed half line) said ≡ Ok turn
    → TurnFollows earlier turn
said_follows true half earlier line said turn before follows is =
    bind_gives (TurnFollows earlier turn) (ask (nat_le (length line) most_bytes) Long)
    (λ _. Ok (record { half = half; event = None })) turn is (λ _ few same.
    subst (TurnFollows earlier) (same_ok (record { half = half; event = None }) turn same)
    (record { event = tt; half = before }))
said_follows false half earlier line said turn before follows is = follows is

pub turn_follows : (form : Form) (so_far : SoFar) (line : List ℕ) (turn : Turn) → HalfFollows so_far.events so_far.half
    → next_turn form so_far line ≡ Ok turn → TurnFollows so_far.events turn
turn_follows form so_far line turn before said =
    let at = so_far.lines + 1 in
    said_follows (nat_lt at form.first) so_far.half so_far.events line
    (turn_of form.layout so_far.half so_far.events at line) turn before
    (λ is. turn_of_follows form.layout so_far.half so_far.events at line turn before is)
    (at_line_ok (place_of form.layout at line) (said_at form so_far.half so_far.events at line) turn
    (if_ok (nat_lt so_far.lines most_lines) _ _ turn said))

-- A line that is too long says nothing.
abbrev long_fault : SoFar → LogFault
long_fault so_far = if nat_lt so_far.lines most_lines
    then fault_in (so_far.lines + 1) Long else fault_in so_far.lines Many

turn_of_long : (layout : LogLayout) (half : Option Half) (earlier : List Event) (at : ℕ) (line : List ℕ)
    → most_bytes < length line → turn_of layout half earlier at line ≡ Err Long
unfolding event_in stamp_in numbered_in
turn_of_long Lines None earlier at line long = rw (lt-leb (length line) most_bytes long) refl
turn_of_long Shiviz None earlier at line long = rw (lt-leb (length line) most_bytes long) refl
turn_of_long ShivizReversed None earlier at line long = rw (lt-leb (length line) most_bytes long) refl
turn_of_long Numbered None earlier at line long = rw (lt-leb (length line) most_bytes long) refl
turn_of_long layout (Some (stamped stamp)) earlier at line long = rw (lt-leb (length line) most_bytes long) refl
turn_of_long layout (Some (texted first text)) earlier at line long = rw (lt-leb (length line) most_bytes long) refl

said_of_long : (form : Form) (half : Option Half) (earlier : List Event) (at : ℕ) (line : List ℕ) (is_before : Bool)
    → most_bytes < length line
    → cond is_before (passed half line) (turn_of form.layout half earlier at line) ≡ Err Long
said_of_long form half earlier at line true long = rw (lt-leb (length line) most_bytes long) refl
said_of_long form half earlier at line false long = turn_of_long form.layout half earlier at line long

-- A line that is too long speaks of itself.
place_of_long : (layout : LogLayout) (at : ℕ) (line : List ℕ) → most_bytes < length line → place_of layout at line ≡ at
unfolding numbered_in
place_of_long Lines at line long = refl
place_of_long Shiviz at line long = refl
place_of_long ShivizReversed at line long = refl
place_of_long Numbered at line long = rw (lt-leb (length line) most_bytes long) refl

long_judged : (few : Bool) (lines place : ℕ) (r : Result Turn LogFaultKind) → r ≡ Err Long → place ≡ lines + 1
    → cond few (at_line place r) (Err (fault_in lines Many))
    ≡ Err (cond few (fault_in (lines + 1) Long) (fault_in lines Many))
long_judged true lines place r is at = rw (is, at) refl
long_judged false lines place r is at = refl

pub next_of_long : (form : Form) (so_far : SoFar) (line : List ℕ) → most_bytes < length line
    → next_turn form so_far line ≡ Err (long_fault so_far)
next_of_long form so_far line long =
    let at = so_far.lines + 1 in
    long_judged (nat_lt so_far.lines most_lines) so_far.lines (place_of form.layout at line)
    (said_at form so_far.half so_far.events at line)
    (said_of_long form so_far.half so_far.events at line (nat_lt at form.first) long)
    (place_of_long form.layout at line long)
