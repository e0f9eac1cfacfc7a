-- The log of some records is read as their events.
use Rattle.wullaphi_record.proofs.Words.{◌≡◌, ◌∙◌, ◌<◌, ◌≤◌, ℕ, suc, ◌+◌, false}
use Rattle.wullaphi_record.proofs.Words.{List, [], ◌∷◌, ◌++◌, length, map, refl, sym, ap, subst, arith, nat_lt, nat_tests}
use Rattle.wullaphi_record.proofs.Words.{append_assoc, Ok, None, lt-ltb}
use Rattle.std.specs.Prelude.{Some}
use Rattle.std.proofs.lemmas.List.{length-append, map-append}
use Rattle.trace_log.specs.declared.turn.Form.{Form}
use Rattle.trace_log.specs.declared.turn.LogLayout.TheVariants as layout
use Rattle.std.specs.Option.{option_to_list}
use Rattle.trace_log.proofs.Binds.{bind_gives, same_ok}
use Rattle.trace_log.specs.Judgement.{◌>>=◌}
use Rattle.trace_log.specs.Event.{Event}
use Rattle.trace_log.specs.Log.{Logged, SoFar, Turn, after, event_after, most_lines, next_turn, no_lines}
unfoldable use Rattle.trace_log.specs.Log.{log_from}
unfoldable use Rattle.trace_log.specs.LoggedEvents.{logged_from}
use Rattle.trace_log.specs.LoggedEvents.{event_and_later}
use Rattle.wullaphi_record.specs.Logs.{json_of, numbered}

-- Events were read.
abbrev pub state_of : List Event → SoFar
state_of events = record { lines = length events; half = None; events = events }

pub record Reads (form : Form) (events : List Event) : Type 0 where
  pub log : log_from form no_lines (map json_of events) ≡ Ok (state_of events)
  pub logged : logged_from form no_lines (map json_of events) ≡ numbered 1 events

pub record IsWhole (form : Form) : Type 0 where
  pub layout_is : form.layout ≡ layout.Lines
  pub first : form.first ≤ 1
  pub last : form.last ≡ None

log_push : (form : Form) (so_far now : SoFar) (turn : Turn) (lines : List (List ℕ)) (line : List ℕ)
    → log_from form so_far lines ≡ Ok now → next_turn form now line ≡ Ok turn
    → log_from form so_far (lines ++ line ∷ []) ≡ Ok (after now turn)
unfolding log_from
log_push form so_far now turn [] line was is =
    subst (λ s. (next_turn form s line >>= λ t. Ok (after s t)) ≡ Ok (after now turn)) (sym (same_ok so_far now was))
    (rw is refl)
log_push form so_far now turn (first ∷ lines) line was is =
    bind_gives _ (next_turn form so_far first) (λ t. log_from form (after so_far t) lines) now was (λ t said rest.
    rw said (log_push form (after so_far t) now turn lines line rest is))

logged_push : (form : Form) (so_far now : SoFar) (turn : Turn) (lines : List (List ℕ)) (line : List ℕ)
    → log_from form so_far lines ≡ Ok now → next_turn form now line ≡ Ok turn
    → logged_from form so_far (lines ++ line ∷ []) ≡ logged_from form so_far lines ++ event_and_later (Ok turn) (λ _. [])
unfolding log_from logged_from
logged_push form so_far now turn [] line was is =
    subst (λ s. event_and_later (next_turn form s line) (λ t. []) ≡ option_to_list turn.event ++ [])
    (sym (same_ok so_far now was)) (rw is refl)
logged_push form so_far now turn (first ∷ lines) line was is =
    bind_gives _ (next_turn form so_far first) (λ t. log_from form (after so_far t) lines) now was (λ t said rest.
    rw said (ap (λ l. option_to_list t.event ++ l) (logged_push form (after so_far t) now turn lines line rest is)
    ∙ sym (append_assoc (option_to_list t.event) (logged_from form (after so_far t) lines) (option_to_list turn.event ++ []))))

-- The turn of a line that says an event.
event_turn_is : (form : Form) (events : List Event) (event : Event) → IsWhole form → length events < most_lines
    → event_after events (json_of event) ≡ Ok event
    → next_turn form (state_of events) (json_of event)
    ≡ Ok (record { half = None; event = Some (record { line = length events + 1; event = event }) })
event_turn_is form events event whole few says =
    let begun : nat_lt (length events + 1) form.first ≡ false = begins (length events) form.first whole.first in
    rw (lt-ltb (length events) most_lines few, whole.layout_is, begun, says) refl
  where
    begins : (n first : ℕ) → first ≤ 1 → nat_lt (n + 1) first ≡ false
    begins n first le = grind (arith, nat_tests)

numbered_push : (at : ℕ) (events : List Event) (event : Event)
    → numbered at (events ++ event ∷ []) ≡ numbered at events ++ record { line = at + length events; event = event } ∷ []
numbered_push at [] event =
    let line : at ≡ at + 0 = omega arith in
    ap (λ (n : ℕ). record { line = n; event = event } ∷ []) line
numbered_push at (first ∷ events) event =
    let line : at + 1 + length events ≡ at + suc (length events) = omega arith in
    ap (λ (l : List Logged). record { line = at; event = first } ∷ l) (numbered_push (at + 1) events event
    ∙ ap (λ (n : ℕ). numbered (at + 1) events ++ record { line = n; event = event } ∷ []) line)

pub reads_none : (form : Form) → Reads form []
unfolding log_from logged_from
reads_none form = record { log = refl; logged = refl }

pub reads_more : (form : Form) (events : List Event) (event : Event) → IsWhole form → length events < most_lines
    → event_after events (json_of event) ≡ Ok event → Reads form events → Reads form (events ++ event ∷ [])
reads_more form events event whole few says reads =
    let turn : Turn = record { half = None; event = Some (record { line = length events + 1; event = event }) } in
    let is = event_turn_is form events event whole few says in
    let lines = map-append json_of events (event ∷ []) in
    let line : length events + 1 ≡ 1 + length events = omega arith in
    let long : length events + 1 ≡ length (events ++ event ∷ []) = omega (arith, length-append events (event ∷ [])) in
    record {
      log = ap (log_from form no_lines) lines
          ∙ log_push form no_lines (state_of events) turn (map json_of events) (json_of event) reads.log is
          ∙ ap (λ (n : ℕ). Ok (record { lines = n; half = None; events = events ++ event ∷ [] })) long;
      logged = ap (logged_from form no_lines) lines
          ∙ logged_push form no_lines (state_of events) turn (map json_of events) (json_of event) reads.log is
          ∙ ap (λ (l : List Logged). l ++ record { line = length events + 1; event = event } ∷ []) reads.logged
          ∙ ap (λ (n : ℕ). numbered 1 events ++ record { line = n; event = event } ∷ []) line
          ∙ sym (numbered_push 1 events event);
    }
