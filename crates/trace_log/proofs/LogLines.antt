-- What more lines say after the first.
use Rattle.trace_log.proofs.EventWords.{◌≡◌, ◌∙◌, List, [], ◌∷◌, ◌++◌, Result, Ok, Err, refl, sym, ap, append_assoc, ℕ}
use Rattle.trace_log.proofs.EventWords.{LogFault, Form, ◌>>=◌, Logged, SoFar, Turn, after, next_turn, log_from}
use Rattle.trace_log.proofs.EventWords.{logged_from}
use Rattle.trace_log.proofs.EventWords.{event_and_later, option_to_list}

more_of_bind : {A B E : Type 0} (r : Result A E) (f g : A → Result B E) (y : B) (z : Result B E)
    → ((x : A) → f x ≡ Ok y → g x ≡ z) → (r >>= f) ≡ Ok y → (r >>= g) ≡ z
more_of_bind (Ok x) f g y z on said = on x said
more_of_bind (Err e) f g y z on said = cc

-- After lines that say something, more lines say what they say after it.
pub log_more : (form : Form) (first : SoFar) (lines later : List (List ℕ)) (so_far : SoFar)
    → log_from form first lines ≡ Ok so_far → log_from form first (lines ++ later) ≡ log_from form so_far later
unfolding log_from
log_more form first [] later so_far said = ap (λ s. log_from form s later) (cc)
log_more form first (line ∷ lines) later so_far said =
    more_of_bind (next_turn form first line) (λ turn. log_from form (after first turn) lines)
    (λ turn. log_from form (after first turn) (lines ++ later)) so_far (log_from form so_far later)
    (λ turn on. log_more form (after first turn) lines later so_far on) said

more_of_events : (r : Result Turn LogFault) (f : Turn → Result SoFar LogFault) (g h : Turn → List Logged)
    (so_far : SoFar) (later : List Logged) → ((turn : Turn) → f turn ≡ Ok so_far → h turn ≡ g turn ++ later)
    → (r >>= f) ≡ Ok so_far → event_and_later r h ≡ event_and_later r g ++ later
more_of_events (Ok turn) f g h so_far later on said =
    ap (λ l. option_to_list turn.event ++ l) (on turn said)
    ∙ sym (append_assoc (option_to_list turn.event) (g turn) later)
more_of_events (Err fault) f g h so_far later on said = cc

pub logged_more : (form : Form) (first : SoFar) (lines later : List (List ℕ)) (so_far : SoFar)
    → log_from form first lines ≡ Ok so_far
    → logged_from form first (lines ++ later) ≡ logged_from form first lines ++ logged_from form so_far later
unfolding log_from logged_from
logged_more form first [] later so_far said = ap (λ s. logged_from form s later) (cc)
logged_more form first (line ∷ lines) later so_far said =
    more_of_events (next_turn form first line) (λ turn. log_from form (after first turn) lines)
    (λ turn. logged_from form (after first turn) lines)
    (λ turn. logged_from form (after first turn) (lines ++ later)) so_far (logged_from form so_far later)
    (λ turn on. logged_more form (after first turn) lines later so_far on) said

-- One line alone.
pub log_line : (form : Form) (first : SoFar) (line : List ℕ) (turn : Turn) → next_turn form first line ≡ Ok turn
    → log_from form first (line ∷ []) ≡ Ok (after first turn)
unfolding log_from
log_line form first line turn said = rw said refl

pub logged_line : (form : Form) (first : SoFar) (line : List ℕ) (turn : Turn) → next_turn form first line ≡ Ok turn
    → logged_from form first (line ∷ []) ≡ option_to_list turn.event ++ []
unfolding logged_from
logged_line form first line turn said = rw said refl

pub log_stops : (form : Form) (first : SoFar) (line : List ℕ) (later : List (List ℕ)) (fault : LogFault)
    → next_turn form first line ≡ Err fault → log_from form first (line ∷ later) ≡ Err fault
unfolding log_from
log_stops form first line later fault said = rw said refl

pub logged_stops : (form : Form) (first : SoFar) (line : List ℕ) (later : List (List ℕ)) (fault : LogFault)
    → next_turn form first line ≡ Err fault → logged_from form first (line ∷ later) ≡ []
unfolding logged_from
logged_stops form first line later fault said = rw said refl
