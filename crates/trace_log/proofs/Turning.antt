-- What a line says after the lines so far.
use Rattle.trace_log.proofs.Words.{◌≡◌, ◌∙◌, ℕ, ◌+◌, ◌<◌, List, Option, Some, None, Ok, Err, refl, lt-ltb, ap, sym}
use Rattle.trace_log.proofs.Words.{subst, option_map}
use Rattle.std.specs.Option.{is_some}
use Rattle.std.specs.Prelude.{nat_lt, false, suc, Result, ◌≤◌}
use Rattle.std.proofs.Common.{arith}
use Rattle.std.proofs.lemmas.Bool.{lt-leb}
use Rattle.trace_log.specs.declared.turn.Kept.{Kept}
use Rattle.trace_log.proofs.Words.{Event, Has, Memory, LineFault, KeepsLast}
use Rattle.trace_log.specs.declared.log.Log.{Log}
use Rattle.trace_log.specs.declared.turn.Form.{Form}
use Rattle.trace_log.specs.declared.turn.Turned.{Turned}
use Rattle.trace_log.specs.Log.{Half, SoFar, Turn, most_lines}
use Rattle.trace_log.specs.State.{HasRead, IsTurn, last_event}
use Rattle.trace_log.specs.Turns.{seen_halves, seen_ended, with_half, IsTurnAt, IsTurnOf}

abbrev pub half_turn : Half → Turn
half_turn half = record { half = Some half; event = None }

abbrev pub event_turn : ℕ → Event → Turn
event_turn line event = record { half = None; event = Some (record { line = line; event = event }) }

-- What is kept, by the half that a log says that waits.
pub keeps_half : (form : Form) (so_far : SoFar) (log : Log) → HasRead form so_far log
    → KeepsLast log.kept.hosts (with_half so_far.events (seen_halves log.kept log.half))
keeps_half form so_far log read =
    subst (λ half. KeepsLast log.kept.hosts (with_half so_far.events half)) (sym read.waits) read.keeps

not_before : (at first : ℕ) → first ≤ at → nat_lt at first ≡ false
not_before at first behind = lt-leb (suc at) first (omega arith)

-- A line that is read.
pub read_at : (form : Form) (waits : Option Half) (earlier : List Event) (at : ℕ) (line : List ℕ)
    (result : Result Turned LineFault) (kept : Kept) → form.first ≤ at
    → IsTurnOf form.layout waits earlier at line result kept → IsTurnAt form waits earlier at line result kept
read_at form waits earlier at line (Ok turned) kept behind is = (rw (not_before at form.first behind) is.0, is.1)
read_at form waits earlier at line (Err (Has kind)) kept behind is = rw (not_before at form.first behind) is
read_at form waits earlier at line (Err Memory) kept behind is = tt

-- A log that has read a line more.
pub reads_turn : (form : Form) (so_far : SoFar) (old new : Log) (line : List ℕ) (turned : Turned)
    → HasRead form so_far old → old.lines < most_lines
    → IsTurnAt old.form (seen_halves old.kept old.half) so_far.events (old.lines + 1) line (Ok turned) new.kept
    → new.form ≡ old.form → new.lines ≡ old.lines + 1 → new.half ≡ turned.half → new.ended ≡ turned.ended
    → IsTurn form so_far line (last_event new) new
reads_turn form so_far old new line turned read few is same_form one_more same_half same_end = record {
  turn = record { half = seen_halves new.kept turned.half; event = option_map (seen_ended new.kept) turned.ended };
  said = rw (← read.form_is, ← read.lines, ← read.waits, lt-ltb old.lines most_lines few, is.0) refl;
  event = ap (λ ended. option_map (seen_ended new.kept) ended) same_end;
  read = record {
    form_is = same_form ∙ read.form_is;
    lines = one_more ∙ ap (λ n. n + 1) read.lines;
    waits = ap (seen_halves new.kept) same_half;
    keeps = is.1;
  };
}

pub is_some-map : {A B : Type 0} (f : A → B) (o : Option A) → is_some o ≡ is_some (option_map f o)
is_some-map f None = refl
is_some-map f (Some a) = refl
