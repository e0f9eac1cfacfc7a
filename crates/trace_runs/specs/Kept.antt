-- What a search keeps of the runs of the watched hosts: of the event that a run begins with its line, its text and its
-- number, and of the clock of the one that ends it the numbers of the watched hosts alone.
use Rattle.std.specs.Prelude.{◌≡◌, ◌≢◌, ◌<◌, ◌⊎◌, ℕ, Bool, true, false, List, [], ◌∷◌, ◌++◌, length, map, slice_index}
use Rattle.std.specs.Prelude.{slice_index_or, nat_le, Option, Some, None, is_some, option_map, IfSome, drop}
use Rattle.std.specs.Prelude.{if◌then◌else◌}
use Rattle.std.specs.Option.{option_to_list}
use Rattle.trace_log.specs.Clock.{number_of}
use Rattle.trace_log.specs.Log.{Logged}
use Rattle.trace_moment.specs.declared.watched.Lasting.{Lasting}
use Rattle.trace_moment.specs.declared.watched.Lasting.TheVariants.{While}
use Rattle.trace_moment.specs.Moment.{HostWatch, own}
use Rattle.trace_moment.specs.Kept.{numbers_in}
use Rattle.trace_definitely.specs.Logs.{LogRun}

-- A run of a host that is over.
pub record OverRun : Type 0 where
  pub begin : Logged
  pub over : Logged

abbrev pub over_run : OverRun → LogRun
over_run one = record { begin = one.begin; over = Some one.over }

abbrev pub ongoing_run : Logged → LogRun
ongoing_run begin = record { begin = begin; over = None }

-- The runs of a host: those that are over, and the one that isn't.
abbrev pub runs_of : List OverRun → Option Logged → List LogRun
runs_of over ongoing = map over_run over ++ map ongoing_run (option_to_list ongoing)

-- What is kept of the event that a run begins with, by its number.
pub record KeptBegin : Type 0 where
  pub line : ℕ
  pub text : List ℕ
  pub number : ℕ

abbrev pub begin_with : Logged → ℕ → KeptBegin
begin_with logged number = record { line = logged.line; text = logged.event.text; number = number }

abbrev pub kept_begin : Logged → KeptBegin
kept_begin logged = begin_with logged (own logged.event)

-- What is kept of a run that is over: the line and the numbers are those of the event that ends it.
pub record KeptOver : Type 0 where
  pub begin : KeptBegin
  pub line : ℕ
  pub numbers : List ℕ

abbrev pub kept_over : List HostWatch → OverRun → KeptOver
kept_over watched one = record {
  begin = kept_begin one.begin;
  line = one.over.line;
  numbers = numbers_in watched one.over.event.clock;
}

-- What is kept of a watched host: its runs, and the numbers of its last event.
pub record KeptRuns : Type 0 where
  pub host : List ℕ
  pub lasting : Lasting
  pub over : List KeptOver
  pub ongoing : Option KeptBegin
  pub latest : List ℕ

-- Of a host without an event.
abbrev pub none_kept : List ℕ → Lasting → List ℕ → KeptRuns
none_kept host lasting latest =
    record { host = host; lasting = lasting; over = []; ongoing = None; latest = latest }

abbrev pub kept_at : List KeptRuns → ℕ → KeptRuns
kept_at kept p = slice_index_or kept p (none_kept [] While [])

-- The watched hosts.
abbrev pub watch_kept : KeptRuns → HostWatch
watch_kept one = record { host = one.host; lasting = one.lasting }

abbrev pub watched_in : List KeptRuns → List HostWatch
watched_in kept = map watch_kept kept

-- With what a host's first run begins, and the numbers of the event at which it is over.
abbrev pub begin_among : List KeptOver → Option KeptBegin → Option KeptBegin
begin_among [] ongoing = ongoing
begin_among (one ∷ others) ongoing = Some one.begin

abbrev pub first_begin : KeptRuns → Option KeptBegin
first_begin one = begin_among one.over one.ongoing

abbrev pub end_among : List KeptOver → Option (List ℕ)
end_among [] = None
end_among (one ∷ others) = Some one.numbers

abbrev pub first_end : KeptRuns → Option (List ℕ)
first_end one = end_among one.over

-- The beginning of a host's first run, if there is one, is counted by a clock with this number of the host.
abbrev pub is_counted : Option KeptBegin → ℕ → Bool
is_counted None number = true
is_counted (Some begin) number = nat_le begin.number number

-- These numbers of an event of the host at a place count the beginnings of all other first runs, or miss one.
abbrev pub CountAll : List ℕ → ℕ → List KeptRuns → Type 0
CountAll numbers q kept = (p : ℕ) → p < length kept → p ≢ q →
    is_counted (first_begin (kept_at kept p)) (slice_index numbers p) ≡ true

abbrev pub MissOne : List ℕ → ℕ → List KeptRuns → Type 0
MissOne numbers q kept = (p : ℕ) × (p < length kept) × (p ≢ q)
    × (is_counted (first_begin (kept_at kept p)) (slice_index numbers p) ≡ false)

-- The first run of q isn't over, or the event that ends it counts the beginning of the first run of p, if there is one;
-- or it is over too early.
abbrev pub IsSettled : List KeptRuns → ℕ → ℕ → Type 0
IsSettled kept q p = IfSome (first_end (kept_at kept q)) (λ numbers.
    is_counted (first_begin (kept_at kept p)) (slice_index numbers p) ≡ true)

abbrev pub IsPassedBy : List KeptRuns → ℕ → ℕ → Type 0
IsPassedBy kept q p = (numbers : List ℕ) × (first_end (kept_at kept q) ≡ Some numbers)
    × (is_counted (first_begin (kept_at kept p)) (slice_index numbers p) ≡ false)

-- The first run of a host is over too early for another one.
abbrev pub IsPassed : ℕ → List KeptRuns → Type 0
IsPassed q kept = (p : ℕ) × (p < length kept) × (p ≢ q) × IsPassedBy kept q p

-- No first run is, but for those of the host at a place with the others.
abbrev pub NoneIsPassed : List KeptRuns → Type 0
NoneIsPassed kept = (q p : ℕ) → q < length kept → p < length kept → p ≢ q → IsSettled kept q p

abbrev pub NoneIsPassedBut : ℕ → List KeptRuns → Type 0
NoneIsPassedBut place kept = (q p : ℕ) → q < length kept → p < length kept → p ≢ q → q ≢ place → p ≢ place →
    IsSettled kept q p

-- Neither that of a host for another one, nor that of another one for it.
abbrev pub IsSettledWith : ℕ → List KeptRuns → Type 0
IsSettledWith host kept = (p : ℕ) → p < length kept → p ≢ host → IsSettled kept host p × IsSettled kept p host

-- A host has a first run; while it goes on, the host's last event counts the beginnings of all other first runs.
pub record StandsAt (kept : List KeptRuns) (q : ℕ) : Type 0 where
  pub begun : is_some (first_begin (kept_at kept q)) ≡ true
  pub counts : first_end (kept_at kept q) ≡ None → CountAll (kept_at kept q).latest q kept

abbrev pub FailsAt : List KeptRuns → ℕ → Type 0
FailsAt kept q = (first_begin (kept_at kept q) ≡ None)
    ⊎ ((first_end (kept_at kept q) ≡ None) × MissOne (kept_at kept q).latest q kept)

abbrev pub AllStand : List KeptRuns → Type 0
AllStand kept = (q : ℕ) → q < length kept → StandsAt kept q

abbrev pub OneFails : List KeptRuns → Type 0
OneFails kept = (q : ℕ) × (q < length kept) × FailsAt kept q

-- Each host has a first run, or one has none.
abbrev pub HaveFirsts : List KeptRuns → Type 0
HaveFirsts kept = (q : ℕ) → q < length kept → is_some (first_begin (kept_at kept q)) ≡ true

abbrev pub OneHasNone : List KeptRuns → Type 0
OneHasNone kept = (q : ℕ) × (q < length kept) × (is_some (first_begin (kept_at kept q)) ≡ false)

abbrev pub HaveFirstsWhere : Bool → List KeptRuns → Type 0
HaveFirstsWhere known kept = known ≡ true → HaveFirsts kept

-- The host's next event, at which its condition holds or not: the run that goes on goes on, or is over at it; where
-- none goes on, one begins.
abbrev pub ended_with : ℕ → List ℕ → Bool → Option KeptBegin → List KeptOver
ended_with line numbers holds None = []
ended_with line numbers holds (Some begin) =
    if holds then [] else record { begin = begin; line = line; numbers = numbers } ∷ []

abbrev pub going_on_with : KeptBegin → Bool → Option KeptBegin → Option KeptBegin
going_on_with begin holds None = if holds then Some begin else None
going_on_with begin holds (Some before) = if holds then Some before else None

abbrev pub with_next : KeptRuns → Logged → List ℕ → Bool → KeptRuns
with_next one logged numbers holds = record {
  host = one.host;
  lasting = one.lasting;
  over = one.over ++ ended_with logged.line numbers holds one.ongoing;
  ongoing = going_on_with (begin_with logged (number_of one.host logged.event.clock)) holds one.ongoing;
  latest = numbers;
}

-- It changes nothing of the first run but how far it goes.
pub record IsSameFirst (one other : KeptRuns) : Type 0 where
  pub begin : first_begin other ≡ first_begin one
  pub end : first_end other ≡ first_end one

-- Without the first run, which is over.
abbrev pub without_first : KeptRuns → KeptRuns
without_first one = record one { over = drop 1 one.over }

-- A run as it is told: the line and the text of its first event, and the line of the one at which it is over.
pub record ToldRun : Type 0 where
  pub line : ℕ
  pub text : List ℕ
  pub over : Option ℕ

abbrev pub told_run : LogRun → ToldRun
told_run run = record {
  line = run.begin.line;
  text = run.begin.event.text;
  over = option_map (λ over. over.line) run.over;
}

-- The first run that is kept.
abbrev pub told_begin : Option KeptBegin → ToldRun
told_begin None = record { line = 0; text = []; over = None }
told_begin (Some begin) = record { line = begin.line; text = begin.text; over = None }

abbrev pub told_among : List KeptOver → Option KeptBegin → ToldRun
told_among [] ongoing = told_begin ongoing
told_among (one ∷ others) ongoing = record { line = one.begin.line; text = one.begin.text; over = Some one.line }

abbrev pub told_kept : KeptRuns → ToldRun
told_kept one = told_among one.over one.ongoing
