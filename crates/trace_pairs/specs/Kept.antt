-- What is kept of a host's events for hosts that have logged nothing yet.
use Rattle.std.specs.Prelude.{◌≡◌, ◌≤◌, ◌||◌, ℕ, Bool, true, false, List, [], ◌∷◌, ◌++◌, map, Option, Some, None}
use Rattle.std.specs.Prelude.{option_map}
use Rattle.std.specs.Prelude.{if◌then◌else◌, string_bytes, Contains, All}
use Rattle.std.specs.Option.{option_to_list}
use Rattle.trace_log.specs.Event.{Event}
use Rattle.trace_log.specs.Log.{Logged}
use Rattle.trace_log.specs.Order.{last_clock}
use Rattle.trace_log.specs.Seen.{seen_clock}
use Rattle.trace_moment.specs.Moment.{Taken, own, events_of, IsLater}
use Rattle.trace_condition.specs.Asked.{Text}
use Rattle.trace_pairs.specs.declared.kept_taken.KeptTaken.{KeptTaken}
use Rattle.trace_pairs.specs.declared.kept.HostEvents.{HostEvents}
use Rattle.trace_pairs.specs.Thinned.{Thins, AreInTurn}

-- An event of a host that is kept.
abbrev pub seen_taken : Text → KeptTaken → Taken
seen_taken host one = record {
  logged = record {
    line = one.line;
    event = record { host = host; clock = seen_clock one.clock.items; text = string_bytes one.text };
  };
  holds = one.holds;
}

-- The events that wait, the last one, and whether the condition held at the one before it.
pub record KeptEvents : Type 0 where
  pub waiting : List Taken
  pub last : Option Taken
  pub is_behind : Bool

abbrev pub seen_events : Text → HostEvents → KeptEvents
seen_events host kept = record {
  waiting = map (seen_taken host) kept.waiting.items;
  last = option_map (seen_taken host) kept.last;
  is_behind = kept.is_behind;
}

-- Nothing is kept.
abbrev pub no_events : KeptEvents
no_events = record { waiting = []; last = None; is_behind = false }

abbrev pub all_kept : KeptEvents → List Taken
all_kept kept = kept.waiting ++ option_to_list kept.last

-- What is kept with one event more: the last one before it goes, if the condition doesn't hold at it, nor right before.
abbrev pub with_after : KeptEvents → Option Taken → Taken → KeptEvents
with_after kept None next = record { waiting = kept.waiting; last = Some next; is_behind = kept.is_behind }
with_after kept (Some last) next = record {
  waiting = if last.holds || kept.is_behind then kept.waiting ++ last ∷ [] else kept.waiting;
  last = Some next;
  is_behind = last.holds;
}

abbrev pub with_next : KeptEvents → Taken → KeptEvents
with_next kept next = with_after kept kept.last next

-- An event that is kept ends the state of an event as early as any that was taken.
pub record HasEnd (kept full : List Taken) (event : Event) : Type 0 where
  pub ending : Taken
  pub later : IsLater kept event ending
  pub first : (other : Taken) → IsLater full event other → own ending.logged.event ≤ own other.logged.event

-- This is kept of a host's events.
pub record KeepsEvents (host : Text) (full : List Taken) (kept : KeptEvents) : Type 0 where
  pub of_host : (one : Taken) → Contains full one → one.logged.event.host ≡ host
  pub thins : Thins (all_kept kept) full
  pub in_turn : AreInTurn (all_kept kept)
  pub ended : (logged : Logged) → Contains kept.waiting (record { logged = logged; holds = true }) →
      HasEnd (all_kept kept) full logged.event
  pub idle : kept.is_behind ≡ false → (logged : Logged) →
      Contains kept.waiting (record { logged = logged; holds = true }) → HasEnd kept.waiting full logged.event
  pub newest : (one : Taken) → kept.last ≡ Some one → last_clock host (events_of full) ≡ one.logged.event.clock
  pub none : kept.last ≡ None → kept.waiting ≡ []
