-- The hosts of a log, each with the clock of its last event. A host's number is its place among them.
use Rattle.std.specs.Prelude.{◌≡◌, ℕ, ◌<◌, suc, List, [], ◌∷◌, length, slice_index_or}
use Rattle.std.specs.Prelude.{Option, Some, None, option_map, if◌then◌else◌, Result, Ok, false}
use Rattle.std.specs.Str.{bytes_eq}
use Rattle.trace_log.specs.Clock.{Member, number_of}
use Rattle.trace_log.specs.Event.{Event}
use Rattle.trace_log.specs.declared.fault.LogFaultKind.{LogFaultKind}
use Rattle.trace_log.specs.Order.{last_clock, falls, is_in_cycle}

-- A host, and the clock of its last event.
pub record Host : Type 0 where
  pub name : List ℕ
  pub clock : List Member

-- The host with a number.
abbrev pub host_at : List Host → ℕ → Host
host_at hosts number = slice_index_or hosts number (record { name = []; clock = [] })

-- The number of the host with a name, if there is one.
abbrev pub number_among : List ℕ → List Host → Option ℕ
number_among name [] = None
number_among name (host ∷ hosts) =
    if bytes_eq host.name name then Some 0 else option_map (λ number. suc number) (number_among name hosts)

-- Each host has its place as its number: no two have one name.
abbrev pub AreNumbered : List Host → Type 0
AreNumbered hosts = (place : ℕ) → place < length hosts → number_among (host_at hosts place).name hosts ≡ Some place

-- The clock of the host with a name, and an empty one where there's none.
abbrev pub clock_among : List ℕ → List Host → List Member
clock_among name [] = []
clock_among name (host ∷ hosts) = if bytes_eq host.name name then host.clock else clock_among name hosts

-- Each host has the clock of its last event.
abbrev pub KeepsLast : List Host → List Event → Type 0
KeepsLast hosts events = (name : List ℕ) → clock_among name hosts ≡ last_clock name events

-- A host has this name and this clock now, and the other ones are as before.
pub record KeepsClock (old : List Host) (name : List ℕ) (clock : List Member) (number : ℕ) (new : List Host) : Type 0
  where
    pub named : (host_at new number).name ≡ name
    pub numbered : (host_at new number).clock ≡ clock
    pub among : (other : List ℕ) → clock_among other new ≡
        (if bytes_eq name other then clock else clock_among other old)

-- What is spelled is a clock that may follow the one of the host with this name.
pub record SpellsNext (hosts : List Host) (name : List ℕ) (spelled : Result (List Member) LogFaultKind)
    (clock : List Member) : Type 0 where
  pub is : spelled ≡ Ok clock
  pub rises : number_of name (clock_among name hosts) < number_of name clock
  pub none_falls : falls (clock_among name hosts) clock ≡ false
  pub in_no_cycle : is_in_cycle (λ other. clock_among other hosts) name clock ≡ false
