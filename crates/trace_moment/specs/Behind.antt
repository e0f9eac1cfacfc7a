-- What lies behind a moment.
use Rattle.std.specs.Prelude.{ℕ, suc, ◌<◌, ◌&&◌, ◌||◌, not, nat_le, Bool, false, List, [], ◌∷◌}
use Rattle.std.specs.Prelude.{◌≡◌, length, map, true, ◌↔◌, Contains, Option, Some, None}
use Rattle.std.specs.Str.{bytes_eq}
use Rattle.trace_log.specs.Event.{Event}
use Rattle.trace_log.specs.Log.{Logged}
use Rattle.trace_moment.specs.Moment.{HostWatch, Taken, watch_at, own, IsMoment}

-- An event of a watched host comes no later than that host's event of a moment: its number is no greater.
abbrev pub is_up_to : List HostWatch → (ℕ → Logged) → Event → Bool
is_up_to [] moment event = false
is_up_to (one ∷ others) moment event = (bytes_eq one.host event.host && nat_le (own event) (own (moment 0).event))
    || is_up_to others (λ p. moment (suc p)) event

-- What was taken, where the conditions no longer count up to the events of a moment: behind it they hold as before.
abbrev pub only_behind : List HostWatch → (ℕ → Logged) → Taken → Taken
only_behind watched moment one = record {
  logged = one.logged;
  holds = not (is_up_to watched moment one.logged.event) && one.holds;
}

abbrev pub behind : List HostWatch → (ℕ → Logged) → List Taken → List Taken
behind watched moment taken = map (only_behind watched moment) taken

-- A moment lies behind another one: at each host it begins later.
abbrev pub LiesBehind : List HostWatch → (ℕ → Logged) → (ℕ → Logged) → Type 0
LiesBehind watched before moment = (p : ℕ) → p < length watched → own (before p).event < own (moment p).event

-- So the moments of what is left are those that lie behind: the earliest of them comes next.
abbrev pub AreThoseBehind : List HostWatch → (ℕ → Logged) → List Taken → Type 0
AreThoseBehind watched before taken = (moment : ℕ → Logged) → IsMoment watched (behind watched before taken) moment
    ↔ (IsMoment watched taken moment × LiesBehind watched before moment)

-- What was taken, behind the last moment of several that were told one behind the other, if one was.
abbrev pub behind_last : List HostWatch → Option (ℕ → Logged) → List Taken → List Taken
behind_last watched None taken = taken
behind_last watched (Some moment) taken = behind watched moment taken

-- The events of that moment were taken.
pub record WereTaken (watched : List HostWatch) (taken : List Taken) (moment : ℕ → Logged) : Type 0 where
  pub held : (p : ℕ) → p < length watched → Contains taken (record { logged = moment p; holds = true })
  pub host : (p : ℕ) → p < length watched → (moment p).event.host ≡ (watch_at watched p).host

abbrev pub LastWasTaken : List HostWatch → Option (ℕ → Logged) → List Taken → Type 0
LastWasTaken watched None taken = Unit {0}
LastWasTaken watched (Some moment) taken = WereTaken watched taken moment
