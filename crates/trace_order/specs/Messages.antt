-- The events of a log without clocks, and which of them happened before which.
use Rattle.std.specs.Prelude.{◌≡◌, ℕ, ◌<◌, Bool, true, List, Contains}
use Rattle.std.specs.List.{list_any}
use Rattle.std.specs.Str.{bytes_eq}

-- What a line says: the name of a host, the text of an event of it, the ids that the event receives and those that it
-- sends.
pub record Words : Type 0 where
  pub host : List ℕ
  pub text : List ℕ
  pub receives : List (List ℕ)
  pub sends : List (List ℕ)

-- An event of a log: its line, the number of its host, its text, the ids that it receives and those that it sends.
pub record MessageEvent : Type 0 where
  pub line : ℕ
  pub host : ℕ
  pub text : List ℕ
  pub receives : List (List ℕ)
  pub sends : List (List ℕ)

-- Whether an id is among these.
abbrev pub is_among : List ℕ → List (List ℕ) → Bool
is_among id ids = list_any (λ other. bytes_eq other id) ids

-- An event sends an id.
abbrev pub Sends : MessageEvent → List ℕ → Type 0
Sends event id = is_among id event.sends ≡ true

-- An event receives an id.
abbrev pub Receives : MessageEvent → List ℕ → Type 0
Receives event id = is_among id event.receives ≡ true

-- One event follows another of its host.
pub record IsNext (log : List MessageEvent) (e f : MessageEvent) : Type 0 where
  pub first : Contains log e
  pub second : Contains log f
  pub host : e.host ≡ f.host
  pub behind : e.line < f.line

-- One event sends an id that another receives.
pub record IsMessage (log : List MessageEvent) (e f : MessageEvent) : Type 0 where
  pub first : Contains log e
  pub second : Contains log f
  pub id : List ℕ
  pub sent : Sends e id
  pub received : Receives f id

-- An event happened before another one of the log (Lamport 1978).
pub data HappensBefore (log : List MessageEvent) : MessageEvent → MessageEvent → Type 0 where
  next : {e f : MessageEvent} → IsNext log e f → HappensBefore log e f
  message : {e f : MessageEvent} → IsMessage log e f → HappensBefore log e f
  through : {e f g : MessageEvent} → HappensBefore log e f → HappensBefore log f g → HappensBefore log e g
