-- What a process of a watch recorded.
use Rattle.std.specs.Prelude.{◌≡◌, ◌≤◌, ◌<◌, ℕ, ◌+◌, ◌-◌, ◌++◌, ◌∷◌, [], List, length, drop, nat_lt}
use Rattle.std.specs.Prelude.{slice_index, slice_index_or, if◌then◌else◌}
use Rattle.wullaphi_record.specs.declared.fault.RecordFault.{RecordFault}
use Rattle.wullaphi_record.specs.declared.fault.RecordFault.TheVariants as fault

-- An event: the vector clock that its process had, and the text.
pub record Recorded : Type 0 where
  pub clock : List ℕ
  pub text : List ℕ

abbrev pub nothing : Recorded
nothing = record { clock = []; text = [] }

-- A record of a process: its number, its name in the log, the most events that are kept, how many of the first events
-- are gone, and the others.
pub record Recording : Type 0 where
  pub process : ℕ
  pub name : List ℕ
  pub most : ℕ
  pub passed : ℕ
  pub events : List Recorded

-- The event at a place.
abbrev pub recorded_at : List Recorded → ℕ → Recorded
recorded_at events i = slice_index_or events i nothing

-- What a clock counts of a process.
abbrev pub counted : ℕ → Recorded → ℕ
counted process one = slice_index one.clock process

-- No component of a clock falls.
abbrev pub NoneFalls : List ℕ → List ℕ → Type 0
NoneFalls earlier later = (process : ℕ) → slice_index earlier process ≤ slice_index later process

-- Along a record no component falls.
abbrev pub AreInOrder : List Recorded → Type 0
AreInOrder events = (i j : ℕ) → i ≤ j → j < length events →
    NoneFalls (recorded_at events i).clock (recorded_at events j).clock

-- The most bytes of a text.
abbrev pub most_text : ℕ
most_text = 4096

-- The most events of a process.
abbrev pub most_recorded : ℕ
most_recorded = 4294967294

-- What is so of each record.
pub record IsKept (recording : Recording) : Type 0 where
  pub in_order : AreInOrder recording.events
  pub within : recording.passed + length recording.events ≤ most_recorded

-- A record with one event more: where it has as many as are kept, its first one goes.
abbrev pub with_event : Recording → Recorded → Recording
with_event recording one =
    if nat_lt (length recording.events) recording.most then record recording { events = recording.events ++ one ∷ [] }
    else record recording { passed = recording.passed + 1; events = drop 1 recording.events ++ one ∷ [] }

-- The clock of the last event, and an empty one before the first.
abbrev pub last_clock : List Recorded → List ℕ
last_clock events = (recorded_at events (length events - 1)).clock

-- As many events as there can be places.
abbrev pub most_kept : ℕ
most_kept = 18446744073709551615

-- A record of a process before its first event.
abbrev pub begun : ℕ → List ℕ → ℕ → Recording
begun process name most = record { process = process; name = name; most = most; passed = 0; events = [] }

-- An event may be added where it is of the record's process, its clock follows that of the last event, its text is
-- short, and there is a number for it. Else the first of these that doesn't hold is the reason.
pub record Follows (recording : Recording) (process : ℕ) (clock : List ℕ) : Type 0 where
  pub process_is : process ≡ recording.process
  pub none_falls : NoneFalls (last_clock recording.events) clock

abbrev pub IsShort : List ℕ → Type 0
IsShort text = length text ≤ most_text

abbrev pub HasNumber : Recording → Type 0
HasNumber recording = recording.passed + length recording.events < most_recorded

pub record MayAdd (recording : Recording) (process : ℕ) (clock text : List ℕ) : Type 0 where
  pub follows : Follows recording process clock
  pub short : IsShort text
  pub number : HasNumber recording

abbrev pub IsRefused : Recording → ℕ → List ℕ → List ℕ → RecordFault → Type 0
IsRefused recording process clock text fault.OtherProbe = (Follows recording process clock → ⊥)
IsRefused recording process clock text fault.Long = Follows recording process clock × (IsShort text → ⊥)
IsRefused recording process clock text fault.Full =
    Follows recording process clock × (IsShort text × (HasNumber recording → ⊥))
IsRefused recording process clock text fault.Twice = ⊥
IsRefused recording process clock text fault.Memory = MayAdd recording process clock text
