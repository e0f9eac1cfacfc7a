use Rattle.std.specs.Prelude.{◌≡◌, ◌==◌, ◌<◌, ◌≤◌, ℕ, Bool, List, if◌then◌else◌, All, take, drop}
use Rattle.wcp_clock.specs.Limits.{most_processes}
use Rattle.wcp_clock.specs.declared.note.Item.{Item}
use Rattle.wcp_clock.specs.declared.note.Note.{Note}
use Rattle.wcp_clock.specs.declared.note.Note.TheVariants.{Snap, Close, Lost}
use Rattle.wcp_c.specs.declared.note.WcpNote.{WcpNote}

-- The first word of a note in a caller's memory.
abbrev pub note_magic : ℕ
note_magic = 1464028722

-- The note, by its kind: 1 says a snapshot, 2 a close mark, and 3 the mark of a lost process.
abbrev pub note_by : ℕ → ℕ → List ℕ → Note
note_by kind number clock =
    if kind == 1 then Snap number clock else if kind == 2 then Close number else Lost number

-- The note and its process.
abbrev pub item_of : WcpNote → Item
item_of note = record { from = note.process; note = note_by note.kind note.number (take note.processes note.clock) }

-- Whether the note says that its process has a condition.
abbrev pub says_watched : WcpNote → Bool
says_watched note = note.watched == 1

-- The memory holds a note of a process; but for a snapshot it has no clock.
pub record HoldsNote (note : WcpNote) : Type 0 where
  pub magic : note.magic ≡ note_magic
  pub few : note.processes ≤ most_processes
  pub process : note.process < note.processes
  pub some_kind : 1 ≤ note.kind
  pub kind : note.kind ≤ 3
  pub watched : note.watched ≤ 1
  pub behind : All (λ count. count ≡ 0) (drop (if note.kind == 1 then note.processes else 0) note.clock)
