use Rattle.std.specs.Prelude.{ℕ, Bool, true, false}
use Rattle.wcp_clock.specs.declared.note.Note.{Note}
use Rattle.wcp_clock.specs.declared.note.Note.TheVariants.{Snap, Close, Lost}

-- Whether a note is the close mark of its process.
abbrev pub is_close : Note → Bool
is_close (Snap number clock) = false
is_close (Close count) = true
is_close (Lost count) = false

-- Whether a note is the mark that the probe of its process was dropped.
abbrev pub is_lost : Note → Bool
is_lost (Snap number clock) = false
is_lost (Close count) = false
is_lost (Lost count) = true

-- Whether a note is a snapshot.
abbrev pub is_snapshot : Note → Bool
is_snapshot (Snap number clock) = true
is_snapshot (Close count) = false
is_snapshot (Lost count) = false

-- Whether a note is one that no note of its process may follow: a mark that ends them.
abbrev pub is_last : Note → Bool
is_last (Snap number clock) = false
is_last (Close count) = true
is_last (Lost count) = true

-- The place of a note among those of its process: a snapshot's number, or the count of a mark that ends them.
abbrev pub place_of : Note → ℕ
place_of (Snap number clock) = number
place_of (Close count) = count
place_of (Lost count) = count
