use Rattle.std.specs.Prelude.{ℕ, List}
use denote.RawPtr.{Ptr}
use Rattle.std.specs.declared.alloc.Global.{Global}
use Rattle.rtrb.specs.declared.end.End.{End}
use Rattle.rtrb.specs.declared.producer.Producer.{Producer}
use Rattle.rtrb.specs.declared.consumer.Consumer.{Consumer}
use Rattle.rtrb.specs.Ring.{sent, known_free, received, known_items}
use Rattle.wcp_clock.specs.declared.note.Note.{Note}

-- Which ring it is: where its words and its slots lie, the names of it in the logic, and whose memory it is in.
pub record Ring : Type 0 where
  pub words : Ptr
  pub slots : Ptr
  pub names : ℕ × (ℕ × ℕ)
  pub heap : Global

-- The ring of an end of `rtrb`.
abbrev pub ring_of : {T P : Type 0} → End T Global P → Ring
ring_of e = record { words = e.words; slots = e.slots; names = e.names; heap = e.heap }

-- The end that puts: its ring, all notes that were put, oldest first, and how many slots it knows to be free.
pub record PutSide : Type 0 where
  pub ring : Ring
  pub put : List Note
  pub free : ℕ

-- What is left of an end that puts no more: its ring, and all notes that were put.
pub record EndedSide : Type 0 where
  pub ring : Ring
  pub put : List Note

-- The end that takes: its ring, all notes that were taken, oldest first, and the notes that it has seen in the ring,
-- which it takes next.
pub record TakeSide : Type 0 where
  pub ring : Ring
  pub taken : List Note
  pub seen : List Note

module _ {P : Type 0} where
  -- what a producer of `rtrb` shows
  abbrev pub put_side : Producer Note Global P → PutSide
  put_side p = record { ring = ring_of p.end; put = sent p; free = known_free p }

  -- what a producer shows that puts no more
  abbrev pub ended_side : Producer Note Global P → EndedSide
  ended_side p = record { ring = ring_of p.end; put = sent p }

  -- what a consumer of `rtrb` shows
  abbrev pub take_side : Consumer Note Global P → TakeSide
  take_side c = record { ring = ring_of c.end; taken = received c; seen = known_items c }
