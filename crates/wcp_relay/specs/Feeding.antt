-- What a relay takes from.
use Rattle.std.specs.Prelude.{◌≡◌, ◌≢◌, ◌==◌, ◌≤◌, ℕ, Bool, true, false, List, [], ◌∷◌, ◌++◌, if◌then◌else◌, Option}
use Rattle.std.specs.Prelude.{None, Some, length, map, All, AllPairs}
use Rattle.std.specs.List.{list_any}
use Rattle.std.specs.FinSet as set
use Rattle.std.proofs.Props.{props}
use Rattle.wcp_clock.specs.declared.note.Item.{Item}
use Rattle.wcp_clock.specs.declared.note.Note.{Note}
use Rattle.wcp_model.specs.LaneRule.{IsNext, AreInSequence, items_from}
use Rattle.wcp_lane.specs.Passes.{Numbers}
use Rattle.wcp_clock.specs.Limits.{most_events}
use Rattle.wcp_clock.specs.Notes.{place_of, is_last, is_lost, is_snapshot}
use Rattle.wcp_clock.specs.declared.note.Note.TheVariants.{Lost}
use Rattle.wcp_relay.specs.declared.feed.Feed.{Feed}
use Rattle.wcp_relay.specs.declared.source.Source.{Source}
use Rattle.wcp_relay.specs.declared.source.Source.TheVariants.{Leaf, Inner}

-- A note is the next one after these of its process.
abbrev pub IsNextAfterNotes : List Note → Note → Type 0
IsNextAfterNotes before note = IsNext place_of is_last before note

-- A note may come out of a ring: it is no mark that its process was lost, which a leaf alone makes, and a snapshot's
-- number is that of an interval.
pub record MayComeFromRing (note : Note) : Type 0 where
  pub not_lost : is_lost note ≡ false
  pub numbered : is_snapshot note ≡ true → place_of note ≤ most_events

-- These notes came out of a ring: each may come out of one, but for the last where a gap was met there.
abbrev pub CameFromRing : Bool → List Note → Type 0
CameFromRing false notes = All MayComeFromRing notes
CameFromRing true notes =
    (before : List Note) × (note : Note) × (notes ≡ before ++ note ∷ []) × All MayComeFromRing before

-- A gap was met of this process.
abbrev pub is_gap_of : Option ℕ → ℕ → Bool
is_gap_of None p = false
is_gap_of (Some gap) p = gap == p

-- What feeds took came out of their rings, where a gap was met of this process, or of none.
abbrev pub AreFromRings : Option ℕ → List Feed → Type 0
AreFromRings gap feeds = All (λ feed. CameFromRing (is_gap_of gap feed.process) feed.taker.taken) feeds

-- A note of a ring is the next one after the notes of its process that were taken before.
pub record IsNextOfProcess (before : List Note) (note : Note) : Type 0 where
  pub next : IsNextAfterNotes before note
  pub may_come : MayComeFromRing note

-- The mark that a process was lost, of which so many snapshots were taken.
abbrev pub mark_of_lost : Bool → ℕ → List Note
mark_of_lost true count = Lost count ∷ []
mark_of_lost false count = []

-- The notes that a feed gave: those that it took of the ring and, where the process was lost, the one mark of that,
-- which counts them.
abbrev pub given_by : Feed → List Note
given_by feed = feed.taker.taken ++ mark_of_lost feed.lost (length feed.taker.taken)

-- The last of these items is a last one.
abbrev pub IsEnded : {I : Type 0} → (I → Bool) → List I → Type 0
IsEnded {I} is_last items = (before : List I) × (item : I) × (items ≡ before ++ item ∷ []) × (is_last item ≡ true)

-- The last of these items has a last note.
abbrev pub EndsWithLast : List Item → Type 0
EndsWithLast items = IsEnded (λ (item : Item). is_last item.note) items

-- The notes that a feed gave are a run, those that it took may come out of a ring, it counts the snapshots among them,
-- and it knows whether a last one came.
pub record IsInOrder (feed : Feed) : Type 0 where
  pub run : AreInSequence place_of is_last (given_by feed)
  pub from_ring : CameFromRing false feed.taker.taken
  pub counted : feed.ended ≡ false → (feed.lost ≡ false)
      × (feed.next ≡ length feed.taker.taken) × All (λ note. is_last note ≡ false) feed.taker.taken
  pub ended : feed.ended ≡ true → IsEnded is_last (given_by feed)

-- The processes of these feeds.
abbrev pub processes_of : List Feed → List ℕ
processes_of feeds = map (λ feed. feed.process) feeds

-- Nothing was taken by this feed.
abbrev pub IsNewFeed : Feed → Type 0
IsNewFeed feed = (feed.next ≡ 0) × (feed.ended ≡ false) × (feed.lost ≡ false) × (length feed.taker.taken ≡ 0)

-- A relay serves the processes of a set: a leaf by one new feed for each of them, and any other relay by a lane of
-- processes of the set, from which nothing was taken.
abbrev pub Serves : Source → Numbers → Type 0
Serves (Leaf feeds sleeper) members =
    All IsNewFeed feeds.items
    × AllPairs (λ p q. p ≢ q) (processes_of feeds.items)
    × ((p : ℕ) → set.contains members p ≡ list_any (λ q. q == p) (processes_of feeds.items))
Serves (Inner taker) members =
    (length taker.taken ≡ 0) × ((p : ℕ) → set.contains taker.members p ≡ true → set.contains members p ≡ true)

pub Serves-prop : (source : Source) (members : Numbers) → IsProp (Serves source members)
Serves-prop (Leaf feeds sleeper) members = hlevel props
Serves-prop (Inner taker) members = hlevel props

-- The notes of process p as items.
abbrev pub items_by : ℕ → List Note → List Item
items_by p notes = map (λ note. record { from = p; note = note }) notes

-- The items of process p among these.
abbrev pub items_of : ℕ → List Item → List Item
items_of p items = items_from (λ item. item.from) p items

-- The items of process p that its feed gave.
abbrev pub fed : List Feed → ℕ → List Item
fed [] p = []
fed (feed ∷ feeds) p = if feed.process == p then items_by p (given_by feed) else fed feeds p

-- The items of process p that a relay took; of a leaf also the mark that it made where p was lost.
abbrev pub source_taken : Source → ℕ → List Item
source_taken (Leaf feeds sleeper) p = fed feeds.items p
source_taken (Inner taker) p = items_of p taker.taken
