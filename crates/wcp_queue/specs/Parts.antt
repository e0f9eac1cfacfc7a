use Rattle.std.specs.Prelude.{◌≡◌, ℕ, ◌+◌, ◌*◌, ◌^◌, ◌≤◌, true, false, None, Option, List, All, IfSome, length, map}
use Rattle.std.specs.Prelude.{sum}
use Rattle.wcp_clock.specs.Limits.{most_processes}
use Rattle.wcp_model.specs.Watched.{AreSomeWatched}
use Rattle.wcp_queue.specs.declared.checker.parts.CheckerParts.{CheckerParts}
use Rattle.wcp_queue.specs.declared.floor.Floor.{Floor}
use Rattle.wcp_queue.specs.Checker.{CheckerState, processes, lost_of, closed_of}
use Rattle.wcp_queue.specs.Elimination.{AreStable, waiting_in, tests_each}
use Rattle.wcp_queue.specs.Floor.{HaveHeads}
use Rattle.wcp_queue.specs.Rows.{members_of}

-- What a checker of these parts holds.
abbrev pub state_of : CheckerParts → CheckerState
state_of parts = record {
  count = parts.processes;
  watched = parts.watched;
  members = members_of parts.processes parts.watched;
  queues = map (λ row. row.items) parts.queues.items;
  floor = record { components = parts.floor; heads = parts.heads; tests = parts.tests };
  taken = parts.taken;
  closed = parts.closed;
  lost = parts.lost;
  found = parts.found;
  starved = parts.starved;
}

-- What is true of the numbers of every checker: its watched processes are some of at most 16, no process has more
-- snapshots than their numbers can count, and none has both marks.
pub record HaveSoundCounts (checker : CheckerState) : Type 0 where
  pub few : processes checker ≤ most_processes
  pub watched : AreSomeWatched checker.count checker.watched
  pub few_taken : All (λ count. count ≤ 2 ^ 32) checker.taken
  pub apart : (p : ℕ) → lost_of checker p ≡ true → closed_of checker p ≡ false

-- What is true of the search of every checker: it has so many rows, nothing waits of a row without a head, such a row
-- is waited for until a cut is found, and the snapshots taken cost few component tests.
pub record IsSoundSearch (rows : ℕ) (queues : List (List (List ℕ))) (floor : Floor) (found : Option (List ℕ))
    (taken : List ℕ) : Type 0 where
  pub as_many : length queues ≡ rows
  pub intervals : IfSome found (λ intervals. length intervals ≡ rows)
  pub stable : AreStable queues floor
  pub waiting : found ≡ None → HaveHeads rows floor → ⊥
  pub bound : floor.tests + tests_each rows * waiting_in queues ≤ tests_each rows * sum taken
