-- What the searches of each two hosts know.
use Rattle.std.specs.Prelude.{◌≡◌, ℕ, ◌+◌, ◌<◌, ◌≤◌, ◌⊎◌, Bool, true, false, List, [], ◌∷◌, ◌++◌, length}
use Rattle.std.specs.Prelude.{slice_index_or}
use Rattle.std.specs.Prelude.{slice_set, Option, Some, None, Result, Ok, Err, MatchBool, nat_lt, if◌then◌else◌}
use Rattle.std.specs.declared.alloc.AllocError.{AllocError}
use Rattle.regex.specs.Patterns.{Re}
use Rattle.trace_log.specs.Log.{Logged}
use Rattle.trace_log.specs.LoggedEvents.{FollowsIn}
use Rattle.trace_moment.specs.declared.search.Search.{Search}
use Rattle.trace_moment.specs.Moment.{HostWatch, Taken, IsKnown, IsEarliest, IsNextAt}
use Rattle.trace_moment.specs.Standing.{NoneIsKnown, HasNoMoment}
use Rattle.trace_moment.specs.Search.{HasTaken, Keeps, KeepsEarliest, is_known, watched_by}
use Rattle.trace_condition.specs.declared.rule.Rule.{Rule}
use Rattle.trace_condition.specs.Asked.{Text}
use Rattle.trace_condition.specs.Holding.{holds_at_last}
use Rattle.trace_pairs.specs.declared.rows.PairRow.{PairRow}
use Rattle.trace_pairs.specs.declared.rows.HostPair.{HostPair}
use Rattle.trace_pairs.specs.Taking.{watches_of, taken_by, texts_at}
use Rattle.trace_pairs.specs.Hosts.{host_at, AreDistinct}
use Rattle.trace_pairs.specs.Pairs.{IsLower, OfTwo, NoPairHasOne}
use Rattle.trace_pairs.specs.Thinned.{Thins}

-- A search of two hosts has taken their events, but for those that can be left out, and knows no moment.
pub record Stands (rule : Rule Re) (logged : List Logged) (first second : Text) (search : Search) : Type 0 where
  pub watched : watched_by search ≡ watches_of rule first second
  pub unknown : is_known search ≡ false
  pub kept : List Taken
  pub taken : HasTaken kept search
  pub thins : Thins kept (taken_by rule logged first second)

-- The search of the hosts at two places: the row of the second has one for each host before it.
abbrev pub search_at : List PairRow → ℕ → ℕ → PairRow → Search → Search
search_at rows p q row search = slice_index_or (slice_index_or rows q row).searches.items p search

-- Each row has a search for each host before it, and each search has two hosts.
pub record AreRows (rows : List PairRow) : Type 0 where
  pub wide : (q : ℕ) (row : PairRow) → q < length rows → length (slice_index_or rows q row).searches.items ≡ q
  pub two : (p q : ℕ) (row : PairRow) (search : Search) → p < q → q < length rows →
      length (watched_by (search_at rows p q row search)) ≡ 2

-- Each search stands for the events of its two hosts.
pub record StandAll (rule : Rule Re) (logged : List Logged) (hosts : List Text) (rows : List PairRow) : Type 0 where
  pub as_many : length rows ≡ length hosts
  pub wide : (q : ℕ) (row : PairRow) → q < length rows → length (slice_index_or rows q row).searches.items ≡ q
  pub each : (p q : ℕ) (row : PairRow) (search : Search) → p < q → q < length hosts →
      Stands rule logged (host_at hosts p) (host_at hosts q) (search_at rows p q row search)

-- The hosts at the place and at those before another one had their turn: the search of such two has taken the event of
-- the host at the place, or watches another two.
abbrev pub HadTurn : ℕ → ℕ → ℕ → ℕ → Type 0
HadTurn place other p q = (p ≡ place → q < other) × (q ≡ place → p < other)

-- The others still wait for it.
abbrev pub HasTurn : ℕ → ℕ → ℕ → ℕ → Type 0
HasTurn place other p q = ((p ≡ place) × (other ≤ q)) ⊎ ((q ≡ place) × (other ≤ p))

pub record StandPartly (rule : Rule Re) (before : List Logged) (one : Logged) (hosts : List Text) (place other : ℕ)
    (rows : List PairRow) : Type 0 where
  pub as_many : length rows ≡ length hosts
  pub wide : (q : ℕ) (row : PairRow) → q < length rows → length (slice_index_or rows q row).searches.items ≡ q
  pub taken : (p q : ℕ) (row : PairRow) (search : Search) → p < q → q < length hosts → HadTurn place other p q →
      Stands rule (before ++ one ∷ []) (host_at hosts p) (host_at hosts q) (search_at rows p q row search)
  pub waits : (p q : ℕ) (row : PairRow) (search : Search) → p < q → q < length hosts → HasTurn place other p q →
      Stands rule before (host_at hosts p) (host_at hosts q) (search_at rows p q row search)

-- An event of the host at a place comes next, at which the rule holds or not.
pub record ComesAt (rule : Rule Re) (before : List Logged) (one : Logged) (holds : Bool) (hosts : List Text)
    (place : ℕ) : Type 0 where
  pub distinct : AreDistinct hosts
  pub within : place < length hosts
  pub host : host_at hosts place ≡ one.event.host
  pub follows : FollowsIn before one.event
  pub held : holds ≡ holds_at_last rule (texts_at one.event.host (before ++ one ∷ []))

-- A search knows a moment of its two hosts.
pub record KnowsOne (Is : List HostWatch → List Taken → (ℕ → Logged) → Type 0) (rule : Rule Re) (logged : List Logged)
    (first second : Text) (search : Search) : Type 0 where
  pub watched : watched_by search ≡ watches_of rule first second
  pub known : is_known search ≡ true
  pub moment : ℕ → Logged
  pub is : OfTwo (λ watched taken. Is watched taken moment) rule logged first second
  pub keeps : Keeps search moment

-- The search of two hosts knows one, and there is none of two that come before them.
pub record KnowsLowest (Is : List HostWatch → List Taken → (ℕ → Logged) → Type 0)
    (IsNone : List HostWatch → List Taken → Type 0) (rule : Rule Re) (logged : List Logged) (hosts : List Text)
    (rows : List PairRow) (pair : HostPair) : Type 0 where
  pub order : pair.first < pair.second
  pub within : pair.second < length hosts
  pub as_many : length rows ≡ length hosts
  pub wide : (q : ℕ) (row : PairRow) → q < length rows → length (slice_index_or rows q row).searches.items ≡ q
  pub lower : (p q : ℕ) → p < q → q < length hosts → IsLower p q pair.first pair.second →
      OfTwo IsNone rule logged (host_at hosts p) (host_at hosts q)
  pub knows : (row : PairRow) (search : Search) → KnowsOne Is rule logged (host_at hosts pair.first)
      (host_at hosts pair.second) (search_at rows pair.first pair.second row search)

-- One of some searches took an event.
pub record TakesAt (at watched : ℕ) (next : Taken) (old new : List Search) (known : Bool) : Type 0 where
  pub search : Search
  pub set : new ≡ slice_set old at search
  pub same : (other : Search) → watched_by search ≡ watched_by (slice_index_or old at other)
  pub takes : (other : Search) (taken : List Taken) → HasTaken taken (slice_index_or old at other) →
      IsNextAt (watched_by (slice_index_or old at other)) watched taken next.logged →
      HasTaken (taken ++ next ∷ []) search × (is_known search ≡ known)

-- The search of the hosts at a place and at another one took the event, if they are two.
abbrev pub TakesOne : Rule Re → List Logged → Logged → List Text → ℕ → ℕ → HostPair → Result Bool AllocError
    → List PairRow → Type 0
TakesOne rule before one hosts place other pair (Ok false) rows =
    StandPartly rule before one hosts place (other + 1) rows
TakesOne rule before one hosts place other pair (Ok true) rows =
    KnowsLowest IsKnown NoneIsKnown rule (before ++ one ∷ []) hosts rows pair
TakesOne rule before one hosts place other pair (Err _) rows = Unit {0}

-- All took it, or one knows a moment.
abbrev pub TakesEach : Rule Re → List Logged → List Text → Result (Option HostPair) AllocError → List PairRow → Type 0
TakesEach rule logged hosts (Ok None) rows = StandAll rule logged hosts rows
TakesEach rule logged hosts (Ok (Some pair)) rows = KnowsLowest IsKnown NoneIsKnown rule logged hosts rows pair
TakesEach rule logged hosts (Err _) rows = Unit {0}

-- All ended, and none has a moment; or the first that has one does.
abbrev pub EndsEach : Rule Re → List Logged → List Text → Option HostPair → List PairRow → Type 0
EndsEach rule logged hosts None rows = NoPairHasOne rule logged hosts
EndsEach rule logged hosts (Some pair) rows = KnowsLowest IsEarliest HasNoMoment rule logged hosts rows pair

-- The two hosts at two places that differ.
abbrev pub pair_at : ℕ → ℕ → HostPair
pair_at place other = if nat_lt other place
    then record { first = other; second = place } else record { first = place; second = other }

-- One of some searches ended: it knows the earliest moment of what it took; or there is none, and nothing changed.
pub record Ends (at : ℕ) (old : List Search) (known : Bool) (new : List Search) : Type 0 where
  pub search : Search
  pub set : new ≡ slice_set old at search
  pub same : (other : Search) → watched_by search ≡ watched_by (slice_index_or old at other)
  pub answer : known ≡ is_known search
  pub moment : (other : Search) (taken : List Taken) → HasTaken taken (slice_index_or old at other) →
      MatchBool known (KeepsEarliest taken search) (HasNoMoment (watched_by search) taken)
  pub none : known ≡ false → new ≡ old

-- The search of two hosts has no moment of what it took.
abbrev pub HasNone : List PairRow → ℕ → ℕ → Type 0
HasNone rows p q = (row : PairRow) (search : Search) (taken : List Taken) →
    HasTaken taken (search_at rows p q row search) →
    HasNoMoment (watched_by (search_at rows p q row search)) taken

-- No search has changed.
pub record SameSearches (old new : List PairRow) : Type 0 where
  pub as_many : length new ≡ length old
  pub wide : (q : ℕ) (row : PairRow) → q < length old →
      length (slice_index_or new q row).searches.items ≡ length (slice_index_or old q row).searches.items
  pub same : (p q : ℕ) (row : PairRow) (search : Search) → p < q → q < length old →
      search_at new p q row search ≡ search_at old p q row search

-- Of the searches of a host with those behind it, the one with this host knows the earliest moment of what it took, and
-- those before it have none; or all have none, and nothing changed.
pub record EndsAt (first second : ℕ) (old new : List PairRow) : Type 0 where
  pub behind : first < second
  pub within : second < length old
  pub as_many : length new ≡ length old
  pub wide : (q : ℕ) (row : PairRow) → q < length old →
      length (slice_index_or new q row).searches.items ≡ length (slice_index_or old q row).searches.items
  pub known : (row : PairRow) (search : Search) → is_known (search_at new first second row search) ≡ true
  pub watched : (row : PairRow) (search : Search) →
      watched_by (search_at new first second row search) ≡ watched_by (search_at old first second row search)
  pub ends : (row : PairRow) (search : Search) (taken : List Taken) →
      HasTaken taken (search_at old first second row search) →
      KeepsEarliest taken (search_at new first second row search)
  pub before : (q : ℕ) → first < q → q < second → HasNone old first q

abbrev pub EndsFrom : ℕ → List PairRow → Option ℕ → List PairRow → Type 0
EndsFrom first old None new =
    ((q : ℕ) → first < q → q < length old → HasNone old first q) × SameSearches old new
EndsFrom first old (Some second) new = EndsAt first second old new
