-- What a search of any two hosts knows of the events that it took.
use Rattle.std.specs.Prelude.{◌≡◌, ℕ, ◌-◌, ◌^◌, ◌<◌, List, [], ◌∷◌, ◌++◌, length, slice_index_or, string_bytes, map}
use Rattle.std.specs.Prelude.{Option, Some, None, Result, Ok, Err, Bool, true, ◌+◌, slice_set, if◌then◌else◌}
use Rattle.std.specs.declared.alloc.AllocError.{AllocError}
use Rattle.regex.specs.Patterns.{Re}
use Rattle.regex.specs.Strings.{matcher_pattern, regex_pattern}
use Rattle.trace_log.specs.Log.{Logged}
use Rattle.trace_log.specs.LoggedEvents.{FollowsIn}
use Rattle.trace_condition.specs.declared.rule.Rule.{Rule}
use Rattle.trace_condition.specs.declared.condition.Condition.{Condition}
use Rattle.trace_condition.specs.Asked.{Text}
use Rattle.trace_condition.specs.Conditions.{rule_of}
use Rattle.trace_condition.specs.Judging.{HasJudged}
use Rattle.trace_condition.specs.Holding.{holds_at_last}
use Rattle.trace_pairs.specs.declared.hosts.MatchedHost.{MatchedHost}
use Rattle.trace_pairs.specs.declared.moment.PairMoment.{PairMoment}
use Rattle.trace_pairs.specs.declared.moment.MatchedCount.{MatchedCount}
use Rattle.trace_pairs.specs.declared.pair_search.PairSearch.{PairSearch}
use Rattle.trace_pairs.specs.declared.hosts_condition.HostsCondition.{HostsCondition}
use Rattle.trace_moment.specs.declared.watched.Lasting.{Lasting}
use Rattle.trace_moment.specs.declared.search.Search.{Search}
use Rattle.trace_moment.specs.Search.{HasTaken, Keeps, is_known, watched_by}
use Rattle.trace_pairs.specs.declared.moment.PairMember.{PairMember}
use Rattle.trace_pairs.specs.declared.rows.PairRow.{PairRow}
use Rattle.trace_pairs.specs.declared.rows.HostPair.{HostPair}
use Rattle.trace_pairs.specs.Taking.{lasting_of, texts_at, taken_at}
use Rattle.trace_pairs.specs.Thinned.{AreInTurn}
use Rattle.trace_pairs.specs.Hosts.{hosts_in, host_at, AreDistinct, count_events, count_matched}
use Rattle.trace_pairs.specs.Pairs.{IsLowestKnown, IsLowestEarliest, NoPairHasOne, Tells, TellsMember}
use Rattle.trace_pairs.specs.Kept.{KeepsEvents, all_kept, seen_events, with_next}
use Rattle.trace_pairs.specs.Rows.{StandAll, search_at}

-- What is known of a host.
pub record KnowsHost (rule : Rule Re) (logged : List Logged) (name : Text) (host : MatchedHost) : Type 0 where
  pub named : string_bytes host.name ≡ name
  pub judged : HasJudged rule (texts_at name logged) host.judge
  pub events : host.events ≡ count_events name logged
  pub matched : host.matched ≡ count_matched (taken_at rule logged name)
  pub kept : KeepsEvents name (taken_at rule logged name) (seen_events name host.kept)

pub record AreHosts (rule : Rule Re) (logged : List Logged) (names : List Text) (hosts : List MatchedHost) : Type 0
  where
    pub as_many : length hosts ≡ length names
    pub distinct : AreDistinct names
    pub each : (p : ℕ) (host : MatchedHost) → p < length names →
        KnowsHost rule logged (host_at names p) (slice_index_or hosts p host)

-- The expression of the names, and the rule.
abbrev pub names_of : HostsCondition → Re
names_of condition = regex_pattern condition.hosts

abbrev pub rule_in : HostsCondition → Rule Re
rule_in condition = rule_of condition.condition

-- Those of a search.
abbrev pub names_by : PairSearch → Re
names_by search = matcher_pattern search.names

abbrev pub rule_by : PairSearch → Rule Re
rule_by search = rule_of search.condition.now

-- A search of any two hosts has taken the events of a log, and knows no moment of any two.
pub record HasTakenLog (pattern : Re) (rule : Rule Re) (logged : List Logged) (search : PairSearch) : Type 0 where
  pub by_names : matcher_pattern search.names ≡ pattern
  pub by_rule : rule_of search.condition.now ≡ rule
  pub hosts : AreHosts rule logged (hosts_in pattern logged) search.hosts.items
  pub rows : StandAll rule logged (hosts_in pattern logged) search.rows.items

-- It can take this event: it follows those before, and there are fewer than can be counted.
pub record CanTakeMore (search : PairSearch) (one : Logged) : Type 0 where
  pub pattern : Re
  pub rule : Rule Re
  pub logged : List Logged
  pub taken : HasTakenLog pattern rule logged search
  pub follows : FollowsIn logged one.event
  pub few : length logged < 2 ^ 64 - 1

pub record HasTakenSome (search : PairSearch) : Type 0 where
  pub pattern : Re
  pub rule : Rule Re
  pub logged : List Logged
  pub taken : HasTakenLog pattern rule logged search

-- With these events no moment of any two is known, or that of the lowest two hosts is told.
abbrev pub TellsNext : Re → Rule Re → List Logged → Result (Option PairMoment) AllocError → PairSearch → Type 0
TellsNext pattern rule logged (Ok None) search = HasTakenLog pattern rule logged search
TellsNext pattern rule logged (Ok (Some told)) search = IsLowestKnown rule logged (hosts_in pattern logged) told
TellsNext pattern rule logged (Err _) search = Unit {0}

-- At the end no two have a moment, or that of the lowest two that have one is told.
abbrev pub TellsLast : Re → Rule Re → List Logged → Result (Option PairMoment) AllocError → Type 0
TellsLast pattern rule logged (Ok None) = NoPairHasOne rule logged (hosts_in pattern logged)
TellsLast pattern rule logged (Ok (Some told)) = IsLowestEarliest rule logged (hosts_in pattern logged) told
TellsLast pattern rule logged (Err _) = Unit {0}

-- How many events a host has, and at how many the rule holds.
pub record Counts (rule : Rule Re) (logged : List Logged) (name : Text) (count : MatchedCount) : Type 0 where
  pub of_host : string_bytes count.host ≡ name
  pub events : count.events ≡ count_events name logged
  pub matched : count.matched ≡ count_matched (taken_at rule logged name)

pub record AreCounts (rule : Rule Re) (logged : List Logged) (names : List Text) (counts : List MatchedCount) : Type 0
  where
    pub as_many : length counts ≡ length names
    pub each : (p : ℕ) (count : MatchedCount) → p < length names →
        Counts rule logged (host_at names p) (slice_index_or counts p count)

-- A host can take one event more: there are fewer than can be counted.
pub record HasRoomFor (host : MatchedHost) : Type 0 where
  pub events : host.events < 2 ^ 64 - 1
  pub matched : host.matched < 2 ^ 64 - 1

-- A host took its next event, at which the rule holds or not.
pub record TakesHost (old : MatchedHost) (one : Logged) (holds : Bool) (new : MatchedHost) : Type 0 where
  pub named : new.name ≡ old.name
  pub judged : (rule : Rule Re) (texts : List Text) → HasJudged rule texts old.judge →
      (holds ≡ holds_at_last rule (texts ++ one.event.text ∷ []))
      × HasJudged rule (texts ++ one.event.text ∷ []) new.judge
  pub events : new.events ≡ old.events + 1
  pub matched : new.matched ≡ old.matched + (if holds then 1 else 0)
  pub kept : seen_events one.event.host new.kept
      ≡ with_next (seen_events one.event.host old.kept) (record { logged = one; holds = holds })

-- That at a place did.
pub record TakesHostAt (place : ℕ) (old : List MatchedHost) (one : Logged) (holds : Bool) (new : List MatchedHost)
    : Type 0 where
  pub host : MatchedHost
  pub set : new ≡ slice_set old place host
  pub takes : (before : MatchedHost) → TakesHost (slice_index_or old place before) one holds host

-- The host with this name stands at this place, or at none.
pub record IsPlaceOf (name : Text) (hosts : List MatchedHost) (place : ℕ) : Type 0 where
  pub within : place < length hosts
  pub named : (host : MatchedHost) → string_bytes (slice_index_or hosts place host).name ≡ name

abbrev pub IsNoneOf : Text → List MatchedHost → Type 0
IsNoneOf name hosts = (p : ℕ) (host : MatchedHost) → p < length hosts →
    string_bytes (slice_index_or hosts p host).name ≡ name → ⊥

-- A search has taken what is kept of a host, and watches it and one with this name.
pub record StandsWithNew (lasting : Lasting) (host : MatchedHost) (name : Text) (search : Search) : Type 0 where
  pub watched : watched_by search ≡ record { host = string_bytes host.name; lasting = lasting }
      ∷ record { host = name; lasting = lasting } ∷ []
  pub taken : AreInTurn (all_kept (seen_events (string_bytes host.name) host.kept))
      → HasTaken (all_kept (seen_events (string_bytes host.name) host.kept)) search

-- One for each host.
pub record StandWithNew (lasting : Lasting) (hosts : List MatchedHost) (name : Text) (searches : List Search) : Type 0
  where
    pub as_many : length searches ≡ length hosts
    pub each : (p : ℕ) (host : MatchedHost) (search : Search) → p < length hosts →
        StandsWithNew lasting (slice_index_or hosts p host) name (slice_index_or searches p search)

-- A host was added that has logged nothing, with its searches.
pub record AddsHost (name : Text) (old new : PairSearch) : Type 0 where
  pub host : MatchedHost
  pub row : PairRow
  pub hosts : new.hosts.items ≡ old.hosts.items ++ host ∷ []
  pub rows : new.rows.items ≡ old.rows.items ++ row ∷ []
  pub knows : KnowsHost (rule_of old.condition.now) [] name host
  pub stand : StandWithNew (lasting_of old.condition.now.rule) old.hosts.items name row.searches.items
  pub names : matcher_pattern new.names ≡ matcher_pattern old.names
  pub condition : new.condition.now ≡ old.condition.now

-- The host of the next event has this place among those with it; or its name doesn't match.
pub record HasPlaceAt (pattern : Re) (rule : Rule Re) (before : List Logged) (name : Text) (place : ℕ)
    (search : PairSearch) : Type 0 where
  pub by_names : matcher_pattern search.names ≡ pattern
  pub by_rule : rule_of search.condition.now ≡ rule
  pub names : List Text
  pub those : (one : Logged) → one.event.host ≡ name → hosts_in pattern (before ++ one ∷ []) ≡ names
  pub hosts : AreHosts rule before names search.hosts.items
  pub rows : StandAll rule before names search.rows.items
  pub within : place < length names
  pub at : host_at names place ≡ name

pub record HasNoPlace (pattern : Re) (rule : Rule Re) (before : List Logged) (name : Text) (search : PairSearch)
    : Type 0 where
  pub taken : HasTakenLog pattern rule before search
  pub those : (one : Logged) → one.event.host ≡ name → hosts_in pattern (before ++ one ∷ []) ≡ hosts_in pattern before
  pub none : (p : ℕ) → p < length (hosts_in pattern before) → host_at (hosts_in pattern before) p ≡ name → ⊥

abbrev pub HasPlace : Re → Rule Re → List Logged → Text → Option ℕ → PairSearch → Type 0
HasPlace pattern rule before name (Some place) search = HasPlaceAt pattern rule before name place search
HasPlace pattern rule before name None search = HasNoPlace pattern rule before name search

-- Two hosts have a search, which knows a moment.
pub record HasPair (search : PairSearch) (pair : HostPair) : Type 0 where
  pub order : pair.first < pair.second
  pub within : pair.second < length search.rows.items
  pub as_many : length search.hosts.items ≡ length search.rows.items
  pub wide : (row : PairRow) →
      length (slice_index_or search.rows.items pair.second row).searches.items ≡ pair.second
  pub knows : (row : PairRow) (one : Search) →
      is_known (search_at search.rows.items pair.first pair.second row one) ≡ true
  pub two : (row : PairRow) (one : Search) →
      length (watched_by (search_at search.rows.items pair.first pair.second row one)) ≡ 2

-- A member of it is told.
abbrev pub TellsMemberOf : PairSearch → HostPair → ℕ → ℕ → PairMember → Type 0
TellsMemberOf search pair watched place member = (row : PairRow) (one : Search) (host : MatchedHost)
    (moment : ℕ → Logged) → Keeps (search_at search.rows.items pair.first pair.second row one) moment →
    TellsMember (string_bytes (slice_index_or search.hosts.items place host).name) (moment watched) member

-- It is told.
abbrev pub TellsPairOf : PairSearch → HostPair → PairMoment → Type 0
TellsPairOf search pair told = (row : PairRow) (one : Search) (host : MatchedHost)
    (moment : ℕ → Logged) → Keeps (search_at search.rows.items pair.first pair.second row one) moment →
    Tells (string_bytes (slice_index_or search.hosts.items pair.first host).name)
    (string_bytes (slice_index_or search.hosts.items pair.second host).name) moment told

-- How many events a host has, and at how many the rule holds, is told as it was counted.
pub record IsCountOf (host : MatchedHost) (count : MatchedCount) : Type 0 where
  pub of_host : string_bytes count.host ≡ string_bytes host.name
  pub events : count.events ≡ host.events
  pub matched : count.matched ≡ host.matched
