-- A search takes the next event of a log, and tells a moment.
use Rattle.trace_pairs.proofs.Words.{◌≡◌, ◌∙◌, ℕ, ◌<◌, Bool, List, [], ◌∷◌, ◌++◌, length, refl, sym, ap, subst, arith}
use Rattle.trace_pairs.proofs.Words.{slice_index_or, Re, Logged, Search, HostWatch, Taken, Rule, Text, FollowsIn}
use Rattle.trace_pairs.proofs.Words.{bytes_eq}
use Rattle.trace_pairs.proofs.Words.{NoneIsKnown}
use Rattle.std.specs.Prelude.{string_bytes}
use Rattle.trace_moment.specs.Search.{Keeps}
use Rattle.trace_condition.specs.Holding.{holds_at_last}
use Rattle.trace_pairs.specs.declared.hosts.MatchedHost.{MatchedHost}
use Rattle.trace_pairs.specs.declared.rows.PairRow.{PairRow}
use Rattle.trace_pairs.specs.declared.rows.HostPair.{HostPair}
use Rattle.trace_pairs.specs.declared.moment.PairMoment.{PairMoment}
use Rattle.trace_pairs.specs.declared.pair_search.PairSearch.{PairSearch}
use Rattle.trace_pairs.specs.Hosts.{host_at, hosts_in}
use Rattle.trace_pairs.specs.Taking.{texts_at}
use Rattle.trace_pairs.specs.Pairs.{IsOfLowest, NoPairIsKnown, Tells}
use Rattle.trace_pairs.specs.Rows.{AreRows, ComesAt, KnowsLowest, StandAll, search_at}
use Rattle.trace_pairs.specs.Searching.{AreHosts, HasNoPlace, HasPair, HasPlaceAt, HasTakenLog, KnowsHost, TakesHostAt}
use Rattle.trace_pairs.specs.Searching.{TellsPairOf}
use Rattle.trace_pairs.proofs.Ending.{some_at}
use Rattle.trace_pairs.proofs.Hosting.{held_own, hosts_more, knows_other}
use Rattle.trace_pairs.proofs.Placing.{named_at}
use Rattle.trace_pairs.proofs.Turning.{stands_over, unknown_of}

-- The event of a host that doesn't match is passed over.
pub takes_over : (pattern : Re) (rule : Rule Re) (before : List Logged) (one : Logged) (search : PairSearch)
    → HasNoPlace pattern rule before one.event.host search → HasTakenLog pattern rule (before ++ one ∷ []) search
takes_over pattern rule before one search none = record {
  by_names = none.taken.by_names;
  by_rule = none.taken.by_rule;
  hosts = subst (λ (names : List Text). AreHosts rule (before ++ one ∷ []) names search.hosts.items)
      (sym (none.those one refl)) (record {
        as_many = none.taken.hosts.as_many;
        distinct = none.taken.hosts.distinct;
        each = λ p host within. knows_other rule before one (host_at (hosts_in pattern before) p)
            (slice_index_or search.hosts.items p host) (none.none p within) (none.taken.hosts.each p host within);
      });
  rows = subst (λ (names : List Text). StandAll rule (before ++ one ∷ []) names search.rows.items)
      (sym (none.those one refl)) (record {
        as_many = none.taken.rows.as_many;
        wide = none.taken.rows.wide;
        each = λ p q row other up within. stands_over rule before one (host_at (hosts_in pattern before) p)
            (host_at (hosts_in pattern before) q) (search_at search.rows.items p q row other)
            (none.none p (omega (arith, up, within))) (none.none q within)
            (none.taken.rows.each p q row other up within);
      });
}

-- The searches of all are rows.
pub rows_of : (rule : Rule Re) (logged : List Logged) (names : List Text) (rows : List PairRow)
    → StandAll rule logged names rows → AreRows rows
rows_of rule logged names rows all = record {
  wide = all.wide;
  two = λ p q row search up within.
      ap length (all.each p q row search up (omega (arith, within, all.as_many))).watched;
}

-- No moment is known of any two.
pub none_known_of : (pattern : Re) (rule : Rule Re) (logged : List Logged) (search : PairSearch)
    → HasTakenLog pattern rule logged search → NoPairIsKnown rule logged (hosts_in pattern logged)
none_known_of pattern rule logged search taken p q up within =
    let rows = search.rows.items in
    let names = hosts_in pattern logged in
    let q_in : q < length rows = omega (arith, within, taken.rows.as_many) in
    let row = some_at rows q q_in in
    let one = some_at (slice_index_or rows q row).searches.items p (omega (arith, up, taken.rows.wide q row q_in)) in
    unknown_of rule logged (host_at names p) (host_at names q) (search_at rows p q row one)
    (taken.rows.each p q row one up within)

module _ (pattern : Re) (rule : Rule Re) (before : List Logged) (one : Logged) (place : ℕ) (search : PairSearch)
    (at : HasPlaceAt pattern rule before one.event.host place search) (follow : FollowsIn before one.event)
    (holds : Bool)
    (hosts : List MatchedHost) (takes : TakesHostAt place search.hosts.items one holds hosts) where
  pub hosts_after : AreHosts rule (before ++ one ∷ []) at.names hosts
  hosts_after = hosts_more rule before one at.names place search.hosts.items hosts holds at.hosts follow at.within at.at
      takes

  pub comes : ComesAt rule before one holds at.names place
  comes = record {
    distinct = at.hosts.distinct;
    within = at.within;
    host = at.at;
    follows = follow;
    held = held_own rule before one (slice_index_or search.hosts.items place takes.host) takes.host holds follow
        (subst (λ (n : Text). KnowsHost rule before n (slice_index_or search.hosts.items place takes.host)) at.at
        (at.hosts.each place takes.host at.within)) (takes.takes takes.host);
  }

module _ (Is : List HostWatch → List Taken → (ℕ → Logged) → Type 0) (IsNone : List HostWatch → List Taken → Type 0)
    (rule : Rule Re) (logged : List Logged) (names : List Text) (rows : List PairRow) (pair : HostPair)
    (lowest : KnowsLowest Is IsNone rule logged names rows pair) (search : PairSearch)
    (rows_is : search.rows.items ≡ rows) where
  second_in : pair.second < length rows
  second_in = omega (arith, lowest.within, lowest.as_many)

  pub has_pair : length search.hosts.items ≡ length names → HasPair search pair
  has_pair many = record {
    order = lowest.order;
    within = omega (arith, second_in, ap length rows_is);
    as_many = many ∙ sym lowest.as_many ∙ sym (ap length rows_is);
    wide = λ row. rw rows_is (lowest.wide pair.second row second_in);
    knows = λ row one. rw rows_is ((lowest.knows row one).known);
    two = λ row one. rw rows_is (ap length (lowest.knows row one).watched);
  }

  pub tells_lowest : (told : PairMoment) → AreHosts rule logged names search.hosts.items → TellsPairOf search pair told
      → IsOfLowest Is IsNone rule logged names told
  tells_lowest told are tells =
      let row = some_at rows pair.second second_in in
      let one = some_at (slice_index_or rows pair.second row).searches.items pair.first
      (omega (arith, lowest.order, lowest.wide pair.second row second_in)) in
      let host = some_at search.hosts.items pair.second (omega (arith, lowest.within, are.as_many)) in
      let knows = lowest.knows row one in
      let kept : Keeps (search_at search.rows.items pair.first pair.second row one) knows.moment =
      subst (λ (l : List PairRow). Keeps (search_at l pair.first pair.second row one) knows.moment) (sym rows_is)
      knows.keeps in
      let first_in : pair.first < length names = omega (arith, lowest.order, lowest.within) in
      let first_name = named_at rule logged names search.hosts.items pair.first host are first_in in
      let second_name = named_at rule logged names search.hosts.items pair.second host are lowest.within in
      record {
        first = pair.first;
        second = pair.second;
        order = lowest.order;
        within = lowest.within;
        lower = lowest.lower;
        moment = knows.moment;
        is = knows.is;
        tells = subst (λ (n : Text). Tells n (host_at names pair.second) knows.moment told) first_name
            (subst (λ (n : Text). Tells (string_bytes (slice_index_or search.hosts.items pair.first host).name) n
            knows.moment told) second_name (tells row one host knows.moment kept));
      }
