use Rattle.trace_pairs.proofs.Words.{◌≡◌, ◌∙◌, ◌<◌, ◌∷◌, ◌++◌, [], ap, arith, length, length-set, refl, subst, sym}
use Rattle.trace_pairs.proofs.Words.{List, Text}
use Rattle.trace_pairs.proofs.Words.{IsKnown, NoneIsKnown, Logged}
use Rattle.std.proofs.lemmas.List.{with_items_is}
use Rattle.std.specs.Vec.{with_items}
use Rattle.trace_log.specs.Turns.{seen_logged}
use Rattle.trace_pairs.specs.declared.hosts.MatchedHost.{MatchedHost}
use Rattle.trace_pairs.specs.declared.rows.PairRow.{PairRow}
use Rattle.trace_pairs.specs.Pairs.{IsLowestKnown}
use Rattle.trace_pairs.specs.Rows.{AreRows, KnowsLowest, StandAll}
use Rattle.trace_pairs.specs.Searching.{AreHosts, HasPlaceAt, HasRoomFor, TakesHostAt}
use Rattle.trace_pairs.proofs.Hosting.{room_for}
use Rattle.trace_pairs.proofs.Telling.{comes, has_pair, hosts_after, rows_of, takes_over, tells_lowest}
use Rattle.trace_pairs.proofs.pair_search.PairSearch.take.Goals as goal

pub returns-in_default : goal.returns-in_default
returns-in_default c pattern rule before taken follow =
    takes_over pattern rule before (seen_logged c.args.logged.now) c.place_for.new.self
    (rw c.in_default.is at (c.in_ok-place.ensures pattern rule before taken))

pub take_at-requires-clause-place : goal.take_at-requires-clause-place
take_at-requires-clause-place c =
    let at = rw c.in-Some.is at (c.in_ok-place.ensures c.requires.pattern c.requires.rule c.requires.logged
    c.requires.taken) in
    rw c.deref_mut.ensures.value (omega (arith, at.within, at.hosts.as_many))

pub take_at-requires-clause-room : goal.take_at-requires-clause-room
take_at-requires-clause-room c host =
    let at : HasPlaceAt c.requires.pattern c.requires.rule c.requires.logged c.args.logged.now.event.host.now
    c.in-Some.place c.place_for.new.self =
    rw c.in-Some.is at (c.in_ok-place.ensures c.requires.pattern c.requires.rule c.requires.logged
    c.requires.taken) in
    rw c.deref_mut.ensures.value (room_for c.requires.rule c.requires.logged at.names c.place_for.new.self.hosts.items
    c.in-Some.place host at.hosts at.within c.requires.few)

pub take_each-requires-clause-place : goal.take_each-requires-clause-place
take_each-requires-clause-place c =
    let at = rw c.in-Some.is at (c.in_ok-place.ensures c.requires.pattern c.requires.rule c.requires.logged
    c.requires.taken) in
    rw c.deref_mut-2.ensures.value (omega (arith, at.within, at.rows.as_many))

pub take_each-requires-clause-rows : goal.take_each-requires-clause-rows
take_each-requires-clause-rows c =
    let at : HasPlaceAt c.requires.pattern c.requires.rule c.requires.logged c.args.logged.now.event.host.now
    c.in-Some.place c.place_for.new.self =
    rw c.in-Some.is at (c.in_ok-place.ensures c.requires.pattern c.requires.rule c.requires.logged
    c.requires.taken) in
    subst AreRows (sym c.deref_mut-2.ensures.value)
    (rows_of c.requires.rule c.requires.logged at.names c.place_for.new.self.rows.items at.rows)

pub moment-requires : goal.moment-requires
moment-requires c =
    let pattern = c.requires.pattern in
    let rule = c.requires.rule in
    let before = c.requires.logged in
    let one = seen_logged c.args.logged.now in
    let self = c.place_for.new.self in
    let at : HasPlaceAt pattern rule before one.event.host c.in-Some.place self =
    rw c.in-Some.is at (c.in_ok-place.ensures pattern rule before c.requires.taken) in
    let took : TakesHostAt c.in-Some.place self.hosts.items one c.in_ok-holds.holds c.take_at.new.hosts =
    subst (λ (l : List MatchedHost). TakesHostAt c.in-Some.place l one c.in_ok-holds.holds c.take_at.new.hosts)
    c.deref_mut.ensures.value c.in_ok-holds.ensures in
    let all : StandAll rule before at.names c.deref_mut-2.result.now =
    subst (λ (l : List PairRow). StandAll rule before at.names l) (sym c.deref_mut-2.ensures.value) at.rows in
    let lowest : KnowsLowest IsKnown NoneIsKnown rule (before ++ one ∷ []) at.names c.take_each.new.rows
    c.in-Some-2.pair =
    rw c.in-Some-2.is at (c.in_ok-pair.ensures rule before at.names all
    (comes pattern rule before one c.in-Some.place self at c.requires.follows c.in_ok-holds.holds c.take_at.new.hosts
    took)) in
    let hosts_many : length c.take_at.new.hosts ≡ length self.hosts.items =
    ap length took.set ∙ length-set self.hosts.items c.in-Some.place took.host in
    has_pair IsKnown NoneIsKnown rule (before ++ one ∷ []) at.names c.take_each.new.rows c.in-Some-2.pair lowest _
    (with_items_is self.rows c.take_each.new.rows (omega (arith, lowest.as_many, at.rows.as_many)))
    (ap length (with_items_is self.hosts c.take_at.new.hosts (omega (arith, hosts_many))) ∙ hosts_many ∙
    at.hosts.as_many)

pub returns-in_ok-moment-in-Some-2 : goal.returns-in_ok-moment-in-Some-2
returns-in_ok-moment-in-Some-2 c pattern rule before taken follow =
    let one = seen_logged c.args.logged.now in
    let self = c.place_for.new.self in
    let at : HasPlaceAt pattern rule before one.event.host c.in-Some.place self =
    rw c.in-Some.is at (c.in_ok-place.ensures pattern rule before taken) in
    let took : TakesHostAt c.in-Some.place self.hosts.items one c.in_ok-holds.holds c.take_at.new.hosts =
    subst (λ (l : List MatchedHost). TakesHostAt c.in-Some.place l one c.in_ok-holds.holds c.take_at.new.hosts)
    c.deref_mut.ensures.value c.in_ok-holds.ensures in
    let all : StandAll rule before at.names c.deref_mut-2.result.now =
    subst (λ (l : List PairRow). StandAll rule before at.names l) (sym c.deref_mut-2.ensures.value) at.rows in
    let lowest : KnowsLowest IsKnown NoneIsKnown rule (before ++ one ∷ []) at.names c.take_each.new.rows
    c.in-Some-2.pair =
    rw c.in-Some-2.is at (c.in_ok-pair.ensures rule before at.names all
    (comes pattern rule before one c.in-Some.place self at follow c.in_ok-holds.holds c.take_at.new.hosts took)) in
    let hosts_many : length c.take_at.new.hosts ≡ length self.hosts.items =
    ap length took.set ∙ length-set self.hosts.items c.in-Some.place took.host in
    subst (λ (names : List Text). IsLowestKnown rule (before ++ one ∷ []) names c.in_ok-moment-in-Some-2.field-0)
    (sym (at.those one refl))
    (tells_lowest IsKnown NoneIsKnown rule (before ++ one ∷ []) at.names c.take_each.new.rows c.in-Some-2.pair lowest
    (record self {
      hosts = with_items self.hosts c.take_at.new.hosts;
      rows = with_items self.rows c.take_each.new.rows;
    })
    (with_items_is self.rows c.take_each.new.rows (omega (arith, lowest.as_many, at.rows.as_many)))
    c.in_ok-moment-in-Some-2.field-0
    (subst (λ (l : List MatchedHost). AreHosts rule (before ++ one ∷ []) at.names l)
    (sym (with_items_is self.hosts c.take_at.new.hosts (omega (arith, hosts_many))))
    (hosts_after pattern rule before one c.in-Some.place self at follow c.in_ok-holds.holds c.take_at.new.hosts took))
    c.in_ok-moment-in-Some-2.ensures)

pub returns-in-None : goal.returns-in-None
returns-in-None c pattern rule before taken follow =
    let one = seen_logged c.args.logged.now in
    let self = c.place_for.new.self in
    let at : HasPlaceAt pattern rule before one.event.host c.in-Some.place self =
    rw c.in-Some.is at (c.in_ok-place.ensures pattern rule before taken) in
    let took : TakesHostAt c.in-Some.place self.hosts.items one c.in_ok-holds.holds c.take_at.new.hosts =
    subst (λ (l : List MatchedHost). TakesHostAt c.in-Some.place l one c.in_ok-holds.holds c.take_at.new.hosts)
    c.deref_mut.ensures.value c.in_ok-holds.ensures in
    let all : StandAll rule before at.names c.deref_mut-2.result.now =
    subst (λ (l : List PairRow). StandAll rule before at.names l) (sym c.deref_mut-2.ensures.value) at.rows in
    let after : StandAll rule (before ++ one ∷ []) at.names c.take_each.new.rows =
    rw c.in-None.is at (c.in_ok-pair.ensures rule before at.names all
    (comes pattern rule before one c.in-Some.place self at follow c.in_ok-holds.holds c.take_at.new.hosts took)) in
    let hosts_many : length c.take_at.new.hosts ≡ length self.hosts.items =
    ap length took.set ∙ length-set self.hosts.items c.in-Some.place took.host in
    record {
      by_names = at.by_names;
      by_rule = at.by_rule;
      hosts = subst (λ (names : List Text). AreHosts rule (before ++ one ∷ []) names
          (with_items self.hosts c.take_at.new.hosts).items) (sym (at.those one refl))
          (subst (λ (l : List MatchedHost). AreHosts rule (before ++ one ∷ []) at.names l)
          (sym (with_items_is self.hosts c.take_at.new.hosts (omega (arith, hosts_many))))
          (hosts_after pattern rule before one c.in-Some.place self at follow c.in_ok-holds.holds c.take_at.new.hosts
          took));
      rows = subst (λ (names : List Text). StandAll rule (before ++ one ∷ []) names
          (with_items self.rows c.take_each.new.rows).items) (sym (at.those one refl))
          (subst (λ (l : List PairRow). StandAll rule (before ++ one ∷ []) at.names l)
          (sym (with_items_is self.rows c.take_each.new.rows (omega (arith, after.as_many, at.rows.as_many)))) after);
    }
