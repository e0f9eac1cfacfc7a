use Rattle.trace_pairs.proofs.Words.{◌≡◌, ◌∙◌, ap, arith, subst, sym, true, false, List, Re}
use Rattle.trace_condition.specs.Holding.{matches}
use Rattle.trace_pairs.specs.declared.hosts.MatchedHost.{MatchedHost}
use Rattle.trace_pairs.specs.Hosts.{hosts_in}
use Rattle.trace_pairs.specs.Searching.{IsNoneOf, IsPlaceOf}
use Rattle.trace_pairs.proofs.Silent.{hosts_other, hosts_push}
use Rattle.trace_pairs.proofs.Placing.{none_named, place_known, place_new}
use Rattle.trace_pairs.proofs.pair_search.PairSearch.place_for.Goals as goal

pub returns-in-Some : goal.returns-in-Some
returns-in-Some c pattern rule before taken =
    place_known pattern rule before c.args.host.now c.in-Some.place c.args.self.now taken
    (subst (λ (hosts : List MatchedHost). IsPlaceOf c.args.host.now hosts c.in-Some.place) c.deref.ensures.value
    c.in-Some.ensures.some)

pub returns-then-not-is_match : goal.returns-then-not-is_match
returns-then-not-is_match c pattern rule before taken =
    let name = c.args.host.now in
    let names = hosts_in pattern before in
    let none : IsNoneOf name c.args.self.now.hosts.items =
    subst (λ (hosts : List MatchedHost). IsNoneOf name hosts) c.deref.ensures.value c.in_default.ensures.none in
    let fails : matches pattern name ≡ false = ap (λ (p : Re). matches p name) (sym taken.by_names)
    ∙ sym c.is_match.ensures.found ∙ c.if-not-is_match.true in
    record {
      taken = record {
        by_names = c.is_match.ensures.same ∙ taken.by_names;
        by_rule = taken.by_rule;
        hosts = taken.hosts;
        rows = taken.rows;
      };
      those = λ one is. hosts_push pattern before one ∙ hosts_other pattern names one name is fails;
      none = none_named rule before names c.args.self.now.hosts.items name taken.hosts none;
    }

pub returns : goal.returns
returns c pattern rule before taken =
    let name = c.args.host.now in
    let none : IsNoneOf name c.args.self.now.hosts.items =
    subst (λ (hosts : List MatchedHost). IsNoneOf name hosts) c.deref.ensures.value c.in_default.ensures.none in
    let matching : matches pattern name ≡ true = ap (λ (p : Re). matches p name) (sym taken.by_names)
    ∙ sym c.is_match.ensures.found ∙ c.if-not-is_match.false in
    place_new pattern rule before name _ c.add.new.self (record {
      by_names = c.is_match.ensures.same ∙ taken.by_names;
      by_rule = taken.by_rule;
      hosts = taken.hosts;
      rows = taken.rows;
    }) c.in_ok-add.ensures none matching c.len-place.result
    (omega (arith, c.len-place.ensures, c.args.self.now.hosts.ok.0))
