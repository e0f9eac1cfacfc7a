use Rattle.std.proofs.lemmas.Grind.{common_steps}
use Rattle.std.proofs.Common.{◌≡◌, ◌∙◌, List, ap, arith, length, map, subst, sym}
use Rattle.trace_pairs.specs.declared.moment.MatchedCount.{MatchedCount}
use Rattle.trace_pairs.specs.Hosts.{hosts_in}
use Rattle.trace_pairs.specs.Searching.{AreCounts, names_of, rule_in}
use Rattle.trace_detect.specs.Told.{none, seen_count}
use Rattle.trace_asking.specs.AnyTwo.{Found, NoMoment}
use Rattle.trace_asking.specs.TwoTold.{told_count}
use Rattle.trace_asking.proofs.Pairs.{hosts_now, no_names, some_names}
use Rattle.trace_asking.proofs.two_hosts.last_of_two.Goals as goal

pub returns-in-Some : goal.returns-in-Some
returns-in-Some c logged taken =
    Found c.in-Some.moment
    (rw c.in-Some.is at (c.in_ok-moment.ensures.last (names_of c.args.condition.now) (rule_in c.args.condition.now) logged
    taken)) c.in_ok-told_moment.ensures

pub returns-then-is_empty : goal.returns-then-is_empty
returns-then-is_empty c logged taken =
    let names = hosts_in (names_of c.args.condition.now) logged in
    let counted : AreCounts (rule_in c.args.condition.now) logged names c.in_ok-counts.counts.items =
    c.in_ok-counts.ensures (rule_in c.args.condition.now) logged names
    (hosts_now (rule_in c.args.condition.now) logged names c.args.search.now c.end.new.self c.in_ok-moment.ensures.counts
    taken.hosts) in
    let none : length c.in_ok-counts.counts.items ≡ 0 =
    grind (arith, common_steps, c.if-is_empty.true, c.is_empty.ensures, c.in_ok-counts.counts.ok.0) in
    record {
      none = no_names names (sym counted.as_many ∙ none);
      of_hosts = c.in_ok-hosts.ensures.ok ∙ c.as_str.ensures.value;
    }

pub returns : goal.returns
returns c logged taken =
    let names = hosts_in (names_of c.args.condition.now) logged in
    let counted : AreCounts (rule_in c.args.condition.now) logged names c.in_ok-counts.counts.items =
    c.in_ok-counts.ensures (rule_in c.args.condition.now) logged names
    (hosts_now (rule_in c.args.condition.now) logged names c.args.search.now c.end.new.self c.in_ok-moment.ensures.counts
    taken.hosts) in
    let some : length c.in_ok-counts.counts.items ≡ 0 → ⊥ =
    λ is. grind (arith, common_steps, c.if-is_empty.false, c.is_empty.ensures, c.in_ok-counts.counts.ok.0, is) in
    NoMoment c.in_ok-counts.counts.items (record {
      none = rw c.in_default.is at (c.in_ok-moment.ensures.last (names_of c.args.condition.now)
          (rule_in c.args.condition.now) logged taken);
      some = some_names names (length c.in_ok-counts.counts.items) counted.as_many some;
      counted = counted;
    }) (ap none (subst (λ (counts : List MatchedCount). map seen_count c.in_ok-told_counts.field-0.items
    ≡ map told_count counts) c.deref.ensures.value c.in_ok-told_counts.ensures))
