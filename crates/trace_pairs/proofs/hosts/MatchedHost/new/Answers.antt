use Rattle.trace_pairs.proofs.Words.{refl}
use Rattle.trace_condition.specs.Conditions.{rule_of}
use Rattle.trace_pairs.specs.declared.hosts.MatchedHost.{MatchedHost}
use Rattle.trace_pairs.proofs.Hosting.{knows_new}
use Rattle.trace_pairs.proofs.hosts.MatchedHost.new.Goals as goal

pub returns : goal.returns
returns c =
    let name = c.args.name.now in
    let host : MatchedHost = record {
      name = c.in_ok-from_str.field-0;
      judge = c.in_ok-judge.field-0;
      events = 0;
      matched = 0;
      kept = c.new.result;
    } in
    knows_new (rule_of c.args.condition.now) name host c.in_ok-from_str.ensures.ok c.in_ok-judge.ensures
    (c.new.ensures name) refl refl
