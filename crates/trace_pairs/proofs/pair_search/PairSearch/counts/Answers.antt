use Rattle.trace_pairs.proofs.Words.{◌≡◌, ◌∙◌, ap, arith, length}
use Rattle.trace_pairs.proofs.Ending.{some_at}
use Rattle.trace_pairs.proofs.pair_search.PairSearch.counts.Goals as goal

pub returns : goal.returns
returns c rule logged names are =
    let hosts = c.args.self.now.hosts.items in
    let all : c.loop-host.host-index ≡ length hosts =
    omega (arith, c.loop-host-test.false, c.loop-host.auto.host-index-end, ap length c.deref-host-items.ensures.value)
    in
    record {
      as_many = c.loop-host.invariant.as_many ∙ all ∙ are.as_many;
      each = λ p count within.
          let host = some_at hosts p (omega (arith, within, are.as_many)) in
          let told = c.loop-host.invariant.each p host count (omega (arith, within, are.as_many, all)) in
          let knows = are.each p host within in
          record {
            of_host = told.of_host ∙ knows.named;
            events = told.events ∙ knows.events;
            matched = told.matched ∙ knows.matched;
          };
    }
