use Rattle.trace_pairs.proofs.Words.{[], ◌∷◌, ap, arith, length, length-append, subst}
use Rattle.trace_pairs.specs.declared.hosts.MatchedHost.{MatchedHost}
use Rattle.trace_pairs.specs.Searching.{StandsWithNew}
use Rattle.trace_pairs.proofs.Adding.{each_more}
use Rattle.trace_pairs.proofs.rows.row_of.Goals as goal

pub loop-host-preserved : goal.loop-host-preserved
loop-host-preserved c =
    let old = c.loop-host.invariant in
    let added = c.in_ok-push.ensures.items in
    let search = c.in_ok-search.search in
    record {
      as_many = omega (arith, ap length added, length-append c.loop-host.searches.items (search ∷ []), old.as_many);
      each = rw added (each_more (λ host one. StandsWithNew c.args.lasting host c.args.name.now one) c.args.hosts.now
          c.loop-host.searches.items c.loop-host.host-index c.host-item.result search old.as_many (omega arith)
          (subst (λ (host : MatchedHost). StandsWithNew c.args.lasting host c.args.name.now search) c.host-item.is
          c.in_ok-search.ensures) old.each);
    }
