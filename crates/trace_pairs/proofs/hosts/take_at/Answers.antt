use Rattle.trace_pairs.proofs.Words.{get_or_default, slice_index_or}
use Rattle.trace_log.specs.Turns.{seen_logged}
use Rattle.trace_pairs.proofs.Answering.{takes_host_at}
use Rattle.trace_pairs.proofs.hosts.take_at.Goals as goal

pub returns : goal.returns
returns c =
    let hosts = c.args.hosts.now in
    let place = c.args.place in
    let one = c.index-hosts-place.result in
    takes_host_at hosts place (seen_logged c.args.logged.now) (slice_index_or hosts place one) c.take.new.self
    c.take.result (λ other. get_or_default hosts place one other c.requires.place) c.take.ensures
