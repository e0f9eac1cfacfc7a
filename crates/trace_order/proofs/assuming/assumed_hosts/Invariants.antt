use Rattle.std.proofs.Common.{◌≡◌, map, take}
use Rattle.std.specs.HashMap.{get_by_text}
use Rattle.trace_order.specs.Ids.{is_known}
use Rattle.trace_order.specs.Assumed.{assumed_host}
use Rattle.trace_order.proofs.assuming.assumed_hosts.Given as goal

abbrev pub invariant-loop-host : goal.invariant-loop-host
invariant-loop-host l = l.copies.items ≡ map (assumed_host (is_known (get_by_text l.announced))) (take l.host-index l.hosts)
