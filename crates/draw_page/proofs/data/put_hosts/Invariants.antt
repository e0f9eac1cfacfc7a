use Rattle.std.proofs.Common.{take}
use Rattle.std.specs.List.{flat_map}
use Rattle.draw_page.specs.Adding.{Adds}
use Rattle.draw_page.specs.Model.{host_tokens}
use Rattle.draw_page.proofs.data.put_hosts.Given as goal

abbrev pub invariant-loop-host : goal.invariant-loop-host
invariant-loop-host l = Adds l.initial.out l.out (flat_map host_tokens (take l.host-index l.hosts))
