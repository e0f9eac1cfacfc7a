use Rattle.std.proofs.Common.{Some}
use Rattle.wcp_probe.specs.Core.{setup_of}
use Rattle.wullaphi.proofs.lending.lend_and_close.Given as goal

abbrev pub ghosts-lend : goal.ghosts-lend
ghosts-lend g a = record { watch = a.probe.core.watch; made = setup_of a.probe.core; ring = Some a.probe.link.ring }
