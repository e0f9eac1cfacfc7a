use Rattle.std.proofs.Common.{refl, inl}
use Rattle.wullaphi.proofs.watched_once.WatchedOnce.get.Goals as goal

pub returns-in_default-clause-taken : goal.returns-in_default-clause-taken
returns-in_default-clause-taken g c = (c.args.probe.now, inl refl, inl refl)
