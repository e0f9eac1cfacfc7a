use Rattle.std.proofs.Common.{refl}
use Rattle.trace_log.proofs.Keeps.{keeps-none}
use Rattle.trace_log.proofs.log.Log.new.Goals as goal

pub returns : goal.returns
returns c = record { form_is = refl; lines = refl; waits = refl; keeps = keeps-none c.new.result c.new.ensures }
