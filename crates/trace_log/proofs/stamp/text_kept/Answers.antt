use Rattle.trace_log.proofs.Words.{seen_clock}
use Rattle.trace_log.proofs.Stamps.{clock_in_text-distinct}
use Rattle.trace_log.proofs.stamp.text_kept.Goals as goal

pub clock_kept-requires : goal.clock_kept-requires
clock_kept-requires c =
    clock_in_text-distinct c.args.text.now (seen_clock c.in_ok-clock.clock.items) c.in_ok-clock.ensures
