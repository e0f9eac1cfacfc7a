use Rattle.trace_detect.proofs.Words.{◌∙◌}
use Rattle.trace_detect.proofs.Watches.{watches_distinct}
use Rattle.trace_detect.proofs.Recorded.{recorded-none}
use Rattle.trace_detect.proofs.reasons.history_of.Goals as goal

pub returns-then-not-why : goal.returns-then-not-why
returns-then-not-why c = rw c.if-not-why.true tt

pub new-requires : goal.new-requires
new-requires c = rw c.in_ok-watched.ensures (watches_distinct c.args.conditions.now c.requires)

pub returns : goal.returns
returns c =
    rw c.if-not-why.false (recorded-none c.args.conditions.now c.in_ok-new.field-0
    (c.in_ok-new.ensures.watched ∙ c.in_ok-watched.ensures) c.in_ok-new.ensures.taken)
