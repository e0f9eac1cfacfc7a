use Rattle.std.proofs.Common.{◌∙◌, arith}
use Rattle.wcp_saved.specs.declared.watch.Tagged.{Tagged}
use Rattle.wcp_saved.proofs.watch_reading.take_tag.Goals as goal

pub returns : goal.returns
returns c = λ tagged after is e.
    let process = c.take_word-process.ensures _ _ e in
    let interval = c.take_word-interval.ensures _ _ process.1 in
    let tag = c.take_word-tag.ensures _ _ interval.1 in
    let own_process = c.number_of.ensures (omega (arith, process.0, is.process)) ∙ process.0 in
    let own_interval = c.number_of-2.ensures (omega (arith, interval.0, is.interval)) ∙ interval.0 in (
      (λ j. record { process = own_process j; interval = own_interval j; tag = tag.0 j }),
      tag.1,
    )
