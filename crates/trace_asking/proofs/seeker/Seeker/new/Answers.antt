use Rattle.trace_asking.proofs.Words.{[], List, subst}
use Rattle.trace_condition.specs.declared.condition.Condition.{Condition}
use Rattle.trace_detect.specs.Recording.{IsRecording}
use Rattle.trace_asking.proofs.Seekers.{seeks_hosts}
use Rattle.trace_asking.proofs.seeker.Seeker.new.Goals as goal

pub returns-in_ok-new-in-Hosts : goal.returns-in_ok-new-in-Hosts
returns-in_ok-new-in-Hosts c =
    let recording = c.in_ok-new-in-Hosts.field-0 in
    let why = c.args.question.now.why in
    rw c.in-Hosts.is (seeks_hosts c.in-Hosts.conditions.items why recording
    (subst (λ (cs : List Condition). IsRecording cs why [] recording) c.deref.ensures.value
    c.in_ok-new-in-Hosts.ensures))
