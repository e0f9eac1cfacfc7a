use Rattle.trace_detect.proofs.Words.{◌∙◌, List, sym, ap, subst, host_of, Judged, AreJudges}
use Rattle.trace_detect.specs.Detection.{IsFirstSilent}
use Rattle.trace_detect.proofs.Detecting.{has_silent}
use Rattle.trace_detect.proofs.detection.no_moment_answer.Goals as goal

pub returns-in-Some : goal.returns-in-Some
returns-in-Some c conditions logged counted none =
    let judges =
    subst (λ (js : List Judged). AreJudges conditions logged js) (sym c.deref.ensures.value) counted.judges in
    let first : IsFirstSilent logged conditions c.in-Some.place = c.in-Some.ensures.first conditions logged judges in
    has_silent conditions logged c.args.watcher.now c.in-Some.place
    c.index-watcher-place.result _ counted none first c.index-watcher-place.is
    (ap host_of c.index-watcher-place.is ∙ sym c.as_str.ensures.value ∙ sym c.in_ok-host.ensures.ok)
