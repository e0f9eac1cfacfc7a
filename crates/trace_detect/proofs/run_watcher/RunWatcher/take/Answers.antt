use Rattle.std.proofs.lemmas.List.{with_items_is}
use Rattle.std.specs.Vec.{with_items}
use Rattle.trace_log.specs.Turns.{seen_logged}
use Rattle.trace_detect.proofs.Words.{◌≡◌, ◌∙◌, List, None, Ok, length, refl, ap, subst, arith, length-set, condition_at}
use Rattle.trace_detect.proofs.Words.{Condition, Judged, IsPlace, JudgesOneAt, Watcher}
use Rattle.trace_detect.proofs.Watches.{room_of}
use Rattle.trace_detect.proofs.NextTaken.{takes_at}
use Rattle.trace_detect.proofs.RunsTaken.{runs-next, runs-over}
use Rattle.trace_detect.proofs.run_watcher.RunWatcher.take.Goals as goal

pub returns-in_default : goal.returns-in_default
returns-in_default c conditions before is follow =
    let host = c.args.logged.now.event.host.now in
    let none : condition_at host conditions ≡ None =
    subst (λ (cs : List Condition). condition_at host cs ≡ None) is.watching.by c.in_default.ensures in
    runs-over conditions before (seen_logged c.args.logged.now) c.args.self.now is none

pub judge_at-holds-requires-clause-room : goal.judge_at-holds-requires-clause-room
judge_at-holds-requires-clause-room c =
    let watcher = c.args.self.now.watcher in
    let is_place : IsPlace c.args.logged.now.event.host.now watcher.conditions.now c.in-Some.place = c.in-Some.ensures in
    rw c.deref_mut.ensures.value (room_of watcher.conditions.now c.requires.before watcher.judges.items c.in-Some.place
    c.requires.is.watching.judges is_place.within c.requires.few)

pub returns : goal.returns
returns c conditions before is follow =
    let watcher = c.args.self.now.watcher in
    let host = c.args.logged.now.event.host.now in
    let text = c.args.logged.now.event.text.now in
    let one = seen_logged c.args.logged.now in
    let place = c.in-Some.place in
    let judges = c.judge_at-holds.new.judges in
    let holds = c.judge_at-holds.result in
    let is_place : IsPlace host conditions place =
    subst (λ (cs : List Condition). IsPlace host cs place) is.watching.by c.in-Some.ensures in
    let judged : JudgesOneAt place watcher.judges.items text holds judges =
    subst (λ (old : List Judged). JudgesOneAt place old text holds judges) c.deref_mut.ensures.value
    c.judge_at-holds.ensures in
    let kept : length judges ≡ length watcher.judges.items =
    ap length judged.set ∙ length-set watcher.judges.items place judged.judge in
    let judged_items = with_items_is watcher.judges judges (omega (arith, kept)) in
    let after : Watcher = record watcher { judges = with_items watcher.judges judges; search = c.take.new.self } in
    let taken = takes_at conditions None before one place watcher after holds (Ok c.in_ok-take.field-0) is.watching follow
    is_place (rw judged_items judged) refl c.in_ok-take.ensures.watched c.in_ok-take.ensures.taken in
    runs-next conditions before one place watcher judges holds c.args.self.now.runs
    (record { watcher = after; runs = c.take-2.new.self }) is.watching follow is_place judged is.watched is.taken
    is.none_known c.take-2.ensures.watched c.take-2.result c.take-2.ensures.taken c.take-2.ensures.known
    c.in_ok-take.field-0 taken
