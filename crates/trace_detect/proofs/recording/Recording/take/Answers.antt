use Rattle.std.proofs.lemmas.List.{with_items_is}
use Rattle.trace_log.specs.Turns.{seen_logged}
use Rattle.trace_detect.proofs.Words.{◌≡◌, ◌∙◌, List, None, length, refl, ap, subst, arith, length-set, condition_at}
use Rattle.trace_detect.proofs.Words.{Condition, Judged, IsPlace, JudgesOneAt}
use Rattle.trace_detect.proofs.Watches.{passes_over, room_of}
use Rattle.trace_detect.proofs.NextTaken.{takes_at}
use Rattle.trace_detect.proofs.Recorded.{kept-next, kept-over, kept-within, records-next}
use Rattle.trace_detect.proofs.recording.Recording.take.Goals as goal

pub returns-in_default : goal.returns-in_default
returns-in_default c conditions why before recording follow =
    let watcher = c.args.self.now.watcher in
    let host = c.args.logged.now.event.host.now in
    let one = seen_logged c.args.logged.now in
    let none : condition_at host conditions ≡ None =
    subst (λ (cs : List Condition). condition_at host cs ≡ None) recording.watching.by c.in_default.ensures in (
      record {
        watching = passes_over conditions None before one watcher recording.watching none;
        kept = kept-over why conditions before one c.args.self.now.history recording.kept none;
      },
      c.requires.none_known,
    )

pub judge_at-holds-requires-clause-room : goal.judge_at-holds-requires-clause-room
judge_at-holds-requires-clause-room c =
    let watcher = c.args.self.now.watcher in
    let is_place : IsPlace c.args.logged.now.event.host.now watcher.conditions.now c.in-Some.place = c.in-Some.ensures in
    rw c.deref_mut.ensures.value (room_of watcher.conditions.now c.requires.before watcher.judges.items c.in-Some.place
    c.requires.is.watching.judges is_place.within c.requires.few)

pub keep-requires : goal.keep-requires
keep-requires c =
    let watcher = c.args.self.now.watcher in
    let is_place : IsPlace c.args.logged.now.event.host.now watcher.conditions.now c.in-Some.place = c.in-Some.ensures in
    kept-within c.requires.why watcher.conditions.now c.requires.before c.args.self.now.history c.in-Some.place
    c.requires.is.kept is_place.within

pub returns : goal.returns
returns c conditions why before recording follow =
    let watcher = c.args.self.now.watcher in
    let host = c.args.logged.now.event.host.now in
    let text = c.args.logged.now.event.text.now in
    let one = seen_logged c.args.logged.now in
    let place = c.in-Some.place in
    let judges = c.judge_at-holds.new.judges in
    let holds = c.judge_at-holds.result in
    let is_place : IsPlace host conditions place =
    subst (λ (cs : List Condition). IsPlace host cs place) recording.watching.by c.in-Some.ensures in
    let judged : JudgesOneAt place watcher.judges.items text holds judges =
    subst (λ (old : List Judged). JudgesOneAt place old text holds judges) c.deref_mut.ensures.value
    c.judge_at-holds.ensures in
    let kept : length judges ≡ length watcher.judges.items =
    ap length judged.set ∙ length-set watcher.judges.items place judged.judge in
    records-next conditions why before one c.take.result _ (takes_at conditions None before one place watcher _ holds
    c.take.result recording.watching follow is_place
    (rw (with_items_is watcher.judges judges (omega (arith, kept))) judged) refl c.take.ensures.watched
    c.take.ensures.taken)
    (kept-next why conditions before one place watcher judges holds c.args.self.now.history c.keep.new.history
    recording.watching follow is_place judged recording.kept c.in_ok-keep.ensures)
