use Rattle.trace_detect.proofs.Words.{◌≡◌, ◌∙◌, List, None, length, refl, ap, subst, arith, length-set, condition_at}
use Rattle.trace_detect.proofs.Words.{Condition, Judged, IsPlace, JudgesOneAt}
use Rattle.std.proofs.lemmas.List.{with_items_is}
use Rattle.trace_log.specs.Turns.{seen_logged}
use Rattle.trace_detect.proofs.Watches.{passes_over, keeps_over, room_of}
use Rattle.trace_detect.proofs.NextTaken.{takes_at, keeps_at}
use Rattle.trace_detect.proofs.watcher.Watcher.take.Goals as goal

pub returns-in_default-clause-next : goal.returns-in_default-clause-next
returns-in_default-clause-next c conditions told before watching follow =
    let host = c.args.logged.now.event.host.now in
    let none : condition_at host c.args.self.now.conditions.now ≡ None = c.in_default.ensures in (
      passes_over conditions told before (seen_logged c.args.logged.now) c.args.self.now watching
          (subst (λ (cs : List Condition). condition_at host cs ≡ None) watching.by none),
      c.requires.none_known,
    )

pub returns-in_default-clause-all : goal.returns-in_default-clause-all
returns-in_default-clause-all c conditions told before watching follow =
    let host = c.args.logged.now.event.host.now in
    let none : condition_at host c.args.self.now.conditions.now ≡ None = c.in_default.ensures in
    keeps_over conditions told before (seen_logged c.args.logged.now) c.args.self.now watching
    (subst (λ (cs : List Condition). condition_at host cs ≡ None) watching.by none) c.requires.none_known

pub judge_at-holds-requires-clause-room : goal.judge_at-holds-requires-clause-room
judge_at-holds-requires-clause-room c =
    let is_place : IsPlace c.args.logged.now.event.host.now c.args.self.now.conditions.now c.in-Some.place =
    c.in-Some.ensures in
    rw c.deref_mut.ensures.value (room_of c.args.self.now.conditions.now c.requires.before c.args.self.now.judges.items
    c.in-Some.place c.requires.watching.judges is_place.within c.requires.few)

pub returns-clause-next : goal.returns-clause-next
returns-clause-next c conditions told before watching follow =
    let self = c.args.self.now in
    let host = c.args.logged.now.event.host.now in
    let text = c.args.logged.now.event.text.now in
    let named : IsPlace host self.conditions.now c.in-Some.place = c.in-Some.ensures in
    let judged : JudgesOneAt c.in-Some.place c.deref_mut.result.now text c.judge_at-holds.result
    c.judge_at-holds.new.judges = c.judge_at-holds.ensures in
    let of_self : JudgesOneAt c.in-Some.place self.judges.items text c.judge_at-holds.result
    c.judge_at-holds.new.judges =
    subst (λ (old : List Judged). JudgesOneAt c.in-Some.place old text c.judge_at-holds.result
    c.judge_at-holds.new.judges) c.deref_mut.ensures.value judged in
    let kept : length c.judge_at-holds.new.judges ≡ length self.judges.items =
    ap length of_self.set ∙ length-set self.judges.items c.in-Some.place of_self.judge in
    takes_at conditions told before
    (seen_logged c.args.logged.now) c.in-Some.place self _ c.judge_at-holds.result c.take.result watching follow
    (subst (λ (cs : List Condition). IsPlace host cs c.in-Some.place) watching.by named)
    (rw (with_items_is self.judges c.judge_at-holds.new.judges (omega (arith, kept))) of_self)
    refl c.take.ensures.watched c.take.ensures.taken

pub returns-clause-all : goal.returns-clause-all
returns-clause-all c conditions told before watching follow =
    let self = c.args.self.now in
    let host = c.args.logged.now.event.host.now in
    let text = c.args.logged.now.event.text.now in
    let named : IsPlace host self.conditions.now c.in-Some.place = c.in-Some.ensures in
    let judged : JudgesOneAt c.in-Some.place self.judges.items text c.judge_at-holds.result
    c.judge_at-holds.new.judges =
    subst (λ (old : List Judged). JudgesOneAt c.in-Some.place old text c.judge_at-holds.result
    c.judge_at-holds.new.judges) c.deref_mut.ensures.value c.judge_at-holds.ensures in
    keeps_at conditions told before
    (seen_logged c.args.logged.now) c.in-Some.place self c.take.new.self c.judge_at-holds.new.judges c.judge_at-holds.result
    c.take.result watching follow
    (subst (λ (cs : List Condition). IsPlace host cs c.in-Some.place) watching.by named) judged
    (λ taken had next. c.take.ensures.all taken had c.requires.none_known next)
