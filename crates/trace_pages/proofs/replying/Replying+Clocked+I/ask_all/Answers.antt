use Rattle.std.proofs.Common.{◌∙◌, Err, refl, ap, arith, length, length-set}
use Rattle.std.specs.Prelude.{slice_set}
use Rattle.trace_source.specs.Clocked.{left_of, log_story}
use Rattle.trace_asking.specs.Asking.{answered_by}
use Rattle.trace_asking.proofs.Bridge.{answers_one, stop_all}
use Rattle.trace_pages.specs.Replies.{reply_of}
use Rattle.trace_pages.proofs.Replies.{all_replied, replies_more, still_replying, stops_open, stops_replying}
use Rattle.trace_pages.proofs.replying.Replying+Clocked+I.ask_all.Goals as goal

pub next_answer-requires : goal.next_answer-requires
next_answer-requires g c =
    let can = c.loop.invariant.0 in
    record { whole = can.whole; questions = can.questions; is = can.is }

pub returns-in_err-told : goal.returns-in_err-told
returns-in_err-told g c log questions is =
    let remaining = g.I.Read.remaining in
    let story = log_story remaining log in
    let are = c.loop.invariant.1 log questions is in
    stops_replying story log.form log.bytes questions c.from_residual.result c.in_err-told.field-0.0
    (record c.loop.self { asking = c.next_answer.new.self }) c.from_residual.ensures are.are
    (stops_open story log.form log.bytes questions c.loop.self are c.in_err-told.field-0.0
    (stop_all remaining log questions (answered_by c.loop.self.asking) c.in_err-told.field-0.0
    (c.in_err-told.ensures.answer log questions are.is)))

pub returns-in_default : goal.returns-in_default
returns-in_default g c log questions is =
    let story = log_story g.I.Read.remaining log in
    let are = c.loop.invariant.1 log questions is in
    let all = rw c.in_default.is at (c.in_ok-told.ensures.answer log questions are.is) in (
      still_replying story log.form log.bytes questions c.loop.self are
          (record c.loop.self { asking = c.next_answer.new.self }) refl
          (c.in_ok-told.ensures.asking log questions are.is) all.0,
      all_replied story log.form log.bytes questions c.loop.self are (answered_by c.next_answer.new.self) all.0 all.1,
    )

pub keep-requires : goal.keep-requires
keep-requires g c =
    let can = c.loop.invariant.0 in
    let one = rw c.in-Some.is at (c.in_ok-told.ensures.answer can.whole can.questions can.is) in
    omega (arith, one.within, can.many)

pub loop-preserved : goal.loop-preserved
loop-preserved g c =
    let remaining = g.I.Read.remaining in
    let asking = c.next_answer.new.self in
    let told = c.in-Some.told in
    let old = c.loop.self in
    let can = c.loop.invariant.0 in
    let new = record c.loop.self { asking = asking; replies = c.keep.new.replies } in
    let replied = c.keep.ensures ∙ ap (λ reply. slice_set old.replies.items told.place reply) c.reply_of.ensures in (
      record {
        whole = can.whole;
        questions = can.questions;
        is = c.in_ok-told.ensures.asking can.whole can.questions can.is;
        many = ap length replied ∙ length-set old.replies.items told.place (reply_of told.answer) ∙ can.many;
      },
      λ log questions is.
          let story = log_story remaining log in
          let are = c.loop.invariant.1 log questions is in
          let one = answers_one remaining log questions asking.source _ told _
          (rw c.in-Some.is at (c.in_ok-told.ensures.answer log questions are.is)) in
          replies_more story log.form log.bytes (left_of remaining asking.source) questions old new told are one replied
          (c.in_ok-told.ensures.asking log questions are.is),
    )

pub returns : goal.returns
returns g c log questions is =
    let are = c.loop.invariant.1 log questions is in
    (are.are, λ p question reply within not_yet. tt)
