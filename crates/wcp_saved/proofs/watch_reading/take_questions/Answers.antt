use Rattle.std.proofs.Common.{◌<◌, ◌≤◌, ◌++◌, ◌+◌, ◌∙◌, length, get_or, drop, map, ap, arith}
use Rattle.std.proofs.lemmas.List.{length-append}
use Rattle.wcp_queue.specs.Checker.{IsSoundChecker}
use Rattle.wcp_saved.specs.Watches.{IsQuestionInRange}
use Rattle.wcp_saved.proofs.SmallWatch.{long_question}
use Rattle.std.specs.List.{flat_map}
use Rattle.wcp_queue.specs.Panel.{no_question}
use Rattle.wcp_queue.specs.Parts.{state_of}
use Rattle.wcp_saved.specs.Watches.{question_words}
use Rattle.wcp_saved.proofs.Spelled.{next_piece, taken_more, all_taken, as_many, mapped_more}
use Rattle.wcp_saved.proofs.watch_reading.take_questions.Goals as goal

pub loop-preserved : goal.loop-preserved
loop-preserved c = λ spelled behind sound are e.
    let i = c.loop.counter in
    let so_far = c.loop.invariant spelled behind sound are e in
    let first = c.take_word-count.ensures (length spelled) (flat_map question_words spelled ++ behind) e in
    let within : i < length spelled = omega (arith, first.0, c.min-count.ensures, c.loop-test.true) in
    let got = c.in_ok-parts.ensures (get_or spelled i no_question)
    (flat_map question_words (drop (i + 1) spelled) ++ behind) (sound i no_question within) (are i no_question within)
    (so_far.1 ∙ next_piece question_words spelled i no_question behind within) in (
      taken_more spelled (map state_of c.loop.questions.items) (map state_of c.push.new.self.items) i no_question _
          within
          so_far.0 got.0 (mapped_more state_of c.loop.questions.items c.push.new.self.items _
          c.in_ok-push.ensures.items),
      got.1,
    )

pub returns : goal.returns
returns c = λ spelled after sound are e.
    let so_far = c.loop.invariant spelled after sound are e in
    let first = c.take_word-count.ensures (length spelled) (flat_map question_words spelled ++ after) e in
    let long = as_many question_words (λ checker. IsSoundChecker checker × IsQuestionInRange checker) spelled
    (λ checker is. long_question checker is.0 is.1) (λ k d within. (sound k d within, are k d within)) in
    let words = ap length first.1 ∙ length-append (flat_map question_words spelled) after in
    let past : length spelled ≤ c.loop.counter =
    omega (arith, first.0, long, words, c.min-count.ensures, c.loop-test.false) in
    all_taken question_words spelled (map state_of c.loop.questions.items) c.loop.counter c.loop.rest.now after past
    so_far.0 so_far.1
