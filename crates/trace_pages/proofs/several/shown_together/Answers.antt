use Rattle.std.proofs.Common.{arith}
use Rattle.trace_source.specs.Clocked.{log_of, log_story}
use Rattle.trace_pages.proofs.SaidOfReplies.{all_closed}
use Rattle.trace_pages.proofs.Together.{waiting_shown}
use Rattle.trace_pages.proofs.several.shown_together.Goals as goal

pub ask_all-requires : goal.ask_all-requires
ask_all-requires g c =
    let log = log_of c.args.form (g.I.Read.remaining c.args.input.now) c.in_ok-source.source in
    let is = c.in_ok-replying.ensures log log.form log.bytes c.in_ok-source.ensures.gave in
    record { whole = log; questions = c.args.questions.now; is = is.is; many = is.are.as_many }

pub known_answers-requires-clause-some : goal.known_answers-requires-clause-some
known_answers-requires-clause-some g c =
    let log = log_of c.args.form (g.I.Read.remaining c.args.input.now) c.in_ok-source.source in
    let is = c.in_ok-replying.ensures log log.form log.bytes c.in_ok-source.ensures.gave in
    let all = c.in-Ok.ensures log c.args.questions.now is in
    let many = all.0.are.as_many in
    omega (arith, many, c.requires.some)

pub known_answers-requires-clause-known : goal.known_answers-requires-clause-known
known_answers-requires-clause-known g c =
    let log = log_of c.args.form (g.I.Read.remaining c.args.input.now) c.in_ok-source.source in
    let is = c.in_ok-replying.ensures log log.form log.bytes c.in_ok-source.ensures.gave in
    let all = c.in-Ok.ensures log c.args.questions.now is in
    all_closed c.args.questions.now c.ask_all.new.self.replies.items all.0.are.as_many all.1

pub returns-in-Ok-clause-answer : goal.returns-in-Ok-clause-answer
returns-in-Ok-clause-answer g c =
    let log = log_of c.args.form (g.I.Read.remaining c.args.input.now) c.in_ok-source.source in
    let is = c.in_ok-replying.ensures log log.form log.bytes c.in_ok-source.ensures.gave in
    let all = c.in-Ok.ensures log c.args.questions.now is in
    c.known_answers.ensures.shows log c.args.questions.now all.0

pub unknown_answers-requires : goal.unknown_answers-requires
unknown_answers-requires g c =
    let log = log_of c.args.form (g.I.Read.remaining c.args.input.now) c.in_ok-source.source in
    let is = c.in_ok-replying.ensures log log.form log.bytes c.in_ok-source.ensures.gave in
    let so_far = c.in-Err.ensures log c.args.questions.now is in
    let many = so_far.0.as_many in
    omega (arith, many, c.requires.some)

pub returns-in-Err-clause-answer : goal.returns-in-Err-clause-answer
returns-in-Err-clause-answer g c =
    let log = log_of c.args.form (g.I.Read.remaining c.args.input.now) c.in_ok-source.source in
    let is = c.in_ok-replying.ensures log log.form log.bytes c.in_ok-source.ensures.gave in
    let so_far = c.in-Err.ensures log c.args.questions.now is in
    waiting_shown c.args.options.now.svg log.form log.bytes c.args.questions.now c.ask_all.new.self.replies.items so_far.0
    c.in-Err.fault c.unknown_answers.result so_far.1 c.unknown_answers.ensures.shows
