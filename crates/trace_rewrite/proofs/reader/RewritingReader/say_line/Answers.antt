use Rattle.trace_rewrite.proofs.Words.{◌∙◌, ap, sym}
use Rattle.trace_rewrite.specs.Remaining.{waiting}
use Rattle.wcp_io.specs.Reader.{left}
use Rattle.trace_rewrite.proofs.Steps.{one_said, passes, said_again}
use Rattle.trace_rewrite.proofs.reader.RewritingReader.say_line.Goals as goal

pub returns-then-passes : goal.returns-then-passes
returns-then-passes g c =
    let self = c.args.self.now in
    passes (waiting self) self.stage (g.R.Rewrite.said self.rewriter) self.form self.count self.lines.line.items
    (left self.lines (g.I.Read.remaining self.input)) c.is_short-is_short.result c.requires.says
    c.is_short-is_short.ensures (sym c.passes.ensures ∙ c.if-passes.true)

pub returns : goal.returns
returns g c =
    let self = c.args.self.now in
    let new = c.rewrite.new.self in
    let same = c.rewrite.ensures.same in
    one_said (waiting self) (waiting new) self.stage c.stage_behind-self.result (g.R.Rewrite.said self.rewriter)
    (g.R.Rewrite.said new.rewriter) self.form new.form self.count self.lines.line.items new.lines.line.items
    (left self.lines (g.I.Read.remaining self.input)) (left new.lines (g.I.Read.remaining new.input))
    c.is_short-is_short.result
    c.requires.none c.requires.says c.stage_behind-self.ensures (ap (λ r. r.form) same)
    (ap (λ r. r.lines.line.items) same) (ap (λ r. left r.lines (g.I.Read.remaining r.input)) same)
    c.is_short-is_short.ensures (sym c.passes.ensures ∙ c.if-passes.false)
    c.in_ok-rewrite.ensures.ok

pub returns-in_err-rewrite : goal.returns-in_err-rewrite
returns-in_err-rewrite g c =
    let self = c.args.self.now in
    let new = c.rewrite.new.self in
    let same = c.rewrite.ensures.same in
    said_again (waiting self) (waiting new) self.stage new.stage (g.R.Rewrite.said self.rewriter)
    (g.R.Rewrite.said new.rewriter) self.form new.form self.count new.count self.lines.line.items new.lines.line.items
    (left self.lines (g.I.Read.remaining self.input)) (left new.lines (g.I.Read.remaining new.input))
    c.is_short-is_short.result c.requires.none c.in_err-rewrite.ensures.none c.requires.says (ap (λ r. r.stage) same)
    (ap (λ r. r.form) same) (ap (λ r. r.count) same) (ap (λ r. r.lines.line.items) same)
    (ap (λ r. left r.lines (g.I.Read.remaining r.input)) same) c.is_short-is_short.ensures
    (sym c.passes.ensures ∙ c.if-passes.false) c.in_err-rewrite.ensures.err
