use Rattle.trace_rewrite.proofs.Words.{◌∙◌, ap, sym}
use Rattle.std.proofs.Common.{Ok}
use Rattle.trace_rewrite.specs.Remaining.{waiting}
use Rattle.wcp_io.specs.Reader.{left}
use Rattle.trace_rewrite.proofs.Steps.{at_last, at_end, one_read}
use Rattle.trace_rewrite.proofs.reader.RewritingReader.read_line.Goals as goal

pub returns-then-is_last : goal.returns-then-is_last
returns-then-is_last g c =
    let self = c.args.self.now in
    at_last (waiting self) self.stage (g.R.Rewrite.said self.rewriter) self.form self.count self.lines.line.items
    (left self.lines (g.I.Read.remaining self.input)) c.requires.reads (sym c.is_last.ensures ∙ c.if-is_last.true)

pub returns-in-Ok-true : goal.returns-in-Ok-true
returns-in-Ok-true g c =
    let self = c.args.self.now in
    one_read (waiting self) self.stage (g.R.Rewrite.said self.rewriter) self.form self.count self.lines.line.items
    c.advance.new.self.line.items
    (left self.lines (g.I.Read.remaining self.input)) (left c.advance.new.self (g.I.Read.remaining c.advance.new.input))
    c.requires.reads (sym c.is_last.ensures ∙ c.if-is_last.false)
    (c.in-Ok-true.ensures.line (ap Ok c.in-Ok-true.field-0-test))

pub returns-in-Ok-false : goal.returns-in-Ok-false
returns-in-Ok-false g c =
    let self = c.args.self.now in
    at_end (waiting self) self.stage (g.R.Rewrite.said self.rewriter) self.form self.count self.lines.line.items
    (left self.lines (g.I.Read.remaining self.input)) (left c.advance.new.self (g.I.Read.remaining c.advance.new.input))
    c.requires.reads (c.advance.ensures.none (c.in-Ok-false.is ∙ ap Ok c.in-Ok-false.field-0-test))
    (c.advance.ensures.ended (c.in-Ok-false.is ∙ ap Ok c.in-Ok-false.field-0-test))
