use Rattle.std.proofs.Common.{sym, append-nil}
use Rattle.trace_spelling.specs.Ways.{seen_way}
use Rattle.trace_spelling.proofs.Found.{of_no_text}
use Rattle.trace_spelling.proofs.finder.Finder.say.Goals as goal

pub returns-in_default-clause-line : goal.returns-in_default-clause-line
returns-in_default-clause-line c =
    rw (of_no_text (seen_way c.args.self.now) c.args.text.now c.in_default.ensures.cases.0)
    (sym (append-nil c.args.out.now.items))
