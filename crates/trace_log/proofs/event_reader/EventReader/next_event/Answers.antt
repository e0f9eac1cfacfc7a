use Rattle.trace_log.proofs.EventWords.{◌≡◌, ◌∙◌, ap, subst, sym, Ok, Form, false, Gives}
use Rattle.trace_log.proofs.ReadLines.{ends_input, ends_log, hands_on, line_fault, reads_end, reads_missing, reads_none}
use Rattle.trace_log.proofs.ReadLines.{reads_some}
use Rattle.trace_log.proofs.event_reader.EventReader.next_event.Goals as goal

pub returns-in_err-end-clause-reads : goal.returns-in_err-end-clause-reads
returns-in_err-end-clause-reads g c form known logged given =
    let before = c.loop-self.invariant form known logged given in
    let missing = sym (c.end.ensures form before.says.so_far before.read) ∙ c.in_err-end.was in
    hands_on form known _ logged _ c.loop-self.self.log _ c.from_residual.ensures
    (reads_missing form known _ _ logged c.loop-self.self.log c.in_err-end.field-0.0 before
    (ends_log form known _ logged c.loop-self.self.log before (sym c.is_over.ensures ∙ c.if-is_over.true)) missing)

pub returns-then-is_over-clause-reads : goal.returns-then-is_over-clause-reads
returns-then-is_over-clause-reads g c form known logged given =
    let before = c.loop-self.invariant form known logged given in
    let may_end = sym (c.end.ensures form before.says.so_far before.read) ∙ c.in_ok-end.was in
    reads_end form known _ _ logged c.loop-self.self.log before
    (ends_log form known _ logged c.loop-self.self.log before (sym c.is_over.ensures ∙ c.if-is_over.true)) may_end

pub returns-in_err-end-2-clause-reads : goal.returns-in_err-end-2-clause-reads
returns-in_err-end-2-clause-reads g c form known logged given =
    let before = c.loop-self.invariant form known logged given in
    let missing = sym (c.end-then-not-branch.ensures form before.says.so_far before.read) ∙ c.in_err-end-2.was in
    let is : Ok c.in_ok-advance.field-0 ≡ Ok false = ap Ok c.if-not-branch.true in
    hands_on form known _ logged _ c.loop-self.self.log _ c.from_residual-in_err-end-2.ensures
    (reads_missing form known _ _ logged c.loop-self.self.log c.in_err-end-2.field-0.0 before
    (ends_input form known _ _ logged c.loop-self.self.log before (c.in_ok-advance.ensures.none is)
    (c.in_ok-advance.ensures.ended is)) missing)

pub returns-then-not-branch-clause-reads : goal.returns-then-not-branch-clause-reads
returns-then-not-branch-clause-reads g c form known logged given =
    let before = c.loop-self.invariant form known logged given in
    let may_end = sym (c.end-then-not-branch.ensures form before.says.so_far before.read) ∙ c.in_ok-end-2.was in
    let is : Ok c.in_ok-advance.field-0 ≡ Ok false = ap Ok c.if-not-branch.true in
    reads_end form known _ _ logged c.loop-self.self.log before
    (ends_input form known _ _ logged c.loop-self.self.log before (c.in_ok-advance.ensures.none is)
    (c.in_ok-advance.ensures.ended is)) may_end

pub returns-in_err-read-clause-reads : goal.returns-in_err-read-clause-reads
returns-in_err-read-clause-reads g c form known logged given =
    let before = c.loop-self.invariant form known logged given in
    let line = c.in_ok-advance.ensures.line (ap Ok c.if-not-branch.false) in
    let reads = c.in_err-read.ensures.reads form before.says.so_far before.read in
    hands_on form known _ logged _ c.read.new.self _ c.from_residual-in_err-read.ensures
    (line_fault form known _ _ logged c.loop-self.self.log c.read.new.self c.line.result.now c.in_err-read.field-0.0
    before (sym c.is_over.ensures ∙ c.if-is_over.false) (subst (Gives _ _) (sym c.line.ensures) line) reads)

pub returns-then-branch-clause-reads : goal.returns-then-branch-clause-reads
returns-then-branch-clause-reads g c form known logged given =
    let before = c.loop-self.invariant form known logged given in
    let line = c.in_ok-advance.ensures.line (ap Ok c.if-not-branch.false) in
    let so_far = before.says.so_far in
    let is = c.in_ok-read.ensures.reads form so_far before.read in
    reads_some form known _ _ logged c.loop-self.self.log c.read.new.self c.line.result.now before
    (sym c.is_over.ensures ∙ c.if-is_over.false) (subst (Gives _ _) (sym c.line.ensures) line) is.0
    (sym is.1 ∙ c.if-branch.true)

pub returns-in_err-check-clause-reads : goal.returns-in_err-check-clause-reads
returns-in_err-check-clause-reads g c form known logged given =
    let before = c.loop-self.invariant form known logged given in
    let is = c.in_ok-read.ensures.reads form before.says.so_far before.read in
    hands_on form known _ logged _ c.read.new.self _ c.from_residual-in_err-check.ensures
    (sym (ap (λ (f : Form). f.check) is.0.read.form_is) ∙ c.in_err-check.ensures)

pub loop-self-preserved : goal.loop-self-preserved
loop-self-preserved g c form known logged given =
    let before = c.loop-self.invariant form known logged given in
    let line = c.in_ok-advance.ensures.line (ap Ok c.if-not-branch.false) in
    let so_far = before.says.so_far in
    let is = c.in_ok-read.ensures.reads form so_far before.read in
    reads_none form known _ _ logged c.loop-self.self.log c.read.new.self c.line.result.now before
    (sym c.is_over.ensures ∙ c.if-is_over.false) (subst (Gives _ _) (sym c.line.ensures) line) is.0
    (sym is.1 ∙ c.if-branch.false)
