use Rattle.std.proofs.Common.{true≢false, sym, ◌∙◌}
use Rattle.wcp_run.proofs.RunFaults.{cut_first, held_first, lost_first, none_applies}
use Rattle.wcp_run.proofs.first_fault.fault_of_run.Goals as goal

pub returns-in-Some-clause-first : goal.returns-in-Some-clause-first
returns-in-Some-clause-first c =
    held_first c.args.ends.now (λ is. true≢false (sym (c.ran_out.ensures.1 is) ∙ c.if-ran_out.false)) c.in-Some.p
    (sym c.in-Some.ensures.found)

pub returns-in-Some-lowest_lost-clause-first : goal.returns-in-Some-lowest_lost-clause-first
returns-in-Some-lowest_lost-clause-first c =
    lost_first c.args.ends.now (λ is. true≢false (sym (c.ran_out.ensures.1 is) ∙ c.if-ran_out.false))
    (sym c.lowest_held.ensures.found ∙ c.in_default.is) c.in-Some-lowest_lost.p c.in-Some-lowest_lost.ensures.within
    c.in-Some-lowest_lost.ensures.lost c.in-Some-lowest_lost.ensures.lowest

pub returns-then-met_cut-clause-first : goal.returns-then-met_cut-clause-first
returns-then-met_cut-clause-first c =
    cut_first c.args.ends.now (λ is. true≢false (sym (c.ran_out.ensures.1 is) ∙ c.if-ran_out.false))
    (sym c.lowest_held.ensures.found ∙ c.in_default.is) c.in_default-lowest_lost.ensures.none
    (c.met_cut.ensures.0 c.if-met_cut.true)

pub returns-clause-none : goal.returns-clause-none
returns-clause-none c =
    none_applies c.args.ends.now (λ is. true≢false (sym (c.ran_out.ensures.1 is) ∙ c.if-ran_out.false))
    (sym c.lowest_held.ensures.found ∙ c.in_default.is) c.in_default-lowest_lost.ensures.none
    (λ is. true≢false (sym (c.met_cut.ensures.1 is) ∙ c.if-met_cut.false))
