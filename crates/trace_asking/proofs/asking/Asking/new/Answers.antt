use Rattle.trace_asking.proofs.Words.{refl, []}
use Rattle.trace_asking.proofs.Questions.{all_stand}
use Rattle.trace_asking.proofs.asking.Asking.new.Goals as goal

pub returns-clause-asking : goal.returns-clause-asking
returns-clause-asking g c whole gave = record {
  logged = [];
  given = gave;
  many = refl;
  asked = all_stand (g.S.Source.story whole) c.args.questions.now c.args.source []
      c.in_ok-asked_of.field-0.items c.in_ok-asked_of.ensures.waiting;
}
