use Rattle.std.proofs.Common.{refl}
use Rattle.trace_cli.proofs.Telling.{as_many_answered, kept_so_far}
use Rattle.trace_cli.proofs.answering.Answering.new.Goals as goal

pub returns-clause-can : goal.returns-clause-can
returns-clause-can g c whole gave = record { whole = whole; is = c.in_ok-new.ensures.asking whole gave }

pub returns-clause-telling : goal.returns-clause-telling
returns-clause-telling g c whole form input output output_now gave kept =
    let is = c.in_ok-new.ensures.asking whole gave in
    record {
      by = refl;
      formatted = refl;
      is = is;
      has_told = (c.in_ok-new.ensures.unanswered, as_many_answered (g.S.Source.story whole) _ _ is);
      written = kept_so_far output output_now kept;
      status = refl;
    }
