use Rattle.wcp_cli.proofs.Imports.{Keeps-refl, Unknown, Quiet}
use Rattle.wcp_cli.proofs.Requests.{reads_nothing, same_request, status_after_err}
use Rattle.wcp_cli.proofs.program.obey.Goals as goal

pub returns-in_err-request-clause-any : goal.returns-in_err-request-clause-any
returns-in_err-request-clause-any g c = record {
  request = Unknown;
  in_ranges = tt;
  did = Quiet (Keeps-refl _) (Keeps-refl _) (status_after_err _ c.from_residual.ensures.0);
}

pub returns-in_err-request-clause-asked : goal.returns-in_err-request-clause-asked
returns-in_err-request-clause-asked g c asked is = record {
  request = asked;
  same = same_request asked;
  did = Quiet (reads_nothing asked _ _ (Keeps-refl _)) (Keeps-refl _) (status_after_err _ c.from_residual.ensures.0);
}

pub returns-clause-asked : goal.returns-clause-asked
returns-clause-asked g c asked is = record {
  request = c.in_ok-request.request;
  same = c.in_ok-request.ensures.asked asked is;
  did = c.fulfil.ensures.does;
}
