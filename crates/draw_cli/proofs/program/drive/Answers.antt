use Rattle.draw_cli.proofs.program.drive.Goals as goal

pub returns-in-Err-clause-does : goal.returns-in-Err-clause-does
returns-in-Err-clause-does g c = (c.in-Ok.request, rw c.refuse-in-Err.ensures.status c.in-Err.ensures.does)
