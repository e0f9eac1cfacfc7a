use Rattle.wcp_worker.proofs.Words.{List, take, Call, HasDoneActions}
use Rattle.wcp_worker.proofs.player.Player.play.Given as goal

abbrev pub invariant-loop-step : goal.invariant-loop-step
invariant-loop-step g l = (log : List Call) × HasDoneActions l.initial.self (take l.step l.actions) log l.self
