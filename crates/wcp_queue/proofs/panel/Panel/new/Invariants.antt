use Rattle.wcp_queue.proofs.Words.{◌≡◌, false, [], take, processes}
use Rattle.std.specs.Prelude.{All}
use Rattle.wcp_queue.specs.Checker.{HasCountedNone}
use Rattle.wcp_queue.specs.Panel.{watched_by, StandForItems}
use Rattle.wcp_queue.proofs.panel.Panel.new.Given as goal

abbrev pub invariant-loop-watched : goal.invariant-loop-watched
invariant-loop-watched l = record {
  watched : watched_by l.checkers.items ≡ take l.watched-index l.questions;
  processes : All (λ checker. processes checker ≡ l.n) l.checkers.items;
  empty : StandForItems l.checkers.items [];
  counted_none : All HasCountedNone l.checkers.items;
  not_starved : All (λ checker. checker.starved ≡ false) l.checkers.items;
}
