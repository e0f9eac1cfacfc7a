use Rattle.wcp_queue.proofs.Words.{◌≡◌, false, [], sym, subst, arith, All-push, CheckerState}
use Rattle.wcp_queue.proofs.Words.{AreSomeWatched, StandsForItems, processes}
use Rattle.wcp_queue.specs.Checker.{HasCountedNone}
use Rattle.wcp_queue.proofs.Panels.{watched_by-more, IsSoundPanel-new}
use Rattle.wcp_queue.proofs.panel.Panel.new.Goals as goal

pub new-requires-clause-watched : goal.new-requires-clause-watched
new-requires-clause-watched c =
    let place = c.loop-watched.watched-index in
    subst (AreSomeWatched c.args.n) (sym c.watched-item.is)
    (c.requires.watched place c.watched-item.result (omega arith))

pub loop-watched-preserved : goal.loop-watched-preserved
loop-watched-preserved c =
    let old = c.loop-watched.invariant in
    let panel = c.loop-watched.checkers.items in
    let checker = c.in_ok-new.field-0 in
    let new = c.in_ok-new.ensures in
    rw c.in_ok-push.ensures.items (record {
      watched = watched_by-more panel c.args.questions.now c.loop-watched.watched-index checker c.watched-item.result
          (omega arith) c.watched-item.is new.watched old.watched;
      processes = All-push (λ (one : CheckerState). processes one ≡ c.args.n) panel checker old.processes new.processes;
      empty = All-push (λ (one : CheckerState). StandsForItems one []) panel checker old.empty new.empty;
      counted_none = All-push HasCountedNone panel checker old.counted_none new.counted_none;
      not_starved = All-push (λ (one : CheckerState). one.starved ≡ false) panel checker old.not_starved
          new.not_starved;
    })

pub invariant_of-result : goal.invariant_of-result
invariant_of-result c =
    let are = c.loop-watched.invariant in
    IsSoundPanel-new c.loop-watched.checkers.items c.args.questions.now c.args.n c.loop-watched.watched-index
    are.watched (omega arith) c.requires.some are.processes are.counted_none
