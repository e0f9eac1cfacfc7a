use Rattle.wcp_worker.proofs.Words.{All, map, [], ◌∷◌, ◌++◌, sym, ap, ◌∙◌, subst, zero, suc, arith, map_push, Worker}
use Rattle.wcp_worker.proofs.Words.{IsIdle}
use Rattle.std.proofs.lemmas.List.Elements.{All-append}
use Rattle.wcp_worker.proofs.worker_opening.idle_workers.Goals as goal

all_one : (worker : Worker) → IsIdle worker → All IsIdle (worker ∷ [])
all_one worker is zero d below = is
all_one worker is (suc k) d below = absurd (omega arith)

pub loop-probe-preserved : goal.loop-probe-preserved
loop-probe-preserved c =
    let old = c.loop-probe.invariant in
    let pushed = c.in_ok-push.ensures.items in
    record {
      probes = ap (map (λ (w : Worker). w.player.probe)) pushed
          ∙ map_push (λ (w : Worker). w.player.probe) c.loop-probe.workers.items _
          ∙ ap (λ p. map (λ (w : Worker). w.player.probe) c.loop-probe.workers.items ++ p ∷ [])
          c.new_player.ensures.probe
          ∙ ap (λ ps. ps ++ c.in-Some.probe ∷ []) old.probes;
      idle = subst (All IsIdle) (sym pushed)
          (All-append IsIdle c.loop-probe.workers.items _ old.idle (all_one _ (record {
            actions = c.new.ensures.items;
            outboxes = c.new_player.ensures.outboxes;
            inboxes = c.new_player.ensures.inboxes;
          })));
    }
