use Rattle.wcp_worker.proofs.Words.{◌≡◌, ◌+◌, ◌<◌, List, length, count_by, get_or, set, sym, ap, ◌∙◌, subst, arith}
use Rattle.wcp_worker.proofs.Words.{length-append, length-set, get_or_default, Action, is_send_to, Worker, HasRow}
use Rattle.wcp_worker.proofs.OpenedRows.{same_more, given_more, rest_more, lane_along}
use Rattle.wcp_worker.proofs.worker_opening.open_row.Goals as goal

pub loop-q-preserved : goal.loop-q-preserved
loop-q-preserved c =
    let old = c.loop-q.invariant in
    let p = c.args.p in
    let q = c.loop-q.q in
    let olds = c.args.workers.now.items in
    let news = c.loop-q.workers.items in
    let was = c.index_mut.result.now in
    let inboxes = c.push-in-loop-q.new.self in
    let within : q < length news = omega arith in
    let at : was ≡ get_or news q was = c.index_mut.ensures.value in
    let pushed = c.in_ok-push.ensures.items in
    let acts : (d e : Worker) → (get_or olds p e).actions.items ≡ (get_or olds p d).actions.items =
    λ d e. ap (λ (w : Worker). w.actions.items) (get_or_default olds p e d c.requires.within) in
    let counted : (d : Worker) → c.count_sends-count.result ≡ count_by (is_send_to q) (get_or olds p d).actions.items =
    λ d. c.count_sends-count.ensures ∙ ap (count_by (is_send_to q)) (c.deref.ensures.value
    ∙ ap (λ (w : Worker). w.actions.items) (c.index.ensures ∙ get_or_default news p c.index.result.now d (omega arith))
    ∙ ap (λ v. v.items) (old.same p d c.requires.within).actions) in
    record {
      count = length-set news q _ ∙ old.count;
      row = ap length pushed ∙ length-append _ _ ∙ ap (λ n. n + 1) old.row;
      same = same_more q olds news was old.count within at old.same inboxes;
      given = λ j d below.
          subst (λ row. HasRow p (get_or olds p d).actions.items row j (get_or olds j d)
          (get_or (set news q (record was {
            player = record was.player
                { mailbox = record was.player.mailbox { inboxes = inboxes } };
          })) j d)) (sym pushed)
          (given_more q olds news was old.count within at old.same inboxes old.rest
          p (get_or olds p d).actions.items c.loop-q.row.items c.in_ok-outbox.outbox c.in_ok-outbox.inbox
          (λ i e before. subst (λ (a : List Action). HasRow p a c.loop-q.row.items i (get_or olds i e)
          (get_or news i e)) (acts d e) (old.given i e before))
          old.row c.in_ok-push-2.ensures.items
          (lane_along p (counted d) (λ i. c.in_ok-outbox.outbox) (λ i. c.in_ok-outbox.inbox) c.in_ok-outbox.ensures) j d
          below);
      rest = rest_more q olds news was old.count within at old.same inboxes old.rest;
    }
