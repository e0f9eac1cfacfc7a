-- What each worker of a run left that played to its end.
use Rattle.wcp_run.proofs.Words.{◌≡◌, ℕ, ◌<◌, Option, Some, None, List, length, map, slice_get, sym, ap, subst₂, ◌∙◌}
use Rattle.wcp_run.proofs.Words.{arith, option_map, length-map, slice_get-map, Task, element_within, LiveSide}
use Rattle.wcp_run.proofs.Words.{ClosedSide, Worker, WorkerEnd, HasPlayed, IsEndOfWorker, AreOfLane, ends_between}
use Rattle.wcp_run.proofs.Words.{outbox_of, inbox_of, PlayedEnds, probe_left, mailbox_left, AreOfWorkers}
use Rattle.wcp_model.specs.ProbeLog.{Call}
use Rattle.wcp_threads.specs.Threads.{AreEndsOf}
use Rattle.wcp_worker.specs.declared.mailbox.Mailbox.{Mailbox}
use Rattle.wcp_worker.specs.declared.worker_end.WorkerEnd.TheVariants.{Whole, GaveUp}
use Rattle.wcp_worker.specs.Workers.{AreWorkersOf}
use Rattle.wcp_worker.proofs.PlayedLanes.{ends_of_lane}

-- what an end left is at its place
some_left : {X : Type 0} (left there : Option X) → Some left ≡ option_map Some there
    → (x : X) × (left ≡ Some x) × (there ≡ Some x)
some_left left None same = absurd (cc)
some_left left (Some x) same = (x, (cc), (cc))

left_at : {E X : Type 0} (left : E → Option X) (ends : List E) (xs : List X) (p : ℕ) (end : E)
    → map left ends ≡ map Some xs → slice_get ends p ≡ Some end
    → (x : X) × (left end ≡ Some x) × (slice_get xs p ≡ Some x)
left_at left ends xs p end all at = some_left (left end) (slice_get xs p)
    (ap (option_map left) (sym at) ∙ sym (slice_get-map left ends p) ∙ ap (λ ys. slice_get ys p) all
    ∙ slice_get-map Some xs p)

-- a worker that left a mailbox has played
whole_end : (worker : Worker) (end : WorkerEnd) (probe : ClosedSide) (mailbox : Mailbox) → probe_left end ≡ Some probe
    → mailbox_left end ≡ Some mailbox
    → IsEndOfWorker worker end → (log : List Call) × HasPlayed worker log probe mailbox
whole_end worker (Whole own kept) probe mailbox is_probe is_mailbox (log, has) =
    let one : own ≡ probe = cc in
    let two : kept ≡ mailbox = cc in
    (log, subst₂ (HasPlayed worker log) one two has)
whole_end worker (GaveUp fault own) probe mailbox is_probe is_mailbox is = cc

module _ {workers : List Worker} {ends : List WorkerEnd} (ended : AreEndsOf IsEndOfWorker workers ends)
    {played : PlayedEnds} (are : AreOfWorkers ends played) where
  -- the worker of a process played, and what it left is at its place
  pub record HasPlayedAt (p : ℕ) : Type 0 where
    pub worker : Worker
    pub worker_at : slice_get workers p ≡ Some worker
    pub probe : ClosedSide
    pub probe_at : slice_get played.probes.items p ≡ Some probe
    pub mailbox : Mailbox
    pub mailbox_at : slice_get played.mailboxes.items p ≡ Some mailbox
    pub log : List Call
    pub has : HasPlayed worker log probe mailbox

  pub as_many : (length played.probes.items ≡ length workers) × (length played.mailboxes.items ≡ length workers)
  as_many = (
    sym (length-map played.probes.items Some) ∙ sym (ap length are.probes) ∙ length-map ends probe_left ∙ ended.count,
    sym (length-map played.mailboxes.items Some) ∙ sym (ap length are.mailboxes) ∙ length-map ends mailbox_left
        ∙ ended.count,
  )

  pub played_at : (p : ℕ) → p < length workers → HasPlayedAt p
  played_at p below =
      let (worker, worker_at) = element_within workers p below in
      let (end, end_at) = element_within ends p (omega (arith, ended.count)) in
      let (probe, is_probe, probe_at) = left_at probe_left ends played.probes.items p end are.probes end_at in
      let (mailbox, is_mailbox, mailbox_at) =
      left_at mailbox_left ends played.mailboxes.items p end are.mailboxes end_at in
      let (log, has) =
      whole_end worker end probe mailbox is_probe is_mailbox (ended.each p worker end worker_at end_at) in
      record {
        worker = worker;
        worker_at = worker_at;
        probe = probe;
        probe_at = probe_at;
        mailbox = mailbox;
        mailbox_at = mailbox_at;
        log = log;
        has = has;
      }

  -- the ends between each two are of one lane
  pub lanes_left : (tasks : List Task) (probes : List LiveSide) → AreWorkersOf tasks probes workers → (p q : ℕ)
      → p < length played.mailboxes.items → q < length played.mailboxes.items
      → AreOfLane p (ends_between played.mailboxes.items p q)
  lanes_left tasks probes all p q p_below q_below =
      let one = played_at p (omega (arith, as_many)) in
      let two = played_at q (omega (arith, as_many)) in
      subst₂ (λ source target. AreOfLane p (outbox_of source q, inbox_of target p)) (sym one.mailbox_at)
      (sym two.mailbox_at)
      (ends_of_lane p _ _ _ _ _ (all.lanes p q one.worker two.worker one.worker_at two.worker_at).1
      (one.has.lanes.outboxes q) (two.has.lanes.inboxes p))
