-- What the ends of a workload's run tell of it.
use Rattle.wcp_run.proofs.Words.{◌≡◌, ℕ, ◌<◌, ◌≤◌, Some, List, [], ◌∷◌, length, slice_get, sym, refl, ap, subst, ◌∙◌}
use Rattle.wcp_run.proofs.Words.{arith, slice_get_within, get_or_from_slice_get, Plan, Task, count_by_no, count_by_yes}
use Rattle.wcp_run.proofs.Words.{ClosedSide, snapshots_in, WorkerEnd, AreMatched, AreOfLane, HaveRun, ends_between}
use Rattle.wcp_run.proofs.Words.{PlayedEnds, Ends, AreOfWorkers, AreEndsOfRun, IsToldWithin}
use Rattle.std.proofs.lemmas.List.Elements.{All-contains}
use Rattle.wcp_clock.specs.Limits.{most_processes}
use Rattle.wcp_clock.specs.Notes.{is_snapshot}
use Rattle.wcp_clock.specs.declared.note.Note.{Note}
use Rattle.wcp_clock.specs.declared.note.Note.TheVariants.{Snap, Close, Lost}
use Rattle.wcp_model.specs.declared.outcome.Tally.{Tally}
use Rattle.wcp_book.specs.State.{BookState}
use Rattle.wcp_model.specs.WorkloadOutcome.{IsWorkloadOutcome}
use Rattle.wcp_model.specs.Report.{notes_taken, snapshot_clocks, clocks_taken}
use Rattle.wcp_model.proofs.CheckedPlans.{few_processes}
use Rattle.wcp_worker.proofs.RunOutcomes.{IsWorkloadOutcome-run}
use Rattle.wcp_model.specs.declared.outcome.Outcome.{Outcome}
use Rattle.wcp_watch.specs.Settling.{ComeFromWatch, IsEndOfSomeProbe, IsSettled}
use Rattle.wcp_run.proofs.PlayedWorkers.{HasPlayedAt, played_at, as_many, lanes_left}
use Rattle.wcp_watch.proofs.CheckedItems.{lost_told}
use Rattle.wcp_watch.specs.CheckerEnds.{watched_at}
use Rattle.wcp_watch.proofs.ToldReports.{watched_of}
use Rattle.wcp_watch.proofs.WatchEnds.{IsEndOfProcess, all_processes, come_from_parts, end_of_process}

-- the snapshots among notes are as many as their clocks
snapshots_counted : (notes : List Note) → snapshots_in notes ≡ length (snapshot_clocks notes)
snapshots_counted [] = refl
snapshots_counted (Snap number clock ∷ notes) =
    count_by_yes is_snapshot (Snap number clock) notes refl ∙ omega (arith, snapshots_counted notes)
snapshots_counted (Close count ∷ notes) =
    count_by_no is_snapshot (Close count) notes refl ∙ snapshots_counted notes
snapshots_counted (Lost count ∷ notes) =
    count_by_no is_snapshot (Lost count) notes refl ∙ snapshots_counted notes

module _ {plan : Plan} {tasks : List Task} {ends : Ends WorkerEnd} (run : AreEndsOfRun plan tasks ends) where
  workers_count : length run.parts.workers.items ≡ plan.n
  workers_count = run.are.workers.count ∙ run.are.wired.rings.probes_count

  pub few_ends : length ends.workers.items ≤ most_processes
  few_ends = omega (arith, few_processes plan run.checked, run.ended.workers.count, workers_count)

  n_is : ends.checker.processes ≡ plan.n
  n_is = all_processes run.are.wired (rw run.are.inbox at run.ended.checker)

  watched_is : watched_at ends.checker 0 ≡ plan.watched
  watched_is = watched_of ends.checker.panel (run.ended.checker.same_watched ∙ run.are.watched) 0 refl

  -- the process that the checker tells to be lost is one of the workers'
  pub told_within : IsToldWithin ends
  told_within p told =
      let is = run.ended.checker in
      let lost : ends.checker.lost ≡ Some p =
      lost_told is.starved ends.checker.cut ends.checker.lost p (sym is.fault ∙ told) in
      let lowest = rw lost at is.lost in
      omega (arith, lowest.0, n_is, run.ended.workers.count, workers_count)

  module _ {played : PlayedEnds} (left : AreOfWorkers ends.workers.items played) where
    pub few_mailboxes : length played.mailboxes.items ≤ most_processes
    few_mailboxes = omega (arith, few_processes plan run.checked, as_many run.ended.workers left, workers_count)

    pub lanes_are : (p q : ℕ) → p < length played.mailboxes.items → q < length played.mailboxes.items
        → AreOfLane p (ends_between played.mailboxes.items p q)
    lanes_are = lanes_left run.ended.workers left tasks run.are.watch.probes.items run.are.workers

    here : (p : ℕ) → p < plan.n → HasPlayedAt run.ended.workers left p
    here p below = played_at run.ended.workers left p (omega (arith, workers_count))

    of_process : (p : ℕ) (below : p < plan.n) → IsEndOfProcess run.are.watch plan.n plan.watched plan.flag p
        (here p below).worker.player.probe (here p below).probe
    of_process p below =
        let one = here p below in
        end_of_process run.are.wired p one.worker.player.probe one.probe
        (run.are.workers.each p one.worker one.worker_at).probe one.has.closed

    pub come : ComeFromWatch played.probes.items ends.relays.items ends.checker
    come = come_from_parts run.are.wired run.checked
        (λ k d within.
        let below : k < plan.n = omega (arith, as_many run.ended.workers left, workers_count) in
        subst (IsEndOfSomeProbe run.are.watch.probes.items)
        (sym (get_or_from_slice_get played.probes.items k (here k below).probe d (here k below).probe_at))
        (of_process k below).is_end)
        run.ended run.are.relays run.are.inbox

    module _ (matched : AreMatched played.mailboxes.items) {book : BookState} {settled : Outcome}
        (is : IsSettled played.probes.items ends.checker book settled) where
      have_run : HaveRun plan.n plan.watched plan.flag tasks ends.checker.receipt.taken played.mailboxes.items
      have_run = record {
        count = (as_many run.ended.workers left).1 ∙ workers_count;
        each = λ p mailbox at.
            let below : p < plan.n =
            omega (
              arith,
              slice_get_within played.mailboxes.items p mailbox at,
              as_many run.ended.workers left,
              workers_count,
            ) in
            let one = here p below in
            let of = of_process p below in
            let same : one.mailbox ≡ mailbox = let both = sym one.mailbox_at ∙ at in cc in (
              one.log,
              record {
                worker = one.worker;
                probe = one.probe;
                made = of.made;
                actions = (run.are.workers.each p one.worker one.worker_at).actions;
                played = rw same at one.has;
                taken = rw (get_or_from_slice_get played.probes.items p one.probe one.probe one.probe_at, of.id)
                    at (is.whole p one.probe (slice_get_within played.probes.items p one.probe one.probe_at));
              },
            );
        matched = matched;
      }

      abbrev counted : ℕ → ℕ
      counted p = length (clocks_taken p ends.checker.receipt.taken)

      -- the tally that the ends tell of a process
      abbrev told : ClosedSide → Tally
      told end = record {
        emitted = snapshots_in end.link.put;
        taken = snapshots_in (notes_taken end.id ends.checker.receipt.taken);
      }

      tally_at : (p : ℕ) (tally : Tally) → slice_get settled.tallies p ≡ Some tally
          → (tally.emitted ≡ counted p) × (tally.taken ≡ counted p)
      tally_at p tally at =
          let (end, (among, id)) =
          is.all p (omega (arith, slice_get_within settled.tallies p tally at, is.processes)) in
          let its = All-contains (λ (e : ClosedSide). slice_get settled.tallies e.id ≡ Some (told e))
          played.probes.items end is.tallies among in
          let whole = All-contains (λ (e : ClosedSide). notes_taken e.id ends.checker.receipt.taken ≡ e.link.put)
          played.probes.items end is.whole among in
          let one : tally ≡ told end = let both = sym at ∙ ap (slice_get settled.tallies) (sym id) ∙ its in cc in
          let count = snapshots_counted (notes_taken p ends.checker.receipt.taken) in
          ((cc), (cc))

      pub outcome_of_run : IsWorkloadOutcome plan.n plan.watched plan.flag tasks settled
      outcome_of_run = IsWorkloadOutcome-run plan.n plan.watched plan.flag tasks ends.checker.receipt.taken
          played.mailboxes.items have_run _ run.within (record {
            exact = λ rising. rw (n_is, watched_is) at (is.exact 0 settled.report is.first);
            processes = is.processes ∙ n_is;
            emitted = λ p tally at. (tally_at p tally at).0;
            taken = λ p tally at. (tally_at p tally at).1;
          })
