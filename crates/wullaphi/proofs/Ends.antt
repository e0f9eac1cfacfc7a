-- What the ends of a watch of processes tell.
use Rattle.std.proofs.Common.{◌≡◌, ◌<◌, ◌≤◌, ℕ, Bool, true, false, Option, Some, None, List, [], ◌∷◌, ◌++◌, length}
use Rattle.std.proofs.Common.{map, slice_get, get_or, take, All, IfNone, IfSome, refl, sym, ap, subst, ◌∙◌, arith}
use Rattle.std.specs.Prelude.{IsSome, IsSomeAnd, is_some}
use Rattle.std.specs.List.{sum_by}
use Rattle.std.specs.FinSet as set
use Rattle.std.proofs.lemmas.List.{get_or-map, length-map, length-replicate}
use Rattle.std.proofs.lemmas.Option.{slice_get-get_or, slice_get_within}
use Rattle.wcp_book.specs.Totals.{AreTotals}
use Rattle.wcp_clock.specs.Limits.{most_processes}
use Rattle.wcp_clock.specs.ProcessNumbers.{NumberSet}
use Rattle.wcp_queue.specs.Checker.{CheckerState}
use Rattle.wcp_queue.specs.Panel.{no_question, watched_by}
use Rattle.wcp_relay.specs.declared.checker_inbox.CheckerInbox.{CheckerInbox}
use Rattle.wcp_watch.proofs.ToldReports.{watched_of}
use Rattle.wcp_model.proofs.CheckedPlans.{few_processes}
use Rattle.wcp_model.proofs.SamePlace.{element_within, slice_get-take}
use Rattle.wcp_model.specs.PlanFault.{IsCheckedPlan}
use Rattle.wcp_model.specs.ProbeLog.{Closed, setup, state_of_log}
use Rattle.wcp_model.specs.Report.{IsDrained, notes_taken}
use Rattle.wcp_model.specs.declared.outcome.Report.{Report}
use Rattle.wcp_model.specs.declared.outcome.Tally.{Tally}
use Rattle.wcp_model.specs.declared.probe_setup.ProbeSetup.{ProbeSetup}
use Rattle.wcp_book.specs.State.{BookState}
use Rattle.wcp_model.specs.declared.plan.Plan.{Plan}
use Rattle.wcp_probe.specs.Core.{Core, setup_of}
use Rattle.wcp_relay.specs.LiveProbe.{ClosedSide, IsEndOfProbe, LiveSide, snapshots_in}
use Rattle.wcp_relay.proofs.Entries.{All-at, mapped_at}
use Rattle.wcp_relay.proofs.FreshProbes.{probes_fresh}
use Rattle.wcp_watch.proofs.WatchEnds.{IsEndOfProcess, all_processes, come_from_parts, end_of_process}
use Rattle.wcp_watch.specs.CheckerEnds.{AreAllEnded, IsEndOfLoop, IsLowestLost, IsReportTold, first_fault, watched_at}
use Rattle.wcp_watch.specs.RunParts.{HaveEnded}
use Rattle.wcp_watch.specs.declared.checker_end.CheckFault.TheVariants as check_fault
use Rattle.wcp_watch.specs.Settling.{ComeFromWatch, IsEndOfSomeProbe, IsSettled}
use Rattle.wcp_watch.specs.declared.running.Ends.{Ends}
use Rattle.wcp_watch.specs.declared.running.Parts.{Parts}
use Rattle.wcp_model.specs.declared.outcome.Outcome.{Outcome}
use Rattle.wullaphi.specs.Lent.{HasLeft, HasRun}
use Rattle.wullaphi.specs.Refused.{IfLost}
use Rattle.wullaphi.specs.Seats.{ArePartsOf, IsEndOfSeat}
use Rattle.wullaphi.specs.Questions.{AreReportsTold}
use Rattle.wullaphi.specs.WatchOutcomes.{HasAnswered, IsLost, IsWatchOutcome, first_of, tally_of}
use Rattle.wullaphi.specs.declared.seat.Seat.{Seat}
use Rattle.wullaphi.specs.declared.seat.SeatEnd.{SeatEnd}
use Rattle.wullaphi.specs.declared.watch_fault.WatchFault.{WatchFault}
use Rattle.wullaphi.specs.declared.watch_fault.WatchFault.TheVariants as fault
use Rattle.wullaphi.specs.declared.watch_outcome.WatchOutcome.{WatchOutcome}

-- what holds where something is there
some_of : {X : Type 0} (found : Option X) {Holds : X → Type 0} → IsSomeAnd found Holds
    → (x : X) × (found ≡ Some x) × Holds x
some_of (Some x) holds = (x, refl, holds)
some_of None holds = absurd holds

-- what is told of a process that was lost, where more follows
pub lost_as : (told : WatchFault) {Holds More : ℕ → Report → Type 0}
    → ((p : ℕ) (report : Report) → Holds p report → More p report)
    → IfLost told Holds → IfLost told More
lost_as (fault.Plan refused) then lost = tt
lost_as fault.Count then lost = tt
lost_as fault.NoQuestion then lost = tt
lost_as (fault.Question question) then lost = tt
lost_as fault.BookInUse then lost = tt
lost_as fault.Memory then lost = tt
lost_as fault.Spawn then lost = tt
lost_as (fault.Lost process report) then lost = then process report lost
lost_as (fault.Settle refused) then lost = tt

-- the fault of a checker's loop is that a process was lost: it wasn't starved, nothing was cut, and it is that process
of_lost : (starved : Bool) (cut : _) (lost : Option ℕ) (p : ℕ)
    → first_fault starved cut lost ≡ Some (check_fault.Lost p)
    → (starved ≡ false) × (cut ≡ None) × (lost ≡ Some p)
of_lost true cut lost p is = absurd (cc)
of_lost false (Some cut) lost p is = absurd (cc)
of_lost false None (Some q) p is = (refl, refl, cc)
of_lost false None None p is = absurd (cc)

-- what holds of the probe that there is
closed_of : {closed : Option ClosedSide} {probe : ClosedSide} (Holds : ClosedSide → Type 0) → closed ≡ Some probe
    → IfSome closed Holds → Holds probe
closed_of Holds same holds = rw same at holds

-- a process has run, whether its probe was closed or not
left_of : {P A : Type 0} {Leaves : P → LiveSide → A → Type 0} {watch : ℕ} {made : ProbeSetup} {process : P} {answer : A}
    (closed : Option ClosedSide)
    → IfSome closed (λ probe. HasRun Leaves watch made process answer probe.link.put)
    → IfNone closed (HasLeft Leaves watch made process answer)
    → HasLeft Leaves watch made process answer
left_of (Some probe) ran lost =
    record {
      probe = ran.probe;
      of_watch = ran.of_watch;
      of_process = ran.of_process;
      leaves = ran.leaves;
      some_log = ran.some_log;
    }
left_of None ran lost = lost

module _ {P A : Type 0} (Leaves : P → LiveSide → A → Type 0) (done : A → Bool) {plan : Plan} {number : ℕ}
    {questions : List NumberSet} {processes : List P} {parts : Parts (Seat P)} {ends : Ends (SeatEnd A)}
    (checked : IsCheckedPlan plan) (are : ArePartsOf plan number questions processes parts)
    (ended : HaveEnded (IsEndOfSeat Leaves done) parts ends) where
  -- a probe that was made for a process is of this watch
  number_is : (k : ℕ) (probe : LiveSide) → slice_get are.watch.probes.items k ≡ Some probe → probe.core.watch ≡ number
  number_is k probe at =
      let ring = are.wired.rings.each k
      (omega (arith, slice_get_within are.watch.probes.items k probe at, are.wired.rings.probes_count)) in
      let two : Some ring.probe ≡ Some probe = sym ring.is_probe ∙ at in
      let is : ring.probe ≡ probe = cc in
      ap (λ (s : LiveSide). s.core.watch) (sym is) ∙ ap (λ (c : Core). c.watch) ring.fresh

  -- the end at a place is that of the seat there, whose probe is that of its process
  record HasEnd (k : ℕ) (end : SeatEnd A) : Type 0 where
    pub seat : Seat P
    pub seat_at : slice_get parts.workers.items k ≡ Some seat
    pub is_end : IsEndOfSeat Leaves done seat end
    pub probe_at : slice_get are.watch.probes.items k ≡ Some seat.probe
    pub of_watch : seat.probe.core.watch ≡ number
    pub made : setup_of seat.probe.core ≡ setup plan.n plan.watched plan.flag k

  end_at : (k : ℕ) (end : SeatEnd A) → slice_get ends.workers.items k ≡ Some end → HasEnd k end
  end_at k end at =
      let (seat, seat_at) = element_within parts.workers.items k
      (omega (arith, slice_get_within ends.workers.items k end at, ended.workers.count)) in
      let is_end = ended.workers.each k seat end seat_at at in
      let there : slice_get are.watch.probes.items k ≡ Some seat.probe =
      ap (λ (probes : List LiveSide). slice_get probes k) (sym are.probes)
      ∙ mapped_at (λ (s : Seat P). s.probe) parts.workers.items k seat seat_at in
      let fresh = (probes_fresh plan number are.watch are.wired).each k seat.probe there in
      record {
        seat = seat;
        seat_at = seat_at;
        is_end = is_end;
        probe_at = there;
        of_watch = number_is k seat.probe there;
        made = ap setup_of fresh.0 ∙ ap (λ n. setup n plan.watched plan.flag k) (length-replicate plan.n 0);
      }

  pub count : length ends.workers.items ≡ plan.n
  count = omega (
    arith,
    ended.workers.count,
    sym (length-map parts.workers.items
        (λ (s : Seat P). s.probe)) ∙ ap length are.probes,
    are.wired.rings.probes_count,
  )

  pub few_ends : length ends.workers.items ≤ most_processes
  few_ends = rw count (few_processes plan checked)

  processes_count : length processes ≡ plan.n
  processes_count = sym (ap length are.processes_are) ∙ length-map parts.workers.items (λ (s : Seat P). s.process)
      ∙ sym ended.workers.count ∙ count

  -- the process of an end is that at its place
  process_is : (k : ℕ) (end : SeatEnd A) (process : P) (of : HasEnd k end) → slice_get processes k ≡ Some process
      → of.seat.process ≡ process
  process_is k end process of process_at =
      let two : Some of.seat.process ≡ Some process =
      sym (mapped_at (λ (s : Seat P). s.process) parts.workers.items k of.seat of.seat_at)
      ∙ ap (λ (xs : List P). slice_get xs k) are.processes_are ∙ process_at in
      cc

  -- what a process answered, and whether its part is done by that
  answered_at : (k : ℕ) (end : SeatEnd A) (process : P) (is : Bool) → slice_get ends.workers.items k ≡ Some end
      → slice_get processes k ≡ Some process
      → is_some end.probe ≡ is → HasAnswered Leaves done number (setup plan.n plan.watched plan.flag k) process is
  answered_at k end process is at process_at closed =
      let of = end_at k end at in
      let left = left_of end.probe of.is_end.ran of.is_end.lost in
      record {
        answer = end.answer;
        left = record {
          probe = left.probe;
          of_watch = left.of_watch ∙ of.of_watch;
          of_process = left.of_process ∙ of.made;
          leaves =
              subst (λ (x : P). Leaves x left.probe end.answer) (process_is k end process of process_at) left.leaves;
          some_log = left.some_log;
        };
        done_is = sym of.is_end.done_is ∙ closed;
      }

  n_is : ends.checker.processes ≡ plan.n
  n_is = all_processes are.wired (rw are.inbox at ended.checker)

  -- the checker asks these questions
  asked : watched_by ends.checker.panel ≡ questions
  asked = ended.checker.same_watched ∙ are.watched

  watched_is : watched_at ends.checker 0 ≡ first_of questions
  watched_is = sym (get_or-map (λ (checker : CheckerState). checker.watched) ends.checker.panel 0 no_question set.empty
      ended.checker.some) ∙ ap first_of asked

  pub of_loop : (inbox : CheckerInbox) × (sets : List NumberSet) × IsEndOfLoop inbox sets ends.checker
  of_loop = (_, _, ended.checker)

  pub is_lost : (p : ℕ) → IsSomeAnd (slice_get ends.workers.items p) (λ end. end.probe ≡ None)
      → All (λ end. IsSome end.probe) (take p ends.workers.items) → ends.checker.fault ≡ Some (check_fault.Lost p)
      → (report : Report) → IsReportTold ends.checker 0 report
      → IsLost Leaves done number plan questions processes p report
  is_lost p lost before faulted report told =
      let of = ended.checker in
      let met = of_lost of.starved ends.checker.cut ends.checker.lost p (sym of.fault ∙ faulted) in
      let fed = of.fed.0 met.0 0 no_question told.within in
      let (end, at, none) = some_of (slice_get ends.workers.items p) lost in
      let within : p < plan.n = rw count at (slice_get_within ends.workers.items p end at) in
      let (process, process_at) = element_within processes p (omega (arith, within, processes_count)) in
      record {
        process = process;
        is_process = process_at;
        lost = answered_at p end process false at process_at (ap is_some none);
        before = λ q other below other_at.
            let (one, one_at) = element_within ends.workers.items q (omega (arith, below, within, count)) in
            let closed = All-at (λ (e : SeatEnd A). IsSome e.probe) (take p ends.workers.items) q one before
            (slice_get-take p ends.workers.items q below ∙ one_at) in
            answered_at q one other true one_at other_at closed;
        taken = ends.checker.receipt.taken;
        ended = subst (λ n. AreAllEnded n ends.checker.receipt.taken) n_is (rw met.1 at of.ended);
        lowest = subst (λ n. IsLowestLost n ends.checker.receipt.taken (Some p)) n_is (rw met.2 at of.lost);
        any_clocks = rw (n_is, watched_is) at (told.any_clocks fed);
        exact = rw (n_is, watched_is) at (told.exact fed);
        some_report = rw met.2 at told.never_none;
      }

  abbrev IsOfWatch : ClosedSide → Type 0
  IsOfWatch probe = IsEndOfSomeProbe are.watch.probes.items probe

  module _ (probes : List ClosedSide)
      (apart : map (λ (end : SeatEnd A). end.probe) ends.workers.items ≡ map Some probes) where
    probes_count : length probes ≡ length ends.workers.items
    probes_count = sym (length-map probes Some) ∙ sym (ap length apart)
        ∙ length-map ends.workers.items (λ (e : SeatEnd A). e.probe)

    -- the closed probe of the end at a place
    record HasProbe (k : ℕ) (end : SeatEnd A) : Type 0 where
      pub probe : ClosedSide
      pub probe_at : slice_get probes k ≡ Some probe
      pub same : end.probe ≡ Some probe
      pub of : HasEnd k end
      pub of_process : IsEndOfProcess are.watch plan.n plan.watched plan.flag k of.seat.probe probe

    has_probe : (k : ℕ) (end : SeatEnd A) → slice_get ends.workers.items k ≡ Some end → HasProbe k end
    has_probe k end at =
        let of = end_at k end at in
        let (probe, there) =
        element_within probes k (omega (arith, slice_get_within ends.workers.items k end at, probes_count)) in
        let two : Some end.probe ≡ Some (Some probe) =
        sym (mapped_at (λ (e : SeatEnd A). e.probe) ends.workers.items k end at)
        ∙ ap (λ (ps : List (Option ClosedSide)). slice_get ps k) apart ∙ mapped_at Some probes k probe there in
        let same : end.probe ≡ Some probe = cc in
        record {
          probe = probe;
          probe_at = there;
          same = same;
          of = of;
          of_process = end_of_process are.wired k of.seat.probe probe of.probe_at
              (closed_of (IsEndOfProbe of.seat.probe) same of.is_end.closed);
        }

    of_probes : All IsOfWatch probes
    of_probes k d within =
        let (end, at) = element_within ends.workers.items k (omega (arith, within, probes_count)) in
        let has = has_probe k end at in
        let two : Some has.probe ≡ Some (get_or probes k d) = sym has.probe_at ∙ slice_get-get_or probes k d within in
        let same : has.probe ≡ get_or probes k d = cc in
        subst IsOfWatch same has.of_process.is_end

    pub come : ComeFromWatch probes ends.relays.items ends.checker
    come = come_from_parts are.wired checked of_probes ended are.relays are.inbox

    -- each did its part, by its answer
    pub all_done : (answers : List A) → map (λ (end : SeatEnd A). end.answer) ends.workers.items ≡ answers
        → All (λ answer. done answer ≡ true) answers
    all_done answers answered k d within =
        let answers_count = ap length (sym answered) ∙ length-map ends.workers.items (λ (e : SeatEnd A). e.answer) in
        let (end, at) = element_within ends.workers.items k (omega (arith, within, answers_count)) in
        let has = has_probe k end at in
        let two : Some end.answer ≡ Some (get_or answers k d) =
        sym (mapped_at (λ (e : SeatEnd A). e.answer) ends.workers.items k end at)
        ∙ ap (λ (xs : List A). slice_get xs k) answered
        ∙ slice_get-get_or answers k d within in
        let same : end.answer ≡ get_or answers k d = cc in
        subst (λ (a : A). done a ≡ true) same (sym has.of.is_end.done_is ∙ ap is_some has.same)

    module _ (answers : List A) (answered : map (λ (end : SeatEnd A). end.answer) ends.workers.items ≡ answers)
        {book : BookState} {settled : Outcome} (is : IsSettled probes ends.checker book settled)
        (watched : WatchOutcome A) (reports : AreReportsTold ends.checker watched.reports.items)
        (totals : AreTotals book.shares watched.totals) (answers_are : watched.answers.items ≡ answers) (report_is :
        watched.outcome.report ≡ settled.report) (tallies_are : watched.outcome.tallies ≡ settled.tallies) where
      -- what was taken of a process are all notes of its probe
      taken_at : (p : ℕ) (end : SeatEnd A) (has : HasProbe p end)
          → notes_taken p ends.checker.receipt.taken ≡ has.probe.link.put
      taken_at p end has =
          ap (λ q. notes_taken q ends.checker.receipt.taken) (sym has.of_process.id)
          ∙ All-at (λ (e : ClosedSide). notes_taken e.id ends.checker.receipt.taken ≡ e.link.put) probes p has.probe
          is.whole has.probe_at

      answers_count : length watched.answers.items ≡ plan.n
      answers_count = ap length answers_are ∙ sym (ap length answered)
          ∙ length-map ends.workers.items (λ (e : SeatEnd A). e.answer) ∙ count

      answer_is : (p : ℕ) (end : SeatEnd A) (answer : A) → slice_get ends.workers.items p ≡ Some end
          → slice_get watched.answers.items p ≡ Some answer
          → end.answer ≡ answer
      answer_is p end answer at answer_at =
          let two : Some end.answer ≡ Some answer =
          sym (mapped_at (λ (e : SeatEnd A). e.answer) ends.workers.items p end at)
          ∙ ap (λ (xs : List A). slice_get xs p) (answered ∙ sym answers_are) ∙ answer_at in
          cc

      ran : (p : ℕ) (process : P) (answer : A) → slice_get processes p ≡ Some process
          → slice_get watched.answers.items p ≡ Some answer
          → HasRun Leaves number (setup plan.n plan.watched plan.flag p) process answer
          (notes_taken p ends.checker.receipt.taken)
      ran p process answer process_at answer_at =
          let (end, at) = element_within ends.workers.items p
          (omega (arith, slice_get_within watched.answers.items p answer answer_at, answers_count, count)) in
          let has = has_probe p end at in
          let seat = has.of.seat in
          let has_run =
          closed_of (λ probe. HasRun Leaves seat.probe.core.watch
          (setup_of seat.probe.core) seat.process end.answer probe.link.put) has.same has.of.is_end.ran in
          record {
            probe = has_run.probe;
            of_watch = has_run.of_watch ∙ has.of.of_watch;
            of_process = has_run.of_process ∙ has.of.made;
            leaves = subst (λ (x : P). Leaves x has_run.probe answer) (process_is p end process has.of process_at)
                (subst (λ (a : A). Leaves seat.process has_run.probe a)
                (answer_is p end answer at answer_at) has_run.leaves);
            some_log = has_run.some_log;
            emitted = λ log live. taken_at p end has ∙ has_run.emitted log live
                ∙ ap (λ made. (state_of_log made (log ++ Closed ∷ [])).notes) has.of.made;
          }

      tallies : (p : ℕ) → p < plan.n
          → slice_get watched.outcome.tallies p ≡ Some (tally_of (notes_taken p ends.checker.receipt.taken))
      tallies p below =
          let (end, at) = element_within ends.workers.items p (omega (arith, below, count)) in
          let has = has_probe p end at in
          let tally : ℕ → ℕ → Tally = λ e t. record { emitted = e; taken = t } in
          let there = All-at
          (λ (e : ClosedSide). slice_get settled.tallies e.id ≡ Some
          (tally (snapshots_in e.link.put) (snapshots_in (notes_taken e.id ends.checker.receipt.taken))))
          probes p has.probe is.tallies has.probe_at in
          ap (λ (ts : List Tally). slice_get ts p) tallies_are
          ∙ ap (slice_get settled.tallies) (sym has.of_process.id)
          ∙ there
          ∙ ap (λ notes. Some (tally (snapshots_in notes)
          (snapshots_in (notes_taken has.probe.id ends.checker.receipt.taken)))) (sym (taken_at p end has))
          ∙ ap (λ q. Some (tally (snapshots_in (notes_taken p ends.checker.receipt.taken))
          (snapshots_in (notes_taken q ends.checker.receipt.taken)))) has.of_process.id

      -- there is a report of each question
      all_reports : length watched.reports.items ≡ length questions
      all_reports = reports.as_many
          ∙ sym (length-map ends.checker.panel (λ (checker : CheckerState). checker.watched)) ∙ ap length asked

      first_report : slice_get watched.reports.items 0 ≡ Some watched.outcome.report
      first_report =
          let (report, at) = element_within watched.reports.items 0
          (omega (arith, reports.as_many, ended.checker.some)) in
          at ∙ ap Some ((reports.each 0 report at).is ∙ sym is.first.is ∙ sym report_is)

      pub is_watched : IsWatchOutcome Leaves number plan questions processes watched
      is_watched = record {
        taken = ends.checker.receipt.taken;
        processes_are = processes_count;
        answers = answers_count;
        ran = ran;
        drained = subst (λ n. IsDrained n ends.checker.receipt.taken) n_is is.drained;
        all_reports = all_reports;
        exact = λ question set report set_at at.
            rw (n_is, watched_of ends.checker.panel asked question set_at)
            at (is.exact question report (reports.each question report at));
        first = first_report;
        all_tallies = ap length tallies_are ∙ is.processes ∙ n_is;
        tallies = tallies;
        emitted_in_all = (is.totals watched.totals totals).0
            ∙ ap (sum_by (λ (tally : Tally). tally.emitted)) (sym tallies_are);
        taken_in_all = (is.totals watched.totals totals).1
            ∙ ap (sum_by (λ (tally : Tally). tally.taken)) (sym tallies_are);
      }
