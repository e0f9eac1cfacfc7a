use Rattle.wcp_single.proofs.Words.{NumberSet, Flag, common_steps, ◌≡◌, ℕ, ◌+◌, ◌<◌, List, [], ◌∷◌, ◌++◌, All, length}
use Rattle.wcp_single.proofs.Words.{get_or, set, slice_get, Some, sym, ◌∙◌, subst, subst₂, inl, inr, arith}
use Rattle.wcp_single.proofs.Words.{get_or-set_same, get_or-set_other, cases_eq, length-set, Item, Tally, Task}
use Rattle.wcp_single.proofs.Words.{IsWorkloadOutcome, Closed, notes_taken, IsReportByClocks, ClocksRise, setup}
use Rattle.wcp_single.proofs.Words.{IsWithin, log_counts_notes, Seal, CheckerState, taken_of, StandsForItems}
use Rattle.wcp_single.proofs.Words.{WorkloadProcess, IsRunning, IsFed, IsFedMore, IsCaughtUp, Feeds, HasDone, HasClosed}
use Rattle.wcp_single.proofs.Words.{IsEnding}
use Rattle.std.proofs.lemmas.Option.{slice_get_within}
use Rattle.wcp_model.specs.declared.outcome.Outcome.{Outcome}
use Rattle.wcp_model.proofs.SamePlace.{element_within}
use Rattle.wcp_model.proofs.TakenOutcomes.{IsWorkloadOutcome-taken}
use Rattle.wcp_queue.specs.Checker.{processes as processes_of}
use Rattle.wcp_single.proofs.RunAfterTask.{logs_are}

-- the run of tasks begins to end once all are done
pub begins_to_end : (n : ℕ) (watched : NumberSet) (flag : Flag) (tasks : List Task) (processes : List WorkloadProcess)
    (queues : List (List Seal)) (checker : CheckerState) → HasDone n watched flag tasks processes queues checker
    → IsEnding n watched flag tasks 0 processes checker
begins_to_end n watched flag tasks processes queues checker run =
    grind (arith, logs_are n watched flag tasks processes queues checker run)

-- and goes on with each process that closes
module _ (n : ℕ) (watched : NumberSet) (flag : Flag) (tasks : List Task) (p : ℕ) (within : p < n) (processes : List
    WorkloadProcess) (before : CheckerState) (ending : IsEnding n watched flag tasks p processes before)
    (old : WorkloadProcess) (read : old ≡ get_or processes p old) where
  runs_last : IsRunning (setup n watched flag p) (ending.logs p) old
  runs_last =
      subst (IsRunning (setup n watched flag p) (ending.logs p)) (sym read) (ending.running p old (omega arith) within)

  fed_last : IsFed n watched flag p (ending.logs p) ending.items before
  fed_last = record { within = within; has_taken = ending.has_taken; all = ending.all_taken p (omega arith) within }

  pub caught_up_last : IsCaughtUp old before
  caught_up_last = record {
    n = n;
    watched = watched;
    flag = flag;
    log = ending.logs p;
    items = ending.items;
    running = subst (λ q. IsRunning (setup n watched flag q) (ending.logs p) old) (sym runs_last.number) runs_last;
    fed = subst (λ q. IsFed n watched flag q (ending.logs p) ending.items before) (sym runs_last.number) fed_last;
  }

  module _ (new : WorkloadProcess) (after : CheckerState) (feeds : Feeds old Closed before after)
      (counted : new.probe.emitted ≡ old.probe.emitted) where
    fed : IsFedMore n watched flag p (ending.logs p ++ Closed ∷ []) ending.items after
    fed = feeds n watched flag p (ending.logs p) ending.items runs_last fed_last

    closed : HasClosed n watched flag p (ending.logs p) (notes_taken p fed.more) new
    closed = grind (arith, common_steps, fed, log_counts_notes)

    pub ends_next : IsEnding n watched flag tasks (p + 1) (set processes p new) after
    ends_next = record {
      processes_are = length-set processes p new ∙ ending.processes_are;
      logs = ending.logs;
      are = ending.are;
      running = λ q d later q_within. subst (IsRunning (setup n watched flag q) (ending.logs q)) (sym
          (get_or-set_other processes p q new d (λ same. omega arith))) (ending.running q d (omega arith) q_within);
      items = fed.more;
      has_taken = fed.fed.has_taken;
      all_taken = λ q later q_within. fed.others q (λ same. omega arith) ∙ ending.all_taken q (omega arith) q_within;
      has_closed = λ q d below. elim (cases_eq q p) [
        | inl same ↦ rw (same, get_or-set_same processes p new d (omega (arith, ending.processes_are))) closed
        | inr other ↦ subst₂ (HasClosed n watched flag q (ending.logs q)) (sym (fed.others q other))
            (sym (get_or-set_other processes p q new d other)) (ending.has_closed q d (omega (arith, other)))
      ];
    }

-- the end of a run, where all processes have closed
module _ (n : ℕ) (watched : NumberSet) (flag : Flag) (tasks : List Task) (processes : List WorkloadProcess) (checker :
    CheckerState) (within : All (IsWithin n) tasks) (ending : IsEnding n watched flag tasks n processes checker) where
  one_at : (p : ℕ) → p < n → WorkloadProcess
  one_at p below = (element_within processes p (omega (arith, ending.processes_are))).0

  -- the outcome of what was emitted and taken
  pub IsWorkloadOutcome-end : (outcome : Outcome) → ((items : List Item) → StandsForItems checker items → ClocksRise
      (processes_of checker) items → IsReportByClocks (processes_of checker) checker.watched items outcome.report)
      → length outcome.tallies ≡ length processes →
      ((p : ℕ) (tally : Tally) (process : WorkloadProcess) → slice_get outcome.tallies p ≡ Some tally
      → tally.emitted ≡ (get_or processes p process).probe.emitted) →
      ((p : ℕ) (tally : Tally) → slice_get outcome.tallies p ≡ Some tally → tally.taken ≡ taken_of checker p)
      → IsWorkloadOutcome n watched flag tasks outcome
  IsWorkloadOutcome-end outcome exact members emitted taken =
      let below : (p : ℕ) (tally : Tally) → slice_get outcome.tallies p ≡ Some tally → p < n =
      λ p tally at. omega (arith, slice_get_within outcome.tallies p tally at, members, ending.processes_are) in
      IsWorkloadOutcome-taken n watched flag tasks ending.logs ending.items outcome within ending.are
      (λ p inside. (ending.has_closed p (one_at p inside) inside).all_taken) (record {
        exact =
            λ rising. subst₂
            (λ m are. IsReportByClocks m are ending.items outcome.report) ending.has_taken.processes_are
            ending.has_taken.watched_are
            (exact ending.items ending.has_taken.stands
            (subst (λ m. ClocksRise m ending.items) (sym ending.has_taken.processes_are) rising));
        processes = members ∙ ending.processes_are;
        emitted = λ p tally at. let inside = below p tally at in
            emitted p tally (one_at p inside) at ∙ (ending.has_closed p (one_at p inside) inside).counted;
        taken = λ p tally at. taken p tally at
            ∙ ending.has_taken.stands.taken p (omega (arith, below p tally at, ending.has_taken.processes_are));
      })
