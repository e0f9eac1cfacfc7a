-- The outcome of a run in threads, from what its workers and its checker left.
use Rattle.wcp_worker.proofs.Words.{NumberSet, Flag, ◌≡◌, ℕ, ◌<◌, List, [], ◌∷◌, ◌++◌, All, Some, slice_get, sym, ap}
use Rattle.wcp_worker.proofs.Words.{subst, ◌∙◌, arith, Task, Call, Closed, ProbeSetup, setup, state_of_log, actions_of}
use Rattle.wcp_worker.proofs.Words.{FollowsActions, stamps_sent, stamps_got, AreLogsOfTasks, IsWithin, Mailbox}
use Rattle.wcp_worker.proofs.Words.{clocks_sent_to, clocks_taken_from, HasRun, HaveRun}
use Rattle.wcp_clock.specs.declared.note.Item.{Item}
use Rattle.wcp_model.specs.declared.outcome.Outcome.{Outcome}
use Rattle.wcp_model.specs.WorkloadOutcome.{IsWorkloadOutcome}
use Rattle.wcp_model.specs.Report.{notes_taken}
use Rattle.wcp_model.proofs.Choosing.{choice_from_each}
use Rattle.wcp_model.proofs.SamePlace.{element_within}
use Rattle.wcp_model.proofs.TakenOutcomes.{IsOutcomeOfItems, IsWorkloadOutcome-taken}

-- what one process that ran tells of its log
module _ (n : ℕ) (watched : NumberSet) (flag : Flag) (tasks : List Task) (items : List Item) (p : ℕ) (log : List Call)
    (mailbox : Mailbox) (run : HasRun n watched flag tasks items p log mailbox) where
  run_follows : FollowsActions (actions_of p tasks) log
  run_follows = subst (λ actions. FollowsActions actions log) run.actions run.played.follows

  run_emits : notes_taken p items ≡ (state_of_log (setup n watched flag p) (log ++ Closed ∷ [])).notes
  run_emits = run.taken ∙ run.played.emitted ∙ ap (λ made. (state_of_log made (log ++ Closed ∷ [])).notes) run.made

  run_sent : (q : ℕ) → clocks_sent_to p mailbox q ≡ stamps_sent (setup n watched flag p) q (actions_of p tasks) log
  run_sent q =
      ap (λ (made : ProbeSetup). clocks_sent_to made.process mailbox q) (sym run.made)
      ∙ run.played.sent q
      ∙ (λ i. stamps_sent (run.made i) q (run.actions i) log)

  run_got : (q : ℕ)
      → (rest : List (List ℕ)) × (stamps_got q (actions_of p tasks) log ++ rest ≡ clocks_taken_from mailbox q)
  run_got q = subst (λ actions. (rest : List (List ℕ))
      × (stamps_got q actions log ++ rest ≡ clocks_taken_from mailbox q)) run.actions (run.played.taken q)

-- where all ran, their logs are those of the tasks, and the outcome of what was taken is that of the workload
module _ (n : ℕ) (watched : NumberSet) (flag : Flag) (tasks : List Task) (items : List Item) (mailboxes : List Mailbox)
    (all : HaveRun n watched flag tasks items mailboxes) where
  abbrev HasLog : ℕ → List Call → Type 0
  HasLog p log =
      (mailbox : Mailbox) × (slice_get mailboxes p ≡ Some mailbox) × HasRun n watched flag tasks items p log mailbox

  has_log : (p : ℕ) → p < n → (log : List Call) × HasLog p log
  has_log p below =
      let (mailbox, at) = element_within mailboxes p (omega (arith, all.count)) in
      let (log, run) = all.each p mailbox at in
      let has : HasLog p log = (mailbox, at, run) in
      (log, has)

  chosen : (logs : ℕ → List Call) × ((p : ℕ) → p < n → HasLog p (logs p))
  chosen = choice_from_each [] HasLog n has_log

  abbrev logs : ℕ → List Call
  logs = chosen.0

  are_logs : AreLogsOfTasks n watched flag tasks logs
  are_logs = record {
    follows = λ p below.
        let (mailbox, at, run) = chosen.1 p below in
        run_follows n watched flag tasks items p (logs p) mailbox run;
    in_order = λ p q p_below q_below some.
        let (from, from_at, from_run) = chosen.1 p p_below in
        let (to, to_at, to_run) = chosen.1 q q_below in
        let (rest, together) = run_got n watched flag tasks items q (logs q) to to_run p in (
          rest,
          together ∙ all.matched p q from to from_at to_at ∙ run_sent n watched flag tasks items p (logs
              p) from from_run q,
        );
  }

  pub IsWorkloadOutcome-run : (outcome : Outcome) → All (IsWithin n) tasks → IsOutcomeOfItems n watched items outcome
      → IsWorkloadOutcome n watched flag tasks outcome
  IsWorkloadOutcome-run outcome within is =
      IsWorkloadOutcome-taken n watched flag tasks logs items outcome within are_logs
      (λ p below. let (mailbox, at, run) = chosen.1 p below in
      run_emits n watched flag tasks items p (logs p) mailbox run) is
