-- The ends of the parts of a watch come from it.
use Rattle.wcp_watch.proofs.Words.{NumberSet, Flag, ◌≡◌, ◌↔◌, ℕ, ◌<◌, true, Option, None, Some, List, get_or, All, sym}
use Rattle.wcp_watch.proofs.Words.{ap, subst, ◌∙◌, arith, IfNone, slice_get, length-replicate, slice_get-get_or}
use Rattle.wcp_watch.proofs.Words.{ClosedSide, IsEndOfProbe, LiveSide, IsEndOfRelay, fault_of, IsWired, RelayEnd}
use Rattle.wcp_watch.proofs.Words.{IsEndOfLoop, ComeFromWatch, IsEndOfSomeProbe, IsEndOfSomeRelay, CheckerEnd}
use Rattle.std.specs.FinSet as set
use Rattle.wcp_model.specs.PlanFault.{IsCheckedPlan}
use Rattle.wcp_model.specs.ProbeLog.{setup}
use Rattle.wcp_model.specs.declared.plan.Plan.{Plan}
use Rattle.wcp_probe.specs.Core.{Core, setup_of}
use Rattle.wcp_relay.specs.declared.parts.Watch.{Watch}
use Rattle.wcp_relay.proofs.FreshProbes.{probes_fresh}
use Rattle.wcp_watch.specs.RunParts.{HaveEnded}
use Rattle.wcp_threads.specs.Threads.{AreEndsOf}
use Rattle.wcp_watch.specs.declared.running.Ends.{Ends}
use Rattle.wcp_watch.specs.declared.running.Parts.{Parts}

-- what holds is said where nothing is there, too
pub where_none : {T P : Type 0} (found : Option T) → P → IfNone found P
where_none None holds = holds
where_none (Some x) holds = tt

-- a probe was made for process p of n, and its end carries that number
pub record IsEndOfProcess (watch : Watch) (n : ℕ) (watched : NumberSet) (flag : Flag) (p : ℕ) (probe : LiveSide)
    (end : ClosedSide) : Type 0 where
  pub id : end.id ≡ p
  pub made : setup_of probe.core ≡ setup n watched flag p
  pub is_end : IsEndOfSomeProbe watch.probes.items end

module _ {plan : Plan} {number : ℕ} {watch : Watch} (wired : IsWired plan number watch) where
  -- the loop was of just its processes
  pub all_processes : {questions : List NumberSet} {checker : CheckerEnd} → IsEndOfLoop watch.inbox questions checker
      → checker.processes ≡ plan.n
  all_processes {questions} {checker} is =
      let members : (p : ℕ)
      → (set.contains checker.receipt.members p ≡ true) ↔ (p < plan.n) = rw is.members wired.members in
      grind (arith, members checker.processes, members plan.n, is.processes checker.processes, is.processes plan.n)

  pub end_of_process : (p : ℕ) (probe : LiveSide) (end : ClosedSide) → slice_get watch.probes.items p ≡ Some probe
      → IsEndOfProbe probe end
      → IsEndOfProcess watch plan.n plan.watched plan.flag p probe end
  end_of_process p probe end at closed =
      let core = ((probes_fresh plan number watch wired).each p probe at).0 in
      let id : end.id ≡ p = closed.id ∙ ap (λ (c : Core). c.id) core in
      record {
        id = id;
        made = ap setup_of core ∙ ap (λ n. setup n plan.watched plan.flag p) (length-replicate plan.n 0);
        is_end = record { probe = probe; is_probe = ap (slice_get watch.probes.items) id ∙ at; one_ring = closed.ring };
      }

  -- the ends of its relays, each at the place of its relay
  pub relay_ends : {ends : List RelayEnd} → AreEndsOf IsEndOfRelay watch.relays.items ends
      → All (IsEndOfSomeRelay watch.relays.items) ends
  relay_ends {ends} are k d within =
      let link = wired.linked.each k (omega (arith, are.count)) in
      let is = are.each k link.relay (get_or ends k d) link.is_relay (slice_get-get_or ends k d within) in
      record {
        relay = link.relay;
        is_relay = ap (slice_get watch.relays.items) (is.number ∙ link.of_plan.number) ∙ link.is_relay;
        receipts = where_none (fault_of (get_or ends k d)) is.receipts;
        whole = is.whole;
      }

  module _ (checked : IsCheckedPlan plan) {probes : List ClosedSide}
      (of_probes : All (IsEndOfSomeProbe watch.probes.items) probes) where
    pub come_from_watch : {relays : List RelayEnd} {checker : CheckerEnd}
        → All (IsEndOfSomeRelay watch.relays.items) relays
        → {questions : List NumberSet} → IsEndOfLoop watch.inbox questions checker
        → ComeFromWatch probes relays checker
    come_from_watch of_relays {questions} of_checker = record {
      plan = plan;
      questions = questions;
      watch = watch;
      checked = checked;
      wired = subst (λ number. IsWired plan number watch) (sym (of_checker.watch ∙ wired.number)) wired;
      of_probes = λ k d within of. of_probes k d within;
      of_relays = λ k d within of. of_relays k d within;
      of_checker = of_checker;
    }

    -- so do the ends of parts that have its relays and its inbox
    pub come_from_parts : {W E : Type 0} {IsEnd : W → E → Type 0} {parts : Parts W} {ends : Ends E}
        → HaveEnded IsEnd parts ends
        → parts.relays.items ≡ watch.relays.items → parts.checking.inbox ≡ watch.inbox
        → ComeFromWatch probes ends.relays.items ends.checker
    come_from_parts ended relays inbox =
        come_from_watch (relay_ends (rw relays at ended.relays)) (rw inbox at ended.checker)
