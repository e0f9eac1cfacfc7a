-- The parts of an opened watch and their ends are its own.
use Rattle.std.proofs.Common.{◌≡◌, ℕ, false, Option, Some, IfNone, IfSome, List, [], ◌∷◌, ◌++◌, get_or, slice_get, All}
use Rattle.std.proofs.Common.{Result, Ok, Err, refl, sym, ap, subst, ◌∙◌, arith}
use Rattle.std.specs.Prelude.{IfOk}
use Rattle.std.proofs.lemmas.List.Elements.{All-append, All-cons, All-nil}
use Rattle.std.proofs.lemmas.Option.{slice_get-get_or}
use Rattle.wcp_book.specs.State.{BookState}
use Rattle.wcp_model.specs.PlanFault.{IsCheckedPlan}
use Rattle.wcp_model.specs.declared.plan.Plan.{Plan}
use Rattle.wcp_probe.specs.Core.{Core}
use Rattle.wcp_queue.specs.Checker.{CheckerState, processes}
use Rattle.wcp_queue.specs.Panel.{StandForItems, watched_by}
use Rattle.wcp_model.specs.ProbeLog.{setup}
use Rattle.wcp_relay.proofs.FreshProbes.{probes_fresh}
use Rattle.wcp_relay.proofs.LiveProbes.{fresh_stands}
use Rattle.wcp_relay.specs.LiveProbe.{ClosedSide, IsEndOfProbe, LiveSide}
use Rattle.wcp_relay.specs.RelayEnds.{AreReceiptsOf, fault_of, number_of, relay_put, relay_taken}
use Rattle.wcp_relay.specs.declared.checker_inbox.CheckerInbox.{CheckerInbox}
use Rattle.wcp_relay.specs.Watches.{IsWired}
use Rattle.wcp_relay.specs.declared.parts.Watch.{Watch}
use Rattle.wcp_relay.specs.declared.relay.Relay.{Relay}
use Rattle.wcp_relay.specs.declared.relay_end.RelayEnd.{RelayEnd}
use Rattle.wcp_watch.proofs.ToldReports.{fresh_for}
use Rattle.wcp_watch.proofs.WatchEnds.{all_processes, come_from_watch, where_none}
use Rattle.wcp_watch.specs.CheckerEnds.{IsEndOfLoop}
use Rattle.wcp_watch.specs.Settling.{ComeFromWatch, IsSettled}
use Rattle.wcp_watch.specs.declared.checker_end.CheckerEnd.{CheckerEnd}
use Rattle.wcp_watch.specs.declared.settle_fault.SettleFault.{SettleFault}
use Rattle.wcp_model.specs.declared.outcome.Outcome.{Outcome}
use Rattle.wullaphi.specs.Opened.{AreEndsOf, EndsOfWatch, HasOpened, IsCheckerEndOf, IsCheckerOf, IsFreshWatch, IsOpen}
use Rattle.wullaphi.specs.Opened.{IsProbeEndOf, IsProbeOf, IsRelayEndOf, IsRelayOf, OpenedWatch, no_ends}
use Rattle.wullaphi.specs.OwnEnds.{AreSettled}

-- a list with one more at its end
pub all_more : {X : Type 0} (P : X → Type 0) (xs : List X) (x : X) → All P xs → P x → All P (xs ++ x ∷ [])
all_more P xs x all one = All-append P xs (x ∷ []) all (All-cons P x [] one (All-nil P))

-- where what stands for one more was pushed
pub pushed_more : {X : Type 0} {new old seen : List X} {made given : X} → new ≡ old ++ made ∷ []
    → made ≡ given → old ≡ seen → new ≡ seen ++ given ∷ []
pushed_more {old = old} {given = given} pushed is same =
    pushed ∙ ap (λ x. old ++ x ∷ []) is ∙ ap (λ xs. xs ++ given ∷ []) same

-- a watch that was opened with a new panel
pub fresh_watch : {plan : Plan} {number : ℕ} {tree : Watch} {panel : List CheckerState} → IsCheckedPlan plan
    → IsWired plan number tree → All (λ question. processes question ≡ plan.n) panel
    → watched_by panel ≡ plan.watched ∷ [] → StandForItems panel []
    → All (λ question. question.starved ≡ false) panel
    → IsFreshWatch (record { plan = plan; tree = tree }) plan.n panel
fresh_watch {plan} {tree = tree} checked wired count watched empty not_starved = record {
  is_open = record { checked = checked; wired = subst (λ number. IsWired plan number tree) (sym wired.number) wired };
  count = refl;
  watched = watched;
  fresh = fresh_for wired.members wired.none_taken watched (omega arith) count empty not_starved;
}

module _ {opening : Option OpenedWatch} where
  -- what holds of the opened watch, twice
  pub both : {One Other : OpenedWatch → Type 0} → HasOpened One opening → HasOpened Other opening
      → HasOpened (λ opened. One opened × Other opened) opening
  both {Other = Other} one other =
      let two : Some one.opened ≡ Some other.opened = sym one.is ∙ other.is in
      let same : one.opened ≡ other.opened = cc in
      record {
        opened = one.opened;
        is = one.is;
        is_open = one.is_open;
        holds = (one.holds, subst Other (sym same) other.holds);
      }

  -- what follows for the opened watch
  pub follows : {One Other : OpenedWatch → Type 0} → ((opened : OpenedWatch) → One opened → Other opened)
      → HasOpened One opening → HasOpened Other opening
  follows then one =
      record { opened = one.opened; is = one.is; is_open = one.is_open; holds = then one.opened one.holds }

  -- what is left of its parts
  pub probe_end : {probe : LiveSide} {end : ClosedSide} → IsEndOfProbe probe end
      → HasOpened (IsProbeOf probe) opening → HasOpened (IsProbeEndOf end) opening
  probe_end {probe} closed = follows (λ opened is. record {
    probe = probe;
    is_probe = ap (slice_get opened.tree.probes.items) closed.id ∙ is.is_probe;
    one_ring = closed.ring;
  })

  pub probe_end_of : {probe : LiveSide} {closed : Option ClosedSide} {end : ClosedSide} → closed ≡ Some end
      → IfSome closed (λ end. IsEndOfProbe probe end) → HasOpened (IsProbeOf probe) opening
      → HasOpened (IsProbeEndOf end) opening
  probe_end_of same closed = probe_end (rw same at closed)

  pub relay_end : {relay : Relay} {end : RelayEnd} → number_of end ≡ relay.number → AreReceiptsOf relay end
      → IfNone (fault_of end) ((p : _) → relay_put end p ≡ relay_taken end p)
      → HasOpened (IsRelayOf relay) opening → HasOpened (IsRelayEndOf end) opening
  relay_end {relay} {end} number receipts whole = follows (λ opened is. record {
    relay = relay;
    is_relay = ap (slice_get opened.tree.relays.items) number ∙ is;
    receipts = where_none (fault_of end) receipts;
    whole = whole;
  })

  pub checker_end : {inbox : CheckerInbox} {panel : List CheckerState} {end : CheckerEnd}
      → IsEndOfLoop inbox (watched_by panel) end
      → HasOpened (IsCheckerOf inbox panel) opening → HasOpened (IsCheckerEndOf end) opening
  checker_end {end = end} ended =
      follows (λ opened is. rw (is.is_inbox, is.watched) at ended)

  -- an end more
  module _ {ends : EndsOfWatch} (has : HasOpened (AreEndsOf ends) opening) where
    pub more_probes : {probes : List ClosedSide} {end : ClosedSide} → HasOpened (IsProbeEndOf end) opening
        → probes ≡ ends.probes ++ end ∷ []
        → HasOpened (AreEndsOf (record ends { probes = probes })) opening
    more_probes {end = end} one pushed = rw pushed (follows (λ opened is. record {
      probes = all_more (λ e. IsProbeEndOf e opened) ends.probes end is.0.probes is.1;
      relays = is.0.relays;
      checker = is.0.checker;
    }) (both has one))

    pub more_relays : {relays : List RelayEnd} {end : RelayEnd} → HasOpened (IsRelayEndOf end) opening
        → relays ≡ ends.relays ++ end ∷ []
        → HasOpened (AreEndsOf (record ends { relays = relays })) opening
    more_relays {end = end} one pushed = rw pushed (follows (λ opened is. record {
      probes = is.0.probes;
      relays = all_more (λ e. IsRelayEndOf e opened) ends.relays end is.0.relays is.1;
      checker = is.0.checker;
    }) (both has one))

    pub with_checker : {end : CheckerEnd} → HasOpened (IsCheckerEndOf end) opening
        → HasOpened (AreEndsOf (record ends { checker = Some end })) opening
    with_checker one = follows (λ opened is. record {
      probes = is.0.probes;
      relays = is.0.relays;
      checker = is.1;
    }) (both has one)

    -- where the checker's is among them, the ends come from the watch, and what they tell together is of its plan
    module _ {checker : CheckerEnd} (is_checker : ends.checker ≡ Some checker) where
      of_checker : IsEndOfLoop has.opened.tree.inbox (has.opened.plan.watched ∷ []) checker
      of_checker = rw is_checker at has.holds.checker

      pub come : ComeFromWatch ends.probes ends.relays checker
      come = come_from_watch has.is_open.wired has.is_open.checked has.holds.probes has.holds.relays of_checker

      pub own_settled : {book : BookState} {outcome : Outcome} → IsSettled ends.probes checker book outcome
          → AreSettled opening ends book outcome
      own_settled is = record {
        opened = has.opened;
        is = has.is;
        are_ends = has.holds;
        checker = checker;
        is_checker = is_checker;
        processes = all_processes has.is_open.wired of_checker;
        settled = is;
      }

      pub own_answer : (book : BookState) (answer : Result Outcome SettleFault)
          → IfOk answer (IsSettled ends.probes checker book) → IfOk answer (AreSettled opening ends book)
      own_answer book (Ok outcome) is = own_settled is
      own_answer book (Err fault) is = tt

  -- the parts of a watch, as it is opened
  module _ {opened : OpenedWatch} (is : opening ≡ Some opened) (is_open : IsOpen opened) where
    pub its : {Holds : OpenedWatch → Type 0} → Holds opened → HasOpened Holds opening
    its holds = record { opened = opened; is = is; is_open = is_open; holds = holds }

    pub none_ended : HasOpened (AreEndsOf no_ends) opening
    none_ended = its (record { probes = All-nil _; relays = All-nil _; checker = tt })

    pub own_probes : All (λ probe. HasOpened (IsProbeOf probe) opening) opened.tree.probes.items
    own_probes k d within =
        let probe = get_or opened.tree.probes.items k d in
        let at = slice_get-get_or opened.tree.probes.items k d within in
        let fresh = (probes_fresh opened.plan opened.tree.inbox.watch opened.tree is_open.wired).each k probe at in
        its (record {
          is_probe = ap (slice_get opened.tree.probes.items) (ap (λ (core : Core). core.id) fresh.0) ∙ at;
          fresh = fresh_stands _ (setup opened.plan.n opened.plan.watched opened.plan.flag k) probe fresh.0 fresh.1;
          put = ap (λ (core : Core). core.pending) fresh.0;
        })

    pub own_relays : All (λ relay. HasOpened (IsRelayOf relay) opening) opened.tree.relays.items
    own_relays k d within =
        let relay = get_or opened.tree.relays.items k d in
        let at = slice_get-get_or opened.tree.relays.items k d within in
        let link = is_open.wired.linked.each k within in
        let two : Some link.relay ≡ Some relay = sym link.is_relay ∙ at in
        let same : link.relay ≡ relay = cc in
        let number : relay.number ≡ k = ap (λ (r : Relay). r.number) (sym same) ∙ link.of_plan.number in
        its (ap (slice_get opened.tree.relays.items) number ∙ at)
