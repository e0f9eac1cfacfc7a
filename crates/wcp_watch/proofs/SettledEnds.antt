-- What the ends of a watch tell together.
use Rattle.wcp_watch.proofs.Words.{◌≡◌, ◌↔◌, ℕ, ◌<◌, ◌≤◌, false, List, get_or, length, Option, Some, None, Contains}
use Rattle.wcp_watch.proofs.Words.{refl, sym, ap, ◌∙◌, ⊎_elim, arith, zero, suc, [], ◌∷◌, slice_get, All, sum_by}
use Rattle.wcp_watch.proofs.Words.{option_flatten, cases_lt, Contains-get_or, slice_get_past, slice_get_within}
use Rattle.wcp_watch.proofs.Words.{most_processes, most_relays, Item, ClocksRise, notes_taken, BookState, TakenEnd}
use Rattle.wcp_watch.proofs.Words.{Bundle, ClosedSide, number_of, watch_of, RelayEnd, RelayOutcome, Whole}
use Rattle.wcp_watch.proofs.Words.{few_processes}
use Rattle.wcp_watch.proofs.Words.{few_relays, some_process, AreEndsThere, AreFirstMatched, AreAllThere, AreAllSeated}
use Rattle.wcp_watch.proofs.Words.{AreSeats, IsEndAt, AreLinksMatched, ComeFromWatch, IsFirstSettleFault, IsFreeOf}
use Rattle.wcp_watch.proofs.Words.{IsSettled, IsPutMatched, cut_of, share_of, Stranger, Missing, Faulted, Unfinished}
use Rattle.wcp_watch.proofs.Words.{IsReportTold, no_question, question_at}
use Rattle.wcp_watch.proofs.Words.{CheckerEnd, SeatedEnds, AreSeatedAndWhole, AreShares, AllByRecursion}
use Rattle.std.proofs.lemmas.List.Sums.{sum_by-cons}
use Rattle.wcp_model.specs.declared.outcome.Report.{Report}
use Rattle.wcp_model.specs.declared.outcome.Tally.{Tally}
use Rattle.wcp_model.specs.declared.plan.Parent.TheVariants as parent
use Rattle.wcp_book.specs.Totals.{emitted_of_share, taken_of_share}
use Rattle.wcp_relay.specs.declared.relay_end.RelayOutcome.TheVariants as outcome
use Rattle.wcp_relay.proofs.LiveProbes.{taken_rise}
use Rattle.wcp_watch.proofs.CheckedItems.{without_fault}
use Rattle.wcp_watch.proofs.FirstFaults.{is_first}
use Rattle.wcp_watch.proofs.ClimbedLanes.{all_taken}
use Rattle.wcp_watch.proofs.Seating.{All-from_contains}
use Rattle.wcp_watch.proofs.WatchEnds.{all_processes}

-- shares that are just the tallies have their sum
shares_sum : (of_tally : Tally → ℕ) (of_share : Option Tally → ℕ) → of_share None ≡ 0
    → ((tally : Tally) → of_share (Some tally) ≡ of_tally tally) → (shares : List (Option Tally)) (tallies : List Tally)
    → ((p : ℕ) → option_flatten (slice_get shares p) ≡ slice_get tallies p)
    → sum_by of_share shares ≡ sum_by of_tally tallies
shares_sum of_tally of_share none some [] [] same = refl
shares_sum of_tally of_share none some [] (tally ∷ tallies) same = cc (same 0)
shares_sum of_tally of_share none some (share ∷ shares) [] same =
    omega (
      arith,
      none,
      ap of_share (same 0),
      sum_by-cons of_share share shares,
      shares_sum of_tally of_share none some shares [] (λ p. same (suc p)),
    )
shares_sum of_tally of_share none some (share ∷ shares) (tally ∷ tallies) same =
    omega (
      arith,
      some tally,
      ap of_share (same 0),
      sum_by-cons of_share share shares,
      sum_by-cons of_tally tally tallies,
      shares_sum of_tally of_share none some shares tallies (λ p. same (suc p)),
    )

-- all are there where somebody sits at each of the first places
pub all_there : {E : Type 0} (place_of : E → ℕ) (ends : List E) (seats : List (Option E)) (count : ℕ)
    → AreSeats place_of ends seats
    → AreAllSeated count seats ↔ AreAllThere place_of count ends
all_there place_of ends seats count are = (
  (λ seated place below. let one = seated place below in (one.0, are.own place one.0 one.1)),
  (λ all place below. let one = all place below in (one.0, are.seated place one.0 one.1)),
)

-- links that were matched for more ends were matched for fewer
module _ (root : TakenEnd Bundle Item) {IsProbe IsOneProbe : ℕ → ClosedSide → Type 0}
    {IsRelay IsOneRelay : ℕ → RelayEnd → Type 0}
    (probe_is : (p : ℕ) (end : ClosedSide) → IsOneProbe p end → IsProbe p end)
    (relay_is : (k : ℕ) (end : RelayEnd) → IsOneRelay k end → IsRelay k end) where
  lane_for_fewer : (end : RelayOutcome) → IsPutMatched root IsRelay end → IsPutMatched root IsOneRelay end
  lane_for_fewer (Whole parent.Root taken put) matched = matched
  lane_for_fewer (Whole (parent.Relay above) taken put) matched =
      λ p has relay is. matched p has relay (relay_is above relay is)
  lane_for_fewer (outcome.Faulted fault source outlet met) matched = tt

  matched_for_fewer : (end : RelayEnd) → AreLinksMatched IsProbe root IsRelay end
      → AreLinksMatched IsOneProbe root IsOneRelay end
  matched_for_fewer end matched = record {
    rings = λ i d within.
        let own = matched.rings i d within in (own.0, λ probe is. own.1 probe (probe_is _ probe is));
    lane = lane_for_fewer end.outcome matched.lane;
  }

-- there are as many places as those at which somebody sits
all_within : {E : Type 0} (count : ℕ) (seats : List (Option E)) → AreAllSeated count seats → count ≤ length seats
all_within zero seats all = omega arith
all_within (suc k) seats all =
    let (end, sits) = all k (omega arith) in
    omega (arith, slice_get_within seats k (Some end) sits)

module _ {probes : List ClosedSide} {relays : List RelayEnd} {checker : CheckerEnd}
    (come : ComeFromWatch probes relays checker) where
  pub processes_are : checker.processes ≡ come.plan.n
  processes_are = all_processes come.wired come.of_checker

  pub few : checker.processes ≤ most_processes
  few = omega (arith, processes_are, few_processes come.plan come.checked)

  pub some : 0 < checker.processes
  some = omega (arith, processes_are, some_process come.plan come.checked)

  relays_are : checker.relays ≡ length come.plan.parents.items
  relays_are = come.of_checker.relays ∙ come.wired.relays

  pub few_ends : checker.relays ≤ most_relays
  few_ends = omega (arith, relays_are, few_relays come.plan come.checked)

  -- where an end carries the number of the watch, its own number is of one of its probes, or of its relays
  pub probe_within : (end : ClosedSide) → Contains probes end → end.watch ≡ checker.watch → end.id < checker.processes
  probe_within end among same =
      let is = (rw among.2 at (come.of_probes among.0 end among.1)) same in
      omega (
        arith,
        processes_are,
        slice_get_within come.watch.probes.items end.id is.probe is.is_probe,
        come.wired.rings.probes_count,
      )

  pub relay_within : (end : RelayEnd) → Contains relays end → watch_of end ≡ checker.watch
      → number_of end < checker.relays
  relay_within end among same =
      let is = (rw among.2 at (come.of_relays among.0 end among.1)) same in
      omega (
        arith,
        relays_are,
        slice_get_within come.watch.relays.items (number_of end) is.relay is.is_relay,
        come.wired.linked.count,
      )

  module _ {ends : SeatedEnds} (seats : AreSeatedAndWhole probes relays checker ends) where
    -- there is a place for each process
    pub places : checker.processes ≤ length ends.probes
    places = all_within checker.processes ends.probes seats.all_probes

    -- they are free of what would be told before what they have left behind
    pub free_before : (book : BookState)
        → AllByRecursion (IsFreeOf probes relays checker book) (Stranger ∷ Missing ∷ Faulted ∷ [])
    free_before book = (
      (seats.of_probes, seats.of_relays),
      (
        (
          (all_there (λ (end : ClosedSide). end.id) probes ends.probes checker.processes seats.probes_sit).0
              seats.all_probes,
          (all_there number_of relays ends.relays checker.relays seats.relays_sit).0 seats.all_relays,
        ),
        (seats.whole, tt),
      ),
    )

    pub unfinished : (book : BookState) → ¬ IsFreeOf probes relays checker book Unfinished
        → IsFirstSettleFault probes relays checker book Unfinished
    unfinished book has =
        is_first probes relays checker book (Stranger ∷ Missing ∷ Faulted ∷ []) Unfinished [] refl
        (free_before book) has

    -- all ends are there
    pub ends_there : AreEndsThere checker.relays ends.probes checker.receipt ends.relays
    ends_there = record {
      plan = come.plan;
      watch_number = checker.watch;
      watch = come.watch;
      checked = come.checked;
      wired = come.wired;
      all = relays_are;
      probe = λ p below.
          let (end, sits) = seats.all_probes p (omega (arith, processes_are)) in
          let (among, id) = seats.probes_sit.own p end sits in
          record {
            end = end;
            sits = sits;
            id = id;
            is_end = (rw among.2 at (come.of_probes among.0 end among.1))
                (rw among.2 at (seats.of_probes.same among.0 end among.1));
          };
      relay = λ number below.
          let (end, sits) = seats.all_relays number below in
          let (among, own) = seats.relays_sit.own number end sits in
          record {
            end = end;
            sits = sits;
            number_is = own;
            whole = rw among.2 at (seats.whole.0 among.0 end among.1);
            is_end = (rw among.2 at (come.of_relays among.0 end among.1))
                (rw among.2 at (seats.of_relays.same among.0 end among.1));
          };
      lane = come.of_checker.lane;
    }

    -- the links of all ends were matched where those of the ends at their places were
    pub links_matched : AreFirstMatched checker.relays ends.probes checker.receipt ends.relays
        ↔ All (AreLinksMatched (IsEndAt (λ end. end.id) probes) checker.receipt (IsEndAt number_of relays)) relays
    links_matched = (
      λ each. All-from_contains _ relays (λ end among.
          matched_for_fewer checker.receipt seats.probes_sit.seated seats.relays_sit.seated end
          (each (number_of end) end (relay_within end among (rw among.2 at (seats.of_relays.same among.0 end among.1)))
          (seats.relays_sit.seated (number_of end) end (among, refl)))),
      λ all number relay below sits.
          let (among, own) = seats.relays_sit.own number relay sits in
          matched_for_fewer checker.receipt seats.probes_sit.own seats.relays_sit.own relay
          (rw among.2 at (all among.0 relay among.1)),
    )

    module _ {tallies : List Tally} (are : AreShares checker.processes ends.probes tallies) (book : BookState)
        {report : Report} (told : IsReportTold checker 0 report) where
      -- just these tallies are in the book, and just the cut of the report
      abbrev pub IsPosted : Type 0
      IsPosted = ((p : ℕ) → option_flatten (slice_get book.shares p) ≡ slice_get tallies p)
          × (book.found ≡ cut_of report)

      within : (end : ClosedSide) → Contains probes end → end.id < checker.processes
      within end among = probe_within end among (rw among.2 at (seats.of_probes.same among.0 end among.1))

      share_at : (end : ClosedSide) → Contains probes end → slice_get tallies end.id ≡ Some (share_of end)
      share_at end among = are.each end.id end (within end among) (seats.probes_sit.seated end.id end (among, refl))

      -- the book has just the tallies where it has just the shares of the processes
      pub book_finished : IsPosted → AreFirstMatched checker.relays ends.probes checker.receipt ends.relays
          → IsFreeOf probes relays checker book Unfinished
      book_finished posted each = record {
        links = links_matched.0 each;
        shares = All-from_contains _ probes (λ end among. posted.0 end.id ∙ share_at end among);
        no_others = λ p past. posted.0 p ∙ slice_get_past tallies p (omega (arith, are.count_is));
        found = posted.1 ∙ ap cut_of told.is;
      }

      pub book_posted : IsFreeOf probes relays checker book Unfinished → IsPosted
      book_posted finished = (
        λ p. ⊎_elim
            (λ (below : p < checker.processes).
            let (end, sits) = seats.all_probes p below in
            let (among, id) = seats.probes_sit.own p end sits in
            let share = rw among.2 at (finished.shares among.0 end among.1) in
            rw (← id) (share ∙ sym (share_at end among)))
            (λ (past : checker.processes ≤ p).
            finished.no_others p past ∙ sym (slice_get_past tallies p (omega (arith, are.count_is))))
            (cases_lt p checker.processes),
        finished.found ∙ ap cut_of (sym told.is),
      )

      -- what a run's ends tell
      pub all_settled : IsPosted → AreFirstMatched checker.relays ends.probes checker.receipt ends.relays
          → IsSettled probes checker book (record { report = report; tallies = tallies })
      unfolding ends_there
      all_settled posted each = record {
        all = (free_before book).1.0.0;
        whole = All-from_contains _ probes whole_of;
        any_clocks = λ question one one_told. one_told.any_clocks (fed question one_told.within);
        exact = λ question one one_told. one_told.exact (fed question one_told.within) clocks_rise;
        first = told;
        drained = rw (clean.1, clean.2) at come.of_checker.drained;
        processes = are.count_is;
        tallies = λ k d below.
            let among = Contains-get_or probes k d below in
            rw (whole_of (get_or probes k d) among) (share_at (get_or probes k d) among);
        shares = posted.0;
        found = posted.1;
        totals = λ totals sums. (
          sums.emitted
              ∙ shares_sum (λ tally. tally.emitted) emitted_of_share refl (λ tally. refl) book.shares tallies posted.0,
          sums.taken
              ∙ shares_sum (λ tally. tally.taken) taken_of_share refl (λ tally. refl) book.shares tallies posted.0,
        );
      }
        where
          clean : (come.of_checker.starved ≡ false) × (checker.cut ≡ None) × (checker.lost ≡ None)
          clean =
              without_fault come.of_checker.starved checker.cut checker.lost (sym come.of_checker.fault ∙ seats.whole.1)

          fed : (question : ℕ) → question < length checker.panel
              → (question_at checker.panel question).starved ≡ false
          fed question within = come.of_checker.fed.0 clean.0 question no_question within

          whole_of : (end : ClosedSide) → Contains probes end → notes_taken end.id checker.receipt.taken ≡ end.link.put
          whole_of end among =
              all_taken ends_there each end.id end (seats.probes_sit.seated end.id end (among, refl))
              (omega (arith, within end among, processes_are))

          clocks_rise : ClocksRise checker.processes checker.receipt.taken
          clocks_rise p below =
              let (end, sits) = seats.all_probes p below in
              let (among, id) = seats.probes_sit.own p end sits in
              rw (← id) (taken_rise end.id end.link.put checker.receipt.taken (are.rise p end below sits)
              (whole_of end among))
