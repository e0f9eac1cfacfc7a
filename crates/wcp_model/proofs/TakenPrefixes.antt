use Rattle.wcp_model.proofs.Words.{NumberSet, Flag, Intervals, IsWatched, interval_of, IsEmittedState, ◌≡◌, ℕ, ◌<◌, ◌≤◌}
use Rattle.wcp_model.proofs.Words.{List, [], ◌++◌, length, slice_index, get_or, Contains, refl, sym, ap, ◌∙◌, subst}
use Rattle.wcp_model.proofs.Words.{arith, length-append, append_assoc, get_or_append_left, get_or_default}
use Rattle.wcp_model.proofs.Words.{Contains-get_or, Item, Computation, IsTrueState, member, IsLeastCut, IsLeastOf}
use Rattle.wcp_model.proofs.Words.{IsReportOf, notes_taken, snapshot_clocks, clocks_taken, IsDrained, IsNamed}
use Rattle.wcp_model.proofs.Words.{IsNamedCut, IsCutByClocks, IsReportOfTaken, IsReportByClocks, ArePrefixesOfEmissions}
use Rattle.wcp_model.proofs.Words.{IsStateClock}
use Rattle.wcp_model.specs.declared.outcome.Report.{Report}
use Rattle.wcp_model.specs.declared.outcome.Report.TheVariants.{Found, Nothing, Undecided}
use Rattle.wcp_model.proofs.WatchedProcesses.{choice_of_watched}
use Rattle.wcp_model.proofs.NotesInTurn.{snapshot_clocks-append, emissions_in_turn, nothing_follows}
use Rattle.wcp_model.proofs.Predecessors.{local_state}
use Rattle.wcp_model.proofs.RisingClocks.{emitted_clocks, rises_above}
use Rattle.wcp_model.proofs.SendFlag.{IsEmittedLeast, emitted_least}

-- What was taken of each process is a prefix of its emissions.
module _ (n : ℕ) (watched : NumberSet) (flag : Flag) (c : Computation) (items : List Item)
    (fronts : ArePrefixesOfEmissions n watched flag c items) where
  -- a taken clock is that of a true state
  record IsOfState (p : ℕ) (clock : List ℕ) (interval : ℕ) : Type 0 where
    pub clock_is : IsStateClock n c (local_state p interval) clock
    pub true_state : IsTrueState c (local_state p interval)

  all_clocks : (p : ℕ) (within : p < n)
      → clocks_taken p items ++ snapshot_clocks (fronts p within).0 ≡ (fronts p within).1.clocks
  all_clocks p within =
      let (rest, emitted) = fronts p within in
      sym (snapshot_clocks-append (notes_taken p items) rest)
      ∙ emitted_clocks n watched flag c p (notes_taken p items ++ rest) emitted

  fewer : (p : ℕ) (within : p < n) → length (clocks_taken p items) ≤ length (fronts p within).1.intervals
  fewer p within = omega (
    arith,
    length-append (clocks_taken p items) (snapshot_clocks (fronts p within).0),
    ap length (all_clocks p within),
    (fronts p within).1.same_length,
  )

  state_at : (p i : ℕ) (within : p < n) → i < length (clocks_taken p items)
      → IsOfState p (get_or (clocks_taken p items) i []) (slice_index (fronts p within).1.intervals i)
  state_at p i within below = search (arith, all_clocks p within, Contains-get_or, fewer, get_or_append_left)

  -- the place of the snapshot that names a state
  named_at : (p k : ℕ) (within : p < n) (named : IsNamed items (local_state p k))
      → (i : ℕ) × (i < length (clocks_taken p items)) × (slice_index (fronts p within).1.intervals i ≡ k)
      × (get_or (clocks_taken p items) i [] ≡ named.clock)
  named_at p k within named = grind (arith, named, get_or_default, state_at)

  named_state : (p k : ℕ) → p < n → (named : IsNamed items (local_state p k)) → IsOfState p named.clock k
  named_state p k within named = grind (arith, state_at, named_at p k within named)

  -- a cut by clocks is one of named states, and the other way round
  cut_by_states : (cut : Intervals) → IsCutByClocks n watched items cut → IsNamedCut n watched c items cut
  cut_by_states cut is = record {
    satisfying = record {
      members = is.members;
      consistent = λ p q p_is q_is apart before. is.concurrent p q p_is q_is apart (omega (
        arith,
        is.own p p_is,
        ((named_state q (interval_of cut q) q_is.below (named q q_is)).clock_is.others p p_is.below apart
            (interval_of cut p)).0 before,
      ));
      true_states = λ p p_is. (named_state p (interval_of cut p) p_is.below (named p p_is)).true_state;
    };
    named = named;
  }
    where
      named : (p : ℕ) → IsWatched n watched p → IsNamed items (member cut p)
      named p p_is = record { clock = is.clock p; taken = is.taken p p_is; own = is.own p p_is }

  cut_by_clocks : (cut : Intervals) → IsNamedCut n watched c items cut → IsCutByClocks n watched items cut
  cut_by_clocks cut is =
      let (clock, each) = choice_of_watched n watched []
      (λ p clock. (named : IsNamed items (member cut p)) × (named.clock ≡ clock))
      (λ p p_is. ((is.named p p_is).clock, (is.named p p_is, refl))) in
      record {
        members = is.satisfying.members;
        clock = clock;
        taken = λ p p_is. subst (Contains (clocks_taken p items)) (each p p_is).1 (each p p_is).0.taken;
        own = λ p p_is. ap (λ (v : List ℕ). slice_index v p) (sym (each p p_is).1) ∙ (each p p_is).0.own;
        concurrent = λ p q p_is q_is apart less.
            let one = (each p p_is).0 in
            let other = (each q q_is).0 in
            is.satisfying.consistent p q p_is q_is apart
            (grind (arith, named_state q (interval_of cut q) q_is.below other));
      }

  least_by_states : (cut : Intervals) → IsLeastOf n watched (IsCutByClocks n watched items) cut
      → IsLeastOf n watched (IsNamedCut n watched c items) cut
  least_by_states cut least = grind (arith, cut_by_states, least, cut_by_clocks)

  -- the report by clocks is the report of what was taken
  pub report_of_taken : (report : Report) → IsReportByClocks n watched items report
      → IsReportOfTaken n watched c items report
  report_of_taken report least = grind (arith, cut_by_clocks, least_by_states)

  -- an emitted state has a place among the snapshots, and is named once that one is taken
  place_of : (p k : ℕ) (within : p < n) → IsEmittedState watched flag c (local_state p k)
      → (i : ℕ) × (i < length (fronts p within).1.intervals) × (slice_index (fronts p within).1.intervals i ≡ k)
  place_of p k within emitted = grind (arith, ((fronts p within).1.states.each k).1 emitted, get_or_default)

  named_by : (p k i : ℕ) (within : p < n) → slice_index (fronts p within).1.intervals i ≡ k
      → i < length (clocks_taken p items) → IsNamed items (local_state p k)
  named_by p k i within here taken = grind (arith, Contains-get_or, state_at)

  -- so each emitted state below a named one is named
  named_below : (p k l : ℕ) (within : p < n) → IsNamed items (local_state p k)
      → IsEmittedState watched flag c (local_state p l) → l ≤ k → IsNamed items (local_state p l)
  named_below p k l within named emitted order =
      grind (arith, named_at p k within named, named, place_of p l within emitted, named_by, rises_above)

  -- so the least cut of those named is the least cut of the whole computation, before all is drained and after
  pub found_is_least : (cut : Intervals) → IsReportByClocks n watched items (Found cut) → IsLeastCut n watched c cut
  found_is_least cut found = record {
    one = least.one.satisfying;
    below = λ other also p is. omega (arith, least.below lowest.cut named p is, lowest.least.below other also p is);
  }
    where
      least : IsLeastOf n watched (IsNamedCut n watched c items) cut
      least = least_by_states cut found

      lowest : IsEmittedLeast n watched flag c
      lowest = emitted_least n watched flag c cut least.one.satisfying

      named : IsNamedCut n watched c items lowest.cut
      named = grind (arith, lowest, least, named_below)

  -- where all is drained, all emissions were taken
  nothing_left : IsDrained n items → (p : ℕ) (within : p < n) → (fronts p within).0 ≡ []
  nothing_left drained p within =
      let (rest, emitted) = fronts p within in
      let (count, before, is) = drained p within in
      nothing_follows before rest count
      (rw (is, append_assoc) at (emissions_in_turn n watched flag c p (notes_taken p items ++ rest) emitted))

  -- a process's emitted states are as many as its snapshots taken
  pub all_states_taken : IsDrained n items → (p : ℕ) (within : p < n)
      → length (fronts p within).1.intervals ≡ length (clocks_taken p items)
  all_states_taken drained p within =
      omega (
        arith,
        (fronts p within).1.same_length,
        ap length (all_clocks p within),
        length-append (clocks_taken p items) (snapshot_clocks (fronts p within).0),
        ap (λ notes. length (snapshot_clocks notes)) (nothing_left drained p within),
      )

  named_when_drained : IsDrained n items → (p k : ℕ) (within : p < n) → IsEmittedState watched flag c (local_state p k)
      → IsNamed items (local_state p k)
  named_when_drained drained p k within emitted =
      grind (arith, place_of p k within emitted, named_by, all_states_taken drained p within)

  -- and the report is that of the whole computation
  pub report_when_drained : IsDrained n items → (report : Report) → IsReportByClocks n watched items report
      → IsReportOf n watched c report
  report_when_drained drained (Found cut) found = found_is_least cut found
  report_when_drained drained Nothing none = (
    λ cut satisfying.
        let lowest = emitted_least n watched flag c cut satisfying in
        none.0 lowest.cut (cut_by_clocks lowest.cut (record {
          satisfying = lowest.least.one;
          named = λ p is. named_when_drained drained p (interval_of lowest.cut p) is.below (lowest.emitted p is);
        })),
    tt,
  )
  report_when_drained drained Undecided none = absurd (none.1 drained)
