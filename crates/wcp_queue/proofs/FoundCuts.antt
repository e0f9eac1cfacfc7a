use Rattle.wcp_queue.proofs.Words.{NumberSet, Intervals, interval_of, IsWatched, members_of, row_of, known_of, rows_of}
use Rattle.wcp_queue.proofs.Words.{cut_of, get_or-map, length-map, common_steps, ◌≡◌, ℕ, ◌<◌, ◌≤◌, Bool, true, false}
use Rattle.wcp_queue.proofs.Words.{List, [], length, get_or, slice_index, sym, ◌∙◌, ap, arith, Option, None, Some}
use Rattle.wcp_queue.proofs.Words.{MatchOption, ◌∷◌, ◌++◌, take, subst, append-nil, get_or_default, get_or-take}
use Rattle.wcp_queue.proofs.Words.{length-take-le, Contains-get_or, All-from_get_or, Item, clocks_taken, IsCutByClocks}
use Rattle.wcp_queue.proofs.Words.{ClocksRise, notes_taken, IsDrained, AreInTurn, GrowTo, IsSatisfyingChoice}
use Rattle.wcp_queue.proofs.Words.{AreInOrder, choice_from_each, Floor, HaveHeads, IsCutOfHeads, AreStable, AreLeft}
use Rattle.wcp_queue.proofs.Words.{IsFoundAmong, GainCandidate, list_all, both_ways, AllPass-from_list_all}
use Rattle.wcp_queue.proofs.Words.{list_all-from_AllPass, Close, nothing_follows, CheckerState, processes}
use Rattle.wcp_queue.proofs.Words.{StandsForItems, IsSoundChecker}
use Rattle.std.proofs.Common.{ap₂, subst₂}
use Rattle.wcp_model.specs.Cut.{IsLeastOf, IsAtOrBelow}
use Rattle.wcp_queue.proofs.WatchedRows.{known_at, row_of_watched, member_is_watched, apart_rows, interval_of-cut}
use Rattle.wcp_queue.proofs.WatchedRows.{NamesWatched-cut}
use Rattle.wcp_queue.proofs.Choices.{GrowTo-same, get_or-grown, IsSatisfyingChoice-grown, IsEliminatedBelow-grown}
use Rattle.wcp_queue.proofs.LeftQueues.{GrowTo-gain}
use Rattle.wcp_queue.proofs.NotesTaken.{close_mark_in, close_mark_taken}

-- where each process has a head, their cut is found
pub IsFoundAmong-heads : (n : ℕ) (rows : ℕ → List (List ℕ)) (queues : List (List (List ℕ))) (floor : Floor)
    (cut : List ℕ) → AreLeft n rows queues floor → IsCutOfHeads n floor cut → IsFoundAmong n rows cut
IsFoundAmong-heads n rows queues floor cut left is = grind arith

-- a cut that was found stays so as more is taken
pub IsFoundAmong-grown : (n : ℕ) (rows longer : ℕ → List (List ℕ)) (cut : List ℕ) → GrowTo n rows longer
    → IsFoundAmong n rows cut → IsFoundAmong n longer cut
IsFoundAmong-grown n rows longer cut grow found =
    grind (arith, IsEliminatedBelow-grown, IsSatisfyingChoice-grown, get_or-grown)

pub IsFoundAmong-gain : (n p : ℕ) (rows longer : ℕ → List (List ℕ)) (clock cut : List ℕ)
    → GainCandidate n p clock rows longer → IsFoundAmong n rows cut → IsFoundAmong n longer cut
IsFoundAmong-gain n p rows longer clock cut gain =
    IsFoundAmong-grown n rows longer cut (GrowTo-gain n p clock rows longer gain)

pub IsFoundAmong-same : (n : ℕ) (rows others : ℕ → List (List ℕ)) (cut : List ℕ) → ((p : ℕ) → p < n → others p ≡ rows p)
    → IsFoundAmong n rows cut → IsFoundAmong n others cut
IsFoundAmong-same n rows others cut same =
    IsFoundAmong-grown n rows others cut (λ p p_within. ([], same p p_within ∙ sym (append-nil (rows p))))

module _ (n : ℕ) (watched : NumberSet) (items : List Item) where
  abbrev pub members : List ℕ
  members = members_of n watched

  abbrev pub rows : ℕ → List (List ℕ)
  rows = rows_of members items

  -- the clock at a place of the row of a process
  abbrev pub clock_at : ℕ → ℕ → List ℕ
  clock_at p i = get_or (clocks_taken p items) i []

  pub length-row : (row : ℕ) → length (rows row) ≡ length (clocks_taken (slice_index members row) items)
  length-row row = length-map (clocks_taken (slice_index members row) items) (known_of members)

  -- a candidate says of the process of a row what its clock says
  pub candidate_knows : (row i other : ℕ) → i < length (rows row) → other < length members
      → slice_index (get_or (rows row) i []) other ≡ slice_index (clock_at (slice_index members row) i)
      (slice_index members other)
  candidate_knows row i other below within =
      ap (λ (clock : List ℕ). slice_index clock other)
      (get_or-map (known_of members) (clocks_taken (slice_index members row) items) i [] []
      (omega (arith, length-row row)))
      ∙ known_at members (clock_at (slice_index members row) i) other within

  -- a cut that was found is one of taken snapshots, of which none precedes another
  module _ (intervals : List ℕ) (found : IsFoundAmong (length members) rows intervals) where
    abbrev clock_found : ℕ → List ℕ
    clock_found p = clock_at p (found.choice (row_of members p))

    knows_found : (p q : ℕ) → IsWatched n watched p → IsWatched n watched q
        → slice_index (get_or (rows (row_of members p)) (found.choice (row_of members p)) []) (row_of members q)
        ≡ slice_index (clock_found p) q
    knows_found p q p_is q_is =
        let mine = row_of_watched n watched p p_is in
        let theirs = row_of_watched n watched q q_is in
        candidate_knows (row_of members p) (found.choice (row_of members p)) (row_of members q)
        (found.satisfying.within (row_of members p) mine.within) theirs.within
        ∙ ap₂ (λ x y. slice_index (clock_at x (found.choice (row_of members p))) y) mine.own theirs.own

    pub own_found : (p : ℕ) → IsWatched n watched p
        → slice_index (clock_found p) p ≡ interval_of (cut_of n members intervals) p
    own_found p p_is =
        sym (knows_found p p p_is p_is)
        ∙ sym (found.own (row_of members p) (row_of_watched n watched p p_is).within)
        ∙ sym (interval_of-cut n watched intervals found.members p p_is)

    pub IsCutByClocks-found : IsCutByClocks n watched items (cut_of n members intervals)
    IsCutByClocks-found = record {
      members = NamesWatched-cut n watched intervals found.members;
      clock = clock_found;
      taken = λ p p_is.
          let mine = row_of_watched n watched p p_is in
          let within = found.satisfying.within (row_of members p) mine.within in
          Contains-get_or (clocks_taken p items) (found.choice (row_of members p)) []
          (omega (arith, within, length-row (row_of members p), ap (λ q. length (clocks_taken q items)) mine.own));
      own = own_found;
      concurrent = λ p q p_is q_is apart less.
          let mine = row_of_watched n watched p p_is in
          let theirs = row_of_watched n watched q q_is in
          found.satisfying.concurrent (row_of members p) (row_of members q) mine.within theirs.within
          (λ same. apart (sym mine.own ∙ ap (slice_index members) same ∙ theirs.own))
          (omega (arith, less, knows_found p p p_is p_is, knows_found q p q_is p_is));
    }

  -- clocks that never fall keep the order of candidates
  pub rows_in_order : ClocksRise n items → AreInOrder (length members) rows
  rows_in_order order = record {
    later = λ p q i j k p_within q_within apart i_within j_le k_within before.
        let of_q = slice_index members q in
        let below = (member_is_watched n watched q q_within).below in
        let rises = (order of_q below).never_fall j k (slice_index members p) j_le (omega (arith, length-row q)) in
        omega (
          arith,
          before,
          rises,
          candidate_knows q j p (omega arith) p_within,
          candidate_knows q k p k_within p_within,
        );
  }

  -- the choice of a cut by clocks: the place of each of its snapshots
  pub record IsPlaceOf (clock : ℕ → List ℕ) (row i : ℕ) : Type 0 where
    pub within : i < length (rows row)
    pub here : clock_at (slice_index members row) i ≡ clock (slice_index members row)

  pub choice_of_cut : (cut : Intervals) (is : IsCutByClocks n watched items cut)
      → (choice : ℕ → ℕ) × ((row : ℕ) → row < length members → IsPlaceOf is.clock row (choice row))
  choice_of_cut cut is = choice_from_each 0 (IsPlaceOf is.clock) (length members) (λ row below.
      let p = slice_index members row in
      let (i, within, here) = is.taken p (member_is_watched n watched row below) in (
        i,
        record {
          within = omega (arith, length-row row);
          here = get_or_default (clocks_taken p items) i [] (is.clock p) within ∙ here;
        },
      ))

  pub is_satisfying : (cut : Intervals) (is : IsCutByClocks n watched items cut) (choice : ℕ → ℕ)
      → ((row : ℕ) → row < length members → IsPlaceOf is.clock row (choice row))
      → IsSatisfyingChoice (length members) rows choice
  is_satisfying cut is choice places = record {
    within = λ row below. (places row below).within;
    concurrent = λ p q p_below q_below apart before. is.concurrent (slice_index members p) (slice_index members q)
        (member_is_watched n watched p p_below) (member_is_watched n watched q q_below)
        (apart_rows n watched p q p_below q_below apart)
        (omega (
          arith,
          before,
          candidate_knows p (choice p) p (places p p_below).within p_below,
          candidate_knows q (choice q) p (places q q_below).within p_below,
          ap (λ (clock : List ℕ). slice_index clock (slice_index members p)) (places p p_below).here,
          ap (λ (clock : List ℕ). slice_index clock (slice_index members p)) (places q q_below).here,
        ));
  }

  -- it is the least of these, where each process's items were taken in order
  pub IsLeastOf-found : (intervals : List ℕ) → ClocksRise n items → IsFoundAmong (length members) rows intervals
      → IsLeastOf n watched (IsCutByClocks n watched items) (cut_of n members intervals)
  IsLeastOf-found intervals order found = record { one = one; below = below }
    where
      one : IsCutByClocks n watched items (cut_of n members intervals)
      one = IsCutByClocks-found intervals found

      below : (other : Intervals) → IsCutByClocks n watched items other
          → IsAtOrBelow n watched (cut_of n members intervals) other
      below other is p p_is =
          let (choice, places) = choice_of_cut other is in
          let row = row_of members p in
          let mine = row_of_watched n watched p p_is in
          let place = places row mine.within in
          let up : found.choice row ≤ choice row =
          found.eliminated.at_or_above rows (GrowTo-same (length members) rows) (rows_in_order order) choice
          (is_satisfying other is choice places) row mine.within in
          let here : clock_at p (choice row) ≡ is.clock p =
          subst (λ q. clock_at q (choice row) ≡ is.clock q) mine.own place.here in
          let within : choice row < length (clocks_taken p items) =
          omega (arith, place.within, length-row row, ap (λ q. length (clocks_taken q items)) mine.own) in
          let mine_is : slice_index (clock_at p (found.choice row)) p ≡ interval_of (cut_of n members intervals) p =
          own_found intervals found p p_is in
          let rises : slice_index (clock_at p (found.choice row)) p ≤ slice_index (clock_at p (choice row)) p =
          (order p p_is.below).never_fall (found.choice row) (choice row) p up within in
          omega (
            arith,
            mine_is,
            rises,
            ap (λ (clock : List ℕ). slice_index clock p) here,
            is.own p p_is,
          )

  -- while a process has no head and nothing of it waits there is none
  pub no_cut_without_heads : (queues : List (List (List ℕ))) (floor : Floor) (cut : Intervals)
      → length queues ≡ length members → ClocksRise n items → AreLeft (length members) rows queues floor
      → AreStable queues floor → (HaveHeads (length members) floor → ⊥) → IsCutByClocks n watched items cut → ⊥
  no_cut_without_heads queues floor cut same order left stable waiting is =
      let (choice, places) = choice_of_cut cut is in
      let satisfying = is_satisfying cut is choice places in
      waiting (grind (arith, common_steps, rows_in_order))
    where
      not_false : (b : Bool) → (b ≡ false → ⊥) → b ≡ true
      not_false b never = grind arith

module _ (checker : CheckerState) (sound : IsSoundChecker checker) (items : List Item)
    (stands : StandsForItems checker items) where
  -- the marks tell whether all is drained
  pub IsDrained-marks : list_all (λ closed. closed) (take (processes checker) checker.closed) ≡ true
      → IsDrained (processes checker) items
  IsDrained-marks all = λ p p_within.
      let front : length (take (processes checker) checker.closed) ≡ processes checker =
      length-take-le (processes checker) checker.closed (omega (arith, sound.few, sound.marks)) in
      let here : get_or (take (processes checker) checker.closed) p false ≡ true = AllPass-from_list_all
      (λ closed. closed) (take (processes checker) checker.closed) all p false (omega arith) in
      let (count, before, after, is) = close_mark_in (notes_taken p items) (sym (stands.closed p p_within)
      ∙ sym (get_or-take (processes checker) checker.closed p false p_within) ∙ here) in
      let last : after ≡ [] = nothing_follows before after count (subst AreInTurn is (stands.in_turn p p_within)) in
      (count, before, subst (λ rest. notes_taken p items ≡ before ++ Close count ∷ rest) last is)

  pub marks-not_all : list_all (λ closed. closed) (take (processes checker) checker.closed) ≡ false
      → IsDrained (processes checker) items → ⊥
  marks-not_all some drained = both_ways (list_all (λ mark. mark) (take (processes checker) checker.closed)) some
      (list_all-from_AllPass (λ mark. mark) (take (processes checker) checker.closed)
      (All-from_get_or (λ mark. mark ≡ true) (take (processes checker) checker.closed) false
      (λ p p_listed.
      let front : length (take (processes checker) checker.closed) ≡ processes checker =
      length-take-le (processes checker) checker.closed (omega (arith, sound.few, sound.marks)) in
      get_or-take (processes checker) checker.closed p false (omega arith) ∙ stands.closed p (omega arith)
      ∙ (let (count, before, is) = drained p (omega arith) in
      close_mark_taken (notes_taken p items) before count is))))

  abbrev pub Candidates : List ℕ → ℕ → Option (List ℕ) → Type 0
  Candidates members count found = MatchOption found
      (checker.starved ≡ false → AreLeft count (rows_of members items) checker.queues checker.floor)
      (IsFoundAmong count (rows_of members items))

  abbrev pub watched_members : List ℕ
  watched_members = members_of checker.count checker.watched

  pub candidates : Candidates watched_members (length watched_members) checker.found
  candidates =
      let same : length checker.queues ≡ length watched_members = sound.rows ∙ ap length sound.members in
      subst₂ (λ members count. Candidates members count checker.found) sound.members same stands.candidates

  pub found : (intervals : List ℕ) → checker.found ≡ Some intervals
      → IsFoundAmong (length watched_members) (rows_of watched_members items) intervals
  found intervals is = subst (Candidates watched_members (length watched_members)) is candidates

  abbrev cut_found : List ℕ → Intervals
  cut_found intervals = cut_of checker.count checker.members intervals

  -- a cut that was found
  pub IsCutByClocks-report : (intervals : List ℕ) → checker.found ≡ Some intervals
      → IsCutByClocks (processes checker) checker.watched items (cut_found intervals)
  IsCutByClocks-report intervals is =
      subst
      (λ members. IsCutByClocks (processes checker) checker.watched items (cut_of checker.count members intervals))
      (sym sound.members)
      (IsCutByClocks-found (processes checker) checker.watched items intervals (found intervals is))

  pub IsLeastOf-report : (intervals : List ℕ) → checker.found ≡ Some intervals → ClocksRise (processes checker) items
      → IsLeastOf (processes checker) checker.watched (IsCutByClocks (processes checker) checker.watched items)
      (cut_found intervals)
  IsLeastOf-report intervals is order =
      subst (λ members. IsLeastOf (processes checker) checker.watched
      (IsCutByClocks (processes checker) checker.watched items) (cut_of checker.count members intervals))
      (sym sound.members)
      (IsLeastOf-found (processes checker) checker.watched items intervals order (found intervals is))

  -- where none was found, and the search was not ended, there is none
  pub no_cut-report : checker.found ≡ None → checker.starved ≡ false → ClocksRise (processes checker) items
      → (cut : Intervals) → IsCutByClocks (processes checker) checker.watched items cut → ⊥
  no_cut-report none fed order cut is =
      let same : length checker.queues ≡ length watched_members = sound.rows ∙ ap length sound.members in
      no_cut_without_heads (processes checker) checker.watched items checker.queues checker.floor cut same order
      (subst (Candidates watched_members (length watched_members)) none candidates fed)
      sound.stable (subst (λ count. HaveHeads count checker.floor → ⊥) same (sound.waiting none)) is
