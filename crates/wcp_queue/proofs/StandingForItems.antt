use Rattle.wcp_queue.proofs.Words.{NumberSet, IsWatched, row_of, known_of, rows_of, map, map_push, inl, inr, ◌≢◌}
use Rattle.wcp_queue.proofs.Words.{IsSoundChecker, ◌≡◌, ℕ, ◌+◌, ◌<◌, ◌≤◌, Bool, true, false, Option, Some, None}
use Rattle.wcp_queue.proofs.Words.{MatchOption, List, [], ◌∷◌, ◌++◌, length, get_or, set, replicate, sum, cond}
use Rattle.wcp_queue.proofs.Words.{slice_index, refl, sym, ◌∙◌, ap, subst, arith, true≢false, length-append}
use Rattle.wcp_queue.proofs.Words.{get_or-set_same, get_or-set_other, get_or-replicate, length-replicate, sum_by-set}
use Rattle.wcp_queue.proofs.Words.{sum_by_push, Item, Snap, Close, Lost, is_close, is_last, is_lost, list_any, cases_eq}
use Rattle.wcp_queue.proofs.Words.{notes_taken, clocks_taken, AreInTurn-none, HaveHeads, IsCutOfHeads, AreLeft}
use Rattle.wcp_queue.proofs.Words.{AddsCandidate, IsFoundAmong, GainCandidate, CheckerState, processes, taken_of}
use Rattle.wcp_queue.proofs.Words.{closed_of, lost_of, is_snapshot, IsSearching, MayTake, StandsForItems}
use Rattle.wcp_clock.specs.declared.note.Note.{Note}
use Rattle.wcp_queue.proofs.FoundCuts.{IsFoundAmong-heads, IsFoundAmong-gain, IsFoundAmong-same}
use Rattle.wcp_queue.proofs.LeftQueues.{AreLeft-start, AreLeft-rows}
use Rattle.wcp_queue.proofs.SoundCheckers.{fresh_checker}
use Rattle.wcp_queue.proofs.WatchedRows.{member_is_watched, apart_rows, row_cases}
use Rattle.wcp_queue.proofs.NotesTaken.{in_turn-push, next_where_MayTake, GainCandidate-snapshot}
use Rattle.wcp_queue.proofs.NotesTaken.{clocks_taken-push_last, taken_kind-own, taken_kind-other, taken_kind-unlike}

-- a snapshot more of process p is counted
pub taken_of-set_same : (taken : List ℕ) (p : ℕ) → p < length taken
    → slice_index (set taken p (slice_index taken p + 1)) p ≡ slice_index taken p + 1
taken_of-set_same taken p within = get_or-set_same taken p (slice_index taken p + 1) 0 within

pub sum-set : (taken : List ℕ) (p : ℕ) → p < length taken → sum (set taken p (slice_index taken p + 1)) ≡ sum taken + 1
sum-set taken p within = omega (arith, sum_by-set (λ x. x) taken p (slice_index taken p + 1) 0 within)

-- the candidates of a checker that has found this, if anything
abbrev HasCandidates : CheckerState → (ℕ → List (List ℕ)) → Option (List ℕ) → Type 0
HasCandidates checker rows found = MatchOption found
    (checker.starved ≡ false → AreLeft (length checker.queues) rows checker.queues checker.floor)
    (IsFoundAmong (length checker.queues) rows)

module _ (old new : CheckerState) (sound : IsSoundChecker old) (items : List Item) (p : ℕ) (clock : List ℕ)
    (stands : StandsForItems old items) (p_within : p < processes old) (still_open : closed_of old p ≡ false)
    (not_lost : lost_of old p ≡ false) (within : p < length old.taken)
    (taken : new.taken ≡ set old.taken p (taken_of old p + 1)) (closed : new.closed ≡ old.closed)
    (lost : new.lost ≡ old.lost) (same_rows : length new.queues ≡ length old.queues)
    (starved : new.starved ≡ old.starved)
    (count : new.count ≡ old.count) (members : new.members ≡ old.members) where
  abbrev longer : List Item
  longer = items ++ record { from = p; note = Snap (taken_of old p) clock } ∷ []

  gain : GainCandidate (processes old) p clock (λ q. clocks_taken q items) (λ q. clocks_taken q longer)
  gain = GainCandidate-snapshot (processes old) items p (taken_of old p) clock

  is_watched : (row : ℕ) → row < length old.queues → IsWatched old.count old.watched (slice_index old.members row)
  is_watched row below = rw sound.members
      (member_is_watched old.count old.watched row (omega (arith, sound.rows, ap length sound.members)))

  -- the row of the process gains what the clock says of the watched
  gain_row : (row : ℕ) → row < length old.queues → slice_index old.members row ≡ p
      → GainCandidate (length old.queues) row (known_of old.members clock) (rows_of old.members items)
      (rows_of old.members longer)
  gain_row row below own = record {
    gained = rw own
        (ap (map (known_of old.members)) gain.gained ∙ map_push (known_of old.members) (clocks_taken p items) clock);
    others = λ other other_below apart. ap (map (known_of old.members))
        (gain.others (slice_index old.members other) (is_watched other other_below).below
        (λ same. distinct other other_below apart (same ∙ sym own)));
  }
    where
      distinct : (other : ℕ) → other < length old.queues → other ≢ row
          → slice_index old.members other ≢ slice_index old.members row
      distinct other other_below apart = rw sound.members (apart_rows old.count old.watched other row
          (omega (arith, sound.rows, ap length sound.members))
          (omega (arith, sound.rows, ap length sound.members)) apart)

  -- of a process that isn't watched no row gains
  no_gain : row_of old.members p ≡ length old.members → (row : ℕ) → row < length old.queues
      → rows_of old.members longer row ≡ rows_of old.members items row
  no_gain none row below = ap (map (known_of old.members))
      (gain.others (slice_index old.members row) (is_watched row below).below (λ same. elim (row_cases old.members p) [
        | inl has ↦ omega (arith, has.within)
        | inr out ↦ out.other row (omega (arith, sound.rows)) same
      ]))

  -- what the checker holds after a snapshot, with what it then has of candidates
  counted : HasCandidates new (rows_of old.members longer) new.found → StandsForItems new longer
  counted candidates =
      let item : Item = record { from = p; note = Snap (taken_of old p) clock } in
      let next = next_where_MayTake old items item stands
      (record { from = p_within; place = refl; still_open = still_open; not_lost = not_lost }) in
      record {
        taken = λ q q_within. grind (arith, gain, get_or-set_other, length-append, taken_of-set_same);
        snapshots = ap sum taken ∙ omega (
          arith,
          sum-set old.taken p within,
          stands.snapshots,
          sum_by_push (λ x. cond (is_snapshot x) 1 0) items item,
        );
        closed = λ q q_within. ap (λ (marks : List Bool). get_or marks q false) closed ∙ stands.closed q (omega arith)
            ∙ sym (taken_kind-unlike is_close items p q item.note refl);
        lost = λ q q_within. ap (λ (marks : List Bool). get_or marks q false) lost ∙ stands.lost q (omega arith)
            ∙ sym (taken_kind-unlike is_lost items p q item.note refl);
        in_turn = λ q q_within. in_turn-push items item q next (stands.in_turn q (omega arith));
        candidates = rw members candidates;
      }

  -- a checker that searches adds it to its candidates, if its process is watched
  pub StandsForItems-snapshot : (row : ℕ) → row < length old.queues → slice_index old.members row ≡ p → IsSearching old
      → AddsCandidate row (known_of old.members clock) old.queues old.floor new.queues new.floor
      → MatchOption new.found (HaveHeads (length old.queues) new.floor → ⊥) (IsCutOfHeads (length old.queues) new.floor)
      → StandsForItems new longer
  StandsForItems-snapshot row below own searching left cut = counted (candidates new.found cut)
    where
      now_left : AreLeft (length new.queues) (rows_of old.members longer) new.queues new.floor
      now_left = subst (λ n. AreLeft n (rows_of old.members longer) new.queues new.floor) (sym same_rows)
          (left (rows_of old.members items) (rows_of old.members longer) (gain_row row below own)
          (subst (HasCandidates old (rows_of old.members items)) searching.none_found stands.candidates
          searching.not_starved))

      candidates : (found : Option (List ℕ))
          → MatchOption found (HaveHeads (length old.queues) new.floor → ⊥) (IsCutOfHeads (length old.queues) new.floor)
          → HasCandidates new (rows_of old.members longer) found
      candidates None waits = λ fed. now_left
      candidates (Some intervals) heads =
          subst (λ n. IsFoundAmong n (rows_of old.members longer) intervals) (sym same_rows)
          (IsFoundAmong-heads (length old.queues) (rows_of old.members longer) new.queues new.floor intervals
          (subst (λ n. AreLeft n (rows_of old.members longer) new.queues new.floor) same_rows now_left) heads)

  -- any other keeps what it has of candidates, and counts it
  pub StandsForItems-counted : (IsSearching old → row_of old.members p ≡ length old.members) → new.found ≡ old.found
      → new.queues ≡ old.queues → new.floor ≡ old.floor → StandsForItems new longer
  StandsForItems-counted out still queues floor =
      counted (rw still (candidates old.found refl stands.candidates))
    where
      candidates : (found : Option (List ℕ)) → old.found ≡ found → HasCandidates old (rows_of old.members items) found
          → HasCandidates new (rows_of old.members longer) found
      candidates None none left = λ fed.
          let searching : IsSearching old = record { none_found = none; not_starved = sym starved ∙ fed } in
          rw (queues, floor) (AreLeft-rows (length old.queues) (rows_of old.members items) (rows_of old.members longer)
          old.queues old.floor (no_gain (out searching)) (left (sym starved ∙ fed)))
      candidates (Some cut) some is = rw queues (elim (row_cases old.members p) [
        | inl has ↦ IsFoundAmong-gain (length old.queues) (row_of old.members p) (rows_of old.members items)
            (rows_of old.members longer) (known_of old.members clock) cut
            (gain_row (row_of old.members p) (omega (arith, has.within, sound.rows)) has.own) is
        | inr none ↦ IsFoundAmong-same (length old.queues) (rows_of old.members items) (rows_of old.members longer) cut
            (no_gain none.past) is
      ])

-- a starved checker stands for the same items
pub StandsForItems-starved : (checker : CheckerState) (items : List Item) → StandsForItems checker items
    → StandsForItems (record checker { starved = true }) items
StandsForItems-starved checker items stands = record {
  taken = stands.taken;
  snapshots = stands.snapshots;
  closed = stands.closed;
  lost = stands.lost;
  in_turn = stands.in_turn;
  candidates = candidates checker.found stands.candidates;
}
  where
    candidates : (found : Option (List ℕ)) → HasCandidates checker (rows_of checker.members items) found
        → HasCandidates (record checker { starved = true }) (rows_of checker.members items) found
    candidates None left = λ fed. absurd (true≢false fed)
    candidates (Some cut) is = is

-- a last note is noted, and all else stays
module _ (old new : CheckerState) (items : List Item) (p : ℕ) (note : Note) (last : is_last note ≡ true)
    (stands : StandsForItems old items) (may : MayTake old (record { from = p; note = note }))
    (queues : new.queues ≡ old.queues) (floor : new.floor ≡ old.floor) (taken : new.taken ≡ old.taken)
    (found : new.found ≡ old.found) (starved : new.starved ≡ old.starved)
    (count : new.count ≡ old.count) (members : new.members ≡ old.members) where
  abbrev ending : List Item
  ending = items ++ record { from = p; note = note } ∷ []

  StandsForItems-last : ((q : ℕ) → q < processes old → closed_of new q ≡ list_any is_close (notes_taken q ending))
      → ((q : ℕ) → q < processes old → lost_of new q ≡ list_any is_lost (notes_taken q ending))
      → StandsForItems new ending
  StandsForItems-last closed lost = record {
    taken = λ q q_within. ap (λ (counts : List ℕ). slice_index counts q) taken ∙ stands.taken q (omega (arith, count))
        ∙ ap length (sym (clocks_taken-push_last items p q note last));
    snapshots = ap sum taken ∙ omega (
      arith,
      stands.snapshots,
      ap {B = ℕ} (λ b. cond b 1 0) (last_is_none note last),
      sum_by_push (λ item. cond (is_snapshot item) 1 0) items (record { from = p; note = note }),
    );
    closed = λ q q_within. closed q (omega (arith, count));
    lost = λ q q_within. lost q (omega (arith, count));
    in_turn = λ q q_within. in_turn-push items (record { from = p; note = note }) q (next_where_MayTake old items
        (record { from = p; note = note }) stands may) (stands.in_turn q (omega (arith, count)));
    candidates = rw (queues, floor, found, starved, members) (candidates old.found stands.candidates);
  }
    where
      last_is_none : (note : Note) → is_last note ≡ true → is_snapshot (record { from = p; note = note }) ≡ false
      last_is_none (Snap number clock) last = cc
      last_is_none (Close count) last = refl
      last_is_none (Lost count) last = refl

      same : (row : ℕ) → row < length old.queues → rows_of old.members ending row ≡ rows_of old.members items row
      same row below =
          ap (map (known_of old.members)) (clocks_taken-push_last items p (slice_index old.members row) note last)

      candidates : (cut : Option (List ℕ)) → HasCandidates old (rows_of old.members items) cut
          → HasCandidates old (rows_of old.members ending) cut
      candidates cut is = grind (arith, AreLeft-rows, same, IsFoundAmong-same)

pub StandsForItems-close : (old new : CheckerState) (items : List Item) (p count : ℕ) → StandsForItems old items
    → MayTake old (record { from = p; note = Close count }) → p < length old.closed
    → new ≡ record old { closed = set old.closed p true }
    → StandsForItems new (items ++ record { from = p; note = Close count } ∷ [])
StandsForItems-close old new items p count stands may within is = rw is
    (StandsForItems-last old (record old { closed = set old.closed p true }) items p
    (Close count) refl stands may refl refl refl refl refl refl refl
    (λ q q_within. grind (
      arith,
      stands.closed q q_within,
      taken_kind-own,
      taken_kind-other,
      get_or-set_other,
      get_or-set_same,
      cases_eq q p,
    ))
    (λ q q_within. stands.lost q q_within ∙ sym (taken_kind-unlike is_lost items p q (Close count) refl)))

pub StandsForItems-lost : (old new : CheckerState) (items : List Item) (p count : ℕ) → StandsForItems old items
    → MayTake old (record { from = p; note = Lost count }) → p < length old.lost
    → new ≡ record old { lost = set old.lost p true }
    → StandsForItems new (items ++ record { from = p; note = Lost count } ∷ [])
StandsForItems-lost old new items p count stands may within is = rw is
    (StandsForItems-last old (record old { lost = set old.lost p true }) items p
    (Lost count) refl stands may refl refl refl refl refl refl refl
    (λ q q_within. stands.closed q q_within ∙ sym (taken_kind-unlike is_close items p q (Lost count) refl))
    (λ q q_within. grind (
      arith,
      stands.lost q q_within,
      taken_kind-own,
      taken_kind-other,
      get_or-set_other,
      get_or-set_same,
      cases_eq q p,
    )))

-- a checker that has taken nothing stands for the empty list
pub StandsForItems-fresh : (n : ℕ) (watched : NumberSet) (members : List ℕ) → n ≤ 16 → length members ≤ 16
    → StandsForItems (fresh_checker n watched members) []
StandsForItems-fresh n watched members few few_members = record {
  taken = λ p p_within. get_or-replicate 16 p 0 0 (omega arith);
  snapshots = refl;
  closed = λ p p_within. get_or-replicate 16 p false false (omega arith);
  lost = λ p p_within. get_or-replicate 16 p false false (omega arith);
  in_turn = λ p p_within. AreInTurn-none;
  candidates = λ fed. AreLeft-start (length (replicate (length members) [])) (rows_of members [])
      (replicate (length members) []) (omega (arith, rows)) (λ p p_within. refl)
      (λ p p_within. get_or-replicate (length members) p [] [] (omega (arith, rows)));
}
  where
    rows : length (replicate {A = List (List ℕ)} (length members) []) ≡ length members
    rows = length-replicate (length members) []
