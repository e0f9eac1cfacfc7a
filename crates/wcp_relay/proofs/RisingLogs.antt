-- The clocks of the snapshots that a log emits rise.
use Rattle.wcp_relay.proofs.Words.{ProbeSetup, ◌≡◌, ℕ, zero, suc, ◌+◌, ◌<◌, ◌≤◌, false, true, true≢false, List, [], ◌∷◌}
use Rattle.wcp_relay.proofs.Words.{◌++◌, length, fold, slice_index, slice_set, get_or, refl, arith, append-nil}
use Rattle.wcp_relay.proofs.Words.{cases_eq, cases_Bool, cases_lt, length-set, length-replicate, get_or-set_same}
use Rattle.wcp_relay.proofs.Words.{get_or-set_other, get_or_append_left, get_or_push, length_push, Call, Observed, Sent}
use Rattle.wcp_relay.proofs.Words.{Received, Closed, ProbeState, after_call, state_of_log, snapshot_clocks, AreRising}
use Rattle.wcp_relay.proofs.Words.{snapshot_clocks-append}
use Rattle.wcp_clock.specs.Merge.{merged}
use Rattle.std.specs.Prelude.{Bool}
use Rattle.wcp_model.specs.ProbeLog.{is_up_after_receive}
use Rattle.wcp_clock.specs.declared.note.Note.TheVariants as note

-- a merge has no more components, and where it has as many it is less in none
length-merged_first : (xs ys : List ℕ) → length (merged xs ys) ≤ length xs
length-merged_first [] ys = omega arith
length-merged_first (x ∷ xs) [] = omega arith
length-merged_first (x ∷ xs) (y ∷ ys) = omega (arith, length-merged_first xs ys)

merged_above : (xs ys : List ℕ) (q : ℕ) → length xs ≤ length (merged xs ys)
    → slice_index xs q ≤ slice_index (merged xs ys) q
merged_above [] ys q long = omega arith
merged_above (x ∷ xs) [] q long = absurd (omega arith)
merged_above (x ∷ xs) (y ∷ ys) zero long = omega arith
merged_above (x ∷ xs) (y ∷ ys) (suc q) long = merged_above xs ys q (omega arith)

-- the clocks of these snapshots rise, the clock is less than none of them in a component, and where the flag is down
-- it is above all of them in the process's own
record HasRisen (p : ℕ) (clocks : List (List ℕ)) (s : ProbeState) : Type 0 where
  rising : AreRising p clocks
  none_above : (i q : ℕ) → i < length clocks → slice_index (get_or clocks i []) q ≤ slice_index s.clock q
  own_below : s.flag_up ≡ false → (i : ℕ) → i < length clocks
      → slice_index (get_or clocks i []) p < slice_index s.clock p
  within : p < length s.clock

-- an event makes the clock greater, whether or not it resets the flag
risen_by_event : (p : ℕ) (clocks : List (List ℕ)) (s : ProbeState) (clock : List ℕ) (flag_up : Bool)
    → HasRisen p clocks s → length clock ≡ length s.clock → ((q : ℕ) → slice_index s.clock q ≤ slice_index clock q) →
    HasRisen p clocks (record s { clock = slice_set clock p (slice_index s.clock p + 1); flag_up = flag_up })
risen_by_event p clocks s clock flag_up risen same up = record {
  rising = risen.rising;
  none_above = λ i q within. grind (
    arith,
    cases_eq q p,
    risen.none_above i q within,
    up q,
    risen.within,
    get_or-set_same clock p (slice_index s.clock p + 1) 0,
    get_or-set_other clock p q (slice_index s.clock p + 1) 0,
  );
  own_below = λ down i within.
      grind (arith, risen.none_above i p within, risen.within, get_or-set_same clock p (slice_index s.clock p + 1) 0);
  within = omega (arith, length-set clock p (slice_index s.clock p + 1), risen.within);
}

-- one more snapshot, of the clock
risen_by_snapshot : (p : ℕ) (clocks : List (List ℕ)) (s : ProbeState) → s.flag_up ≡ false → HasRisen p clocks s
    → AreRising p (clocks ++ s.clock ∷ [])
risen_by_snapshot p clocks s down risen = record {
  never_fall = λ i j q up within. grind (
    arith,
    cases_lt j (length clocks),
    cases_lt i (length
        clocks),
    length_push clocks s.clock,
    risen.rising.never_fall i j q,
    risen.none_above i q,
    get_or_append_left clocks (s.clock ∷ []) [],
    get_or_push clocks s.clock [],
  );
  rise = λ i j up within. grind (
    arith,
    cases_lt j (length clocks),
    length_push clocks s.clock,
    risen.rising.rise i j,
    risen.own_below down i,
    get_or_append_left clocks (s.clock ∷ []) [],
    get_or_push clocks s.clock [],
  );
}

-- so does a true observation where the flag is down, which puts it up
risen_by_first : (p : ℕ) (s : ProbeState) → s.flag_up ≡ false → HasRisen p (snapshot_clocks s.notes) s →
    HasRisen p (snapshot_clocks (s.notes ++ note.Snap s.snapshots s.clock ∷ []))
    (record s { flag_up = true; snapshots = s.snapshots + 1; notes = s.notes ++ note.Snap s.snapshots s.clock ∷ [] })
risen_by_first p s down risen = rw (snapshot_clocks-append s.notes (note.Snap s.snapshots s.clock ∷ [])) (record {
  rising = risen_by_snapshot p (snapshot_clocks s.notes) s down risen;
  none_above = λ i q within. grind (
    arith,
    cases_lt i (length (snapshot_clocks s.notes)),
    length_push (snapshot_clocks s.notes) s.clock,
    risen.none_above i q,
    get_or_append_left (snapshot_clocks s.notes) (s.clock ∷ []) [],
    get_or_push (snapshot_clocks s.notes) s.clock [],
  );
  own_below = λ up i within. absurd (true≢false up);
  within = risen.within;
})

-- each call keeps that, where the clock keeps its components
length-after : (made : ProbeSetup) (s : ProbeState) (call : Call)
    → length (after_call made s call).clock ≤ length s.clock
length-after made s call =
    grind (arith, cases_Bool s.flag_up, cases_Bool made.watched, length-set {A = ℕ}, length-merged_first)

length-after_all : (made : ProbeSetup) (s : ProbeState) (log : List Call)
    → length (fold (after_call made) s log).clock ≤ length s.clock
length-after_all made s [] = omega arith
length-after_all made s (call ∷ log) =
    omega (arith, length-after made s call, length-after_all made (after_call made s call) log)

risen_after : (made : ProbeSetup) (s : ProbeState) (call : Call)
    → length s.clock ≤ length (after_call made s call).clock → HasRisen made.process (snapshot_clocks s.notes) s
    → HasRisen made.process (snapshot_clocks (after_call made s call).notes) (after_call made s call)
risen_after made s (Observed false) long risen = risen
risen_after made s (Observed true) long risen =
    grind (arith, cases_Bool made.watched, cases_Bool s.flag_up, risen_by_first made.process s)
risen_after made s Sent long risen =
    risen_by_event made.process (snapshot_clocks s.notes) s s.clock false risen refl (λ q. omega arith)
risen_after made s (Received stamp) long risen = risen_by_event made.process (snapshot_clocks s.notes) s (merged s.clock
    stamp) (is_up_after_receive made.flag s.flag_up) risen (omega (
      arith,
      length-merged_first s.clock stamp,
      length-set (merged s.clock stamp) made.process (slice_index s.clock made.process + 1),
    )) (λ q. merged_above s.clock
    stamp q (omega (arith, length-set (merged s.clock stamp) made.process (slice_index s.clock made.process + 1))))
risen_after made s Closed long risen = grind (arith, append-nil, snapshot_clocks-append)

risen_from : (made : ProbeSetup) (s : ProbeState) (log : List Call)
    → length s.clock ≤ length (fold (after_call made) s log).clock → HasRisen made.process (snapshot_clocks s.notes) s
    → HasRisen made.process (snapshot_clocks (fold (after_call made) s log).notes) (fold (after_call made) s log)
risen_from made s [] long risen = risen
risen_from made s (call ∷ log) long risen =
    let here : length s.clock ≤ length (after_call made s call).clock =
    omega (arith, length-after_all made (after_call made s call) log) in
    risen_from made (after_call made s call) log (omega (arith, length-after made s call))
    (risen_after made s call here risen)

-- so the clocks of the snapshots of a log rise, where the clock kept its components
pub log_clocks_rise : (made : ProbeSetup) (log : List Call) → made.process < made.processes
    → length (state_of_log made log).clock ≡ made.processes
    → AreRising made.process (snapshot_clocks (state_of_log made log).notes)
log_clocks_rise made log within same =
    let n_long = length-replicate made.processes (zero) in
    (risen_from made (state_of_log made []) log (omega (arith, n_long, same)) (record {
      rising =
          record { never_fall = λ i j q up below. absurd (omega arith); rise = λ i j up below. absurd (omega arith) };
      none_above = λ i q below. absurd (omega arith);
      own_below = λ down i below. absurd (omega arith);
      within = omega (arith, n_long, within);
    })).rising
