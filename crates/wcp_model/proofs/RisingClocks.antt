use Rattle.wcp_model.proofs.Words.{NumberSet, Flag, IsStrictlyIncreasing, ◌≡◌, ◌≢◌, ℕ, ◌+◌, ◌<◌, ◌≤◌, List, [], ◌∷◌}
use Rattle.wcp_model.proofs.Words.{◌++◌, length, slice_index, get_or, refl, sym, ap, subst, append-nil, arith, cases_eq}
use Rattle.wcp_model.proofs.Words.{length-append, get_or_append_left, get_or_past, Contains-get_or}
use Rattle.wcp_model.proofs.Words.{AllPairs-from_increasing, Item, Note, Computation, IsState, snapshots_from}
use Rattle.wcp_model.proofs.Words.{AreEmissions, notes_taken, snapshot_clocks, clocks_taken, AreRising, ClocksRise}
use Rattle.wcp_model.proofs.Words.{ArePrefixesOfEmissions, IsStateClock}
use Rattle.wcp_model.proofs.CutLaws.{happened_before_later}
use Rattle.wcp_model.proofs.Predecessors.{local_state}
use Rattle.wcp_model.proofs.RunningEmissions.{emitted_state_exists}
use Rattle.wcp_model.proofs.NotesInTurn.{snapshot_clocks-append}

-- an increasing list rises from each place to each later one
pub rises_above : (xs : List ℕ) (i j : ℕ) → IsStrictlyIncreasing xs → i < j → j < length xs
    → slice_index xs i < slice_index xs j
rises_above xs i j rising order within = AllPairs-from_increasing xs rising i j 0 order within

pub rises_to : (xs : List ℕ) (i j : ℕ) → IsStrictlyIncreasing xs → i ≤ j → j < length xs
    → slice_index xs i ≤ slice_index xs j
rises_to xs i j rising order within = grind (arith, rises_above xs i j rising)

-- the snapshots that a process emits have the clocks of its states
clocks_back : (number : ℕ) (clocks : List (List ℕ)) (rest : List Note)
    → snapshot_clocks (snapshots_from number clocks ++ rest) ≡ clocks ++ snapshot_clocks rest
clocks_back number [] rest = refl
clocks_back number (clock ∷ clocks) rest = ap (λ more. clock ∷ more) (clocks_back (number + 1) clocks rest)

pub emitted_clocks : (n : ℕ) (watched : NumberSet) (flag : Flag) (c : Computation) (p : ℕ) (notes : List Note)
    (emitted : AreEmissions n watched flag c p notes) → snapshot_clocks notes ≡ emitted.clocks
emitted_clocks n watched flag c p notes emitted = grind (arith, append-nil, clocks_back)

-- the clocks of later states of a process are nowhere less
clock_never_falls : (n : ℕ) (c : Computation) (p k l : ℕ) (one other : List ℕ) → k ≤ l → IsState c (local_state p l)
    → IsStateClock n c (local_state p k) one → IsStateClock n c (local_state p l) other → (q : ℕ)
    → slice_index one q ≤ slice_index other q
clock_never_falls n c p k l one other up exists earlier later q =
    let before = λ (within : q < n) (apart : q ≢ p). earlier.others q within apart (slice_index other q) in
    let after = λ (within : q < n) (apart : q ≢ p). later.others q within apart (slice_index other q) in
    grind (
      arith,
      cases_eq q p,
      get_or_past one q 0,
      before,
      after,
      happened_before_later c (local_state q (slice_index other q)) p k l up exists,
    )

-- so the clocks that a process emits rise
pub emissions_rise : (n : ℕ) (watched : NumberSet) (flag : Flag) (c : Computation) (p : ℕ) (notes : List Note)
    → AreEmissions n watched flag c p notes → AreRising p (snapshot_clocks notes)
emissions_rise n watched flag c p notes emitted =
    subst (AreRising p) (sym (emitted_clocks n watched flag c p notes emitted)) (record {
      never_fall = λ i j q up within.
          let k = slice_index emitted.intervals j in
          let exists = emitted_state_exists watched flag c (local_state p k)
          ((emitted.states.each k).0 (Contains-get_or emitted.intervals j 0 (omega (arith, emitted.same_length)))) in
          grind (
            arith,
            emitted.each i,
            emitted.each j,
            rises_to emitted.intervals i j,
            exists,
            clock_never_falls n c p
                (slice_index emitted.intervals i) k (get_or emitted.clocks i []) (get_or emitted.clocks j []),
          );
      rise = λ i j up within. grind (arith, emitted.each i, emitted.each j, rises_above emitted.intervals i j);
    })

AreRising-front : (p : ℕ) (clocks more : List (List ℕ)) → AreRising p (clocks ++ more) → AreRising p clocks
AreRising-front p clocks more rising = grind (arith, length-append clocks more, get_or_append_left clocks more)

-- and those of a prefix of its emissions
pub clocks_rise : (n : ℕ) (watched : NumberSet) (flag : Flag) (c : Computation) (items : List Item)
    → ArePrefixesOfEmissions n watched flag c items → ClocksRise n items
clocks_rise n watched flag c items fronts p within =
    let (rest, emitted) = fronts p within in
    AreRising-front p (clocks_taken p items) (snapshot_clocks rest) (subst (AreRising p) (snapshot_clocks-append
    (notes_taken p items) rest) (emissions_rise n watched flag c p (notes_taken p items ++ rest) emitted))
