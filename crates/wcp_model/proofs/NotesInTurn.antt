use Rattle.wcp_model.proofs.Words.{NumberSet, Flag, ◌≡◌, ℕ, ◌+◌, ◌⊎◌, Bool, true, false, List, [], ◌∷◌, ◌++◌, length}
use Rattle.wcp_model.proofs.Words.{fold, refl, sym, ap, ◌∙◌, inl, append-nil, append_assoc, arith, list_any}
use Rattle.wcp_model.proofs.Words.{length-append, list_any-append, Note, Computation, snapshots_from, is_closed}
use Rattle.wcp_model.proofs.Words.{AreEmissions, Call, ProbeSetup, ProbeState, after_call, setup, state_of_log}
use Rattle.wcp_model.proofs.Words.{snapshot_clocks, IsNextNote, AreInTurn}
use Rattle.std.specs.Prelude.{if◌then◌else◌}
use Rattle.wcp_clock.specs.declared.note.Note.TheVariants as note
use Rattle.wcp_clock.specs.Notes.{is_close, is_last, place_of}

pub snapshot_clocks-append : (notes more : List Note)
    → snapshot_clocks (notes ++ more) ≡ snapshot_clocks notes ++ snapshot_clocks more
snapshot_clocks-append [] more = refl
snapshot_clocks-append (note.Snap number clock ∷ notes) more =
    ap (λ clocks. clock ∷ clocks) (snapshot_clocks-append notes more)
snapshot_clocks-append (note.Close count ∷ notes) more = snapshot_clocks-append notes more
snapshot_clocks-append (note.Lost count ∷ notes) more = snapshot_clocks-append notes more

-- snapshots that are numbered from a number on, and a mark that counts them or none, are in turn
in_turn_from : (number count : ℕ) (closed : Bool) (clocks : List (List ℕ)) (before after : List Note) (next : Note)
    → count ≡ number + length clocks
    → snapshots_from number clocks ++ (if closed then note.Close count ∷ [] else []) ≡ before ++ next ∷ after →
    (place_of next ≡ number + length (snapshot_clocks before)) × (list_any is_last before ≡ false)
in_turn_from number count false [] before after next counted is =
    absurd (omega (arith, ap length is, length-append before (next ∷ after)))
in_turn_from number count true [] [] after next counted is = grind arith
in_turn_from number count true [] (x ∷ before) after next counted is =
    absurd (omega (arith, ap length is, length-append before (next ∷ after)))
in_turn_from number count closed (clock ∷ clocks) [] after next counted is = grind arith
in_turn_from number count closed (clock ∷ clocks) (x ∷ before) after next counted is =
    grind (arith, in_turn_from (number + 1) count closed clocks before after next (omega arith) (cc is))

-- what a process emits is in turn
pub emissions_in_turn : (n : ℕ) (watched : NumberSet) (flag : Flag) (c : Computation) (p : ℕ) (notes : List Note)
    → AreEmissions n watched flag c p notes → AreInTurn notes
emissions_in_turn n watched flag c p notes emitted before after next is =
    grind (
      arith,
      in_turn_from 0 (length emitted.clocks) (is_closed c
          p) emitted.clocks before after next (omega arith) (sym emitted.notes_are ∙ is),
    )

-- so the note behind a prefix of the emissions is the next that a checker may take
pub next_of_emissions : (n : ℕ) (watched : NumberSet) (flag : Flag) (c : Computation) (p : ℕ) (before after : List Note)
    (next : Note) → AreEmissions n watched flag c p (before ++ next ∷ after) → IsNextNote before next
next_of_emissions n watched flag c p before after next emitted =
    emissions_in_turn n watched flag c p (before ++ next ∷ after) emitted before after next refl

-- a note of a list with one more is the last, or stood there before
split_push : (xs before after : List Note) (x y : Note) → xs ++ x ∷ [] ≡ before ++ y ∷ after
    → ((before ≡ xs) × (y ≡ x)) ⊎ ((more : List Note) × (xs ≡ before ++ y ∷ more))
split_push [] [] after x y is = inl (refl, cc is)
split_push [] (b ∷ before) after x y is = absurd (omega (arith, ap length is, length-append before (y ∷ after)))
split_push (a ∷ xs) [] after x y is = grind arith
split_push (a ∷ xs) (b ∷ before) after x y is =
    grind (arith, split_push xs before after x y (cc is))

-- none is in turn, and one more is
pub AreInTurn-none : AreInTurn []
AreInTurn-none before after next is = absurd (omega (arith, ap length is, length-append before (next ∷ after)))

pub AreInTurn-push : (notes : List Note) (next : Note) → AreInTurn notes → IsNextNote notes next
    → AreInTurn (notes ++ next ∷ [])
AreInTurn-push notes next turn is before after other at = grind (arith, split_push)

-- nothing follows a close mark
pub nothing_follows : (before after : List Note) (count : ℕ) → AreInTurn (before ++ note.Close count ∷ after)
    → after ≡ []
nothing_follows before [] count turn = refl
nothing_follows before (x ∷ after) count turn = grind (
  arith,
  append_assoc before (note.Close count ∷ []) (x ∷ after),
  list_any-append is_last before (note.Close count ∷ []),
)

-- what a log leads to counts the snapshots among its notes, and is closed where a close mark is among them, which is
-- the only last note
pub record CountsNotes (s : ProbeState) : Type 0 where
  pub snapshots : s.snapshots ≡ length (snapshot_clocks s.notes)
  pub closed : s.closed ≡ list_any is_close s.notes
  pub ended : s.closed ≡ list_any is_last s.notes

pub counts_after : (made : ProbeSetup) (s : ProbeState) (call : Call) → CountsNotes s
    → CountsNotes (after_call made s call)
counts_after made s call is = grind (arith, append-nil, length-append, list_any-append, snapshot_clocks-append)

counts_from : (made : ProbeSetup) (s : ProbeState) (log : List Call) → CountsNotes s
    → CountsNotes (fold (after_call made) s log)
counts_from made s [] is = is
counts_from made s (call ∷ log) is = counts_from made (after_call made s call) log (counts_after made s call is)

pub log_counts_notes : (n : ℕ) (watched : NumberSet) (flag : Flag) (p : ℕ) (log : List Call)
    → CountsNotes (state_of_log (setup n watched flag p) log)
log_counts_notes n watched flag p log = counts_from (setup n watched flag p)
    (state_of_log (setup n watched flag p) []) log (record { snapshots = refl; closed = refl; ended = refl })
