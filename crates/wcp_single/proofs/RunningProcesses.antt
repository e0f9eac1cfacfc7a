use Rattle.wcp_single.proofs.Words.{NumberSet, Flag, common_steps, ◌≡◌, ℕ, ◌+◌, ◌↔◌, IsTrue, Bool, true, false, List}
use Rattle.wcp_single.proofs.Words.{[], ◌∷◌, ◌++◌, Option, Some, None, MatchOption, refl, sym, ap, ◌∙◌, subst}
use Rattle.wcp_single.proofs.Words.{append-nil, arith, Item, Call, Observed, Closed, ProbeState, setup, state_of_log}
use Rattle.wcp_single.proofs.Words.{log_counts_notes, log_push, CheckerState, MayTake, TakesItem, processes}
use Rattle.wcp_single.proofs.Words.{WorkloadProcess, IsRunning, IsFed, IsFedMore, IsCaughtUp, Feeds}
use Rattle.std.specs.Prelude.{if◌then◌else◌}
use Rattle.wcp_model.specs.ReportByClocks.{IsNextNote}
use Rattle.wcp_model.specs.Report.{notes_taken}
use Rattle.wcp_clock.specs.declared.note.Note.{Note}
use Rattle.wcp_clock.specs.declared.note.Note.TheVariants as note
use Rattle.wcp_clock.specs.Notes.{place_of}
use Rattle.wcp_probe.specs.Core.{Core, setup_of}
use Rattle.wcp_queue.proofs.NotesTaken.{MayTake-next, notes_taken-push_same, notes_taken-push_other}

-- the probe that has emitted a snapshot
abbrev pub with_snapshot : Core → Core
with_snapshot probe =
    record probe { flag_up = true; emitted = probe.emitted + 1; pending = Some (note.Snap probe.emitted probe.clock) }

-- what is pending, as a list
abbrev pub pending_notes : Option Note → List Note
pending_notes (Some pending) = pending ∷ []
pending_notes None = []

module _ (n : ℕ) (watched : NumberSet) (flag : Flag) (p : ℕ) (log : List Call) (process : WorkloadProcess)
    (running : IsRunning (setup n watched flag p) log process) where
  -- a process that runs has come to what its log leads to
  abbrev come_to : ProbeState
  come_to = state_of_log (setup n watched flag p) log

  abbrev stood : ProbeState
  stood = state_of_log (setup_of process.probe) log

  same_state : stood ≡ come_to
  same_state = ap (λ made. state_of_log made log) running.made_with

  pub running_clock : process.probe.clock ≡ come_to.clock
  running_clock = running.stands.clock ∙ ap (λ (s : ProbeState). s.clock) same_state

  -- the checker may take a note that is placed behind all that the process has emitted
  pub may_take : (items : List Item) (checker : CheckerState) (next : Note) → IsFed n watched flag p log items checker
      → place_of next ≡ process.probe.emitted → MayTake checker (record { from = p; note = next })
  may_take items checker next fed place =
      let next_note : IsNextNote (notes_taken p items) next = grind (arith, log_counts_notes n watched flag p log) in
      MayTake-next checker items (record { from = p; note = next }) fed.has_taken.stands
      (omega (arith, fed.within, fed.has_taken.processes_are)) next_note

  -- an observation emits what is then pending
  observed_notes : (holds emitted : Bool) (probe : Core)
      → IsTrue emitted ↔ (IsTrue holds × (process.probe.watched ≡ true) × (process.probe.flag_up ≡ false))
      → probe ≡ (if emitted then with_snapshot process.probe else process.probe) →
      (state_of_log (setup n watched flag p) (log ++ Observed holds ∷ [])).notes
      ≡ come_to.notes ++ pending_notes probe.pending
  observed_notes holds emitted probe emits is = grind (arith, common_steps)

  -- and so does a close
  closed_notes : (probe : Core) → probe ≡ record process.probe
      { closed = true; pending = Some (note.Close process.probe.emitted) } → (state_of_log (setup n watched flag p)
      (log ++ Closed ∷ [])).notes ≡ come_to.notes ++ pending_notes probe.pending
  closed_notes probe is = grind (arith, log_push (setup n watched flag p) log Closed)

  -- what is pending is taken
  fed_more : (call : Call) (pending : Option Note) (items : List Item) (old new : CheckerState)
      → IsFed n watched flag p log items old
      → (state_of_log (setup n watched flag p) (log ++ call ∷ [])).notes ≡ come_to.notes ++ pending_notes pending →
      MatchOption pending (new ≡ old) (λ next. TakesItem old new (record { from = process.id; note = next }))
      → processes new ≡ processes old → new.watched ≡ old.watched
      → IsFedMore n watched flag p (log ++ call ∷ []) items new
  fed_more call None items old new fed notes same count still = grind (arith, append-nil)
  fed_more call (Some next) items old new fed notes takes count still =
      let item : Item = record { from = process.id; note = next } in
      record {
        more = items ++ item ∷ [];
        fed = grind (arith, notes_taken-push_same);
        others = λ q other. notes_taken-push_other items item q (λ same. other (sym same ∙ running.number));
      }

pub feeds_observed : (holds emitted : Bool) (old : WorkloadProcess) (probe : Core) (before after : CheckerState)
    → IsTrue emitted ↔ (IsTrue holds × (old.probe.watched ≡ true) × (old.probe.flag_up ≡ false))
    → probe ≡ (if emitted then with_snapshot old.probe else old.probe) →
    MatchOption probe.pending (after ≡ before) (λ next. TakesItem before after (record { from = old.id; note = next }))
    → processes after ≡ processes before → after.watched ≡ before.watched → Feeds old (Observed holds) before after
feeds_observed holds emitted old probe before after emits is takes count still n watched flag p log items running fed =
    fed_more n watched flag p log old running (Observed holds) probe.pending items before after fed
    (observed_notes n watched flag p log old running holds emitted probe emits is) takes count still

-- a process that emits nothing feeds the checker nothing
pub feeds_nothing : (holds : Bool) (old : WorkloadProcess) (probe : Core) (checker : CheckerState)
    → IsTrue false ↔ (IsTrue holds × (old.probe.watched ≡ true) × (old.probe.flag_up ≡ false)) → probe ≡ old.probe
    → Feeds old (Observed holds) checker checker
feeds_nothing holds old probe checker emits is n watched flag p log items running fed =
    feeds_observed holds false old probe checker checker emits is (rw (is, running.none_pending) refl) refl refl
    n watched flag p log items running fed

pub feeds_closed : (old : WorkloadProcess) (probe : Core) (before after : CheckerState)
    → probe ≡ record old.probe { closed = true; pending = Some (note.Close old.probe.emitted) } →
    MatchOption probe.pending (after ≡ before) (λ next. TakesItem before after (record { from = old.id; note = next }))
    → processes after ≡ processes before → after.watched ≡ before.watched → Feeds old Closed before after
feeds_closed old probe before after is takes count still n watched flag p log items running fed =
    fed_more n watched flag p log old running Closed probe.pending items before after fed
    (closed_notes n watched flag p log old running probe is) takes count still

-- the checker may take what is pending
pub may_take_observed : (emitted : Bool) (old : WorkloadProcess) (probe : Core) (checker : CheckerState)
    → IsCaughtUp old checker → probe ≡ (if emitted then with_snapshot old.probe else old.probe)
    → MatchOption probe.pending (Unit {0}) (λ next. MayTake checker (record { from = old.id; note = next }))
may_take_observed emitted old probe checker caught_up is =
    grind (
      arith,
      may_take caught_up.n caught_up.watched caught_up.flag old.id caught_up.log old caught_up.running
          caught_up.items checker (note.Snap old.probe.emitted old.probe.clock) caught_up.fed refl,
    )

pub may_take_closed : (old : WorkloadProcess) (probe : Core) (checker : CheckerState) → IsCaughtUp old checker
    → probe ≡ record old.probe { closed = true; pending = Some (note.Close old.probe.emitted) }
    → MatchOption probe.pending (Unit {0}) (λ next. MayTake checker (record { from = old.id; note = next }))
may_take_closed old probe checker caught_up is = subst (λ (core : Core). MatchOption core.pending (Unit {0})
    (λ next. MayTake checker (record { from = old.id; note = next }))) (sym is)
    (may_take caught_up.n caught_up.watched caught_up.flag old.id caught_up.log old caught_up.running caught_up.items
    checker (note.Close old.probe.emitted) caught_up.fed refl)
