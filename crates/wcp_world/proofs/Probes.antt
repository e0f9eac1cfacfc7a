use Rattle.wcp_world.proofs.Words.{NumberSet, Flag, common_steps, ◌≡◌, ◌≢◌, ℕ, suc, ◌+◌, ◌<◌, ◌≤◌, ◌⊎◌, true, false}
use Rattle.wcp_world.proofs.Words.{List, [], ◌∷◌, ◌++◌, length, slice_get, slice_index, count_by, set, None, Some}
use Rattle.wcp_world.proofs.Words.{length-append, refl, sym, ap, ◌∙◌, ⊎_elim, append-nil, eqb-true, eq-eqb, le_refl}
use Rattle.wcp_world.proofs.Words.{arith, ◌↔◌, Bool, IsTrue, if◌then◌else◌, IsSome, subst, replicate, cases_lt}
use Rattle.wcp_world.proofs.Words.{flat_map-append, length-map, map-append, length-set, length-replicate}
use Rattle.wcp_world.proofs.Words.{sum_by-take-le, gets, slice_get-get_or, slice_get-map, get_or_from_slice_get}
use Rattle.wcp_world.proofs.Words.{slice_get_cases, slice_get_within, Step, Send, Recv, Computation, IsState, is_send}
use Rattle.wcp_world.proofs.Words.{interval_at, communications, IsStampOf, IsAccepted, Observed, Closed, ProbeState}
use Rattle.wcp_world.proofs.Words.{after_call, setup, state_of_log, HasClockAndEmissions, receivers, is_receive_of}
use Rattle.wcp_world.proofs.Words.{was_received, was_sent_to, span, local_state, length-receivers, stamp_grows}
use Rattle.wcp_world.proofs.Words.{get_push, seal_of, Stamped, Letter, AreLettersOf, IsLetterOf, IsProbeOf}
use Rattle.wcp_world.proofs.Words.{ProcessesState, AreProcessesOf, CountsEmissions, WasPut, pending_at, is_addressed}
use Rattle.wcp_world.proofs.Words.{option_to_list, Note, is_closed, AreEmissions, Core, IsSameProbe, setup_of}
use Rattle.wcp_world.proofs.Words.{log_counts_notes, put_more, most_events}
use Rattle.std.specs.FinSet as number_set
use Rattle.std.specs.Prelude.{◌||◌, ◌-◌}
use Rattle.std.proofs.Common.{inl, inr}
use Rattle.std.proofs.lemmas.Bool.{cases_Bool, ne_eqb, false_from_ne_true}
use Rattle.std.proofs.Math.Bool.{or-false, or-true}
use Rattle.std.proofs.Math.Seq.{map-set_same}
use Rattle.std.proofs.lemmas.List.Folds.{list_any-append, Any-from_list_any}
use Rattle.wcp_model.proofs.EventPlaces.{event_of_send, event_below}
use Rattle.wcp_model.proofs.RunningClock.{clock_counts}
use Rattle.wcp_clock.specs.declared.note.Note.TheVariants as note
use Rattle.wcp_model.proofs.RunningLog.{log_law_holds}
use Rattle.wcp_model.proofs.GrowingLogs.{log_grows}
use Rattle.wcp_model.proofs.RisingClocks.{emitted_clocks}
use Rattle.wcp_model.specs.declared.step.Step.TheVariants.{Dropped}
use Rattle.wcp_model.specs.Emission.{is_close_of, is_drop_of, is_dropped, has_ended, snapshots_from}
use Rattle.wcp_model.specs.ProbeLog.{Call, is_step_of, IsLogOf}
use Rattle.wcp_model.specs.Report.{snapshot_clocks}
use Rattle.wcp_world.specs.Processes.{IsLostProbeOf}

-- an element of a list with one written anew is that one, or stands there still
pub get_set : {X : Type 0} (xs : List X) (y z : X) (i k : ℕ) → slice_get (set xs i y) k ≡ Some z →
    ((k ≡ i) × (y ≡ z)) ⊎ ((k ≢ i) × (slice_get xs k ≡ Some z))
get_set xs y z i k at = grind (arith, common_steps, gets, length-set)

-- no stamp knows of more events of a process than it made
pub not_ahead : (n : ℕ) (c : Computation) (message p : ℕ) (stamp : List ℕ) → p < n → IsStampOf n c message stamp
    → slice_index stamp p ≤ communications c p
not_ahead n c message p stamp in_range is =
    let behind = local_state is.from (interval_at c is.from is.sent + 1) in
    let exists : IsState c behind =
    omega (arith, event_below c is.from _ is.sent (event_of_send c is.from _ is.to is.sent is.send refl)) in
    ⊎_elim
    (λ (more : communications c p < slice_index stamp p).
    search (
      arith,
      span c (local_state p (communications c p)) ((clock_counts n c behind stamp p exists is.clock
          in_range (communications c p)).1 more),
      event_below,
    ))
    (λ (le : slice_index stamp p ≤ communications c p). le)
    (cases_lt (communications c p) (slice_index stamp p))

-- a message that wasn't sent wasn't received
unsent_unreceived : (c : Computation) (message : ℕ) → IsAccepted c → count_by is_send c ≤ message
    → was_received c message ≡ false
unsent_unreceived c message accepted unsent =
    grind (arith, Any-from_list_any, slice_get-get_or, eqb-true, sum_by-take-le)

-- a message that one more event doesn't receive stays as it was
received_stays : (c : Computation) (s : Step) (message : ℕ) → is_receive_of message s ≡ false
    → was_received (c ++ s ∷ []) message ≡ was_received c message
received_stays c s message other = list_any-append (is_receive_of message) c (s ∷ [])
    ∙ rw other (or-false (was_received c message))

received_now : (c : Computation) (p message : ℕ) → was_received (c ++ Recv p message ∷ []) message ≡ true
received_now c p message = list_any-append (is_receive_of message) c (Recv p message ∷ [])
    ∙ rw (eq-eqb message message refl) (or-true (was_received c message))

module _ (n : ℕ) (c : Computation) (letters : List Letter) (are : AreLettersOf n c letters) where
  -- there are as many letters as sends
  pub as_many_letters : length letters ≡ count_by is_send c
  as_many_letters = sym (length-map letters (λ (l : Letter). l.to)) ∙ ap length are.receivers_are ∙ length-receivers c

  -- a letter is addressed to the process that its message was sent to
  pub addressed_is : (message p : ℕ) → was_sent_to c message p ≡ is_addressed letters message p
  addressed_is message p = grind (arith, slice_get-map)

  -- what is said of a letter stays, where one more event doesn't receive it
  letter_stays : (s : Step) (message : ℕ) (letter : Letter) → is_receive_of message s ≡ false
      → IsLetterOf n c message letter → IsLetterOf n (c ++ s ∷ []) message letter
  letter_stays s message letter other is = grind (arith, received_stays, stamp_grows)

  -- an event that is no send and no receive leaves the letters as they are
  pub letters_stay : (s : Step) → receivers (s ∷ []) ≡ [] → ((message : ℕ) → is_receive_of message s ≡ false)
      → AreLettersOf n (c ++ s ∷ []) letters
  letters_stay s none other = grind (arith, append-nil, flat_map-append, letter_stays)

  -- one more message was sent
  pub letters_posted : (p to : ℕ) (message : Stamped (Unit {0})) → IsAccepted c → (seal_of message).watch ≡ 0
      → (seal_of message).to ≡ to →
      IsStampOf n (c ++ Send p to ∷ []) (count_by is_send c) (seal_of message).clock
      → AreLettersOf n (c ++ Send p to ∷ []) (letters ++ record { to = to; message = Some message } ∷ [])
  letters_posted p to message accepted watch addressed stamp =
      let posted : Letter = record { to = to; message = Some message } in
      let unreceived = received_stays c (Send p to) (count_by is_send c) refl
      ∙ unsent_unreceived c (count_by is_send c) accepted (le_refl (count_by is_send c)) in
      record {
        receivers_are = map-append (λ (l : Letter). l.to) letters (posted ∷ [])
            ∙ ap (λ all. all ++ to ∷ []) are.receivers_are ∙ sym (flat_map-append _ c (Send p to ∷ []));
        each = grind (arith, as_many_letters, get_push, letter_stays);
      }

  -- a message was received
  pub letters_delivered : (p number : ℕ) (letter : Letter) → slice_get letters number ≡ Some letter
      → AreLettersOf n (c ++ Recv p number ∷ []) (set letters number (record { to = letter.to; message = None }))
  letters_delivered p number letter at =
      let empty : Letter = record { to = letter.to; message = None } in record {
        receivers_are =
            search
            (arith, get_or_from_slice_get letters number letter letter, append-nil, flat_map-append, map-set_same);
        each = grind (arith, get_set, letter_stays, received_now);
      }

module _ (n : ℕ) (watched : NumberSet) (flag : Flag) (c : Computation) (p : ℕ) (put : List Note) (core : Core)
    (is : IsProbeOf n watched flag c p put core) where
  -- what the probe's log leads to
  abbrev pub state : ProbeState
  state = state_of_log (setup n watched flag p) is.log

  same_state : state_of_log (setup_of core) is.log ≡ state
  same_state = ap (λ made. state_of_log made is.log) is.made

  pub clock_is : core.clock ≡ state.clock
  clock_is = is.stands.clock ∙ ap (λ (s : ProbeState). s.clock) same_state

  pub emitted_is : core.emitted ≡ state.snapshots
  emitted_is = is.stands.emitted ∙ ap (λ (s : ProbeState). s.snapshots) same_state

  pub law_of_probe : IsAccepted c → p < n → HasClockAndEmissions n watched flag c p state
  law_of_probe order in_range = log_law_holds n watched flag c p is.log order in_range is.is_log

  -- a probe is closed where its process is
  pub is_closed_as : IsAccepted c → p < n → is_closed c p ≡ core.closed
  is_closed_as order in_range =
      sym (is.stands.closed ∙ ap (λ (s : ProbeState). s.closed) same_state ∙ (law_of_probe order in_range).closed)

  -- without a pending note all notes were put
  all_put : core.pending ≡ None → state.notes ≡ put
  all_put none = is.notes ∙ ap (λ o. put ++ option_to_list o) none ∙ append-nil put

  -- what an observation makes of the notes
  pub observed : (new : Core) (holds emitted : Bool) → IsTrue emitted
      ↔ (IsTrue holds × (core.watched ≡ true) × (core.flag_up ≡ false)) → (IsTrue emitted → core.pending ≡ None) →
      new ≡ (if emitted then record core {
        flag_up = true;
        emitted = core.emitted + 1;
        pending = Some (note.Snap core.emitted core.clock);
      } else core) →
      IsSameProbe core new
      × ((after_call (setup n watched flag p) state (Observed holds)).notes ≡ put ++ option_to_list new.pending)
  observed new holds emitted emits spared new_is = grind (arith, all_put)

  -- and a close
  pub closed : (new : Core) → core.pending ≡ None
      → new ≡ record core { closed = true; pending = Some (note.Close core.emitted) } →
      IsSameProbe core new
      × ((after_call (setup n watched flag p) state Closed).notes ≡ put ++ option_to_list new.pending)
  closed new nothing new_is =
      rw (new_is, all_put nothing, emitted_is) (record { watch = refl; limit = refl; made = refl }, refl)

-- of two tests of which neither holds, each doesn't
pub neither : (a b : Bool) → (a || b) ≡ false → (a ≡ false) × (b ≡ false)
neither false b none = (refl, none)
neither true b none = cc

-- a step that is none of a process doesn't close it
closes_no_other : (s : Step) (q : ℕ) → is_step_of q s ≡ false → is_close_of q s ≡ false
closes_no_other s q other = grind arith

-- a step of some process is no drop
pub drops_none : (s : Step) (p q : ℕ) → is_step_of p s ≡ true → is_drop_of q s ≡ false
drops_none s p q own = grind arith

pub closed_stays : (c : Computation) (s : Step) (q : ℕ) → is_close_of q s ≡ false
    → is_closed (c ++ s ∷ []) q ≡ is_closed c q
closed_stays c s q other = list_any-append (is_close_of q) c (s ∷ []) ∙ rw other (or-false (is_closed c q))

-- a step that doesn't drop a process leaves it dropped or not, as it was
pub dropped_stays : (c : Computation) (s : Step) (q : ℕ) → is_drop_of q s ≡ false
    → is_dropped (c ++ s ∷ []) q ≡ is_dropped c q
dropped_stays c s q other = list_any-append (is_drop_of q) c (s ∷ []) ∙ rw other (or-false (is_dropped c q))

pub dropped_now : (c : Computation) (p : ℕ) → is_dropped (c ++ Dropped p ∷ []) p ≡ true
dropped_now c p = list_any-append (is_drop_of p) c (Dropped p ∷ []) ∙ rw (eq-eqb p p refl) (or-true (is_dropped c p))

module _ (n : ℕ) (watched : NumberSet) (flag : Flag) (c : Computation) (s : Step) (q : ℕ)
    (other : is_step_of q s ≡ false) where
  -- a step that is none of a process leaves its log
  log_stays : (log : List Call) → IsLogOf n c q log → IsLogOf n (c ++ s ∷ []) q log
  log_stays log is =
      subst (IsLogOf n (c ++ s ∷ []) q) (append-nil log) (log_grows n c (s ∷ []) q log [] is (rw other tt))

  -- and what its probe stands for
  pub probe_stays : (put : List Note) (core : Core) → IsProbeOf n watched flag c q put core
      → IsProbeOf n watched flag (c ++ s ∷ []) q put core
  probe_stays put core is = record {
    log = is.log;
    is_log = log_stays is.log is.is_log;
    stands = is.stands;
    watch = is.watch;
    limit = is.limit;
    made = is.made;
    notes = is.notes;
  }

  -- where it is lost too
  lost_stays : (put : List Note) (core : Core) → IsLostProbeOf n watched flag c q put core
      → IsLostProbeOf n watched flag (c ++ s ∷ []) q put core
  lost_stays put core is =
      grind (
        arith,
        log_stays is.log is.is_log,
        closed,
        closed_stays c s q (closes_no_other s q other),
        closes_no_other s q other,
      )

-- a probe stands for its process, which is lost or isn't
abbrev pub StandsForProcess : ℕ → NumberSet → Flag → Computation → (ℕ → List Note) → ℕ → Core → Type 0
StandsForProcess n watched flag c put q core = (is_dropped c q ≡ false → IsProbeOf n watched flag c q (put q) core)
    × (is_dropped c q ≡ true → IsLostProbeOf n watched flag c q (put q) core)

-- and does so after a step that is none of the process, and doesn't drop it
pub other_stands : (n : ℕ) (watched : NumberSet) (flag : Flag) (c : Computation) (s : Step) (put : ℕ → List Note)
    (q : ℕ) (core : Core) → is_step_of q s ≡ false → is_drop_of q s ≡ false
    → StandsForProcess n watched flag c put q core → StandsForProcess n watched flag (c ++ s ∷ []) put q core
other_stands n watched flag c s put q core other kept was = grind (arith, dropped_stays, probe_stays, lost_stays)

-- processes of which one probe was set
pub one_set : (n : ℕ) (watched : NumberSet) (flag : Flag) (c d : Computation) (put more : ℕ → List Note)
    (app : ProcessesState) (p : ℕ) (new : Core) (letters : List Letter) → AreProcessesOf n watched flag c put app
    → IsAccepted d → AreLettersOf n d letters →
    StandsForProcess n watched flag d more p new → ((q : ℕ) (core : Core) → q ≢ p → StandsForProcess n watched flag c
    put q core → StandsForProcess n watched flag d more q core) → ((q : ℕ) → is_dropped d q ≡ true → q < n) →
    AreProcessesOf n watched flag d more (record { probes = set app.probes p new; letters = letters })
one_set n watched flag c d put more app p new letters stands order are here there known =
    let each : (q : ℕ) (x : Core) → slice_get (set app.probes p new) q ≡ Some x
    → StandsForProcess n watched flag d more q x = λ q x at. ⊎_elim
    (λ (same : (q ≡ p) × (new ≡ x)). subst (λ k. StandsForProcess n watched flag d more k x) (sym same.0)
    (subst (StandsForProcess n watched flag d more p) same.1 here))
    (λ (apart : (q ≢ p) × (slice_get app.probes q ≡ Some x)). there q x apart.0
    (stands.probes q x apart.1, stands.lost q x apart.1))
    (get_set app.probes new x p q at) in
    record {
      order = order;
      members = length-set app.probes p new ∙ stands.members;
      probes = λ q x at. (each q x at).0;
      lost = λ q x at. (each q x at).1;
      lost_known = known;
      letters = are;
    }

length-snapshots : (number : ℕ) (clocks : List (List ℕ)) → length (snapshots_from number clocks) ≡ length clocks
length-snapshots number [] = refl
length-snapshots number (clock ∷ clocks) = ap suc (length-snapshots (number + 1) clocks)

-- the probe of a process that is lost with its last note pending, which then is gone
pub lost_probe : (n : ℕ) (watched : NumberSet) (flag : Flag) (c : Computation) (p : ℕ) (put : List Note) (core : Core)
    → IsProbeOf n watched flag c p put core → is_closed c p ≡ false
    → IsLostProbeOf n watched flag c p put (record core { closed = true; pending = None })
lost_probe n watched flag c p put core is not_closed = grind (arith, emitted_is, closed)

-- the emissions of a process that isn't closed are snapshots
all_snapshots : (n : ℕ) (watched : NumberSet) (flag : Flag) (c : Computation) (p : ℕ) (notes : List Note)
    → AreEmissions n watched flag c p notes → is_closed c p ≡ false → length notes ≡ length (snapshot_clocks notes)
all_snapshots n watched flag c p notes emitted is_open =
    let only : notes ≡ snapshots_from 0 emitted.clocks =
    rw (is_open, append-nil (snapshots_from 0 emitted.clocks)) at emitted.notes_are in
    ap length only ∙ length-snapshots 0 emitted.clocks
    ∙ sym (ap length (emitted_clocks n watched flag c p notes emitted))

-- the probe of a process that isn't closed counts the notes that were put, and the one that is pending
pub put_counted : (n : ℕ) (watched : NumberSet) (flag : Flag) (c : Computation) (p : ℕ) (put : List Note) (core : Core)
    → IsProbeOf n watched flag c p put core → IsAccepted c → p < n → is_closed c p ≡ false →
    core.emitted - length (option_to_list core.pending) ≡ length put
put_counted n watched flag c p put core is order in_range is_open =
    let s = state n watched flag c p put core is in
    let as_many = all_snapshots n watched flag c p s.notes
    (law_of_probe n watched flag c p put core is order in_range).emissions is_open in
    omega (
      arith,
      emitted_is n watched flag c p put core is,
      (log_counts_notes n watched flag p is.log).snapshots,
      as_many,
      ap length is.notes,
      length-append put (option_to_list core.pending),
    )

-- what a probe keeps of the log of its process, whether that is lost or not
pub record KeepsLog (n : ℕ) (watched : NumberSet) (flag : Flag) (c : Computation) (p : ℕ) (core : Core) : Type 0 where
  pub log : List Call
  pub is_log : IsLogOf n c p log
  pub emitted : core.emitted ≡ (state_of_log (setup n watched flag p) log).snapshots
  pub made : setup_of core ≡ setup n watched flag p
  pub ended : has_ended c p ≡ core.closed

module _ (n : ℕ) (watched : NumberSet) (flag : Flag) (c : Computation) (put : ℕ → List Note) (app : ProcessesState)
    (stands : AreProcessesOf n watched flag c put app) (p : ℕ) where
  -- a process has a probe
  probe_within : p < n → (core : Core) × (slice_get app.probes p ≡ Some core)
  probe_within within = grind (arith, slice_get_cases app.probes p)

  pub keeps_log : (core : Core) → slice_get app.probes p ≡ Some core → p < n → KeepsLog n watched flag c p core
  keeps_log core at within = elim (cases_Bool (is_dropped c p)) [
    | inl gone ↦
        let is = stands.lost p core at gone in
        record {
          log = is.log;
          is_log = is.is_log;
          emitted = is.emitted;
          made = is.made;
          ended = rw (gone, is.closed) (or-true (is_closed c p));
        }
    | inr live ↦
        let is = stands.probes p core at live in
        record {
          log = is.log;
          is_log = is.is_log;
          emitted = emitted_is n watched flag c p (put p) core is;
          made = is.made;
          ended = rw live
              (or-false (is_closed c p) ∙ is_closed_as n watched flag c p (put p) core is stands.order within);
        }
  ]

  -- the notes that were put of a process, followed by what is pending, are its emissions
  pub put_and_pending : p < n → is_dropped c p ≡ false
      → AreEmissions n watched flag c p (put p ++ option_to_list (pending_at app p))
  put_and_pending within live =
      let (core, at) = probe_within within in
      let is = stands.probes p core at live in
      rw at (subst (AreEmissions n watched flag c p) is.notes
      (law_of_probe n watched flag c p (put p) core is stands.order within).emissions)

  -- those of a lost process are its emissions with more behind them, and no mark is among these
  pub put_and_gone : is_dropped c p ≡ true
      → (rest : List Note) × AreEmissions n watched flag c p (put p ++ rest) × (is_closed c p ≡ false)
  put_and_gone gone =
      let within = stands.lost_known p gone in
      let (core, at) = probe_within within in
      let is = stands.lost p core at gone in (
        is.rest,
        subst (AreEmissions n watched flag c p) is.notes (log_law_holds n watched flag c p is.log stands.order
            within is.is_log).emissions,
        is.without_close,
      )

  -- nothing is pending at a lost process
  pub pending_of_lost : is_dropped c p ≡ true → pending_at app p ≡ None
  pending_of_lost gone =
      let (core, at) = probe_within (stands.lost_known p gone) in
      rw at (stands.lost p core at gone).nothing

module _ (app : ProcessesState) (p : ℕ) (core : Core) (at : slice_get app.probes p ≡ Some core) where
  -- a probe counts the snapshots among the emissions of its process
  pub emitted_counts : CountsEmissions app p core.emitted
  emitted_counts n watched flag c put stands =
      let within : p < n = omega (arith, slice_get_within app.probes p core at, stands.members) in
      let is = keeps_log n watched flag c put app stands p core at within in (
        (state_of_log (setup n watched flag p) is.log).notes,
        (log_law_holds n watched flag c p is.log stands.order within is.is_log).emissions,
        is.emitted ∙ (log_counts_notes n watched flag p is.log).snapshots,
      )

  -- the probe whose pending note was put
  probe_put : (n : ℕ) (watched : NumberSet) (flag : Flag) (c : Computation) (put : ℕ → List Note) (note : Note)
      → IsProbeOf n watched flag c p (put p) core → pending_at app p ≡ Some note →
      IsProbeOf n watched flag c p (put_more put p note p) (record core { pending = None })
  probe_put n watched flag c put note is pending = grind (arith, append-nil)

  pub put_stands : (new : Core) → new ≡ record core { pending = None }
      → WasPut app p (record app { probes = set app.probes p new })
  put_stands new new_is n watched flag c put note stands pending =
      let not_gone : is_dropped c p ≡ true
      → ⊥ = λ gone. cc (pending_of_lost n watched flag c put app stands p gone, pending) in
      let live = false_from_ne_true (is_dropped c p) not_gone in
      one_set n watched flag c c put (put_more put p note) app p new app.letters stands stands.order stands.letters (
        λ _. rw new_is (probe_put n watched flag c put note (stands.probes p core at live) pending),
        λ gone. absurd (not_gone gone),
      )
      (λ q x apart was. subst (λ notes. (is_dropped c q ≡ false → IsProbeOf n watched flag c q notes x)
      × (is_dropped c q ≡ true → IsLostProbeOf n watched flag c q notes x)) (sym (rw (ne_eqb q p apart) refl)) was)
      stands.lost_known

-- a process whose note is pending has a probe
pub pending_within : (app : ProcessesState) (p : ℕ) → IsSome (pending_at app p) → p < length app.probes
pending_within app p some = grind (arith, slice_get_cases)

-- the probe of a process before its first event
abbrev pub first_core : ℕ → NumberSet → Flag → ℕ → Core
first_core n watched flag p = record {
  watch = 0;
  id = p;
  watched = number_set.contains watched p;
  flag = flag;
  limit = most_events;
  clock = replicate n 0;
  flag_up = false;
  closed = false;
  emitted = 0;
  pending = None;
}

-- the first probes of n processes
pub record AreFirstCores (n : ℕ) (watched : NumberSet) (flag : Flag) (count : ℕ) (cores : List Core) : Type 0 where
  pub members : length cores ≡ count
  pub each : (p : ℕ) (core : Core) → slice_get cores p ≡ Some core → core ≡ first_core n watched flag p

first_probe : (n : ℕ) (watched : NumberSet) (flag : Flag) (p : ℕ)
    → IsProbeOf n watched flag [] p [] (first_core n watched flag p)
first_probe n watched flag p = grind (arith, length-replicate)

-- the processes before any event
pub fresh_stands : (n : ℕ) (watched : NumberSet) (flag : Flag) (cores : List Core) → AreFirstCores n watched flag n
    cores → AreProcessesOf n watched flag [] (λ p. []) (record { probes = cores; letters = [] })
fresh_stands n watched flag cores are = grind (arith, first_probe)
