use Rattle.wcp_world.proofs.Words.{first_reason, ◌≡◌, ℕ, ◌+◌, ◌<◌, true, false, nat_lt, is_some, Option, None, Some}
use Rattle.wcp_world.proofs.Words.{MatchOption, List, [], ◌∷◌, ◌++◌, length, eqb, eq-eqb, refl, sym, ap, ◌∙◌, subst}
use Rattle.wcp_world.proofs.Words.{append-nil, append_assoc, add-zero, arith, ◌≤◌, Result, Ok, Err, IfOk, true≢false}
use Rattle.wcp_world.proofs.Words.{option_to_list, nat_tests, length-append, filter-append, Item, Note, Plan, Step}
use Rattle.wcp_world.proofs.Words.{Reply, Done, Took, Refused, Why, AreEmissions, Place, Pending, InboxOf, source}
use Rattle.wcp_world.proofs.Words.{is_place, takes_from, puts_into, taken_from, notes_in, IsEntry, is_event}
use Rattle.wcp_world.proofs.Words.{computation, accepted_by, taken_by, event_reasons, reasons, IsAcceptance, IsReply}
use Rattle.wcp_world.proofs.Words.{ProcessesState, Performs, WasPut, pending_at, TransportState, IsTransportOf}
use Rattle.wcp_world.proofs.Words.{IsNextAtRoot, Conveys, Puts, TakesNext, next_of, ReadsNext, is_relayed, put_more}
use Rattle.wcp_world.proofs.Words.{WorldState, Stands, MakesStep, CheckerState, MayTake, TakesItem, processes}
use Rattle.wcp_world.proofs.Words.{notes_taken, ArePrefixesOfEmissions, Root, Computation, filter, is_dropped, entered}
use Rattle.wcp_world.proofs.Words.{Dropped, given, Bool, AreInTurn, if◌then◌else◌, is_closed, IsGivenMark, notes_along}
use Rattle.wcp_world.proofs.Words.{notes_at, Link, or-false, is_drop_of, not, common_steps, gets}
use Rattle.wcp_clock.specs.declared.note.Note.TheVariants as note
use Rattle.wcp_model.specs.declared.step.Step.TheVariants as step
use Rattle.wcp_model.specs.declared.step.Why.TheVariants as why
use Rattle.wcp_queue.proofs.NotesTaken.{MayTake-next}
use Rattle.wcp_world.proofs.Entries.{dropped_push, held_after, stays as still, get_grows, bit, notes_append, count_push}
use Rattle.wcp_world.proofs.Entries.{entry_grows}
use Rattle.std.specs.Prelude.{◌-◌}
use Rattle.wcp_model.specs.Emission.{has_ended}
use Rattle.wcp_model.proofs.FirstReasons.{none_holds}
use Rattle.wcp_model.proofs.NotesInTurn.{emissions_in_turn}
use Rattle.wcp_world.specs.Processes.{Loses}
use Rattle.wcp_world.specs.World.{without_lost}
use Rattle.wcp_world.proofs.LostMarks.{is_kept, dropped_among, notes_without, emissions_kept, mark_in_turn}
use Rattle.wcp_world.proofs.LostMarks.{prefix_in_turn}
use Rattle.wcp_world.proofs.Probes.{put_and_pending, put_and_gone, pending_of_lost, neither}

-- what is answered by reasons gives no item, and is a reply's first clause
no_item : (o : Option Why) (answer : Reply) → MatchOption o (answer ≡ Done) (λ why. answer ≡ Refused why)
    → taken_by answer ≡ []
no_item o answer is = grind arith

accepting : (o : Option Why) (answer : Reply) (A : Type 0) → (answer ≡ Done → A)
    → MatchOption o (answer ≡ Done) (λ why. answer ≡ Refused why) → MatchOption o A (λ why. answer ≡ Refused why)
accepting o answer A accepts is = grind arith

pending_test : (o : Option Note) (k : ℕ) → k ≡ length (option_to_list o) → nat_lt 0 k ≡ is_some o
pending_test o k counts = grind arith

-- the computation with what an answer accepts at its end
computation_push : (steps : List Step) (s : Step) (answer : Reply) → is_event s ≡ true
    → computation (steps ++ accepted_by s answer) ≡ computation steps ++ accepted_by s answer
computation_push steps s answer event = grind (arith, filter-append)

computation_stays : (steps : List Step) (s : Step) (answer : Reply) → is_event s ≡ false
    → computation (steps ++ accepted_by s answer) ≡ computation steps
computation_stays steps s answer quiet = grind (arith, append-nil, filter-append)

-- a step that moves nothing leaves what a transport stands for
idle : (plan : Plan) (steps : List Step) (put : ℕ → List Note) (taken : List Item) (t : TransportState) (s : Step)
    → source s ≡ None → entered plan s ≡ None →
    IsTransportOf plan steps put taken t → IsTransportOf plan (steps ++ s ∷ []) put taken t
idle plan steps put taken t s none enters stands = record {
  checked = stands.checked;
  same_plan = stands.same_plan;
  members = stands.members;
  held = λ x is. held_after plan steps s put put nothing x _ _ (λ p i note at. at) (λ yes. absurd (true≢false
      (sym yes ∙ none_put x))) (still plan s nothing x _ (ap (is_place x) none) (none_put x)) (stands.held x is);
  as_many = λ p. stands.as_many p ∙ sym (none_taken (Pending p));
  known = stands.known;
  lost_known = λ p dropped. stands.lost_known p (sym (dropped_as_before p) ∙ dropped);
  in_order = λ p within. rw (dropped_as_before p) (stands.in_order p within);
}
  where
    none_taken : (x : Place) → taken_from (steps ++ s ∷ []) x ≡ taken_from steps x
    none_taken x = count_push (takes_from x) steps s ∙ ap (λ o. taken_from steps x + bit (is_place x o)) none
        ∙ add-zero (taken_from steps x)

    nothing : Item
    nothing = record { from = 0; note = note.Close 0 }

    none_put : (x : Place) → puts_into plan x s ≡ false
    none_put x = ap (is_place x) enters

    no_drop : (s : Step) → entered plan s ≡ None → (p : ℕ) → is_drop_of p s ≡ false
    no_drop s enters p = grind arith

    dropped_as_before : (p : ℕ) → is_dropped (steps ++ s ∷ []) p ≡ is_dropped steps p
    dropped_as_before p = dropped_push steps s p ∙ rw (no_drop s enters p) (or-false (is_dropped steps p))

module _ (plan : Plan) (steps : List Step) (taken : List Item) (w : WorldState)
    (stands : Stands plan steps taken w) where
  abbrev c : Computation
  c = computation steps

  -- what was emitted of a process and not put: what is pending, or what is gone with a lost process
  abbrev unput : (p : ℕ) (b : Bool) → is_dropped c p ≡ b → List Note
  unput p true dropped =
      (put_and_gone plan.n plan.watched plan.flag c stands.put w.processes stands.processes p dropped).0
  unput p false live = option_to_list (pending_at w.processes p)

  -- the emissions of each process
  abbrev pub emissions : ℕ → List Note
  emissions p = stands.put p ++ unput p (is_dropped c p) refl

  unput_emitted : (p : ℕ) (b : Bool) (is : is_dropped c p ≡ b) → p < plan.n
      → AreEmissions plan.n plan.watched plan.flag c p (stands.put p ++ unput p b is)
  unput_emitted p true dropped within =
      (put_and_gone plan.n plan.watched plan.flag c stands.put w.processes stands.processes p dropped).1
  unput_emitted p false live within =
      put_and_pending plan.n plan.watched plan.flag c stands.put w.processes stands.processes p within live

  pub are_emissions : (p : ℕ) → p < plan.n → AreEmissions plan.n plan.watched plan.flag c p (emissions p)
  are_emissions p within = unput_emitted p (is_dropped c p) refl within

  unput_pending : (p : ℕ) (b : Bool) (is : is_dropped c p ≡ b) →
      (if b then 0 else (length (stands.put p ++ unput p b is) - taken_from steps (Pending p))) ≡ length
      (option_to_list (pending_at w.processes p))
  unput_pending p true dropped =
      rw (pending_of_lost plan.n plan.watched plan.flag c stands.put w.processes stands.processes p dropped) refl
  unput_pending p false live = omega (
    arith,
    length-append (stands.put p) (option_to_list (pending_at w.processes p)),
    stands.transport.as_many p,
  )

  pub pending_count : (p : ℕ)
      → notes_in plan emissions steps (Pending p) ≡ length (option_to_list (pending_at w.processes p))
  pending_count p = rw (← dropped_among steps p) (unput_pending p (is_dropped c p) refl)

  pub pending_is : (p : ℕ) → nat_lt 0 (notes_in plan emissions steps (Pending p)) ≡ is_some (pending_at w.processes p)
  pending_is p = pending_test (pending_at w.processes p) _ (pending_count p)

  pub reply_is : (s : Step) (answer : Reply) → MatchOption (first_reason (reasons plan emissions steps s))
      (IsAcceptance plan emissions steps s answer) (λ why. answer ≡ Refused why) → IsReply plan steps s answer
  reply_is s answer first = record { emissions = emissions; are = are_emissions; first = first }

  -- an event that the processes answered
  pub event_answered : (s : Step) (answer : Reply) (new : ProcessesState) → is_event s ≡ true → source s ≡ None
      → entered plan s ≡ None →
      first_reason (reasons plan emissions steps s) ≡ first_reason
      (event_reasons plan.n (computation steps) (λ p. is_some (pending_at w.processes p)) s) →
      (answer ≡ Done → IsAcceptance plan emissions steps s answer) → Performs w.processes s answer new →
      IsReply plan steps s answer
      × Stands plan (steps ++ accepted_by s answer) (taken ++ taken_by answer) (record w { processes = new })
  event_answered s answer new event still enters same accepts performs =
      let told = performs plan.n plan.watched plan.flag (computation steps) stands.put stands.processes in
      let first : MatchOption (first_reason (reasons plan emissions steps s)) (answer ≡ Done)
      (λ why. answer ≡ Refused why) =
      subst (λ o. MatchOption o (answer ≡ Done) (λ why. answer ≡ Refused why)) (sym same) told.0 in (
        reply_is s answer (accepting (first_reason (reasons plan emissions steps s)) answer _ accepts first),
        grind (
          arith,
          append-nil taken,
          append-nil steps,
          computation_push steps s answer event,
          idle plan steps stands.put stands.handed w.transport s still enters stands.transport,
        ),
      )

  -- a relay's step is accepted where it is done
  relayed_accepts : (s : Step) (answer : Reply) → is_relayed s ≡ true → answer ≡ Done
      → IsAcceptance plan emissions steps s answer
  relayed_accepts s answer relayed done = grind arith

  -- a relay's step that the transport answered
  pub move_answered : (s : Step) (answer : Reply) (new : TransportState) → is_relayed s ≡ true
      → Conveys w.transport s answer new →
      IsReply plan steps s answer
      × Stands plan (steps ++ accepted_by s answer) (taken ++ taken_by answer) (record w { transport = new })
  move_answered s answer new relayed conveys =
      let quiet : is_event s ≡ false = grind arith in
      let told = conveys plan steps stands.put stands.handed stands.transport in
      let first = told.0 emissions in (
        reply_is s answer
            (accepting (first_reason (reasons plan emissions steps s)) answer _
            (relayed_accepts s answer relayed) first),
        grind (arith, append-nil, computation_stays, no_item),
      )

  -- a world that nothing was added to
  pub stays : Stands plan (steps ++ []) (taken ++ []) w
  stays = subst (λ all. Stands plan all (taken ++ []) w) (sym (append-nil steps))
      (subst (λ items. Stands plan steps items w) (sym (append-nil taken)) stands)

  -- a step that is refused for a reason, and changes nothing
  pub refused_for : (s : Step) (why : Why) → first_reason (reasons plan emissions steps s) ≡ Some why →
      IsReply plan steps s (Refused why) × Stands plan (steps ++ []) (taken ++ []) w
  refused_for s why first = grind (arith, reply_is, stays)

  -- a note that was put
  pub put_answered : (p : ℕ) (note : Note) (processes : ProcessesState) (transport : TransportState) → p < plan.n
      → pending_at w.processes p ≡ Some note →
      Puts w.transport p note true transport → WasPut w.processes p processes →
      IsReply plan steps (step.Put p) Done × Stands plan (steps ++ step.Put p ∷ []) (taken ++ [])
      (record w { processes = processes; transport = transport })
  put_answered p note processes transport within pending puts was_put =
      let some : 0 < notes_in plan emissions steps (Pending p) =
      omega (arith, pending_count p, ap (λ o. length (option_to_list o)) pending) in
      let told = puts plan steps stands.put stands.handed emissions stands.transport some in
      rw (append-nil taken) (
        reply_is (step.Put p) Done told.0,
        record {
          put = put_more stands.put p note;
          handed = stands.handed;
          taken_are = stands.taken_are;
          processes = rw (computation_stays steps (step.Put p) Done refl)
              (was_put plan.n plan.watched plan.flag (computation steps) stands.put note stands.processes pending);
          transport = told.1 refl;
          processes_are = stands.processes_are;
          watched_are = stands.watched_are;
          checker = stands.checker;
          not_starved = stands.not_starved;
        },
      )

  -- a put of a process that there isn't, that has nothing pending, or whose link is full
  pub put_of_none : (p : ℕ) → plan.n ≤ p
      → IsReply plan steps (step.Put p) (Refused why.NoSuch) × Stands plan (steps ++ []) (taken ++ []) w
  put_of_none p beyond = refused_for (step.Put p) why.NoSuch (grind (arith, nat_tests))

  pub put_of_nothing : (p : ℕ) → p < plan.n → pending_at w.processes p ≡ None
      → IsReply plan steps (step.Put p) (Refused why.Empty) × Stands plan (steps ++ []) (taken ++ []) w
  put_of_nothing p inside nothing =
      grind (arith, common_steps, gets, pending_count, refused_for, nat_tests)

  pub put_had_no_room : (p : ℕ) (note : Note) (new : TransportState) → pending_at w.processes p ≡ Some note
      → Puts w.transport p note false new → new ≡ w.transport →
      IsReply plan steps (step.Put p) (Refused why.Full)
      × Stands plan (steps ++ []) (taken ++ []) (record w { transport = new })
  put_had_no_room p note new pending puts same =
      let some : 0 < notes_in plan emissions steps (Pending p) =
      omega (arith, pending_count p, ap (λ o. length (option_to_list o)) pending) in
      let full = (puts plan steps stands.put stands.handed emissions stands.transport some).0 in
      rw same (
        reply_is (step.Put p) (Refused why.Full) (accepting
            (first_reason (reasons plan emissions steps (step.Put p))) (Refused why.Full) _ (λ e. cc e) full),
        stays,
      )

  -- an empty root inbox
  pub check_of_nothing : ReadsNext w.transport None
      → IsReply plan steps step.Check (Refused why.Empty) × Stands plan (steps ++ []) (taken ++ []) w
  check_of_nothing reads = let none = reads plan steps stands.put stands.handed stands.transport in
      refused_for step.Check why.Empty (grind (arith, nat_tests))

  -- a process may be lost where nothing refuses it
  pub may_lose : (p count : ℕ) (processes : ProcessesState) → Loses w.processes p (Ok count) processes
      → (p < plan.n) × (is_dropped steps p ≡ false)
  may_lose p count processes loses =
      let told = loses plan.n plan.watched plan.flag c stands.put stands.processes in
      let outside : not (nat_lt p plan.n) ≡ false = none_holds (event_reasons plan.n c (λ q. is_some
      (pending_at w.processes q)) (step.Dropped p)) 0 (not (nat_lt p plan.n), why.NoSuch) refl told.0 in
      let not_ended : has_ended c p ≡ false = none_holds (event_reasons plan.n c
      (λ q. is_some (pending_at w.processes q)) (step.Dropped p)) 1 (has_ended c p, why.Closed) refl told.0 in (
        grind (arith, nat_tests, outside),
        sym (dropped_among steps p) ∙ (neither (is_closed c p) (is_dropped c p) not_ended).1,
      )

  -- a lost process, whose link was given the mark
  pub lose_answered : (p count : ℕ) (processes : ProcessesState) (transport : TransportState)
      → Loses w.processes p (Ok count) processes → IsGivenMark w.transport p count transport →
      IsReply plan steps (step.Dropped p) Done × Stands plan (steps ++ step.Dropped p ∷ []) (taken ++ [])
      (record w { processes = processes; transport = transport })
  lose_answered p count processes transport loses given_mark =
      let told = loses plan.n plan.watched plan.flag c stands.put stands.processes in
      let may = may_lose p count processes loses in
      rw (append-nil taken) (
        reply_is (step.Dropped p) Done (rw told.0 refl),
        record {
          put = stands.put;
          handed = stands.handed;
          taken_are = stands.taken_are;
          processes = rw (computation_push steps (step.Dropped p) Done refl) told.2;
          transport = given_mark plan steps stands.put stands.handed stands.transport may.0 may.1 told.1;
          processes_are = stands.processes_are;
          watched_are = stands.watched_are;
          checker = stands.checker;
          not_starved = stands.not_starved;
        },
      )

  -- a process that is refused to be lost
  pub lose_refused : (p : ℕ) (why : Why) (processes : ProcessesState) → Loses w.processes p (Err why) processes
      → IsReply plan steps (step.Dropped p) (Refused why) × Stands plan (steps ++ []) (taken ++ []) w
  lose_refused p why processes loses =
      refused_for (step.Dropped p) why (loses plan.n plan.watched plan.flag c stands.put stands.processes)

  -- what was put of a process has no mark
  put_kept : (p : ℕ) → p < plan.n → filter is_kept (given steps p (stands.put p)) ≡ stands.put p
  put_kept p within = grind (arith, emissions_kept, are_emissions, filter-append, append-nil)

  -- what was taken of each process is a prefix of what it emitted
  pub taken_prefixes : ArePrefixesOfEmissions plan.n plan.watched plan.flag c taken
  taken_prefixes p within =
      let order = stands.transport.in_order p within in
      let along = notes_along (notes_at plan w.transport.places p) (Link p ∷ order.way) in
      let rest = unput p (is_dropped c p) refl in
      let front : notes_taken p taken ++ filter is_kept along ≡ stands.put p =
      ap (λ items. notes_taken p items ++ filter is_kept along) stands.taken_are
      ∙ ap (λ l. l ++ filter is_kept along) (notes_without p stands.handed)
      ∙ sym (filter-append is_kept (notes_taken p stands.handed) along) ∙ ap (filter is_kept) order.notes
      ∙ put_kept p within in (
        filter is_kept along ++ rest,
        subst (AreEmissions plan.n plan.watched plan.flag c p) (sym (ap (λ l. l ++ rest)
            front) ∙ append_assoc (notes_taken p taken) (filter is_kept along) rest) (are_emissions p within),
      )

  -- what the link of a process was given is in turn
  given_by_case : (p : ℕ) (b : Bool) → is_dropped c p ≡ b → p < plan.n
      → AreInTurn (stands.put p ++ (if b then note.Lost (length (stands.put p)) ∷ [] else []))
  given_by_case p true dropped within = let gone = put_and_gone plan.n plan.watched plan.flag c stands.put w.processes
      stands.processes p dropped in mark_in_turn plan.n plan.watched plan.flag c p (stands.put p) gone.0 gone.1 gone.2
  given_by_case p false live within = rw (append-nil (stands.put p))
      (prefix_in_turn (stands.put p) _ (emissions_in_turn plan.n plan.watched plan.flag c p _ (are_emissions p within)))

  given_in_turn : (p : ℕ) → p < plan.n → AreInTurn (given steps p (stands.put p))
  given_in_turn p within = rw (← dropped_among steps p) (given_by_case p (is_dropped c p) refl within)

  -- and so is what the checker was handed of each process
  pub handed_in_turn : (p : ℕ) → p < plan.n → AreInTurn (notes_taken p stands.handed)
  handed_in_turn p within = let order = stands.transport.in_order p within in
      prefix_in_turn (notes_taken p stands.handed) _ (subst AreInTurn (sym order.notes) (given_in_turn p within))

  -- the checker may take the next item of the root inbox
  next_given : (item : Item) (next : IsNextAtRoot plan steps stands.put stands.handed item)
      → given steps item.from (stands.put item.from) ≡ notes_taken item.from stands.handed ++ item.note ∷ next.rest
  next_given item next = grind (arith, eq-eqb, notes_append, append_assoc)

  pub may_take : (item : Item) → IsNextAtRoot plan steps stands.put stands.handed item → MayTake w.checker item
  may_take item next =
      let within : item.from < processes w.checker = omega (arith, next.process, stands.processes_are) in
      MayTake-next w.checker stands.handed item stands.checker within
      (given_in_turn item.from next.process (notes_taken item.from stands.handed) next.rest item.note
      (next_given item next))

  taken_push : (item : Item) → taken ++ taken_by (Took item) ≡ without_lost (stands.handed ++ item ∷ [])
  taken_push item = ap (λ l. l ++ taken_by (Took item)) stands.taken_are
      ∙ sym (filter-append _ stands.handed (item ∷ []) ∙ grind arith)

  pub check_answered : (item : Item) (transport : TransportState) (checker : CheckerState)
      → IsNextAtRoot plan steps stands.put stands.handed item → next_of w.transport ≡ Some item →
      TakesNext w.transport transport → TakesItem w.checker checker item → processes checker ≡ processes w.checker
      → checker.watched ≡ w.checker.watched →
      IsReply plan steps step.Check (Took item) × Stands plan (steps ++ step.Check ∷ []) (taken ++ taken_by (Took item))
      (record w { transport = transport; checker = checker })
  check_answered item transport checker next is_next takes_next takes_item same_processes same_watched =
      let some : eqb (notes_in plan stands.put steps (InboxOf Root)) 0 ≡ false = grind (arith, nat_tests, next.some) in
      let entry = entry_grows plan stands.put emissions steps []
      (λ p i note at. get_grows (stands.put p) (unput p (is_dropped c p) refl) i note at) next.entry in (
        reply_is step.Check (Took item) (rw some (
          item,
          refl,
          subst (λ l. IsEntry plan emissions l (InboxOf Root)
              (taken_from steps (InboxOf Root)) item) (append-nil steps) entry,
        )),
        record {
          put = stands.put;
          handed = stands.handed ++ item ∷ [];
          taken_are = taken_push item;
          processes = rw (computation_stays steps step.Check (Took item) refl) stands.processes;
          transport = takes_next plan steps stands.put stands.handed item stands.transport is_next;
          processes_are = same_processes ∙ stands.processes_are;
          watched_are = same_watched ∙ stands.watched_are;
          checker = takes_item.stands stands.handed stands.checker;
          not_starved = takes_item.starved ∙ stands.not_starved;
        },
      )

-- a send that the processes answered is one that the world answered
pub sends : {E : Type 0} (w : WorldState) (p to : ℕ) (result : Result Reply E) (new : ProcessesState)
    → IfOk result (λ reply. Performs w.processes (step.Send p to) reply new) →
    IfOk result (λ reply. MakesStep w (step.Send p to) reply (record w { processes = new }))
sends w p to (Ok reply) new performs = λ plan steps taken stands. event_answered plan steps taken w stands
    (step.Send p to) reply new refl refl refl (rw (pending_is plan steps taken w stands p) refl) (λ e. e) performs
sends w p to (Err e) new performs = performs
