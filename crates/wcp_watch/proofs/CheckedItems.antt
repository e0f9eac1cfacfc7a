-- What a lane gives is what its checker may take.
use Rattle.wcp_watch.proofs.Words.{◌≡◌, ◌≢◌, ℕ, suc, ◌<◌, Bool, true, false, ◌||◌, Option, Some, None, List, [], ◌∷◌}
use Rattle.wcp_watch.proofs.Words.{◌++◌, ◌+◌, ◌↔◌, length, get_or, take, map, sym, refl, ap, ◌∙◌, subst, append_assoc}
use Rattle.wcp_watch.proofs.Words.{arith, All, Result, Ok, Err, OnOk, IfNone, IfSome, result_err, list_any}
use Rattle.wcp_watch.proofs.Words.{list_any-append, take_more, true≢false, get_or-map, same_lists, TakeEnd, Bundle, IsOfLane, IsSameWatch, length-map, All-map, Item, Note, notes_taken}
use Rattle.wcp_watch.proofs.Words.{clocks_taken, snapshot_clocks, AreInTurn, IsNextNote, IsDrained, CheckerState}
use Rattle.wcp_watch.proofs.Words.{processes, closed_of, lost_of, MayTake, StandsForItems, Numbers, ItemMayFollow}
use Rattle.wcp_watch.proofs.Words.{AreAllEnded, IsLowestLost, HasTakenClose, HasTakenLast, TakesItems, first_fault}
use Rattle.std.specs.FinSet as set
use Rattle.wcp_clock.specs.declared.note.Note.TheVariants.{Snap, Close, Lost}
use Rattle.wcp_clock.specs.Notes.{is_close, is_last, is_lost, place_of}
use Rattle.wcp_model.specs.declared.outcome.Report.{Report}
use Rattle.wcp_model.specs.declared.outcome.Report.TheVariants.{Nothing}
use Rattle.wcp_lane.specs.declared.fault.Cut.{Cut}
use Rattle.wcp_model.specs.LaneRule.{items_from}
use Rattle.wcp_queue.specs.Panel.{MayAllTake, StandForItems, EachTakes, no_question, question_at, watched_by}
use Rattle.wcp_queue.proofs.NotesTaken.{MayTake-next, clocks_taken-push_last, taken_kind-own}
use Rattle.wcp_relay.proofs.Bundling.{same_last}
use Rattle.wcp_watch.specs.declared.checker_end.CheckFault.TheVariants as fault

-- where no close mark is among these notes, they are all snapshots
open_notes : (notes : List Note) → All (λ note. is_last note ≡ false) notes
    → (length (snapshot_clocks notes) ≡ length notes) × (list_any is_last notes ≡ false)
open_notes [] all = (refl, refl)
open_notes (Snap number clock ∷ notes) all =
    let rest = open_notes notes (λ k d below. all (suc k) d (omega arith)) in
    (omega (arith, rest.0), rest.1)
open_notes (Close count ∷ notes) all = absurd (true≢false (all 0 (Close count) (omega arith)))
open_notes (Lost count ∷ notes) all = absurd (true≢false (all 0 (Lost count) (omega arith)))

-- what the lane gives next is what the checker may take
pub may_take : (taken : List Item) (numbers : Numbers) (checker : CheckerState) (item : Item)
    → ((p : ℕ) → (set.contains numbers p ≡ true) ↔ (p < processes checker)) → StandsForItems checker taken
    → ItemMayFollow numbers taken item → MayTake checker item
may_take taken numbers checker item members stands next =
    let before = items_from (λ (i : Item). i.from) item.from taken in
    let all_open = open_notes (map (λ (i : Item). i.note) before)
    (All-map (λ note. is_last note ≡ false) (λ (i : Item). i.note) before next.next.unended) in
    let is : IsNextNote (map (λ (i : Item). i.note) before) item.note =
    record {
      place = next.next.numbered ∙ sym (length-map before (λ (i : Item). i.note))
          ∙ sym all_open.0;
      still_open = all_open.1;
    } in
    MayTake-next checker taken item stands ((members item.from).0 next.owned) is

-- so each question may take it
pub may_all_take : (taker : TakeEnd Bundle Item) (taken : List Item) (panel : List CheckerState) (item : Item)
    → IsOfLane taker panel → StandForItems panel taken → ItemMayFollow taker.members taken item
    → MayAllTake panel item
may_all_take taker taken panel item of_lane stand next k d within =
    may_take taken taker.members (get_or panel k d) item (of_lane.members k d within) (stand k d within) next

-- the first question has taken what each has
pub first_stands : (panel : List CheckerState) (items : List Item) → 0 < length panel → StandForItems panel items
    → StandsForItems (question_at panel 0) items
first_stands panel items some stand = stand 0 no_question some

-- what each question of a panel keeps, the panel keeps
kept_by : {X : Type 0} (of : CheckerState → X) (old new : List CheckerState) → length new ≡ length old
    → ((k : ℕ) → k < length old → of (question_at new k) ≡ of (question_at old k)) → map of new ≡ map of old
kept_by of old new as_many each = same_lists (map of new) (map of old)
    (length-map new of ∙ as_many ∙ sym (length-map old of))
    (λ k d within.
    let below : k < length new = omega (arith, length-map new of) in
    let below_old : k < length old = omega (arith, as_many) in
    get_or-map of new k no_question d below ∙ each k below_old ∙ sym (get_or-map of old k no_question d below_old))

pub takes_same : (old new : List CheckerState) (item : Item) → EachTakes old new item → IsSameWatch old new
takes_same old new item takes = record {
  processes = kept_by processes old new takes.as_many (λ k below. (takes.each k below).processes);
  watched = kept_by (λ (checker : CheckerState). checker.watched) old new takes.as_many
      (λ k below. (takes.each k below).watched);
}

-- a panel of the same watch is of as many questions, each of as many processes
pub as_many_questions : (old new : List CheckerState) → IsSameWatch old new → length new ≡ length old
as_many_questions old new same =
    sym (length-map new processes) ∙ ap length same.processes ∙ length-map old processes

pub as_many_processes : (old new : List CheckerState) (k : ℕ) (d : CheckerState) → IsSameWatch old new → k < length new
    → processes (get_or new k d) ≡ processes (get_or old k d)
as_many_processes old new k d same within =
    sym (get_or-map processes new k d 0 within) ∙ ap (λ counts. get_or counts k 0) same.processes
    ∙ get_or-map processes old k d 0 (omega (arith, as_many_questions old new same))

pub still_of_lane : (taker taken : TakeEnd Bundle Item) (old new : List CheckerState) → taken.members ≡ taker.members
    → IsSameWatch old new → IsOfLane taker old → IsOfLane taken new
still_of_lane taker taken old new members same of_lane = record {
  some = omega (arith, of_lane.some, as_many_questions old new same);
  members = λ k d within p. rw (members, as_many_processes old new k d same within)
      (of_lane.members k d (omega (arith, as_many_questions old new same)) p);
}

-- a checker that took a close mark has it, and has as many snapshots as it counts
pub close_taken : (checker : CheckerState) (items : List Item) (p : ℕ) (note : Note)
    → StandsForItems checker (items ++ record { from = p; note = note } ∷ []) → p < processes checker
    → place_of note ≡ length (clocks_taken p items) → is_close note ≡ true → HasTakenClose checker p (place_of note)
close_taken checker items p (Snap number clock) stands within place closed = absurd (true≢false (sym closed))
close_taken checker items p (Lost count) stands within place closed = absurd (true≢false (sym closed))
close_taken checker items p (Close count) stands within place closed =
    record {
      within = within;
      closed = stands.closed p within ∙ taken_kind-own is_close items p (Close count) refl;
      counted = stands.taken p within ∙ ap length (clocks_taken-push_last items p p (Close count) refl) ∙ sym place;
    }

-- where a last note was taken, it stands at a place among the notes
last_mark_in : (notes : List Note) → (list_any is_close notes || list_any is_lost notes) ≡ true
    → (before : List Note) × (last : Note) × (after : List Note) × (notes ≡ before ++ last ∷ after)
    × (is_last last ≡ true)
last_mark_in [] none = absurd (true≢false (sym none))
last_mark_in (Snap number clock ∷ notes) some =
    let (before, last, after, is, ends) = last_mark_in notes some in
    (Snap number clock ∷ before, last, after, ap (λ rest. Snap number clock ∷ rest) is, ends)
last_mark_in (Close count ∷ notes) some = ([], Close count, notes, refl, refl)
last_mark_in (Lost count ∷ notes) some = ([], Lost count, notes, refl, refl)

-- nothing follows a last note
nothing_behind : (before after : List Note) (last : Note) → is_last last ≡ true → AreInTurn (before ++ last ∷ after)
    → after ≡ []
nothing_behind before [] last ends turn = refl
nothing_behind before (x ∷ after) last ends turn =
    grind (arith, append_assoc before (last ∷ []) (x ∷ after), list_any-append is_last before (last ∷ []))

-- where a last note of each process was taken, each has ended
pub all_ended : (checker : CheckerState) (items : List Item) → StandsForItems checker items
    → ((p : ℕ) → p < processes checker → (closed_of checker p || lost_of checker p) ≡ true)
    → AreAllEnded (processes checker) items
all_ended checker items stands marked p within =
    let (before, last, after, is, ends) =
    last_mark_in (notes_taken p items) (rw (stands.closed p within, stands.lost p within) at (marked p within)) in
    let none : after ≡ [] = nothing_behind before after last ends (subst AreInTurn is (stands.in_turn p within)) in
    (before, last, subst (λ rest. notes_taken p items ≡ before ++ last ∷ rest) none is, ends)

-- an item more was given
pub more_taken : (old now new : List CheckerState) (items : List Item) (i : ℕ) (d : Item) → i < length items → TakesItems old
    now (take i items) → TakesItems now new (get_or items i d ∷ []) → TakesItems old new (take (i + 1) items)
more_taken old now new items i d below before step all stands =
    subst (StandForItems new) (append_assoc all (take i items) (get_or items i d ∷ [])
    ∙ ap (λ xs. all ++ xs) (sym (take_more items i d below))) (step (all ++ take i items) (before all stands))

-- the last item that was given, if it is a close mark
pub last_taken : (now new : CheckerState) (taken items : List Item) (i : ℕ) (d : Item) → i < length items
    → processes new ≡ processes now → StandsForItems now (taken ++ take i items)
    → MayTake now (get_or items i d) → StandsForItems new ((taken ++ take i items) ++ get_or items i d ∷ [])
    → HasTakenLast new (take (i + 1) items)
last_taken now new taken items i d below same stands may step front end is close =
    let item : Item = get_or items i d in
    let one : item ≡ end = same_last (take i items) front item end (sym (take_more items i d below) ∙ is) in
    subst (λ (x : Item). HasTakenClose new x.from (place_of x.note)) one
    (close_taken new (taken ++ take i items) item.from item.note step
    (subst (λ n. item.from < n) (sym same) may.from)
    (may.place ∙ stands.taken item.from may.from) (ap (λ (x : Item). is_close x.note) one ∙ close))

-- a loop without a fault starved no question, met no cut, and lost no process
pub without_fault : (starved : Bool) (cut : Option Cut) (lost : Option ℕ) → first_fault starved cut lost ≡ None
    → (starved ≡ false) × (cut ≡ None) × (lost ≡ None)
without_fault true cut lost is = cc
without_fault false (Some cut) lost is = cc
without_fault false None (Some p) is = cc
without_fault false None None is = (refl, refl, refl)

-- a fault that tells a lost process tells the one that was lost
pub lost_told : (starved : Bool) (cut : Option Cut) (lost : Option ℕ) (p : ℕ)
    → first_fault starved cut lost ≡ Some (fault.Lost p) → lost ≡ Some p
lost_told true cut lost p is = cc
lost_told false (Some cut) lost p is = cc
lost_told false None (Some q) p is = cc
lost_told false None None p is = cc

-- what holds on success holds without a cut
pub without_cut : (P : Type 0) (met : Result (Unit {0}) Cut) → OnOk met P → IfNone (result_err met) P
without_cut P (Ok done) is = is
without_cut P (Err cut) is = tt

-- a last note is a close mark where none of them is a mark that the process was lost
closes : (before : List Note) (last : Note) → is_last last ≡ true → list_any is_lost (before ++ last ∷ []) ≡ false
    → (count : ℕ) × (last ≡ Close count)
closes before (Snap number clock) ends none = absurd (true≢false (sym ends))
closes before (Close count) ends none = (count, refl)
closes before (Lost count) ends none = absurd (grind (arith, list_any-append is_lost before (Lost count ∷ [])))

-- without a cut and a lost process all is drained
pub all_drained : (cut : Option Cut) (lost : Option ℕ) (n : ℕ) (items : List Item) → IfNone cut (AreAllEnded n items)
    → IsLowestLost n items lost
    → IfNone cut (IfNone lost (IsDrained n items))
all_drained (Some cut) lost n items ended lowest = tt
all_drained None (Some p) n items ended lowest = tt
all_drained None None n items ended none = λ p within.
    let (before, last, is, ends) = ended p within in
    let (count, close) = closes before last ends (rw is at (none p within)) in
    (count, before, rw close at is)

-- where a process was lost the report never is that there is nothing
pub never_none : (checker : CheckerState) (items : List Item) (lost : Option ℕ) (report : Report)
    → StandsForItems checker items → IsLowestLost (processes checker) items lost
    → ((p : ℕ) → p < processes checker → lost_of checker p ≡ true → report ≢ Nothing)
    → IfSome lost (λ p. report ≢ Nothing)
never_none checker items None report stands lowest never = tt
never_none checker items (Some p) report stands lowest never = never p lowest.0 (stands.lost p lowest.0 ∙ lowest.1)
