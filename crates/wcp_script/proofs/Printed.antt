-- The text of a workload that could be read spells it.
use Rattle.wcp_script.proofs.Words.{common_steps, ◌≡◌, ◌≢◌, ℕ, ◌<◌, ◌≤◌, Bool, true, false, cond, eqb, List, [], ◌∷◌}
use Rattle.wcp_script.proofs.Words.{◌++◌, length, Option, Some, None, Ok, refl, sym, ap, ◌∙◌, append_assoc, arith}
use Rattle.wcp_script.proofs.Words.{le-leb, ne_eqb, inl, inr, ⊎_elim, codes, replicate, slice_get, flat_map, list_all}
use Rattle.wcp_script.proofs.Words.{AllByRecursion, decimal, and_parts, cases_lt, cases_eq, recursion_from_All, Parent}
use Rattle.wcp_script.proofs.Words.{Root, Relay, Plan, Task, IsCheckedPlan, IsOutside, IsWithin, CouldBeRead, Word}
use Rattle.wcp_script.proofs.Words.{line_text, text_of, lines_of, action_words, task_line, cap_lines, hold_lines}
use Rattle.wcp_script.proofs.Words.{relay_lines, attach_lines, numbered, is_first, is_root_alone, has_one_relay}
use Rattle.wcp_script.proofs.Words.{tree_lines, head_lines, is_task_word, Head, HeadRead, first_head, IsPlanOf}
use Rattle.wcp_script.proofs.Words.{workloads, steps_by, Spells, lt-ltb, false_from_ne_true, some_watched, watch_lines}
use Rattle.wcp_script.proofs.Words.{are_all_watched, watched_words, range_with_len, is_watched_by}
use Rattle.std.proofs.lemmas.List.Folds.{flat_map-map}
use Rattle.std.proofs.lemmas.Option.{slice_get_within, get_or_from_slice_get}
use Rattle.std.specs.Option.{unwrap_or}
use Rattle.wcp_model.specs.declared.plan.PlanFault.TheVariants as fault
use Rattle.wcp_script.specs.PlanText.{text_of_workload, flag_lines}
use Rattle.wcp_script.specs.Head.{processes_in, processes_by, head_by, head_of}
use Rattle.wcp_script.proofs.LinesOfWords.{IsWord, IsWord-literal, IsWord-decimal, number_in-decimal, words_of-joined}
use Rattle.wcp_script.proofs.LinesOfWords.{worded, lines_of-line_text, lines_of_nothing}
use Rattle.wcp_script.proofs.PrintedTasks.{task_is_words, lines_of-task_line, steps_by-task_lines}
use Rattle.std.specs.FinSet as set
use Rattle.wcp_model.specs.declared.flag.Flag.{Flag}
use Rattle.wcp_model.specs.declared.flag.Flag.TheVariants as reset_at
use Rattle.wcp_model.specs.Watched.{AreSomeWatched}
use Rattle.wcp_script.specs.declared.head_line.HeadLine.TheVariants as said
use Rattle.std.proofs.lemmas.Bool.{le-ltb}
use Rattle.wcp_script.proofs.WatchLines.{watched_from, watch_line-printed, printed_words, printed_has, printed_past}
use Rattle.wcp_script.proofs.Ranges.{all_from_range}
use Rattle.wcp_script.proofs.PrintedHead.{Makes, Makes-append, made_is_read, said_unless, unwrap_or-said_unless}
use Rattle.wcp_script.proofs.PrintedHead.{cap_makes, hold_makes, relays_make, attaches_make}

-- ---- what a plan that is checked has

inside : (least most x : ℕ) → ¬ IsOutside least most x → (least ≤ x) × (x ≤ most)
inside least most x not = grind arith

record Sound (plan : Plan) : Type 0 where
  procs : (1 ≤ plan.n) × (plan.n ≤ 16)
  cap : (1 ≤ plan.cap) × (plan.cap ≤ 1024)
  hold : (1 ≤ plan.hold) × (plan.hold ≤ 64)
  relays : (1 ≤ length plan.parents.items) × (length plan.parents.items ≤ 15)
  lower : (i above : ℕ) → slice_get plan.parents.items i ≡ Some (Relay above) → above < i
  entries : length plan.attach.items ≡ plan.n
  served : (i relay : ℕ) → slice_get plan.attach.items i ≡ Some (Some relay) → relay < 15
  watched : AreSomeWatched plan.n plan.watched

sound_from : (plan : Plan) → IsCheckedPlan plan → Sound plan
sound_from plan checked =
    let size = inside 1 15 (length plan.parents.items) (λ outside. checked fault.Parent (inl outside)) in
    record {
      procs = inside 1 16 plan.n (checked fault.Procs);
      cap = inside 1 1024 plan.cap (checked fault.Cap);
      hold = inside 1 64 plan.hold (checked fault.Hold);
      relays = size;
      lower = λ i above is. ⊎_elim (λ (less : above < i). less)
          (λ (not : i ≤ above). absurd (checked fault.Parent (inr (i, above, is, not)))) (cases_lt above i);
      entries = ⊎_elim (λ (same : length plan.attach.items ≡ plan.n). same)
          (λ (other : length plan.attach.items ≢ plan.n). absurd (checked fault.Unattached (inl other)))
          (cases_eq (length plan.attach.items) plan.n);
      served = λ i relay is. ⊎_elim (λ (less : relay < length plan.parents.items). omega (arith, size.1))
          (λ (not : length plan.parents.items ≤ relay). absurd
          (checked fault.Unattached (inr (
            i,
            Some relay,
            slice_get_within plan.attach.items i (Some relay) is,
            get_or_from_slice_get plan.attach.items i (Some relay) (Some relay) is,
            not,
          ))))
          (cases_lt relay (length plan.parents.items));
      watched = some_watched plan checked;
    }

-- ---- one relay that serves every process

is_root : (parents : List Parent) → is_root_alone parents ≡ true → parents ≡ Root ∷ []
is_root parents alone = grind arith

first_is : (entry : Option ℕ) → is_first entry ≡ true → entry ≡ Some 0
first_is entry first = grind arith

all_first : (attach : List (Option ℕ)) → list_all is_first attach ≡ true → attach ≡ replicate (length attach) (Some 0)
all_first [] each = refl
all_first (entry ∷ attach) each =
    grind (arith, and_parts (is_first entry) (list_all is_first attach) each, first_is entry, all_first attach)

-- ---- the head

-- The head after the lines of capacities.
abbrev capacities : Plan → Head
capacities plan = record (first_head plan.n) { cap = said_unless 8 plan.cap; hold = said_unless 4 plan.hold }

-- A head with the tree and the capacities of the plan, which names nobody and says nothing of the flag.
record IsTreeOf (head : Head) (plan : Plan) : Type 0 where
  n : plan.n ≡ head.n
  cap : plan.cap ≡ unwrap_or head.cap 8
  hold : plan.hold ≡ unwrap_or head.hold 4
  parents : plan.parents.items ≡ cond (eqb (length head.parents) 0) (Root ∷ []) head.parents
  attach : plan.attach.items ≡ cond (eqb (length head.parents) 0) (replicate head.n (Some 0)) head.attach
  nobody : head.watched ≡ None
  unsaid : head.flag ≡ None

-- Of the capacities the lines make such a head.
abbrev MakesTree : Plan → List (List Word) → Type 0
MakesTree plan lines = (head : Head) × Makes (capacities plan) lines head × IsTreeOf head plan

tree_makes : (plan : Plan) (one : Bool) → has_one_relay plan ≡ one → Sound plan → MakesTree plan
    (cond one [] (numbered relay_lines 0 plan.parents.items ++ numbered attach_lines 0 plan.attach.items))
tree_makes plan true is sound =
    grind (arith, all_first, and_parts, is_root, unwrap_or-said_unless)
tree_makes plan false is sound =
    let parents = plan.parents.items in
    let attach = plan.attach.items in
    let relays = relays_make (capacities plan) [] parents 0 refl refl refl refl (omega (arith, sound.relays.1))
    (λ i above here. omega (arith, sound.lower i above here)) in
    let with_relays : Head = record (capacities plan) { parents = parents } in
    let attached = attaches_make with_relays [] attach (replicate plan.n None) attach None 0 refl
    (ap (λ k. replicate k None) (sym sound.entries)) refl
    refl refl sound.relays.0 (omega (arith, sound.entries)) sound.procs.1 sound.served (λ p past. refl) in
    let head : Head = record with_relays { attach = attach; last_attached = attached.0 } in
    let some : eqb (length parents) 0 ≡ false =
    ne_eqb (length parents) 0 (λ e. absurd (omega (arith, sound.relays.0))) in (
      head,
      Makes-append (capacities plan) with_relays head (numbered relay_lines 0 parents)
          (numbered attach_lines 0 attach) relays attached.1,
      grind (arith, unwrap_or-said_unless),
    )

watched_below : (plan : Plan) → Sound plan → (p : ℕ) → plan.n ≤ p → set.contains plan.watched p ≡ false
watched_below plan sound p past =
    false_from_ne_true (set.contains plan.watched p) (λ has. absurd (omega (arith, sound.watched.within p has, past)))

-- A head that lacks only what a flag line says.
record IsUnflagged (head : Head) (plan : Plan) : Type 0 where
  n : plan.n ≡ head.n
  cap : plan.cap ≡ unwrap_or head.cap 8
  hold : plan.hold ≡ unwrap_or head.hold 4
  parents : plan.parents.items ≡ cond (eqb (length head.parents) 0) (Root ∷ []) head.parents
  attach : plan.attach.items ≡ cond (eqb (length head.parents) 0) (replicate head.n (Some 0)) head.attach
  watched : (p : ℕ) → set.contains plan.watched p ≡ is_watched_by head.n head.watched p
  unsaid : head.flag ≡ None

-- the line of the watched, where not all are
watch_makes : (plan : Plan) (head : Head) (all : Bool) → are_all_watched plan.n plan.watched ≡ all → Sound plan
    → IsTreeOf head plan
    → (made : Head) × Makes head
    (cond all [] ((codes "watch" ∷ flat_map (watched_words plan.watched) (range_with_len 0 plan.n)) ∷ [])) made
    × IsUnflagged made plan
watch_makes plan head true is sound tree =
    let each = all_from_range (set.contains plan.watched) 0 plan.n is in (
      head,
      refl,
      record {
        n = tree.n;
        cap = tree.cap;
        hold = tree.hold;
        parents = tree.parents;
        attach = tree.attach;
        watched = λ p. rw (tree.nobody) (elim (cases_lt p plan.n) [
          | inl below ↦ each p (omega arith) (omega (arith, below))
              ∙ sym (lt-ltb p head.n (omega (arith, tree.n, below)))
          | inr past ↦ watched_below plan sound p past ∙ sym (le-ltb p head.n (omega (arith, tree.n, past)))
        ]);
        unsaid = tree.unsaid;
      },
    )
watch_makes plan head false is sound tree =
    let q = sound.watched.some.0 in
    let has = sound.watched.some.1 in
    let below = sound.watched.within q has in
    let numbers = watched_from plan.watched 0 plan.n in
    let line = watch_line-printed plan.n plan.watched q sound.procs.1 below has in
    let words = printed_words plan.watched 0 plan.n (omega (arith, sound.procs.1)) in (
      record head { watched = Some (set.from_list numbers) },
      (
        said.Watch (set.from_list numbers),
        record {
          are_words = (IsWord-literal (codes "watch") refl, words);
          no_step = refl;
          says = rw (tree.nobody, ← tree.n) line;
          first = tree.unsaid;
        },
        refl,
      ),
      record {
        n = tree.n;
        cap = tree.cap;
        hold = tree.hold;
        parents = tree.parents;
        attach = tree.attach;
        watched = λ p. sym (set.contains-from_list_nat numbers p ∙ elim (cases_lt p plan.n) [
          | inl inside ↦ printed_has plan.watched 0 plan.n p (omega arith) (omega (arith, inside))
          | inr past ↦ printed_past plan.watched 0 plan.n p (omega (arith, past))
              ∙ sym (watched_below plan sound p past)
        ]);
        unsaid = tree.unsaid;
      },
    )

-- a head with what a flag line says, or none
with_flag : (plan : Plan) (head : Head) (flag : Option Flag) → plan.flag ≡ unwrap_or flag reset_at.Event
    → IsUnflagged head plan → IsPlanOf (record head { flag = flag }) plan
with_flag plan head flag is before = record {
  n = before.n;
  cap = before.cap;
  hold = before.hold;
  parents = before.parents;
  attach = before.attach;
  watched = before.watched;
  flag = is;
}

-- the line of the flag, where sends alone reset it
flag_makes : (plan : Plan) (head : Head) (flag : Flag) → plan.flag ≡ flag → IsUnflagged head plan
    → (made : Head) × Makes head (flag_lines flag) made × IsPlanOf made plan
flag_makes plan head reset_at.Event is before = (
  record head { flag = None },
  ap (λ (o : Option Flag). record head { flag = o }) before.unsaid,
  with_flag plan head None is before,
)
flag_makes plan head reset_at.Send is before = (
  record head { flag = Some reset_at.Send },
  (
    said.Reset reset_at.Send,
    record {
      are_words = (IsWord-literal (codes "flag") refl, (IsWord-literal (codes "send") refl, tt));
      no_step = refl;
      says = refl;
      first = before.unsaid;
    },
    refl,
  ),
  with_flag plan head (Some reset_at.Send) is before,
)

-- The lines after the first two.
abbrev further_lines : Plan → List (List Word)
further_lines plan = cap_lines plan.cap
    ++ (hold_lines plan.hold ++ (tree_lines plan ++ (watch_lines plan.n plan.watched ++ flag_lines plan.flag)))

further_make : (plan : Plan) → Sound plan
    → (head : Head) × Makes (first_head plan.n) (further_lines plan) head × IsPlanOf head plan
further_make plan sound =
    let tree = tree_makes plan (has_one_relay plan) refl sound in
    let watch = watch_makes plan tree.0 (are_all_watched plan.n plan.watched) refl sound tree.2 in
    let flag = flag_makes plan watch.0 plan.flag refl watch.2 in
    let end =
    Makes-append tree.0 watch.0 flag.0 (watch_lines plan.n plan.watched) (flag_lines plan.flag) watch.1 flag.1 in
    let rest = watch_lines plan.n plan.watched ++ flag_lines plan.flag in
    let both = Makes-append (capacities plan) tree.0 flag.0 (tree_lines plan) rest tree.1 end in
    grind (
      arith,
      both,
      flag.2,
      Makes-append,
      hold_makes plan.n plan.hold (said_unless 8 plan.cap) (eqb plan.hold
          4) sound.hold.0 sound.hold.1,
      cap_makes plan.n plan.cap (eqb plan.cap 8) sound.cap.0 sound.cap.1,
    )

-- ---- the whole text

-- The text of a workload is that of its head, and then the lines of its tasks.
pub text_of-head_and_tasks : (plan : Plan) (tasks : List Task)
    → text_of_workload plan tasks ≡ text_of (head_lines plan) ++ flat_map task_line tasks
unfolding text_of_workload
text_of-head_and_tasks plan tasks = grind (arith, common_steps, flat_map-map)

procs_are_words : (n : ℕ) → n ≤ 16 → AllByRecursion IsWord (codes "procs" ∷ decimal n ∷ [])
procs_are_words n few = (IsWord-literal (codes "procs") refl, (IsWord-decimal n (omega arith), tt))

processes_in-worded : (n : ℕ) → 1 ≤ n → n ≤ 16 → processes_in (worded (codes "procs" ∷ decimal n ∷ [])) ≡ Ok n
unfolding processes_in
processes_in-worded n some few =
    rw (
      words_of-joined (codes "procs") (decimal n ∷ []) (procs_are_words n few),
      number_in-decimal n (omega arith),
      le-leb 1 n some,
      le-leb n 16 few,
    ) refl

-- the head ends where the tasks begin
head_ends : (n : ℕ) (head : Head) (last : ℕ) (tasks : List Task) → n ≤ 16 → AllByRecursion (IsWithin n) tasks
    → head_by is_task_word head last (lines_of (flat_map task_line tasks)) ≡ Ok
    (record { head = head; last = last; after = lines_of (flat_map task_line tasks) })
unfolding head_by
head_ends n head last [] few within = rw lines_of_nothing refl
head_ends n head last (task ∷ tasks) few within =
    grind (
      arith,
      lines_of-task_line n task (flat_map task_line tasks) few within.0,
      words_of-joined (codes "p") (decimal task.p ∷ action_words task.action) (task_is_words n task few within.0),
    )

lines_of-opening : (plan : Plan) (steps : List ℕ) → plan.n ≤ 16
    → lines_of (text_of (head_lines plan) ++ steps) ≡ worded (codes "wcp" ∷ codes "1" ∷ []) ∷ worded
    (codes "procs" ∷ decimal plan.n ∷ []) ∷ lines_of (text_of (further_lines plan) ++ steps)
lines_of-opening plan steps few =
    let procs : List Word = codes "procs" ∷ decimal plan.n ∷ [] in
    let rest : List ℕ = text_of (further_lines plan) ++ steps in
    let first = lines_of-line_text (codes "wcp" ∷ codes "1" ∷ []) (line_text procs ++ rest)
    (IsWord-literal (codes "wcp") refl, (IsWord-literal (codes "1") refl, tt)) in
    let second = lines_of-line_text procs rest (procs_are_words plan.n few) in
    grind (arith, append_assoc)

pub text_spells : (plan : Plan) (tasks : List Task) → IsCheckedPlan plan → CouldBeRead plan.n tasks
    → Spells workloads (text_of_workload plan tasks) plan tasks
unfolding head_of processes_by
text_spells plan tasks checked could =
    let sound = sound_from plan checked in
    let steps : List ℕ = flat_map task_line tasks in
    let within = recursion_from_All (IsWithin plan.n) tasks could.within in
    let lines = ap lines_of (text_of-head_and_tasks plan tasks) ∙ lines_of-opening plan steps sound.procs.1 in
    let made = further_make plan sound in
    let begun = made_is_read (first_head plan.n) made.0 (further_lines plan) 2 steps made.1 in
    let ends = head_ends plan.n made.0 begun.0 tasks sound.procs.1 within in
    let read : HeadRead = record { head = made.0; last = begun.0; after = lines_of steps } in
    let head_is : head_by is_task_word (first_head plan.n) 2
    (lines_of (text_of (further_lines plan) ++ steps)) ≡ Ok read = begun.1 ∙ ends in
    record {
      read = read;
      head = rw (lines, processes_in-worded plan.n sound.procs.0 sound.procs.1) head_is;
      plan_of_head = made.2;
      checked = checked;
      lines = ap (λ n. steps_by workloads n begun.0 0 (lines_of steps)) (sym made.2.n)
          ∙ steps_by-task_lines plan.n begun.0 0 tasks sound.procs.1 within (omega (arith, could.few_tasks));
    }
