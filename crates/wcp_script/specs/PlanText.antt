-- The text of a workload under its plan.
use Rattle.std.specs.Prelude.{◌==◌, ◌&&◌, ℕ, ◌+◌, Bool, true, false, List, [], ◌∷◌, ◌++◌, length, map, Option, Some}
use Rattle.std.specs.Prelude.{None, codes, if◌then◌else◌}
use Rattle.std.specs.FinSet as set
use Rattle.std.specs.List.{flat_map, list_all, range_with_len}
use Rattle.std.specs.Fmt.{decimal}
use Rattle.wcp_model.specs.declared.flag.Flag.{Flag}
use Rattle.wcp_model.specs.declared.flag.Flag.TheVariants as reset_at
use Rattle.wcp_model.specs.declared.plan.Parent.{Parent}
use Rattle.wcp_model.specs.declared.plan.Parent.TheVariants.{Root, Relay}
use Rattle.wcp_model.specs.declared.plan.Plan.{Plan}
use Rattle.wcp_model.specs.declared.workload.Task.{Task}
use Rattle.wcp_clock.specs.ProcessNumbers.{NumberSet}
use Rattle.wcp_script.specs.Capacities.{plain_cap, plain_hold}
use Rattle.wcp_script.specs.Lines.{Word, space, text_of}
use Rattle.wcp_script.specs.WorkloadText.{task_words}

-- The first two lines: the format with its version, and the number of processes.
abbrev pub opening_lines : ℕ → List (List Word)
opening_lines n = (codes "wcp" ∷ codes "1" ∷ []) ∷ (codes "procs" ∷ decimal n ∷ []) ∷ []

-- The lines of the capacities, where they aren't the plain ones.
abbrev pub cap_lines : ℕ → List (List Word)
cap_lines cap = if cap == plain_cap then [] else (codes "cap" ∷ decimal cap ∷ []) ∷ []

abbrev pub hold_lines : ℕ → List (List Word)
hold_lines hold = if hold == plain_hold then [] else (codes "hold" ∷ decimal hold ∷ []) ∷ []

-- The word for what a relay passes its items to.
abbrev pub parent_word : Parent → Word
parent_word Root = codes "root"
parent_word (Relay above) = decimal above

-- The line of a relay.
abbrev pub relay_lines : ℕ → Parent → List (List Word)
relay_lines relay parent = (codes "relay" ∷ decimal relay ∷ parent_word parent ∷ []) ∷ []

-- The line of a process that a relay serves; none for one that is unattached.
abbrev pub attach_lines : ℕ → Option ℕ → List (List Word)
attach_lines p None = []
attach_lines p (Some relay) = (codes "attach" ∷ decimal p ∷ decimal relay ∷ []) ∷ []

-- The lines of the elements of a list, numbered on from the given one.
abbrev pub numbered : {X : Type 0} → (ℕ → X → List (List Word)) → ℕ → List X → List (List Word)
numbered lines i [] = []
numbered lines i (x ∷ xs) = lines i x ++ numbered lines (i + 1) xs

-- The first relay serves the process.
abbrev pub is_first : Option ℕ → Bool
is_first None = false
is_first (Some relay) = relay == 0

abbrev pub is_root_alone : List Parent → Bool
is_root_alone (Root ∷ []) = true
is_root_alone parents = false

-- The plan has one relay, under the root, and it serves every process.
abbrev pub has_one_relay : Plan → Bool
has_one_relay plan =
    is_root_alone plan.parents.items && (length plan.attach.items == plan.n && list_all is_first plan.attach.items)

-- The lines of the tree, where it has more than the one relay that serves every process.
abbrev pub tree_lines : Plan → List (List Word)
tree_lines plan =
    if has_one_relay plan then []
    else numbered relay_lines 0 plan.parents.items ++ numbered attach_lines 0 plan.attach.items

-- The word of a process that is watched.
abbrev pub watched_words : NumberSet → ℕ → List Word
watched_words watched p = if set.contains watched p then decimal p ∷ [] else []

-- It is printed behind a space.
abbrev pub spaced_word : NumberSet → ℕ → List ℕ
spaced_word watched p = if set.contains watched p then space ∷ decimal p else []

-- Each of the n processes is watched.
abbrev pub are_all_watched : ℕ → NumberSet → Bool
are_all_watched n watched = list_all (set.contains watched) (range_with_len 0 n)

-- The line that names those of the n processes that are watched, where not all are.
abbrev pub watch_lines : ℕ → NumberSet → List (List Word)
watch_lines n watched =
    if are_all_watched n watched then []
    else (codes "watch" ∷ flat_map (watched_words watched) (range_with_len 0 n)) ∷ []

-- The line that says what resets the flag, where it isn't each event.
abbrev pub flag_lines : Flag → List (List Word)
flag_lines reset_at.Event = []
flag_lines reset_at.Send = (codes "flag" ∷ codes "send" ∷ []) ∷ []

-- The lines of the head.
abbrev pub head_lines : Plan → List (List Word)
head_lines plan =
    opening_lines plan.n ++ (cap_lines plan.cap ++ (hold_lines plan.hold
    ++ (tree_lines plan ++ (watch_lines plan.n plan.watched ++ flag_lines plan.flag))))

-- The text of the first two lines.
abbrev pub opening_text : ℕ → List ℕ
opening_text n = text_of (opening_lines n)

-- The text of a workload: its head, and a line for each task.
unfoldable pub text_of_workload : Plan → List Task → List ℕ
text_of_workload plan tasks = text_of (head_lines plan ++ map task_words tasks)
