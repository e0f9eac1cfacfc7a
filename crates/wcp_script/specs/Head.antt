-- The head of a text, line by line, and the plan that it describes.
use Rattle.std.specs.Prelude.{◌≡◌, ◌==◌, ◌&&◌, ℕ, ◌+◌, ◌<◌, ◌≤◌, Bool, true, not, drop, List, [], ◌∷◌, ◌++◌, length}
use Rattle.std.specs.Prelude.{replicate, slice_set, nat_lt, nat_le, Option, Some, None, is_none, Result, Ok, Err, codes}
use Rattle.std.specs.Prelude.{if◌then◌else◌}
use Rattle.std.specs.FinSet as set
use Rattle.std.specs.List.{list_all}
use Rattle.wcp_clock.specs.ProcessNumbers.{NumberSet}
use Rattle.std.specs.Str.{bytes_eq}
use Rattle.std.specs.Option.{ok_or, unwrap_or}
use Rattle.wcp_clock.specs.Limits.{most_processes, most_cap, most_hold, most_relays}
use Rattle.wcp_model.specs.declared.flag.Flag.{Flag}
use Rattle.wcp_model.specs.declared.flag.Flag.TheVariants as reset_at
use Rattle.wcp_model.specs.declared.plan.Parent.{Parent}
use Rattle.wcp_model.specs.declared.plan.Parent.TheVariants as parent
use Rattle.wcp_model.specs.declared.plan.Plan.{Plan}
use Rattle.wcp_model.specs.PlainPlan.{plain_parents, plain_attach}
use Rattle.wcp_script.specs.declared.fault.FaultKind.{FaultKind}
use Rattle.wcp_script.specs.declared.fault.FaultKind.TheVariants as kind
use Rattle.wcp_script.specs.declared.fault.ScriptFault.{ScriptFault}
use Rattle.wcp_script.specs.declared.head_line.HeadLine.{HeadLine}
use Rattle.wcp_script.specs.declared.head_line.HeadLine.TheVariants.{Cap, Hold, Relay, Attach, Watch, Reset}
use Rattle.wcp_script.specs.Capacities.{plain_cap, plain_hold}
use Rattle.wcp_script.specs.Lines.{TextLine, lines_of, words_of}
use Rattle.wcp_script.specs.Judgement.{◌>>=◌, ask, number_in, at_line}

-- Line 1 is `wcp 1`.
abbrev pub is_version : TextLine → Bool
is_version line = line.ended && bytes_eq line.bytes (codes "wcp 1")

-- The word in the place of N, where the words have the form `procs N`.
abbrev pub count_word : List (List ℕ) → Option (List ℕ)
count_word (first ∷ count ∷ []) = if bytes_eq first (codes "procs") then Some count else None
count_word words = None

-- Line 2 is `procs N`, with N from 1 to 16.
unfoldable pub processes_in : TextLine → Result ℕ FaultKind
processes_in line = do
  word ← ok_or (if line.ended then count_word (words_of line.bytes) else None) kind.Header
  n ← number_in word
  _ ← ask (nat_le 1 n && nat_le n most_processes) kind.Plan
  Ok n

-- The number of processes, by the first two lines of the text. A line that is missing is wrong.
unfoldable pub processes_by : List TextLine → Result ℕ ScriptFault
processes_by [] = at_line 1 (Err kind.Header)
processes_by (version ∷ []) = at_line (if is_version version then 2 else 1) (Err kind.Header)
processes_by (version ∷ processes ∷ others) =
    if is_version version then at_line 2 (processes_in processes) else at_line 1 (Err kind.Header)

-- What the lines of a head said so far: the number of processes, the capacities, the parent of each relay, the relay of
-- each process, which process the last attach line named, whom a watch line named, and what a flag line said.
pub record Head : Type 0 where
  pub n : ℕ
  pub cap : Option ℕ
  pub hold : Option ℕ
  pub parents : List Parent
  pub attach : List (Option ℕ)
  pub last_attached : Option ℕ
  pub watched : Option NumberSet
  pub flag : Option Flag

-- The head of two lines.
abbrev pub first_head : ℕ → Head
first_head n = record {
  n = n;
  cap = None;
  hold = None;
  parents = [];
  attach = replicate n None;
  last_attached = None;
  watched = None;
  flag = None;
}

-- The head has no relay line.
abbrev pub has_no_relay : Head → Bool
has_no_relay head = length head.parents == 0

-- `cap C` stands before the other lines of its kind, and C is 1 to 1,024.
abbrev pub cap_line : Head → List ℕ → Result HeadLine FaultKind
cap_line head word = do
  _ ← ask (is_none head.cap && is_none head.hold && has_no_relay head) kind.Line
  cap ← number_in word
  _ ← ask (nat_le 1 cap && nat_le cap most_cap) kind.Plan
  Ok (Cap cap)

-- `hold H` stands before the relay and attach lines, and H is 1 to 64.
abbrev pub hold_line : Head → List ℕ → Result HeadLine FaultKind
hold_line head word = do
  _ ← ask (is_none head.hold && has_no_relay head) kind.Line
  hold ← number_in word
  _ ← ask (nat_le 1 hold && nat_le hold most_hold) kind.Plan
  Ok (Hold hold)

-- The parent of a relay: `root`, or the number of a relay.
abbrev pub parent_in : List ℕ → Result Parent FaultKind
parent_in word = if bytes_eq word (codes "root") then Ok parent.Root else (do
  above ← number_in word
  Ok (parent.Relay above))

-- The parent is the root or a relay of a lower number.
abbrev pub is_above : ℕ → Parent → Bool
is_above relay parent.Root = true
is_above relay (parent.Relay above) = nat_lt above relay

-- `relay R root` or `relay R S` stands before the attach lines; R is the next number and at most 14, and S is below R.
abbrev pub relay_line : Head → List ℕ → List ℕ → Result HeadLine FaultKind
relay_line head number above = do
  _ ← ask (is_none head.last_attached) kind.Line
  relay ← number_in number
  parent ← parent_in above
  _ ← ask (relay == length head.parents) kind.Line
  _ ← ask (nat_lt relay most_relays && is_above relay parent) kind.Plan
  Ok (Relay parent)

-- A process comes after the one before it, if there is one.
abbrev pub is_after : Option ℕ → ℕ → Bool
is_after None p = true
is_after (Some last) p = nat_lt last p

-- `attach P R` stands after a relay line; P comes after that of the attach line before, and is one of the processes.
abbrev pub attach_line : Head → List ℕ → List ℕ → Result HeadLine FaultKind
attach_line head process number = do
  _ ← ask (not (has_no_relay head)) kind.Line
  p ← number_in process
  relay ← number_in number
  _ ← ask (is_after head.last_attached p) kind.Line
  _ ← ask (nat_lt p head.n) kind.Process
  Ok (Attach p relay)

-- The words are numbers, each in the place of one.
abbrev pub numbers_in : List (List ℕ) → Result (List ℕ) FaultKind
numbers_in [] = Ok []
numbers_in (word ∷ words) = do
  number ← number_in word
  numbers ← numbers_in words
  Ok (number ∷ numbers)

-- The processes come each after the one before it, and the first of them after this one, if there is one.
abbrev pub rise_behind : Option ℕ → List ℕ → Bool
rise_behind before [] = true
rise_behind before (p ∷ ps) = is_after before p && rise_behind (Some p) ps

-- `watch I J ..` names one process or more, which rise and are among the n.
abbrev pub watch_line : ℕ → List (List ℕ) → Result HeadLine FaultKind
watch_line n [] = Err kind.Line
watch_line n (word ∷ words) = do
  numbers ← numbers_in (word ∷ words)
  _ ← ask (rise_behind None numbers) kind.Line
  _ ← ask (list_all (λ p. nat_lt p n) numbers) kind.Process
  Ok (Watch (set.from_list numbers))

-- What a further line of a head says, by its words, if it is no watch line.
abbrev pub words_before_watch : Head → List (List ℕ) → Result HeadLine FaultKind
words_before_watch head (first ∷ second ∷ []) =
    if bytes_eq first (codes "cap") then cap_line head second
    else (if bytes_eq first (codes "hold") then hold_line head second else Err kind.Line)
words_before_watch head (first ∷ second ∷ third ∷ []) =
    if bytes_eq first (codes "relay") then relay_line head second third
    else (if bytes_eq first (codes "attach") then attach_line head second third else Err kind.Line)
words_before_watch head words = Err kind.Line

-- `flag send` says that sends alone reset the flag.
abbrev pub flag_line : List (List ℕ) → Result HeadLine FaultKind
flag_line (word ∷ []) = if bytes_eq word (codes "send") then Ok (Reset reset_at.Send) else Err kind.Line
flag_line words = Err kind.Line

-- What a further line of a head says, by its words: behind a watch line only a flag line may stand.
abbrev pub head_words : Head → List (List ℕ) → Result HeadLine FaultKind
head_words head [] = Err kind.Line
head_words head (first ∷ words) =
    if bytes_eq first (codes "flag") then flag_line words
    else (if not (is_none head.watched) then Err kind.Line
    else (if bytes_eq first (codes "watch") then watch_line head.n words else words_before_watch head (first ∷ words)))

-- What a further line of a head says, if it has its LF and no flag line stands before it.
unfoldable pub head_line : Head → TextLine → Result HeadLine FaultKind
head_line head line =
    if line.ended && is_none head.flag then head_words head (words_of line.bytes) else Err kind.Line

-- A head allows one line for each capacity, one for each of at most 15 relays, one that names the watched and one that
-- says what resets the flag; and the processes that its lines attach rise and are below n.
abbrev pub IsAllowed : Head → HeadLine → Type 0
IsAllowed head (Cap cap) = head.cap ≡ None
IsAllowed head (Hold hold) = head.hold ≡ None
IsAllowed head (Relay parent) = length head.parents < most_relays
IsAllowed head (Attach p relay) = (is_after head.last_attached p ≡ true) × (p < head.n)
IsAllowed head (Watch named) = head.watched ≡ None
IsAllowed head (Reset flag) = head.flag ≡ None

-- How many lines a head has at most, by what they said: an attach line names a process above that of the one before it.
abbrev said_once : {X : Type 0} → Option X → ℕ
said_once None = 0
said_once (Some said) = 1

abbrev next_process : Option ℕ → ℕ
next_process None = 0
next_process (Some p) = p + 1

abbrev pub line_count : Head → ℕ
line_count head =
    2 + said_once head.cap + said_once head.hold + length head.parents + next_process head.last_attached
    + said_once head.watched + said_once head.flag

-- The lists of a head are within their limits: an entry for each process, and at most 15 relays.
pub record IsWithinLimits (head : Head) : Type 0 where
  pub few : head.n ≤ most_processes
  pub entries : length head.attach ≡ head.n
  pub relays : length head.parents ≤ most_relays
  pub next : next_process head.last_attached ≤ head.n

-- A head has at most 37 lines: the first two, one for each capacity, one for each relay and each process, one that
-- names the watched, and one that says what resets the flag.
abbrev pub most_head_lines : ℕ
most_head_lines = 6 + most_relays + most_processes

-- The head with one line more.
abbrev pub with_line : Head → HeadLine → Head
with_line head (Cap cap) = record head { cap = Some cap }
with_line head (Hold hold) = record head { hold = Some hold }
with_line head (Relay parent) = record head { parents = head.parents ++ parent ∷ [] }
with_line head (Attach p relay) = record head { attach = slice_set head.attach p (Some relay); last_attached = Some p }
with_line head (Watch named) = record head { watched = Some named }
with_line head (Reset flag) = record head { flag = Some flag }

-- A head that was read, with the number of its last line, and the lines after it.
pub record HeadRead : Type 0 where
  pub head : Head
  pub last : ℕ
  pub after : List TextLine

-- The first word of a line.
abbrev pub first_word : List (List ℕ) → List ℕ
first_word [] = []
first_word (word ∷ words) = word

-- The head goes on up to the first step line: the first whose first word passes the test.
unfoldable pub head_by : (List ℕ → Bool) → Head → ℕ → List TextLine → Result HeadRead ScriptFault
head_by is_step_word head last [] = Ok (record { head = head; last = last; after = [] })
head_by is_step_word head last (line ∷ lines) =
    if is_step_word (first_word (words_of line.bytes))
    then Ok (record { head = head; last = last; after = line ∷ lines })
    else (do
      said ← at_line (last + 1) (head_line head line)
      head_by is_step_word (with_line head said) (last + 1) lines)

-- The head of a text, where a word that passes the test begins a step line.
unfoldable pub head_of : (List ℕ → Bool) → List ℕ → Result HeadRead ScriptFault
head_of is_step_word text = do
  n ← processes_by (lines_of text)
  head_by is_step_word (first_head n) 2 (drop 2 (lines_of text))

-- A head has process p watched where its watch line names it; without such a line each of the n processes is watched.
abbrev pub is_watched_by : ℕ → Option NumberSet → ℕ → Bool
is_watched_by n None p = nat_lt p n
is_watched_by n (Some named) p = set.contains named p

-- The plan that a head describes: the plain capacities where it doesn't say others, without relay lines one relay under
-- the root, which serves every process, those watched that the head has so, and a flag that each event resets where no
-- flag line says other.
pub record IsPlanOf (head : Head) (plan : Plan) : Type 0 where
  pub n : plan.n ≡ head.n
  pub cap : plan.cap ≡ unwrap_or head.cap plain_cap
  pub hold : plan.hold ≡ unwrap_or head.hold plain_hold
  pub parents : plan.parents.items ≡ (if has_no_relay head then plain_parents else head.parents)
  pub attach : plan.attach.items ≡ (if has_no_relay head then plain_attach head.n else head.attach)
  pub watched : (p : ℕ) → set.contains plan.watched p ≡ is_watched_by head.n head.watched p
  pub flag : plan.flag ≡ unwrap_or head.flag reset_at.Event
