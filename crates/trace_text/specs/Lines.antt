-- An answer as lines of text.
use Rattle.std.specs.Prelude.{ℕ, ◌==◌, List, [], ◌∷◌, ◌++◌, codes, length, Option, Some, None, if◌then◌else◌}
use Rattle.std.specs.Fmt.{decimal}
use Rattle.std.specs.List.{flat_map}
use Rattle.trace_detect.specs.Told.{Told, ToldMember, ToldCount, ToldRun, definite, found, none, possible}
use Rattle.trace_names.specs.Names.{shown_name}
use Rattle.trace_text.specs.Waiting.{ToldWaiting}

-- The line of a host and its event in a moment.
abbrev pub member_line : ToldMember → List ℕ
member_line member =
    shown_name member.host ++ (codes " line " ++ (decimal member.line ++ (codes " " ++ (member.text ++ 10 ∷ []))))

-- The line of a host, how many events it has, and at how many its condition holds.
abbrev pub host_line : ToldCount → List ℕ
host_line count =
    shown_name count.host ++ (codes " events " ++ (decimal count.events
    ++ (codes " matched " ++ (decimal count.matched ++ 10 ∷ []))))

-- The lines of a run: those of its first event and of the one at which it is over, where that is known.
abbrev pub span_text : ℕ → Option ℕ → List ℕ
span_text line None = codes " line " ++ (decimal line ++ codes " on")
span_text line (Some over) = codes " lines " ++ (decimal line ++ (codes " to " ++ decimal over))

-- The line of a host and its run.
abbrev pub run_line : ToldRun → List ℕ
run_line run = shown_name run.host ++ (span_text run.line run.over ++ (codes " " ++ (run.text ++ 10 ∷ [])))

-- The lines of an answer.
abbrev pub lines_of : Told → List ℕ
lines_of (found members) = codes "found\n" ++ flat_map member_line members
lines_of (none counts) = codes "none\n" ++ flat_map host_line counts
lines_of (definite runs) = codes "definitely\n" ++ flat_map run_line runs
lines_of (possible members) = codes "possibly\n" ++ flat_map member_line members

-- What stands before the reasons of an answer: behind it in the same line where there is none of what was asked for.
abbrev pub why_head : Told → List ℕ
why_head (found members) = codes "why:\n"
why_head (none counts) = codes "why: "
why_head (definite runs) = codes "why:\n"
why_head (possible members) = codes "why:\n"

-- The lines of an answer, and of why it stands where that was asked.
abbrev pub why_lines : Told → List ℕ → List ℕ
why_lines told why = if length why == 0 then [] else why_head told ++ why

abbrev pub reasoned_lines : Told → List ℕ → List ℕ
reasoned_lines told why = lines_of told ++ why_lines told why

-- The lines in the place of an answer that isn't known.
abbrev pub unknown_lines : ToldWaiting → List ℕ
unknown_lines waiting = codes "unknown\nline " ++ (decimal waiting.line ++ (codes " waits for "
    ++ (shown_name waiting.id ++ (codes "\nlines that wait: " ++ (decimal waiting.count ++ 10 ∷ [])))))

-- What stands before them: the name of the question, where it has one.
abbrev pub name_text : Option (List ℕ) → List ℕ
name_text None = []
name_text (Some name) = name ++ codes ": "

-- How many moments there are.
abbrev pub moments_line : ℕ → List ℕ
moments_line count = codes "moments " ++ (decimal count ++ 10 ∷ [])
