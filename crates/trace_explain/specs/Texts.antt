-- The text of an explanation: a sentence a line.
use Rattle.std.specs.Prelude.{ℕ, ◌+◌, ◌==◌, List, [], ◌∷◌, ◌++◌, codes, Option, Some, None, if◌then◌else◌}
use Rattle.std.specs.Fmt.{decimal}
use Rattle.std.specs.List.{flat_map}
use Rattle.trace_moment.specs.declared.watched.Lasting.{Lasting}
use Rattle.trace_moment.specs.declared.watched.Lasting.TheVariants.{While, At}
use Rattle.trace_moment.specs.Moment.{HostWatch, watch_at}
use Rattle.trace_names.specs.Names.{shown_name}
use Rattle.trace_explain.specs.declared.reason.StateOver.{StateOver}
use Rattle.trace_explain.specs.declared.reason.HeldState.{HeldState}
use Rattle.trace_explain.specs.declared.reason.Explanation.{Explanation}
use Rattle.trace_explain.specs.declared.reason.Explanation.TheVariants.{Found, NoneLeft}

-- A line for each element, by its place.
abbrev pub numbered : {X : Type 0} → (ℕ → X → List ℕ) → ℕ → List X → List ℕ
numbered line p [] = []
numbered line p (x ∷ xs) = line p x ++ numbered line (p + 1) xs

-- The name of a host, as a line shows it.
abbrev pub name_at : List HostWatch → ℕ → List ℕ
name_at watched p = shown_name (watch_at watched p).host

-- When the condition of a host holds; a state under `At` is its event.
abbrev pub held_line : List ℕ → ℕ → Option ℕ → List ℕ
held_line name begun (Some until) = name ++ (codes "'s condition holds from line " ++ (decimal begun
    ++ (codes " until line " ++ (decimal until ++ 10 ∷ []))))
held_line name begun None = name ++ (codes "'s condition holds from line " ++ (decimal begun ++ codes " on\n"))

abbrev pub state_line : Lasting → List ℕ → HeldState → List ℕ
state_line While name held = held_line name held.begun held.until
state_line At name held = name ++ (codes "'s state is the event at line " ++ (decimal held.line ++ 10 ∷ []))

abbrev pub state_of : List HostWatch → ℕ → HeldState → List ℕ
state_of watched p held = state_line (watch_at watched p).lasting (name_at watched p) held

-- What a member of the moment knows of another host.
abbrev pub known_line : List ℕ → ℕ → List ℕ → Option ℕ → List ℕ
known_line name line other (Some known) = name ++ (codes " at line " ++ (decimal line ++ (codes " knows "
    ++ (other ++ (codes " up to line " ++ (decimal known ++ 10 ∷ []))))))
known_line name line other None =
    name ++ (codes " at line " ++ (decimal line ++ (codes " knows no line of " ++ (other ++ 10 ∷ []))))

abbrev pub known_of : List HostWatch → ℕ → ℕ → ℕ → Option ℕ → List ℕ
known_of watched p line q known =
    if q == p then [] else known_line (name_at watched p) line (name_at watched q) known

abbrev pub known_lines : List HostWatch → ℕ → HeldState → List ℕ
known_lines watched p held = numbered (known_of watched p held.line) 0 held.knows.items

-- Why a state is in no moment.
abbrev pub over_line : List HostWatch → ℕ → StateOver → List ℕ
over_line watched p over = name_at watched p ++ (codes " line " ++ (decimal over.line ++ (codes " is over at line "
    ++ (decimal over.at_line ++ (codes " of " ++ (name_at watched over.at_place ++ (codes ", which knows "
    ++ (name_at watched p ++ (codes " up to line " ++ (decimal over.knows_up_to ++ 10 ∷ []))))))))))

abbrev pub none_lines : List HostWatch → ℕ → List StateOver → List ℕ
none_lines watched p [] = name_at watched p ++ codes "'s condition holds at no event\n"
none_lines watched p (first ∷ others) = codes "no state of " ++ (name_at watched p ++ (codes " is left\n"
    ++ flat_map (over_line watched p) (first ∷ others)))

-- What is said of the members of a moment.
abbrev pub found_text : List HostWatch → List HeldState → List ℕ
found_text watched held = numbered (state_of watched) 0 held ++ numbered (known_lines watched) 0 held

-- An explanation, printed.
abbrev pub explanation_text : List HostWatch → Explanation → List ℕ
explanation_text watched (Found held) = found_text watched held.items
explanation_text watched (NoneLeft p over) = none_lines watched p over.items
