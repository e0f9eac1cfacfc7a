-- Objects as most printers spell them: names and texts without escapes, and gaps behind braces, colons and commas.
use Rattle.std.specs.Prelude.{◌≡◌, ◌≤◌, ℕ, List, [], ◌∷◌, ◌++◌, map, Bool, true, false}
use Rattle.json.specs.Json.{Json, Members, no_members, member}
use Rattle.json.specs.Print.{escape, ends}
use Rattle.json.specs.Spaced.{IsGap, AreGaps, print_spaced}
use Rattle.json.specs.Token.{Token}
use Rattle.json.specs.Tree.{json_tokens, HasNumbers, depth}
use Rattle.trace_log.specs.Clock.{has_distinct_names}

-- A member of an object: its name, and its value.
pub record Field : Type 0 where
  pub name : List ℕ
  pub value : Json

-- The members of an object.
abbrev pub members_from : List Field → Members
members_from [] = no_members
members_from (first ∷ others) = member first.name first.value (members_from others)

-- Whether a value has just ended behind these pieces, and before them.
abbrev pub ended_by : Bool → List (List ℕ × Token) → Bool
ended_by ended [] = ended
ended_by ended (piece ∷ pieces) = ended_by (ends piece.1) pieces

-- A text spells a value, with gaps before its tokens. In no object of it stands a name twice, and it nests no deeper.
pub record Spells (most : ℕ) (value : Json) (text : List ℕ) : Type 0 where
  pub pieces : List (List ℕ × Token)
  pub gaps : AreGaps pieces
  pub are : map (λ piece. piece.1) pieces ≡ json_tokens value
  pub printed : text ≡ print_spaced false pieces
  pub ended : ended_by false pieces ≡ true
  pub numbers : HasNumbers value
  pub shallow : depth value ≤ most
  pub distinct : has_distinct_names value ≡ true

-- A text begins with a name and its colon behind this byte, and goes on with the rest.
pub record IsNamed (lead : ℕ) (name text rest : List ℕ) : Type 0 where
  pub before : List ℕ
  pub gap_before : IsGap before
  pub plain : escape name ≡ name
  pub parts : text ≡ lead ∷ (before ++ (34 ∷ (name ++ (34 ∷ (58 ∷ rest)))))

-- A text begins with a value, and goes on with the rest.
pub record BeginsWith (most : ℕ) (value : Json) (text rest : List ℕ) : Type 0 where
  pub spelled : List ℕ
  pub is : Spells most value spelled
  pub parts : text ≡ spelled ++ rest

-- A text begins with a member behind this byte, and goes on with the rest.
pub record IsField (most lead : ℕ) (field : Field) (text rest : List ℕ) : Type 0 where
  pub behind : List ℕ
  pub named : IsNamed lead field.name text behind
  pub valued : BeginsWith most field.value behind rest

-- A text spells these members one after another, the first behind this byte, and then the closing brace.
abbrev pub AreFields : ℕ → ℕ → List Field → List ℕ → Type 0
AreFields most lead [] text = text ≡ 125 ∷ []
AreFields most lead (first ∷ others) text =
    (rest : List ℕ) × IsField most lead first text rest × AreFields most 44 others rest

-- A text without escapes stands in quotes at the front.
pub record IsQuoted (said text rest : List ℕ) : Type 0 where
  pub plain : escape said ≡ said
  pub parts : text ≡ 34 ∷ (said ++ (34 ∷ rest))

-- A text begins with a value, whatever gap is put before it.
abbrev pub HasValue : Json → List ℕ → List ℕ → Type 0
HasValue value text rest = (gap : List ℕ) → IsGap gap → BeginsWith 1 value (gap ++ text) rest

-- A text is a value, whatever gap is put before it.
abbrev pub IsWord : Json → List ℕ → Type 0
IsWord value word = (gap : List ℕ) → IsGap gap → Spells 1 value (gap ++ word)
