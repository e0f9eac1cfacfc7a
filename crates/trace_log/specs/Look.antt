-- Clocks as most printers spell them: names without escapes, digits, and at most one space behind the brace, each colon
-- and each comma.
use Rattle.std.specs.Prelude.{◌≡◌, ◌<◌, ◌≤◌, ℕ, zero, suc, List, [], ◌∷◌, ◌++◌, length, Bool, true, false, Result, Ok}
use Rattle.std.specs.Fmt.{decimal}
use Rattle.json.specs.Print.{escape}
use Rattle.json.specs.Spaced.{IsGap}
use Rattle.trace_log.specs.Clock.{Member, most_number, number_of, are_distinct}
use Rattle.trace_log.specs.Names.{names_in}
use Rattle.trace_log.specs.declared.fault.LogFaultKind.{LogFaultKind}
use Rattle.trace_log.specs.Order.{falls}

-- A text begins with a member behind this byte, and goes on with the rest.
pub record IsMember (lead : ℕ) (name : List ℕ) (number : ℕ) (text rest : List ℕ) : Type 0 where
  pub before : List ℕ
  pub between : List ℕ
  pub gap_before : IsGap before
  pub gap_between : IsGap between
  pub most : number ≤ most_number
  pub parts : text
      ≡ lead ∷ (before ++ (34 ∷ (name ++ (34 ∷ (58 ∷ (between ++ (decimal number ++ rest)))))))

-- The byte in front of the member at a place: the brace, and then a comma each.
abbrev pub lead_at : ℕ → ℕ
lead_at zero = 123
lead_at (suc place) = 44

-- A text spells these members one after another, the first behind this byte, and then the closing brace.
abbrev pub AreMembers : ℕ → List Member → List ℕ → Type 0
AreMembers lead [] text = text ≡ 125 ∷ []
AreMembers lead (first ∷ others) text =
    (rest : List ℕ) × IsMember lead first.name first.number text rest × AreMembers 44 others rest

-- The members of a clock with other numbers.
abbrev pub renumbered : List Member → List ℕ → List Member
renumbered [] numbers = []
renumbered (first ∷ others) [] = []
renumbered (first ∷ others) (number ∷ numbers) =
    record { name = first.name; number = number } ∷ renumbered others numbers

-- None of them is lower.
abbrev pub AreNoLower : List Member → List ℕ → Type 0
AreNoLower [] numbers = Unit {0}
AreNoLower (first ∷ others) [] = ⊥
AreNoLower (first ∷ others) (number ∷ numbers) = (first.number ≤ number) × AreNoLower others numbers

-- A text spells the members of a clock with these numbers, none of which is lower.
pub record Looks (text : List ℕ) (clock : List Member) (numbers : List ℕ) : Type 0 where
  pub members : AreMembers 123 (renumbered clock numbers) text
  pub no_lower : AreNoLower clock numbers

-- Each name is spelled as it is.
abbrev pub ArePlain : List Member → Type 0
ArePlain [] = Unit {0}
ArePlain (first ∷ others) = (escape first.name ≡ first.name) × ArePlain others

-- What is spelled is a clock with these numbers, none of which is lower.
pub record NextNumbers (spelled : Result (List Member) LogFaultKind) (clock : List Member) (numbers : List ℕ) : Type 0
  where
    pub is : spelled ≡ Ok (renumbered clock numbers)
    pub no_lower : AreNoLower clock numbers

-- The same where the clock has a name, none twice, and each is spelled as it is, if that is said.
pub record Renumbers (is_plain : Bool) (spelled : Result (List Member) LogFaultKind) (clock : List Member)
    (numbers : List ℕ) : Type 0 where
  pub no_lower : AreNoLower clock numbers
  pub is : 0 < length clock → are_distinct (names_in clock) ≡ true → (is_plain ≡ true → ArePlain clock)
      → spelled ≡ Ok (renumbered clock numbers)

-- What is spelled is the next clock of a host, by the clock before: with these numbers, of which none is lower and its
-- own one is greater.
pub record LooksOn (name : List ℕ) (clock : List Member) (spelled : Result (List Member) LogFaultKind)
    (numbers : List ℕ) : Type 0 where
  pub is : spelled ≡ Ok (renumbered clock numbers)
  pub rises : number_of name clock < number_of name (renumbered clock numbers)
  pub none_falls : falls clock (renumbered clock numbers) ≡ false
  pub as_many : length clock ≤ length numbers
