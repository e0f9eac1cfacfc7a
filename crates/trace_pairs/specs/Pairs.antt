-- Which moments two of several hosts have, and of which two a moment is told.
use Rattle.std.specs.Prelude.{◌≡◌, ℕ, ◌<◌, ◌⊎◌, List, length, string_bytes}
use Rattle.regex.specs.Patterns.{Re}
use Rattle.trace_log.specs.Log.{Logged}
use Rattle.trace_moment.specs.Moment.{HostWatch, Taken, IsEarliest, IsKnown}
use Rattle.trace_moment.specs.Standing.{HasNoMoment, NoneIsKnown}
use Rattle.trace_condition.specs.declared.rule.Rule.{Rule}
use Rattle.trace_condition.specs.Asked.{Text}
use Rattle.trace_pairs.specs.declared.moment.PairMember.{PairMember}
use Rattle.trace_pairs.specs.declared.moment.PairMoment.{PairMoment}
use Rattle.trace_pairs.specs.Taking.{watches_of, taken_by}
use Rattle.trace_pairs.specs.Hosts.{host_at}

-- Two hosts come before two others, by their places: by the first, or by the second where the first is the same.
abbrev pub IsLower : ℕ → ℕ → ℕ → ℕ → Type 0
IsLower p q first second = (p < first) ⊎ ((p ≡ first) × (q < second))

-- This is so of two hosts of a log, by what is watched and what is taken of them.
abbrev pub OfTwo : (List HostWatch → List Taken → Type 0) → Rule Re → List Logged → Text → Text → Type 0
OfTwo P rule logged first second = P (watches_of rule first second) (taken_by rule logged first second)

-- It is so of each two.
abbrev pub OfEachTwo : (List HostWatch → List Taken → Type 0) → Rule Re → List Logged → List Text → Type 0
OfEachTwo P rule logged hosts = (p q : ℕ) → p < q → q < length hosts →
    OfTwo P rule logged (host_at hosts p) (host_at hosts q)

-- No moment of any two is known, or there is none of any two.
abbrev pub NoPairIsKnown : Rule Re → List Logged → List Text → Type 0
NoPairIsKnown rule logged hosts = OfEachTwo NoneIsKnown rule logged hosts

abbrev pub NoPairHasOne : Rule Re → List Logged → List Text → Type 0
NoPairHasOne rule logged hosts = OfEachTwo HasNoMoment rule logged hosts

-- An event of a host is told.
pub record TellsMember (host : Text) (logged : Logged) (member : PairMember) : Type 0 where
  pub of_host : string_bytes member.host ≡ host
  pub line : member.line ≡ logged.line
  pub text : string_bytes member.text ≡ logged.event.text

-- A moment of two hosts is told, by its two events.
pub record Tells (first second : Text) (moment : ℕ → Logged) (told : PairMoment) : Type 0 where
  pub of_first : TellsMember first (moment 0) told.first
  pub of_second : TellsMember second (moment 1) told.second

-- The moment that is told is that of two hosts, and of no two that come before them there is one.
pub record IsOfLowest (Is : List HostWatch → List Taken → (ℕ → Logged) → Type 0)
    (IsNone : List HostWatch → List Taken → Type 0) (rule : Rule Re) (logged : List Logged) (hosts : List Text)
    (told : PairMoment) : Type 0 where
  pub first : ℕ
  pub second : ℕ
  pub order : first < second
  pub within : second < length hosts
  pub lower : (p q : ℕ) → p < q → q < length hosts → IsLower p q first second →
      OfTwo IsNone rule logged (host_at hosts p) (host_at hosts q)
  pub moment : ℕ → Logged
  pub is : OfTwo (λ watched taken. Is watched taken moment) rule logged (host_at hosts first) (host_at hosts second)
  pub tells : Tells (host_at hosts first) (host_at hosts second) moment told

-- It is known, of the first two hosts of which one is.
abbrev pub IsLowestKnown : Rule Re → List Logged → List Text → PairMoment → Type 0
IsLowestKnown rule logged hosts told = IsOfLowest IsKnown NoneIsKnown rule logged hosts told

-- It is the earliest of the first two hosts that have one.
abbrev pub IsLowestEarliest : Rule Re → List Logged → List Text → PairMoment → Type 0
IsLowestEarliest rule logged hosts told = IsOfLowest IsEarliest HasNoMoment rule logged hosts told
