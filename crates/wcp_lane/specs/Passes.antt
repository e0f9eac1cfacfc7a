-- What each end of a lane knows, and how this goes on at each step.
use Rattle.std.specs.Prelude.{◌≡◌, ℕ, ◌<◌, Bool, true, false, not, if◌then◌else◌, List, [], ◌∷◌, ◌++◌, map, All}
use Rattle.std.specs.List.{flat_map, range_with_len}
use Rattle.std.specs.Ordering.{nat_cmp}
use Rattle.std.specs.FinSet as set
use Rattle.std.specs.Coded.{Coded, coded_ℕ}
use Rattle.wcp_clock.specs.Limits.{most_processes}
use Rattle.wcp_model.specs.LaneRule.{LaneRule, items_from}
use Rattle.wcp_lane.specs.Message.{AllMayFollow}
use Rattle.wcp_lane.specs.declared.passes.Hand.{Hand}
use Rattle.wcp_lane.specs.declared.passes.Home.{Home}

abbrev pub Numbers : Type 0
Numbers = set.FinSet nat_cmp

abbrev pub numbers_code : Coded Numbers
numbers_code = set.code coded_ℕ

-- every number that an item in a lane may have
unfoldable pub all_numbers : Numbers
all_numbers = set.from_list (range_with_len 0 most_processes)

module _ {M : Type 0} where
  abbrev pub home : Numbers → List M → Home M
  home numbers put = record { numbers = numbers; put = put }

  -- an end that has put these messages, of these numbers
  abbrev pub putter : Numbers → List M → Hand M
  putter numbers put = record { takes = false; taken = []; home = home numbers put ∷ [] }

  -- the end that has taken these messages, and stands for the numbers of no putter
  abbrev pub taker : Numbers → List M → Hand M
  taker unowned taken = record { takes = true; taken = taken; home = home unowned [] ∷ [] }

  -- an end whose numbers went to another
  abbrev pub nobody : Hand M
  nobody = record { takes = false; taken = []; home = [] }

  -- without the numbers of a set
  abbrev pub without : Numbers → Hand M → Hand M
  without numbers v = record v { home = map (λ h. home (set.difference h.numbers numbers) h.put) v.home }

  -- with the numbers of another end too
  abbrev pub joined : Hand M → Hand M → Hand M
  joined v w = record v { home = w.home ++ v.home }

  -- an end has put the message, or taken it
  abbrev pub with_put : M → Hand M → Hand M
  with_put message v = record v { home = map (λ h. home h.numbers (h.put ++ message ∷ [])) v.home }

  abbrev pub with_taken : M → Hand M → Hand M
  with_taken message v = record v { taken = v.taken ++ message ∷ [] }

  abbrev pub IsPut : Hand M → M → Hand M → Type 0
  IsPut v message w = w ≡ with_put message v

-- all numbers below 16 but these
abbrev pub IsRest : Numbers → Numbers → Type 0
IsRest numbers rest = (p : ℕ) → p < most_processes → set.contains rest p ≡ not (set.contains numbers p)

module _ {M I : Type 0} (items : M → List I) (origin place : I → ℕ) (is_last : I → Bool) where
  -- the items of a message that was taken are of numbers below 16 that some putter has, and may follow those taken
  -- before
  pub record IsFresh (unowned : Numbers) (taken : List M) (message : M) : Type 0 where
    pub numbered : All (λ item. origin item < most_processes) (items message)
    pub follows : (members : Numbers) → IsRest members unowned
        → AllMayFollow origin place is_last members (flat_map items taken) (items message)

  abbrev pub IsTaken : Hand M → M → Hand M → Type 0
  IsTaken v message w =
      (w ≡ with_taken message v)
      × ((unowned : Numbers) (taken : List M) → v ≡ taker unowned taken → IsFresh unowned taken message)

-- what an end has taken, if it is the one that takes
abbrev pub taken_of : {M : Type 0} → Hand M → List (List M)
taken_of v = if v.takes then v.taken ∷ [] else []

module _ {M I : Type 0} (items : M → List I) (origin : I → ℕ) where
  -- what an end has put of a number: one list for each time that it stands for the number
  abbrev pub put_of : ℕ → Hand M → List (List I)
  put_of p v =
      flat_map (λ h. if set.contains h.numbers p then items_from origin p (flat_map items h.put) ∷ [] else []) v.home

  -- of each number that this end stands for, what was put is what this end took and then what the lane holds
  abbrev pub IsBalanced : Hand M → List M → Type 0
  IsBalanced v within =
      v.takes ≡ true
      → (p : ℕ) → p < most_processes
      → All (λ put. put
      ≡ items_from origin p (flat_map items v.taken) ++ items_from origin p (flat_map items within)) (put_of p v)

-- the lane rule over what the lane holds and what the ends know: one end takes, and has taken what was taken; and for
-- each number one end stands for it, once, and has put what was put of it
pub record IsRuled
    {M I : Type 0} (items : M → List I) (origin place : I → ℕ) (is_last : I → Bool)
    (within : List M) (ends : List (Hand M)) : Type 0 where
  pub taken : List M
  pub put : ℕ → List I
  pub rule : LaneRule origin place is_last (flat_map items taken) (flat_map items within) put
  pub takes : flat_map taken_of ends ≡ taken ∷ []
  pub stands : (p : ℕ) → p < most_processes → flat_map (put_of items origin p) ends ≡ put p ∷ []
