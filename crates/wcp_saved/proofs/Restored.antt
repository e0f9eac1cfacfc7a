-- The parts of a checker that were read are those of its words.
use Rattle.std.proofs.Common.{◌≡◌, ℕ, Bool, true, false, ◌∷◌, ◌++◌, length, map, eqb, ap, sym, ◌∙◌, append_assoc, arith}
use Rattle.std.specs.FinSet as set
use Rattle.std.proofs.lemmas.List.FromFn.{length-map-range_with_len}
use Rattle.wcp_clock.specs.ProcessNumbers.{AreProcessNumbers, NumberSet}
use Rattle.wcp_queue.specs.declared.checker.parts.CheckerParts.{CheckerParts}
use Rattle.wcp_queue.specs.Checker.{CheckerState, IsSoundChecker}
use Rattle.wcp_queue.specs.Parts.{state_of}
use Rattle.wcp_queue.specs.Rows.{members_of}
use Rattle.wcp_saved.specs.Spelling.{magic, version, flag, flags, marks_of, cut_words, queues_words, words_of}

-- the words of a checker, field by field from the left
pub field_by_field : (checker : CheckerState) → words_of checker
    ≡ magic ∷ version ∷ checker.count ∷ checker.floor.tests ∷ flag checker.starved
    ∷ (flags (marks_of checker.watched) ++ (checker.taken ++ (flags checker.closed ++ (flags checker.lost
    ++ (checker.floor.components ++ (flags checker.floor.heads ++ (cut_words checker.found
    ++ queues_words checker.queues)))))))
field_by_field checker = simp append_assoc

pub record AreParts (parts : CheckerParts) (checker : CheckerState) : Type 0 where
  pub count : parts.processes ≡ checker.count
  pub watched : parts.watched ≡ checker.watched
  pub queues : map (λ row. row.items) parts.queues.items ≡ checker.queues
  pub components : parts.floor ≡ checker.floor.components
  pub heads : parts.heads ≡ checker.floor.heads
  pub tests : parts.tests ≡ checker.floor.tests
  pub taken : parts.taken ≡ checker.taken
  pub closed : parts.closed ≡ checker.closed
  pub lost : parts.lost ≡ checker.lost
  pub found : parts.found ≡ checker.found
  pub starved : parts.starved ≡ checker.starved

pub state_is : (parts : CheckerParts) (checker : CheckerState) → IsSoundChecker checker → AreParts parts checker
    → state_of parts ≡ checker
state_is parts checker sound are =
    let members : members_of parts.processes parts.watched ≡ checker.members =
    (λ j. members_of (are.count j) (are.watched j)) ∙ sym sound.members in
    λ j. record {
      count = are.count j;
      watched = are.watched j;
      members = members j;
      queues = are.queues j;
      floor = record { components = are.components j; heads = are.heads j; tests = are.tests j };
      taken = are.taken j;
      closed = are.closed j;
      lost = are.lost j;
      found = are.found j;
      starved = are.starved j;
    }

pub starved_is : (word : ℕ) (starved : Bool) → word ≡ flag starved → eqb word 1 ≡ starved
starved_is word true e = ap (λ n. eqb n 1) e
starved_is word false e = ap (λ n. eqb n 1) e

pub long_marks : (watched : NumberSet) → length (marks_of watched) ≡ 16
long_marks watched = length-map-range_with_len (set.contains watched) 0 16

-- the watched processes of a checker are some of at most 16
pub few_numbers : (checker : CheckerState) → IsSoundChecker checker → AreProcessNumbers checker.watched
few_numbers checker sound p member = omega (arith, sound.watched.within p member, sound.few)
