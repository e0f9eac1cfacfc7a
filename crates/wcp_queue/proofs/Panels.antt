use Rattle.wcp_queue.proofs.Words.{◌≡◌, ℕ, ◌+◌, ◌<◌, ◌≤◌, true, false, Option, Some, None, List, [], ◌∷◌, ◌++◌}
use Rattle.wcp_queue.proofs.Words.{Bool, length, get_or, set, take, drop, refl, sym, ◌∙◌, ap, subst, arith, inl, inr}
use Rattle.wcp_queue.proofs.Words.{cases_eq, get_or_default, get_or-set_same, get_or-set_other, get_or-map, length-map}
use Rattle.wcp_queue.proofs.Words.{map_push, take-append-le, take_all, take_more, same_lists, true≢false, is_last, Item}
use Rattle.wcp_queue.proofs.Words.{NumberSet, CheckerState, cut_of, IsSearching, StandsForItems, processes}
use Rattle.std.specs.Prelude.{All}
use Rattle.wcp_queue.specs.Checker.{HasFound, TakesItem, KeepsFound, GrowsNothing, HasCountedNone, CountsItem}
use Rattle.wcp_queue.specs.Panel.{no_question, question_at, watched_by, StandForItems, TakesOrIsStarved, EachTakes}
use Rattle.wcp_queue.specs.Panel.{IsSoundPanel, HaveTakenAlike}

-- a checker that has found no cut and is not starved searches
pub searches : (checker : CheckerState) → (HasFound checker → ⊥) → (checker.starved ≡ true → ⊥) → IsSearching checker
searches checker unfound fed = record { none_found = none checker.found refl; not_starved = not checker.starved refl }
  where
    none : (found : Option (List ℕ)) → checker.found ≡ found → checker.found ≡ None
    none None is = is
    none (Some intervals) is =
        absurd (unfound (cut_of checker.count checker.members intervals, rw is refl))

    not : (starved : Bool) → checker.starved ≡ starved → checker.starved ≡ false
    not true is = absurd (fed is)
    not false is = is

-- one that had no memory for an item was starved, and took it then
pub TakesOrIsStarved-starved : (old fed new : CheckerState) (item : Item) → IsSearching old
    → (is_last item.note ≡ true → ⊥) → fed ≡ record old { starved = true }
    → ((items : List Item) → StandsForItems old items → StandsForItems fed items) → KeepsFound old fed
    → TakesItem fed new item → KeepsFound fed new → (¬ IsSearching fed → GrowsNothing fed new)
    → processes new ≡ processes fed → TakesOrIsStarved old new item
TakesOrIsStarved-starved old fed new item searching not_last is stands kept takes keeps grows same =
    let starved : fed.starved ≡ true = cc in
    let nothing : GrowsNothing fed new = grows (λ searches. true≢false (sym starved ∙ searches.not_starved)) in
    record {
      stands = λ items stood. takes.stands items (stands items stood);
      counts =
          let counts : CountsItem (record old { starved = true }) new item = rw is at takes.counts in
          record { taken = counts.taken; closed = counts.closed; lost = counts.lost };
      watched = cc;
      processes = cc;
      found_stays = λ cut found. keeps cut (kept cut found);
      stays_starved = λ _. takes.starved ∙ starved;
      last_needs_none = λ last. absurd (not_last last);
      needs_none = λ not. absurd (not searching);
      grows_nothing = λ not. absurd (not searching);
      starved_grows_nothing = λ _. record { queues = cc; floor = cc; found = cc };
    }

-- the questions below a place have taken an item, and the others stay; now the one at that place takes it too
module _ (old now : List CheckerState) (item : Item) (place : ℕ) (before after : CheckerState)
    (within : place < length now) (read : question_at now place ≡ before) where
  pub below_more : ((k : ℕ) → k < place → TakesOrIsStarved (question_at old k) (question_at now k) item)
      → ((k : ℕ) → place ≤ k → question_at now k ≡ question_at old k) → TakesOrIsStarved before after item
      → (k : ℕ) → k < place + 1 → TakesOrIsStarved (question_at old k) (question_at (set now place after) k) item
  below_more below above takes k under = elim (cases_eq k place) [
    | inl same ↦ rw (same, get_or-set_same now place after _ within, ← above place (omega arith), read) takes
    | inr other ↦ rw (get_or-set_other now place k after _ other) (below k (omega arith))
  ]

-- a panel whose questions each took an item has taken it
pub StandForItems-take : (old new : List CheckerState) (item : Item) (items : List Item) → EachTakes old new item
    → StandForItems old items → StandForItems new (items ++ item ∷ [])
StandForItems-take old new item items takes stand k d within =
    subst (λ (checker : CheckerState). StandsForItems checker (items ++ item ∷ []))
    (get_or_default new k no_question d within)
    ((takes.each k (omega (arith, takes.as_many))).stands items (stand k no_question (omega (arith, takes.as_many))))

-- checkers that have taken alike count an item alike
HaveTakenAlike-take : (one other new_one new_other : CheckerState) (item : Item) → HaveTakenAlike one other
    → TakesOrIsStarved one new_one item → TakesOrIsStarved other new_other item → HaveTakenAlike new_one new_other
HaveTakenAlike-take one other new_one new_other item alike takes other_takes =
    let counts = takes.counts in
    let other_counts = other_takes.counts in
    record { processes = cc; taken = cc; closed = cc; lost = cc }

pub IsSoundPanel-take : (old new : List CheckerState) (item : Item) → IsSoundPanel old → EachTakes old new item
    → IsSoundPanel new
IsSoundPanel-take old new item sound takes = record {
  some = omega (arith, sound.some, takes.as_many);
  alike = λ k d within. subst (HaveTakenAlike (question_at new 0)) (get_or_default new k no_question d within)
      (HaveTakenAlike-take (question_at old 0) (question_at old k) (question_at new 0) (question_at new k) item
      (sound.alike k no_question (omega (arith, takes.as_many))) (takes.each 0 sound.some)
      (takes.each k (omega (arith, takes.as_many))));
}

-- there is a set of watched processes for each question
length-watched_by : (panel : List CheckerState) → length (watched_by panel) ≡ length panel
length-watched_by panel = simp length-map

-- and its questions are the same
pub watched_by-take : (old new : List CheckerState) (item : Item) → EachTakes old new item
    → watched_by new ≡ watched_by old
watched_by-take old new item takes = same_lists (watched_by new) (watched_by old)
    (length-watched_by new ∙ takes.as_many ∙ sym (length-watched_by old))
    (λ k d within.
    let below : k < length new = omega (arith, length-watched_by new) in
    let below_old : k < length old = omega (arith, takes.as_many) in
    get_or-map (λ (checker : CheckerState). checker.watched) new k no_question d below
    ∙ (takes.each k below_old).watched
    ∙ sym (get_or-map (λ (checker : CheckerState). checker.watched) old k no_question d below_old))

-- what a vector has after all its items were written
pub written_back : (n : ℕ) (old new : List CheckerState) → n ≡ length old → length new ≡ length old
    → take n (new ++ drop (length new) old) ≡ new
written_back n old new all as_many =
    take-append-le n new (drop (length new) old) (omega (arith, all, as_many))
    ∙ take_all n new (omega (arith, all, as_many))

-- a question more of a panel that has taken nothing
pub watched_by-more : (panel : List CheckerState) (questions : List NumberSet) (i : ℕ) (checker : CheckerState)
    (watched : NumberSet) → i < length questions → watched ≡ get_or questions i watched → checker.watched ≡ watched
    → watched_by panel ≡ take i questions → watched_by (panel ++ checker ∷ []) ≡ take (i + 1) questions
watched_by-more panel questions i checker watched within read is old =
    let more = map_push (λ (checker : CheckerState). checker.watched) panel checker in
    let next = take_more questions i watched within in
    cc

pub IsSoundPanel-new : (panel : List CheckerState) (questions : List NumberSet) (n count : ℕ)
    → watched_by panel ≡ take count questions → length questions ≤ count → 0 < length questions
    → All (λ checker. processes checker ≡ n) panel → All HasCountedNone panel → IsSoundPanel panel
IsSoundPanel-new panel questions n count watched all some same none = record {
  some = first_within;
  alike = λ k d within.
      let n_first = same 0 no_question first_within in
      let n_other = same k d within in
      let none_first = none 0 no_question first_within in
      let none_other = none k d within in
      record { processes = cc; taken = cc; closed = cc; lost = cc };
}
  where
    first_within : 0 < length panel
    first_within = omega (
      arith,
      length-watched_by panel,
      ap length (watched ∙ take_all count questions all),
      some,
    )
