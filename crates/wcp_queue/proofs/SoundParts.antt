-- The parts of a checker, and what is true of every checker.
use Rattle.wcp_queue.proofs.Words.{◌≡◌, ℕ, ◌+◌, ◌*◌, ◌≤◌, List, length, sum, map, refl, sym, subst, members_of}
use Rattle.wcp_queue.proofs.Words.{HaveHeads, waiting_in, tests_each, IsSoundChecker}
use Rattle.wcp_queue.specs.declared.checker.parts.CheckerParts.{CheckerParts}
use Rattle.wcp_queue.specs.Parts.{state_of, HaveSoundCounts, IsSoundSearch}

module _ (parts : CheckerParts) where
  abbrev members : List ℕ
  members = members_of parts.processes parts.watched

  abbrev queues : List (List (List ℕ))
  queues = map (λ row. row.items) parts.queues.items

  pub HaveSoundCounts-checker : IsSoundChecker (state_of parts) → HaveSoundCounts (state_of parts)
  HaveSoundCounts-checker sound =
      record { few = sound.few; watched = sound.watched; few_taken = sound.few_taken; apart = sound.apart }

  pub IsSoundSearch-checker : IsSoundChecker (state_of parts)
      → IsSoundSearch (length members) queues (state_of parts).floor parts.found parts.taken
  IsSoundSearch-checker sound = record {
    as_many = sound.rows;
    intervals = sound.intervals;
    stable = sound.stable;
    waiting = λ none. subst (λ n. HaveHeads n (state_of parts).floor → ⊥) sound.rows (sound.waiting none);
    bound = subst (λ n. parts.tests + tests_each n * waiting_in queues ≤ tests_each n * sum parts.taken) sound.rows
        sound.bound;
  }

  pub IsSoundChecker-parts : length parts.taken ≡ 16 → length parts.closed ≡ 16 → length parts.lost ≡ 16
      → HaveSoundCounts (state_of parts)
      → IsSoundSearch (length members) queues (state_of parts).floor parts.found parts.taken
      → IsSoundChecker (state_of parts)
  IsSoundChecker-parts counts marks losses have search = record {
    few = have.few;
    watched = have.watched;
    members = refl;
    rows = search.as_many;
    intervals = search.intervals;
    counts = counts;
    marks = marks;
    losses = losses;
    apart = have.apart;
    few_taken = have.few_taken;
    stable = search.stable;
    waiting = λ none.
        subst (λ n. HaveHeads n (state_of parts).floor → ⊥) (sym search.as_many) (search.waiting none);
    bound = subst (λ n. parts.tests + tests_each n * waiting_in queues ≤ tests_each n * sum parts.taken)
        (sym search.as_many) search.bound;
  }
