use Rattle.wcp_queue.proofs.Words.{◌<◌, length, refl, arith, checker_state}
use Rattle.std.proofs.lemmas.Option.{MatchOption-at_none}
use Rattle.wcp_queue.proofs.SoundCheckers.{members_few, room_for_tests, intervals_of_heads, IsSoundChecker-snapshot}
use Rattle.wcp_queue.proofs.StandingForItems.{StandsForItems-snapshot, StandsForItems-counted}
use Rattle.wcp_queue.proofs.WatchedRows.{own_row}
use Rattle.wcp_queue.proofs.checker.Checker.take_snapshot.Goals as goal
use Rattle.wcp_queue.proofs.checker.Checker.take_snapshot.Goals.{in-Some+in_ok-add_known, in_default}

pub add_known-requires-clause-room : goal.add_known-requires-clause-room
add_known-requires-clause-room c = room_for_tests (checker_state c.self.inside) c.self.invariant

pub add_known-requires-clause-numbers : goal.add_known-requires-clause-numbers
add_known-requires-clause-numbers c = members_few (checker_state c.self.inside) c.self.invariant

pub add_known-requires-clause-whole : goal.add_known-requires-clause-whole
add_known-requires-clause-whole c = rw (← c.self.view_is) at c.knows_no_more-whole.ensures.known

pub invariant_of-self-2 : goal.invariant_of-self-2
invariant_of-self-2 c =
    let old = checker_state c.self.inside in
    let sound = c.self.invariant in
    let within = rw (← c.self.view_is) at c.requires.within in
    let few = rw (← c.self.view_is) at c.requires.few in
    let counted : c.args.p < length old.taken = omega (arith, within, sound.few, sound.counts) in
    elim c.match-row_to_search.branch [
      | in-Some+in_ok-add_known w ↦
          let added = w.in_ok-add_known.ensures in
          rw w.self-inside-is
          (IsSoundChecker-snapshot old sound _ c.args.p counted few refl refl refl added.rows
          refl refl refl (intervals_of_heads _ _ _ _ _ added.cut sound.rows)
          added.stable (λ none. MatchOption-at_none _ _ none added.cut) added.tests)
      | in_default w ↦
          rw w.self-inside-is
          (IsSoundChecker-snapshot old sound _ c.args.p counted few refl refl refl refl refl refl refl sound.intervals
          sound.stable sound.waiting (omega arith))
    ]

pub returns-clause-taken : goal.returns-clause-taken
returns-clause-taken c =
    let old = checker_state c.self.inside in
    let sound = c.self.invariant in
    let within = rw (← c.self.view_is) at c.requires.within in
    let still_open = rw (← c.self.view_is) at c.requires.still_open in
    let not_lost = rw (← c.self.view_is) at c.requires.not_lost in
    let counted : c.args.p < length old.taken = omega (arith, within, sound.few, sound.counts) in
    elim c.match-row_to_search.branch [
      | in-Some+in_ok-add_known w ↦
          let added = w.in_ok-add_known.ensures in
          let row_is = rw (← c.self.view_is) at w.in-Some.ensures.row in
          let row_within = rw (← c.self.view_is) at w.in-Some.ensures.within in
          rw (w.self-inside-is, ← c.self.view_is) (record {
            stands = λ list stands. StandsForItems-snapshot old _ sound list c.args.p c.args.clock.now stands within
                still_open not_lost counted refl refl refl added.rows refl refl refl
                w.in-Some.row (omega (arith, row_within, sound.rows)) (own_row _ _ _ row_is row_within)
                (rw (← c.self.view_is) at (w.in-Some.ensures.searching refl)) added.left added.cut;
            counts = record { taken = refl; closed = refl; lost = refl };
            starved = refl;
            watched = refl;
          })
      | in_default w ↦
          let none = c.row_to_search.ensures.none (rw w.in_default.is refl) in
          rw (w.self-inside-is, ← c.self.view_is) (record {
            stands = λ list stands. StandsForItems-counted old _ sound list c.args.p c.args.clock.now stands within
                still_open not_lost counted refl refl refl refl refl refl refl
                (rw (← c.self.view_is) at none) refl refl refl;
            counts = record { taken = refl; closed = refl; lost = refl };
            starved = refl;
            watched = refl;
          })
    ]
