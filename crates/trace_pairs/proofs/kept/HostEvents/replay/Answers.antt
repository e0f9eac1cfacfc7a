use Rattle.trace_pairs.proofs.Words.{◌≡◌, ◌∙◌, ◌<◌, ◌+◌, [], ◌∷◌, ◌++◌, List, Option, ap, arith, length, length-map}
use Rattle.trace_pairs.proofs.Words.{map, refl}
use Rattle.trace_pairs.proofs.Words.{subst, sym, take, slice_index_or, option_map, option_to_list, get_or-map, Taken}
use Rattle.trace_pairs.proofs.Words.{AreInTurn, length-append}
use Rattle.std.proofs.Math.Seq.{get_or-append_seam}
use Rattle.trace_log.specs.Turns.{seen_logged}
use Rattle.trace_moment.specs.Search.{HasTaken}
use Rattle.trace_pairs.specs.declared.kept_taken.KeptTaken.{KeptTaken}
use Rattle.trace_pairs.specs.Kept.{all_kept, seen_events, seen_taken}
use Rattle.trace_pairs.proofs.Adding.{at_waiting, before_last, in_all, last_of_all, replays}
use Rattle.trace_pairs.proofs.kept.HostEvents.replay.Goals as goal

pub loop-one-preserved : goal.loop-one-preserved
loop-one-preserved c = record {
  watched = c.in_ok-take.ensures.watched ∙ c.loop-one.invariant.watched;
  taken = λ had named turn.
      let host = c.args.host.now in
      let items = c.args.self.now.waiting.items in
      let i = c.loop-one.one-index in
      let item = c.one-item.result in
      let kept = seen_events host c.args.self.now in
      let one : Taken = seen_taken host item in
      let value : c.deref-one-items.result.now ≡ items = c.deref-one-items.ensures.value in
      let within : i < length items = omega (arith, c.loop-one-test.true, ap length value) in
      let inside : i < length kept.waiting = omega (arith, within, length-map items (seen_taken host)) in
      let at : slice_index_or kept.waiting i one ≡ one = get_or-map (seen_taken host) items i item one within
      ∙ ap (seen_taken host) (sym (c.one-item.is ∙ ap (λ (l : List KeptTaken). slice_index_or l i item) value)) in
      replays (all_kept kept) host c.args.search.now c.loop-one.search c.take.new.self one
      (seen_logged c.logged.result) named c.loop-one.invariant.watched c.logged.ensures refl turn
      (λ taken before next. (c.in_ok-take.ensures.taken taken before next).0) i
      (in_all kept.waiting (option_to_list kept.last) i inside)
      (at_waiting kept.waiting (option_to_list kept.last) i one inside at)
      (c.loop-one.invariant.taken had named turn);
}

pub returns-in_ok-take-2-clause-taken : goal.returns-in_ok-take-2-clause-taken
returns-in_ok-take-2-clause-taken c had named turn =
    let host = c.args.host.now in
    let items = c.args.self.now.waiting.items in
    let i = c.loop-one.one-index in
    let kept = seen_events host c.args.self.now in
    let one : Taken = seen_taken host c.in-Some.last in
    let all_is : all_kept kept ≡ kept.waiting ++ one ∷ [] =
    ap (λ (o : Option KeptTaken). kept.waiting ++ option_to_list (option_map (seen_taken host) o)) c.in-Some.is in
    let value : c.deref-one-items.result.now ≡ items = c.deref-one-items.ensures.value in
    let many : i ≡ length kept.waiting = omega (
      arith,
      c.loop-one-test.false,
      c.loop-one.auto.one-index-end,
      ap length value,
      length-map items (seen_taken host),
    ) in
    let before : HasTaken (take i (kept.waiting ++ one ∷ [])) c.loop-one.search =
    subst (λ (l : List Taken). HasTaken (take i l) c.loop-one.search) all_is
    (c.loop-one.invariant.taken had named turn) in
    subst (λ (l : List Taken). HasTaken l c.take-in-Some.new.self) (sym all_is)
    (last_of_all kept.waiting one c.take-in-Some.new.self
    (replays (kept.waiting ++ one ∷ []) host c.args.search.now c.loop-one.search c.take-in-Some.new.self one
    (seen_logged c.logged-in-Some.result) named c.loop-one.invariant.watched c.logged-in-Some.ensures refl
    (subst AreInTurn all_is turn)
    (λ taken had_before next. (c.in_ok-take-2.ensures.taken taken had_before next).0) (length kept.waiting)
    (omega (arith, length-append kept.waiting (one ∷ [])))
    (get_or-append_seam kept.waiting one [] one)
    (before_last kept.waiting one c.loop-one.search i many before)))
