use Rattle.wcp_watch.proofs.Words.{◌≡◌, ◌+◌, Some, length, length-set, refl, ◌∙◌, arith, slice_set, most_relays}
use Rattle.wcp_watch.proofs.Words.{set_here}
use Rattle.wcp_watch.proofs.MatchedLinks.{few, feeds_apart, feeds_seated, has_inbox, inner_matched, is_refused}
use Rattle.wcp_watch.proofs.MatchedLinks.{its_links, lane_exact, leaf_matched, none_matched, rings_exact, whole_next}
use Rattle.wcp_watch.proofs.matching.match_links.Goals as goal
use Rattle.wcp_watch.proofs.matching.match_links.Goals.{in-Feeds+in_ok-match_rings-in-Feeds, in-Lane}

pub loop-number-init : goal.loop-number-init
loop-number-init c there =
    none_matched there (slice_set c.empty-inboxes.result 15 (Some c.args.root))
    (simp length-set c.empty-inboxes.ensures.all)
    (set_here c.empty-inboxes.result 15 (Some c.args.root) (omega arith))

pub take_end-parent-requires : goal.take_end-parent-requires
take_end-parent-requires c = whole_next c.requires c.loop-number-test.true (c.loop-number.invariant c.requires)

pub match_lane-requires : goal.match_lane-requires
match_lane-requires c =
    has_inbox c.requires c.loop-number-test.true (c.loop-number.invariant c.requires) c.take_end-parent.ensures.sat.2

pub returns-in_err-match_lane-clause-exact : goal.returns-in_err-match_lane-clause-exact
returns-in_err-match_lane-clause-exact c =
    let old = c.loop-number.invariant c.requires in
    let below = c.loop-number-test.true in
    let sat = c.take_end-parent.ensures.sat.2 in
    is_refused c.from_residual.result c.from_residual.ensures.0
    (λ all. cc ((lane_exact c.requires below old sat c.in_err-match_lane.ensures.exact).1
    (its_links c.requires below old sat all).lane))

pub match_rings-requires-clause-seated : goal.match_rings-requires-clause-seated
match_rings-requires-clause-seated c =
    feeds_seated c.requires c.loop-number-test.true (c.loop-number.invariant c.requires)
    (rw c.in-Feeds.is at c.take_end-parent.ensures.sat.2)

pub match_rings-requires-clause-apart : goal.match_rings-requires-clause-apart
match_rings-requires-clause-apart c =
    feeds_apart c.requires c.loop-number-test.true (c.loop-number.invariant c.requires)
    (rw c.in-Feeds.is at c.take_end-parent.ensures.sat.2)

pub returns-in_err-match_rings-in-Feeds-clause-exact : goal.returns-in_err-match_rings-in-Feeds-clause-exact
returns-in_err-match_rings-in-Feeds-clause-exact c =
    let old = c.loop-number.invariant c.requires in
    let below = c.loop-number-test.true in
    let sat = rw c.in-Feeds.is at c.take_end-parent.ensures.sat.2 in
    is_refused c.from_residual-in_err-match_rings-in-Feeds.result c.from_residual-in_err-match_rings-in-Feeds.ensures.0
    (λ all. cc (c.in_err-match_rings-in-Feeds.ensures.exact.1
    ((rings_exact c.requires below old sat).1 (its_links c.requires below old sat all).rings)))

pub keep-requires : goal.keep-requires
keep-requires c = omega (arith, few c.requires, c.match_lane.auto.inboxes, (c.loop-number.invariant c.requires).size)

pub loop-number-preserved : goal.loop-number-preserved
loop-number-preserved c there =
    let old = c.loop-number.invariant there in
    let below = c.loop-number-test.true in
    let sat = c.take_end-parent.ensures.sat.2 in
    let lane = (lane_exact there below old sat c.in_ok-match_lane.ensures.exact).0 refl in
    let size : length c.match_lane.new.inboxes ≡ most_relays + 1 = c.match_lane.auto.inboxes ∙ old.size in
    elim c.match-taken-2.branch [
      | in-Feeds+in_ok-match_rings-in-Feeds w ↦
          rw (c.take_end-parent.ensures.gone, w.probes-is, w.inboxes-is)
          (leaf_matched there below old (rw w.in-Feeds.is at sat) c.in_ok-match_lane.ensures.kept size lane
          (w.in_ok-match_rings-in-Feeds.ensures.exact.0 refl) w.in_ok-match_rings-in-Feeds.ensures.others)
      | in-Lane w ↦
          rw (c.take_end-parent.ensures.gone, w.probes-is, w.inboxes-is, w.keep.ensures)
          (inner_matched there below old (rw w.in-Lane.is at sat) c.in_ok-match_lane.ensures.kept size lane)
    ]

pub returns-clause-exact : goal.returns-clause-exact
returns-clause-exact c = (
  λ _ number relay below sits.
      (c.loop-number.invariant c.requires).matched number relay (omega arith) sits,
  λ _. refl,
)
