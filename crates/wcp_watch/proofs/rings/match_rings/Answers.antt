use Rattle.wcp_watch.proofs.Words.{arith, true≢false, sym, ap, ◌∙◌, gets, EndedSide, SitsAt}
use Rattle.wcp_watch.proofs.MatchedRings.{one_matched, one_ring, sits_still, unmatched}
use Rattle.wcp_watch.proofs.rings.match_rings.Goals as goal

pub unreachable-requires : goal.unreachable-requires
unreachable-requires c =
    let sits = sits_still c.requires.seated c.requires.apart c.pop.new.self.items c.in-Some.feed c.loop-feed.invariant
    c.in-Some.ensures.items in
    grind (arith, gets, sits)

pub match_ends-requires : goal.match_ends-requires
match_ends-requires c =
    let sits : SitsAt c.loop-feed.probes c.in-Some.feed.process c.in-Some-take.probe = grind (arith, gets) in
    record {
      one_ring =
          ap (λ (e : EndedSide). e.ring) c.into_link.ensures.link
          ∙ one_ring c.requires.seated c.requires.apart c.pop.new.self.items c.in-Some.feed c.loop-feed.invariant
          c.in-Some.ensures.items sits;
    }

pub returns-in-Err-clause-exact : goal.returns-in-Err-clause-exact
returns-in-Err-clause-exact c =
    let sits : SitsAt c.loop-feed.probes c.in-Some.feed.process c.in-Some-take.probe = grind (arith, gets) in (
      λ is. absurd (true≢false (sym is)),
      λ all. absurd (unmatched c.requires.seated c.requires.apart c.pop.new.self.items c.in-Some.feed
          c.loop-feed.invariant c.in-Some.ensures.items
          sits (λ same. c.in-Err.ensures.unfinished
          (same ∙ ap (λ (e : EndedSide). e.put) (sym c.into_link.ensures.link))) all),
    )

pub loop-feed-preserved-in_default-match_ends : goal.loop-feed-preserved-in_default-match_ends
loop-feed-preserved-in_default-match_ends c =
    let sits : SitsAt c.loop-feed.probes c.in-Some.feed.process c.in-Some-take.probe = grind (arith, gets) in
    let same = c.in_default-match_ends.ensures.matched in
    rw c.take.ensures.after
    (one_matched c.requires.seated c.requires.apart c.pop.new.self.items c.in-Some.feed c.loop-feed.invariant
    c.in-Some.ensures.items sits
    c.if-feed.false (sym same.1 ∙ same.0 ∙ ap (λ (e : EndedSide). e.put) c.into_link.ensures.link))
