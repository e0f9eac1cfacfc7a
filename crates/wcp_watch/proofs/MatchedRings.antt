-- One ring after another is matched.
use Rattle.wcp_watch.proofs.Words.{◌≡◌, ◌≢◌, ℕ, true, true≢false, false, List, [], ◌∷◌, ◌++◌, Option, None, Contains}
use Rattle.wcp_watch.proofs.Words.{refl, sym, ◌∙◌, slice_get, slice_set, All, AllPairs, append-nil, All-contains}
use Rattle.wcp_watch.proofs.Words.{All-cons, All-nil, All-head, All-tail, ClosedSide, Feed, set_elsewhere, HasProbe}
use Rattle.wcp_watch.proofs.Words.{SitsAt, IsRingMatched}
use Rattle.wcp_watch.proofs.Seating.{All-from_contains, among, pair_after, popped}

-- one end alone sits at a place
pub sits_alone : {E : Type 0} (seats : List (Option E)) (place : ℕ) (one other : E) → SitsAt seats place one
    → SitsAt seats place other → one ≡ other
sits_alone seats place one other at at' = let both = sym at ∙ at' in cc

module _ (seats : List (Option ClosedSide)) (all : List Feed) where
  -- the rings of the feeds after those left were matched
  pub record AreMatching (left : List Feed) (probes : List (Option ClosedSide)) : Type 0 where
    pub done : List Feed
    pub is : all ≡ left ++ done
    pub matched : All (IsRingMatched (SitsAt seats)) done
    pub others : (p : ℕ) → All (λ feed. feed.process ≢ p) done → slice_get probes p ≡ slice_get seats p

  pub none_matched : AreMatching all seats
  none_matched = record {
    done = [];
    is = sym (append-nil all);
    matched = All-nil (IsRingMatched (SitsAt seats));
    others = λ p apart. refl;
  }

module _ {seats : List (Option ClosedSide)} {all : List Feed} (seated : All (HasProbe seats) all)
    (apart : AllPairs (λ one other. one.process ≢ other.process) all) (left : List Feed) {now : List Feed} (feed : Feed)
    {probes : List (Option ClosedSide)} (old : AreMatching seats all now probes) (last : now ≡ left ++ feed ∷ []) where
  before : all ≡ left ++ feed ∷ old.done
  before = popped all now left old.done feed old.is last

  is_among : Contains all feed
  is_among = among all left old.done feed before

  pub its : HasProbe seats feed
  its = All-contains (HasProbe seats) all feed seated is_among

  -- the ring of a lost process isn't matched
  pub lost_unmatched : feed.lost ≡ true → All (IsRingMatched (SitsAt seats)) all → ⊥
  lost_unmatched lost matched =
      true≢false (sym lost ∙ (All-contains (IsRingMatched (SitsAt seats)) all feed matched is_among).0)

  -- its probe sits there still
  pub sits_still : SitsAt probes feed.process its.probe
  sits_still =
      old.others feed.process
      (All-from_contains (λ (other : Feed). other.process ≢ feed.process) old.done (λ other at same.
      pair_after (λ (one other : Feed). one.process ≢ other.process) left feed old.done other
      (rw before at apart) at (sym same)))
      ∙ its.sits

  module _ {probe : ClosedSide} (at : SitsAt probes feed.process probe) where
    is_its : probe ≡ its.probe
    is_its = sits_alone probes feed.process probe its.probe at sits_still

    pub one_ring : probe.link.ring ≡ feed.taker.ring
    one_ring = cc (is_its, its.one_ring)

    pub one_matched : feed.lost ≡ false → feed.taker.taken ≡ probe.link.put
        → AreMatching seats all left (slice_set probes feed.process None)
    one_matched not_lost same = record {
      done = feed ∷ old.done;
      is = before;
      matched = All-cons (IsRingMatched (SitsAt seats)) feed old.done (
        not_lost,
        λ other at.
            let alone = sits_alone seats feed.process its.probe other its.sits at in cc (is_its),
      )
          old.matched;
      others = λ p apart.
          let head = All-head (λ (other : Feed). other.process ≢ p) feed old.done apart in
          set_elsewhere probes feed.process p None (λ same. head (sym same))
          ∙ old.others p (All-tail (λ (other : Feed). other.process ≢ p) feed old.done apart);
    }

    pub unmatched : feed.taker.taken ≢ probe.link.put → All (IsRingMatched (SitsAt seats)) all → ⊥
    unmatched other matched =
        other
        (cc ((All-contains (IsRingMatched (SitsAt seats)) all feed matched is_among).1 its.probe its.sits, is_its))
