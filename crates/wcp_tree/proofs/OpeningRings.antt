-- One ring after another is opened, and one feed after another is taken.
use Rattle.wcp_tree.proofs.Words.{setup, ◌≡◌, ◌≢◌, ◌⊎◌, ℕ, ◌+◌, ◌≤◌, false, List, [], ◌∷◌, ◌++◌, length, get_or, All}
use Rattle.wcp_tree.proofs.Words.{Option, Some, None, eqb-true, eq-eqb, refl, sym, ap, subst, ◌∙◌, inl, arith}
use Rattle.wcp_tree.proofs.Words.{common_steps, gets, slice_get, slice_set, cases_eq, length-set, length_push, All-push}
use Rattle.wcp_tree.proofs.Words.{All-weaker, Plan, leaf_of, TakeSide, Feed, LiveSide, fresh_core, IsTakerAt, AreRings}
use Rattle.wcp_tree.proofs.Words.{IsFeed, AreFeeds}
use Rattle.std.proofs.lemmas.List.Quantifiers.{all_pairs_push}
use Rattle.wcp_relay.proofs.Entries.{taken_out}

module _ (plan : Plan) (watch : ℕ) where
  pub one_ring_more : (k : ℕ) (probes : List LiveSide) (takers : List (Option TakeSide)) (probe : LiveSide)
      (taker : TakeSide)
      → AreRings plan watch k probes takers → probe.core ≡ fresh_core watch (setup plan.n plan.watched plan.flag k)
      → probe.link.put ≡ [] → probe.link.free ≡ plan.cap
      → taker.ring ≡ probe.link.ring → taker.taken ≡ []
      → AreRings plan watch (k + 1) (probes ++ probe ∷ []) (takers ++ Some taker ∷ [])
  one_ring_more k probes takers probe taker rings fresh empty room one_ring none = record {
    probes_count = length_push probes probe ∙ ap (λ n. n + 1) rings.probes_count;
    takers_count = length_push takers (Some taker) ∙ ap (λ n. n + 1) rings.takers_count;
    each = λ p below.
        grind (
          arith,
          common_steps,
          gets,
          rings.each p,
          rings.probes_count,
          rings.takers_count,
          fresh,
          empty,
          room,
          one_ring,
          none,
          cases_eq p k,
        );
  }

module _ (plan : Plan) (leaf : ℕ) (before : List (Option TakeSide)) where
  -- the ends that take which are still here: those of other leaves, and of processes from k on
  pub record AreTaken (now : List (Option TakeSide)) (k : ℕ) (feeds : List Feed) : Type 0 where
    pub feeds_of : AreFeeds plan leaf before k feeds
    pub all : length now ≡ length before
    pub here : (p : ℕ) → (k ≤ p) ⊎ (leaf_of plan p ≢ Some leaf) → slice_get now p ≡ slice_get before p

  pub none_taken : AreTaken before 0 []
  none_taken = record {
    feeds_of = record {
      each = λ k d below. absurd (omega (arith, below));
      processes = λ p. ((λ e. cc), (λ h. absurd (omega (arith, h.0))));
      apart = λ i j d lower below. absurd (omega (arith, below));
    };
    all = refl;
    here = λ p left. refl;
  }

  more_within : (k : ℕ) (feeds : List Feed) → All (IsFeed plan leaf before k) feeds
      → All (IsFeed plan leaf before (k + 1)) feeds
  more_within k feeds each =
      All-weaker (IsFeed plan leaf before k) (IsFeed plan leaf before (k + 1))
      (λ feed is. record {
        first = is.first;
        unended = is.unended;
        not_lost = is.not_lost;
        taker = is.taker;
        within = omega (arith, is.within);
        served = is.served;
      })
      feeds each

  -- the end that is taken out is the one that was here to be given
  pub its_taker : (now : List (Option TakeSide)) (k : ℕ) (feeds : List Feed) → AreTaken now k feeds
      → (taker : TakeSide) → IsTakerAt before k taker → (entry : Option TakeSide) → entry ≡ get_or now k entry
      → (found : TakeSide) → entry ≡ Some found → IsTakerAt before k found
  its_taker now k feeds taken taker at entry is found some =
      let here : slice_get now k ≡ Some (Some taker) = taken.here k (inl (omega arith)) ∙ at.0 in
      subst (λ (t : TakeSide). IsTakerAt before k t) (taken_out now k taker here entry is found some) at

  -- a process of another leaf
  pub not_taken : (now : List (Option TakeSide)) (k : ℕ) (feeds : List Feed) → AreTaken now k feeds
      → leaf_of plan k ≢ Some leaf → AreTaken now (k + 1) feeds
  not_taken now k feeds taken other = record {
    feeds_of = record {
      each = more_within k feeds taken.feeds_of.each;
      processes = λ p. (
        (λ is. grind (arith, (taken.feeds_of.processes p).0 is)),
        (λ h. (taken.feeds_of.processes p).1 (grind (arith, h, other, cases_eq p k))),
      );
      apart = taken.feeds_of.apart;
    };
    all = taken.all;
    here = λ p left. grind (arith, left, taken.here p);
  }

  -- a process of the leaf
  pub one_taken : (now : List (Option TakeSide)) (k : ℕ) (feeds : List Feed) (feed : Feed) → AreTaken now k feeds
      → leaf_of plan k ≡ Some leaf → feed.process ≡ k → feed.next ≡ 0 → feed.ended ≡ false → feed.lost ≡ false
      → IsTakerAt before k feed.taker → AreTaken (slice_set now k None) (k + 1) (feeds ++ feed ∷ [])
  one_taken now k feeds feed taken own is_k first unended not_lost taker = record {
    feeds_of = record {
      each = All-push (IsFeed plan leaf before (k + 1)) feeds feed (more_within k feeds taken.feeds_of.each) (record {
        first = first;
        unended = unended;
        not_lost = not_lost;
        taker = subst (λ p. IsTakerAt before p feed.taker) (sym is_k) taker;
        within = omega (arith, is_k);
        served = ap (leaf_of plan) is_k ∙ own;
      });
      processes = λ p. (
        (λ is. grind (arith, common_steps, is, (taken.feeds_of.processes p).0, own, is_k, eqb-true feed.process p)),
        (λ h. grind (
          arith,
          common_steps,
          h,
          (taken.feeds_of.processes
              p).1,
          own,
          is_k,
          eq-eqb feed.process p,
          cases_eq p k,
        )),
      );
      apart = all_pairs_push (λ (a b : Feed). a.process ≢ b.process) feeds feed taken.feeds_of.apart
          (λ i d below same.
          let low = (taken.feeds_of.each i d below).within in omega (arith, low, same, is_k));
    };
    all = length-set now k None ∙ taken.all;
    here = λ p left. grind (arith, common_steps, gets, left, own, taken.here p, cases_eq p k);
  }
