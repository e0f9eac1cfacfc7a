-- A feed stays in order as it gives the next note of its process.
use Rattle.wcp_relay.proofs.Words.{◌≡◌, ◌+◌, true, false, true≢false, [], ◌∷◌, ◌++◌, length, length-append, append-nil}
use Rattle.wcp_relay.proofs.Words.{sym, refl, ap, ◌∙◌, subst, arith, All, All-push, get_or_push, length_push, TakeSide}
use Rattle.wcp_relay.proofs.Words.{Note, Lost, AreInSequence, place_of, is_last, AreInSequence-push, Feed, given_by}
use Rattle.wcp_relay.proofs.Words.{mark_of_lost, IsInOrder, IsNextAfterNotes, MayComeFromRing, CameFromRing}

-- a feed of a process that was not lost gave what it took
pub given_is_taken : (feed : Feed) → feed.lost ≡ false → given_by feed ≡ feed.taker.taken
given_is_taken feed not_lost =
    ap (λ lost. feed.taker.taken ++ mark_of_lost lost (length feed.taker.taken)) not_lost ∙ append-nil feed.taker.taken

-- a note that was taken is given
pub given_more : (feed more : Feed) (note : Note) → feed.lost ≡ false → more.lost ≡ false
    → more.taker.taken ≡ feed.taker.taken ++ note ∷ [] → given_by more ≡ given_by feed ++ note ∷ []
given_more feed more note not_lost still taken =
    given_is_taken more still ∙ taken ∙ ap (λ notes. notes ++ note ∷ []) (sym (given_is_taken feed not_lost))

-- where nothing was taken, what was given stays
pub given_same : (feed more : Feed) → more.lost ≡ feed.lost → more.taker.taken ≡ feed.taker.taken
    → given_by more ≡ given_by feed
given_same feed more lost taken = λ i. taken i ++ mark_of_lost (lost i) (length (taken i))

-- the mark of a lost process is given
pub given_mark : (feed more : Feed) → feed.lost ≡ false → more.lost ≡ true → more.taker.taken ≡ feed.taker.taken
    → given_by more ≡ given_by feed ++ Lost (length feed.taker.taken) ∷ []
given_mark feed more not_lost lost taken =
    (λ i. taken i ++ mark_of_lost (lost i) (length (taken i)))
    ∙ ap (λ notes. notes ++ Lost (length feed.taker.taken) ∷ []) (sym (given_is_taken feed not_lost))

-- a note at the place that is counted is the next one
pub next_note : (feed : Feed) (note : Note) → IsInOrder feed → feed.ended ≡ false → place_of note ≡ feed.next
    → IsNextAfterNotes (given_by feed) note
next_note feed note order not_ended place =
    let counted = order.counted not_ended in
    subst (λ notes. IsNextAfterNotes notes note) (sym (given_is_taken feed counted.0))
    (record { numbered = place ∙ counted.1; unended = counted.2 })

-- a snapshot that is the next note is taken
pub in_order_snap : (feed more : Feed) (note : Note) → IsInOrder feed → feed.ended ≡ false → place_of note ≡ feed.next
    → MayComeFromRing note
    → is_last note ≡ false → more.taker.taken ≡ feed.taker.taken ++ note ∷ [] → more.next ≡ feed.next + 1
    → more.lost ≡ false → more.ended ≡ false → IsInOrder more
in_order_snap feed more note order not_ended place may_come snap taken next not_lost still =
    let counted = order.counted not_ended in
    record {
      run = subst (AreInSequence place_of is_last) (sym (given_more feed more note counted.0 not_lost taken))
          (AreInSequence-push place_of is_last (given_by feed) note order.run
          (next_note feed note order not_ended place));
      from_ring = rw taken (All-push MayComeFromRing feed.taker.taken note order.from_ring may_come);
      counted = λ _. (
        not_lost,
        omega (arith, ap length taken, length-append feed.taker.taken (note ∷ [])),
        rw taken (All-push (λ n. is_last n ≡ false) feed.taker.taken note counted.2 snap),
      );
      ended = λ ended. absurd (true≢false (sym ended ∙ still));
    }

-- a last note that is the next one is given
pub in_order_last : (feed more : Feed) (note : Note) → IsInOrder feed → feed.ended ≡ false → place_of note ≡ feed.next
    → is_last note ≡ true → given_by more ≡ given_by feed ++ note ∷ [] → CameFromRing false more.taker.taken
    → more.ended ≡ true → IsInOrder more
in_order_last feed more note order not_ended place last given from_ring ended =
    record {
      run = subst (AreInSequence place_of is_last) (sym given)
          (AreInSequence-push place_of is_last (given_by feed) note order.run
          (next_note feed note order not_ended place));
      from_ring = from_ring;
      counted = λ still. absurd (true≢false (sym ended ∙ still));
      ended = λ _. (given_by feed, note, given, last);
    }

-- a feed that took nothing
pub in_order_same : (feed : Feed) (taker : TakeSide) → IsInOrder feed → taker.taken ≡ feed.taker.taken
    → IsInOrder (record feed { taker = taker })
in_order_same feed taker order same =
    record {
      run = rw same order.run;
      from_ring = rw same order.from_ring;
      counted = rw same order.counted;
      ended = rw same order.ended;
    }

-- the mark of a lost process is given
pub in_order_lost : (feed : Feed) (taker : TakeSide) → IsInOrder feed → feed.ended ≡ false
    → taker.taken ≡ feed.taker.taken
    → IsInOrder (record feed { ended = true; lost = true; taker = taker })
in_order_lost feed taker order not_ended same =
    let more : Feed = record feed { ended = true; lost = true; taker = taker } in
    let counted = order.counted not_ended in
    in_order_last feed more (Lost (length feed.taker.taken)) order not_ended (sym counted.1) refl
    (given_mark feed more counted.0 refl same) (rw same order.from_ring) refl

-- nothing is the next note of a process that has ended
pub out_of_turn : (feed : Feed) (note : Note) → IsInOrder feed → feed.ended ≡ true
    → IsNextAfterNotes (given_by feed) note → ⊥
out_of_turn feed note order ended next =
    let (before, last, is, marked) = order.ended ended in
    let open_before = subst (All (λ n. is_last n ≡ false)) is next.unended in
    true≢false (sym marked ∙ ap is_last (sym (get_or_push before last last (length before) refl))
    ∙ open_before (length before) last
    (omega (arith, length_push before last)))

-- the place of a note that may come next
pub place_in_turn : (feed : Feed) (note : Note) → IsInOrder feed → feed.ended ≡ false
    → IsNextAfterNotes (given_by feed) note → place_of note ≡ feed.next
place_in_turn feed note order not_ended next =
    let counted = order.counted not_ended in
    next.numbered ∙ ap length (given_is_taken feed counted.0) ∙ sym counted.1
