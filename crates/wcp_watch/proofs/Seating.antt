-- One end after another is seated.
use Rattle.wcp_watch.proofs.Words.{◌≡◌, ◌≢◌, ℕ, zero, suc, ◌<◌, List, [], ◌∷◌, ◌++◌, length, length-set, Option, Some}
use Rattle.wcp_watch.proofs.Words.{Contains, get_or, true, false, ◌+◌, refl, sym, ap, subst, ◌∙◌, inl, inr, ◌⊎◌, arith}
use Rattle.wcp_watch.proofs.Words.{slice_get, slice_set, slice_index_or, is_some, All, AllPairs, cases_eq, append_assoc}
use Rattle.wcp_watch.proofs.Words.{append-nil, All-contains, All-cons, All-nil, Contains-get_or, Contains-append_right}
use Rattle.wcp_watch.proofs.Words.{common_steps, gets, AreOfWatch, AreSeats, AreAllSeated, SitsAt}
use Rattle.std.proofs.lemmas.List.Kept.{AllPairs-cons}

module _ {E : Type 0} where
  -- what holds of each two holds of an element and each after it
  pub pair_after : (R : E → E → Type 0) (left : List E) (end : E) (done : List E) (other : E)
      → AllPairs R (left ++ end ∷ done) → Contains done other → R end other
  pair_after R [] end done other pairs (k, within, is) =
      subst (R end) is (pairs 0 (suc k) other (omega arith) (omega (arith, within)))
  pair_after R (x ∷ left) end done other pairs at =
      pair_after R left end done other
      (λ i j d less within. pairs (suc i) (suc j) d (omega (arith, less)) (omega (arith, within))) at

  -- what holds of each element that a list contains
  pub All-from_contains : (P : E → Type 0) (ends : List E) → ((end : E) → Contains ends end → P end) → All P ends
  All-from_contains P ends each k d within = each (slice_index_or ends k d) (Contains-get_or ends k d within)

  -- what a look at a place tells
  pub is_taken : (seats : List (Option E)) (place : ℕ) (seat : Option E) → place < length seats
      → seat ≡ get_or seats place seat
      → is_some seat ≡ true → (end : E) × (slice_get seats place ≡ Some (Some end))
  is_taken seats place seat within is some = grind (arith, common_steps, gets)

  pub is_free : (seats : List (Option E)) (place : ℕ) (seat : Option E) → place < length seats
      → seat ≡ get_or seats place seat
      → is_some seat ≡ false → (end : E) → slice_get seats place ≡ Some (Some end) → ⊥
  is_free seats place seat within is none end at = grind (arith, common_steps, gets)

  -- the next place is taken too
  pub one_more_seated : (seats : List (Option E)) (count : ℕ) → AreAllSeated count seats
      → (end : E) × (slice_get seats count ≡ Some (Some end)) → AreAllSeated (count + 1) seats
  one_more_seated seats count before here place below = grind (arith, before place, here, cases_eq place count)

  -- what was popped off the end stands before what was popped earlier
  pub popped : (all now left done : List E) (end : E) → all ≡ now ++ done → now ≡ left ++ end ∷ []
      → all ≡ left ++ end ∷ done
  popped all now left done end is last = is ∙ ap (λ xs. xs ++ done) last ∙ append_assoc left (end ∷ []) done

  pub among : (all left done : List E) (end : E) → all ≡ left ++ end ∷ done → Contains all end
  among all left done end is =
      subst (λ xs. Contains xs end) (sym is) (Contains-append_right left (end ∷ done) end (0, omega arith, refl))

  contained : (end : E) (done : List E) (other : E) → Contains (end ∷ done) other → (end ≡ other) ⊎ Contains done other
  contained end done other (zero, within, is) = inl is
  contained end done other (suc k, within, is) = inr (k, omega (arith, within), is)

  contains : (end : E) (done : List E) (other : E) → (end ≡ other) ⊎ Contains done other → Contains (end ∷ done) other
  contains end done other (inl is) = (0, omega arith, is)
  contains end done other (inr there) = Contains-append_right (end ∷ []) done other there

  module _ (watch_of place_of : E → ℕ) (watch size : ℕ) (all : List E) where
    -- the ends after those left are seated
    pub record IsSeating (left : List E) (seats : List (Option E)) : Type 0 where
      pub done : List E
      pub is : all ≡ left ++ done
      pub of_watch : AreOfWatch watch_of place_of watch done
      pub count : length seats ≡ size
      pub at : AreSeats place_of done seats

    pub none_seated : (seats : List (Option E)) → length seats ≡ size
        → ((place : ℕ) (end : E) → SitsAt seats place end → ⊥) → IsSeating all seats
    none_seated seats count none = record {
      done = [];
      is = sym (append-nil all);
      of_watch =
          record { same = All-nil (λ end. watch_of end ≡ watch); apart = λ i j d less within. absurd (omega arith) };
      count = count;
      at = record {
        seated = λ place end at. absurd (omega (arith, at.0.1));
        own = λ place end at. absurd (none place end at);
      };
    }

  module _ {watch_of place_of : E → ℕ} {watch size : ℕ} {all : List E} (left : List E) {now : List E} (end : E)
      {seats : List (Option E)}
      (old : IsSeating watch_of place_of watch size all now seats) (last : now ≡ left ++ end ∷ []) where
    before : all ≡ left ++ end ∷ old.done
    before = popped all now left old.done end old.is last

    pub was_left : Contains all end
    was_left = among all left old.done end before

    pub one_seated : watch_of end ≡ watch → place_of end < size → ((other : E) → SitsAt seats (place_of end) other → ⊥)
        → IsSeating watch_of place_of watch size all left (slice_set seats (place_of end) (Some end))
    one_seated same within free =
        record {
          done = end ∷ old.done;
          is = before;
          of_watch = record {
            same = All-cons (λ end. watch_of end ≡ watch) end old.done same old.of_watch.same;
            apart = AllPairs-cons (λ one other. place_of one ≢ place_of other) end old.done
                (All-from_contains (λ other. place_of end ≢ place_of other) old.done
                (λ other among same. free other (old.at.seated (place_of end) other (among, sym same))))
                old.of_watch.apart;
          };
          count = simp length-set old.count;
          at = record {
            seated = λ place other at.
                grind (
                  arith,
                  common_steps,
                  gets,
                  old.count,
                  at.1,
                  contained end old.done other at.0,
                  old.at.seated place other,
                  free other,
                  cases_eq place (place_of end),
                );
            own = λ place other at. (
              contains end old.done other (grind (
                arith,
                common_steps,
                gets,
                old.count,
                at,
                old.at.own place other,
                cases_eq place (place_of end),
              )),
              grind (arith, common_steps, gets, old.count, at, old.at.own place other, cases_eq place (place_of end)),
            );
          };
        }

    pub another_watch : watch_of end ≢ watch → AreOfWatch watch_of place_of watch all → ⊥
    another_watch other of = other (All-contains (λ end. watch_of end ≡ watch) all end of.same was_left)

    pub came_before : (other : E) → SitsAt seats (place_of end) other → AreOfWatch watch_of place_of watch all → ⊥
    came_before other at of =
        let own = old.at.own (place_of end) other at in
        pair_after (λ one other. place_of one ≢ place_of other) left end old.done other (rw before at of.apart) own.0
        (sym own.1)
