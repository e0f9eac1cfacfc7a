-- All searches of a host take its event.
use Rattle.std.proofs.lemmas.Grind.{common_steps}
use Rattle.std.proofs.lemmas.Bool.Decides.{eqb_tells}
use Rattle.trace_pairs.proofs.Words.{◌≡◌, ◌≢◌, ◌∙◌, ℕ, ◌+◌, ◌<◌, ◌≤◌, Bool, true, false, List, [], ◌∷◌, ◌++◌, Result}
use Rattle.trace_pairs.proofs.Words.{Ok, Err}
use Rattle.trace_pairs.proofs.Words.{length, refl, sym, ap, subst, arith, inl, inr, ◌⊎◌, length-set, get_or_default}
use Rattle.trace_pairs.proofs.Words.{slice_index_or, ◌||◌, bytes_eq, bytes_eq-Decides, Re, Logged, Search, Taken}
use Rattle.trace_pairs.proofs.Words.{watch_at, IsKnown, NoneIsKnown, Rule, Text}
use Rattle.std.specs.Prelude.{slice_set}
use Rattle.trace_moment.specs.Search.{HasTaken, is_known, watched_by}
use Rattle.trace_pairs.specs.declared.rows.PairRow.{PairRow}
use Rattle.trace_pairs.specs.declared.rows.HostPair.{HostPair}
use Rattle.trace_pairs.specs.Hosts.{host_at}
use Rattle.trace_pairs.specs.Taking.{judged_after, is_at_one, watches_of}
use Rattle.trace_pairs.specs.Pairs.{IsLower}
use Rattle.trace_pairs.specs.Rows.{ComesAt, HadTurn, HasTurn, KnowsLowest, StandAll, StandPartly, Stands, TakesAt}
use Rattle.trace_pairs.specs.Rows.{search_at}
use Rattle.trace_pairs.proofs.Turning.{at_pair, at_other, wide_set, unknown_of, stands_over, next_at, stands_next}
use Rattle.trace_pairs.proofs.Turning.{knows_next}

module _ (rule : Rule Re) (before : List Logged) (one : Logged) (hosts : List Text) (place : ℕ) where
  -- Before the first.
  pub start : (holds : Bool) (rows : List PairRow) → StandAll rule before hosts rows
      → ComesAt rule before one holds hosts place → StandPartly rule before one hosts place 0 rows
  start holds rows all comes = record {
    as_many = all.as_many;
    wide = all.wide;
    taken = λ p q row search up within turn. stands_over rule before one (host_at hosts p) (host_at hosts q)
        (search_at rows p q row search)
        (λ same. none_below q (turn.0 (comes.distinct p place (omega (arith, up, within)) comes.within
        (same ∙ sym comes.host))))
        (λ same. none_below p (turn.1 (comes.distinct q place within comes.within (same ∙ sym comes.host))))
        (all.each p q row search up within);
    waits = λ p q row search up within turn. all.each p q row search up within;
  }
    where
      none_below : (n : ℕ) → n < 0 → ⊥
      none_below n below = omega (arith, below)

  -- After the last.
  pub finish : (other : ℕ) (rows : List PairRow) → length hosts ≤ other
      → StandPartly rule before one hosts place other rows → StandAll rule (before ++ one ∷ []) hosts rows
  finish other rows last partly = record {
    as_many = partly.as_many;
    wide = partly.wide;
    each = λ p q row search up within.
        partly.taken p q row search up within (
          λ is. omega (arith, within, last),
          λ is. omega
              (arith, up, within, last),
        );
  }

  -- The host itself has no search with itself.
  pub skip : (rows : List PairRow) → StandPartly rule before one hosts place place rows
      → StandPartly rule before one hosts place (place + 1) rows
  skip rows partly = record {
    as_many = partly.as_many;
    wide = partly.wide;
    taken = λ p q row search up within turn. partly.taken p q row search up within
        (λ is. omega (arith, is, up, turn.0 is), λ is. omega (arith, is, up));
    waits = λ p q row search up within turn. elim turn [
      | inl is ↦ partly.waits p q row search up within (inl (is.0, omega (arith, is.1)))
      | inr is ↦ partly.waits p q row search up within (inr (is.0, omega (arith, is.1)))
    ];
  }

  -- The search of a pair takes the event.
  module _ (holds : Bool) (other : ℕ) (rows : List PairRow)
      (partly : StandPartly rule before one hosts place other rows)
      (comes : ComesAt rule before one holds hosts place) (p q watched : ℕ) (up : p < q) (q_in : q < length hosts)
      (turn : HasTurn place other p q)
      (named : one.event.host ≡ (watch_at (watches_of rule (host_at hosts p) (host_at hosts q)) watched).host)
      (is_one : is_at_one (host_at hosts p) (host_at hosts q) (judged_after rule before one) ≡ true)
      (old row : PairRow) (old_is : (r : PairRow) → old ≡ slice_index_or rows q r) (known : Bool)
      (takes : TakesAt p watched (record { logged = one; holds = holds }) old.searches.items row.searches.items known)
    where
      q_within : q < length rows
      q_within = omega (arith, q_in, partly.as_many)

      p_within : (r : PairRow) → p < length (slice_index_or rows q r).searches.items
      p_within r = omega (arith, up, partly.wide q r q_within)

      set_is : (r : PairRow) → row.searches.items ≡ slice_set (slice_index_or rows q r).searches.items p takes.search
      set_is r = takes.set ∙ ap (λ (x : PairRow). slice_set x.searches.items p takes.search) (old_is r)

      stands_before : Stands rule before (host_at hosts p) (host_at hosts q)
          (slice_index_or old.searches.items p takes.search)
      stands_before = subst (λ (x : PairRow). Stands rule before (host_at hosts p) (host_at hosts q)
          (slice_index_or x.searches.items p takes.search)) (sym (old_is old))
          (partly.waits p q old takes.search up q_in turn)

      taken_next : HasTaken (stands_before.kept ++ record { logged = one; holds = holds } ∷ []) takes.search
          × (is_known takes.search ≡ known)
      taken_next = takes.takes takes.search stands_before.kept stands_before.taken
          (next_at rule before one holds (host_at hosts p) (host_at hosts q) watched
          (slice_index_or old.searches.items p takes.search) takes.search stands_before comes.follows comes.held named
          is_one)

      one_pair : (p' q' : ℕ) → (q' ≡ q) → (p' ≡ p) → (P : ℕ → ℕ → Type 0) → P p q → P p' q'
      one_pair p' q' q_is p_is P it = subst (λ a. P a q') (sym p_is) (subst (λ b. P p b) (sym q_is) it)

      pub goes_on : known ≡ false
          → ((p' q' : ℕ) → p' < q' → HadTurn place (other + 1) p' q' → (q' ≡ q → p' ≢ p) → HadTurn place other p' q')
          → ((p' q' : ℕ) → p' < q' → HasTurn place (other + 1) p' q' → HasTurn place other p' q' × (q' ≡ q → p' ≢ p))
          → StandPartly rule before one hosts place (other + 1) (slice_set rows q row)
      goes_on fails had has = record {
        as_many = length-set rows q row ∙ partly.as_many;
        wide = wide_set rows p q row takes.search q_within p_within set_is partly.wide;
        taken = λ p' q' r s up' within' turn'. elim (eqb_tells q' q) [
          | inl q_is ↦ elim (eqb_tells p' p) [
            | inl p_is ↦ one_pair p' q' q_is.1 p_is.1 (λ a b. Stands rule (before ++ one ∷ []) (host_at hosts a)
                (host_at hosts b) (search_at (slice_set rows q row) a b r s))
                (subst (λ (x : Search). Stands rule (before ++ one ∷ []) (host_at hosts p) (host_at hosts q) x)
                (sym (at_pair rows p q row takes.search q_within p_within set_is r s))
                (stands_next rule before one holds (host_at hosts p) (host_at hosts q) watched
                (slice_index_or old.searches.items p takes.search) takes.search stands_before comes.follows comes.held
                named is_one (takes.same takes.search) taken_next.0 (taken_next.1 ∙ fails)))
            | inr p_not ↦ old_taken had p' q' r s up' within' turn' (λ _. p_not.1)
          ]
          | inr q_not ↦ old_taken had p' q' r s up' within' turn' (λ q_is. absurd (q_not.1 q_is))
        ];
        waits = λ p' q' r s up' within' turn'.
            let now = has p' q' up' turn' in
            subst (λ (x : Search). Stands rule before (host_at hosts p') (host_at hosts q') x)
            (sym (at_other rows p q row takes.search q_within p_within set_is p' q' r s now.1))
            (partly.waits p' q' r s up' within' now.0);
      }
        where
          old_taken : ((p' q' : ℕ) → p' < q' → HadTurn place (other + 1) p' q' → (q' ≡ q → p' ≢ p)
              → HadTurn place other p' q')
              → (p' q' : ℕ) (r : PairRow) (s : Search) → p' < q' → q' < length hosts → HadTurn place (other + 1) p' q'
              → (q' ≡ q → p' ≢ p) → Stands rule (before ++ one ∷ []) (host_at hosts p') (host_at hosts q')
              (search_at (slice_set rows q row) p' q' r s)
          old_taken had p' q' r s up' within' turn' apart =
              subst (λ (x : Search). Stands rule (before ++ one ∷ []) (host_at hosts p') (host_at hosts q') x)
              (sym (at_other rows p q row takes.search q_within p_within set_is p' q' r s apart))
              (partly.taken p' q' r s up' within' (had p' q' up' turn' apart))

      pub is_known_now : known ≡ true
          → ((p' q' : ℕ) → p' < q' → IsLower p' q' p q → HadTurn place other p' q')
          → KnowsLowest IsKnown NoneIsKnown rule (before ++ one ∷ []) hosts (slice_set rows q row)
          (record { first = p; second = q })
      is_known_now holds_now lower = record {
        order = up;
        within = q_in;
        as_many = length-set rows q row ∙ partly.as_many;
        wide = wide_set rows p q row takes.search q_within p_within set_is partly.wide;
        lower = λ p' q' up' within' low.
            unknown_of rule (before ++ one ∷ []) (host_at hosts p') (host_at hosts q')
            (search_at rows p' q' row takes.search)
            (partly.taken p' q' row takes.search up' within' (lower p' q' up' low));
        knows = λ r s. rw (at_pair rows p q row takes.search q_within p_within set_is r s)
            (knows_next rule before one holds (host_at hosts p) (host_at hosts q) watched
            (slice_index_or old.searches.items p takes.search) takes.search stands_before comes.follows comes.held named
            is_one (takes.same takes.search) taken_next.0 (taken_next.1 ∙ holds_now));
      }
