-- The searches end, one after another.
use Rattle.std.proofs.lemmas.Grind.{common_steps}
use Rattle.std.proofs.lemmas.Bool.Decides.{eqb_tells}
use Rattle.trace_pairs.proofs.Words.{◌≡◌, ◌∙◌, ℕ, ◌+◌, ◌<◌, ◌≤◌, Bool, true, false, List, [], ◌∷◌, length, refl, sym}
use Rattle.trace_pairs.proofs.Words.{ap}
use Rattle.trace_pairs.proofs.Words.{subst, arith, inl, inr, length-set, get_or-set_same, get_or-set_other, MatchBool}
use Rattle.trace_pairs.proofs.Words.{slice_index_or, Re, Logged, Search, HostWatch, Taken, IsEarliest, HasNoMoment}
use Rattle.trace_pairs.proofs.Words.{Rule}
use Rattle.trace_pairs.proofs.Words.{Text}
use Rattle.std.specs.Prelude.{slice_set}
use Rattle.trace_moment.specs.Search.{HasTaken, KeepsEarliest, is_known, watched_by}
use Rattle.trace_pairs.specs.declared.rows.PairRow.{PairRow}
use Rattle.trace_pairs.specs.declared.rows.HostPair.{HostPair}
use Rattle.trace_pairs.specs.Hosts.{host_at}
use Rattle.trace_pairs.specs.Taking.{taken_by, watches_of}
use Rattle.trace_pairs.specs.Pairs.{IsLower, OfTwo, NoPairHasOne}
use Rattle.trace_pairs.specs.Rows.{AreRows, Ends, EndsAt, HasNone, KnowsLowest, KnowsOne, SameSearches, StandAll}
use Rattle.trace_pairs.specs.Rows.{Stands}
use Rattle.trace_pairs.specs.Rows.{search_at}
use Rattle.trace_pairs.proofs.Thinning.{earliest_full, none_full}
use Rattle.trace_pairs.proofs.Turning.{at_pair, wide_set}

-- An item of a list that has one.
pub some_at : {X : Type 0} (xs : List X) (n : ℕ) → n < length xs → X
some_at [] n within = absurd (omega (arith, within))
some_at (x ∷ xs) n within = x

pub same_refl : (rows : List PairRow) → SameSearches rows rows
same_refl rows = record {
  as_many = refl;
  wide = λ q row within. refl;
  same = λ p q row search up within. refl;
}

pub same_trans : (first second third : List PairRow) → SameSearches first second → SameSearches second third
    → SameSearches first third
same_trans first second third one two = record {
  as_many = two.as_many ∙ one.as_many;
  wide = λ q row within. two.wide q row (omega (arith, within, one.as_many)) ∙ one.wide q row within;
  same = λ p q row search up within.
      two.same p q row search up (omega (arith, within, one.as_many)) ∙ one.same p q row search up within;
}

-- What has no moment in rows has none in those before, whose searches were the same.
pub none_before : (old new : List PairRow) → SameSearches old new → (p q : ℕ) → p < q → q < length old
    → HasNone new p q → HasNone old p q
none_before old new same p q up within none row search taken had =
    subst (λ (s : Search). HasNoMoment (watched_by s) taken) (same.same p q row search up within)
    (none row search taken (subst (λ (s : Search). HasTaken taken s) (sym (same.same p q row search up within)) had))

-- Of the hosts up to the first none has a moment with one behind it.
pub none_through : (start rows : List PairRow) (first : ℕ) → SameSearches start rows
    → ((p q : ℕ) → p < first → p < q → q < length start → HasNone start p q)
    → ((q : ℕ) → first < q → q < length rows → HasNone rows first q)
    → (p q : ℕ) → p < first + 1 → p < q → q < length start → HasNone start p q
none_through start rows first same before now p q below up within = elim (eqb_tells p first) [
  | inl here ↦ subst (λ n. HasNone start n q) (sym here.1) (none_before start rows same first q
      (omega (arith, up, here.1)) within (now q (omega (arith, up, here.1)) (omega (arith, within, same.as_many))))
  | inr there ↦ before p q (less there.1) up within
]
  where
    less : (p ≡ first → ⊥) → p < first
    less not_same = omega (arith, below, not_same)

module _ (start rows : List PairRow) (first second : ℕ) (old row : PairRow) (same : SameSearches start rows)
    (are : AreRows start) (up : first < second) (within : second < length start)
    (old_is : (r : PairRow) → old ≡ slice_index_or rows second r) where
  within_now : second < length rows
  within_now = omega (arith, within, same.as_many)

  wide_now : (q : ℕ) (r : PairRow) → q < length rows → length (slice_index_or rows q r).searches.items ≡ q
  wide_now q r inside = same.wide q r (omega (arith, inside, same.as_many))
      ∙ are.wide q r (omega (arith, inside, same.as_many))

  first_in : (r : PairRow) → first < length (slice_index_or rows second r).searches.items
  first_in r = omega (arith, up, wide_now second r within_now)

  old_at : (r : PairRow) (s : Search) → slice_index_or old.searches.items first s ≡ search_at start first second r s
  old_at r s = ap (λ (x : PairRow). slice_index_or x.searches.items first s) (old_is r)
      ∙ same.same first second r s up within

  pub ends_now : Ends first old.searches.items true row.searches.items
      → ((q : ℕ) → first < q → q < second → HasNone start first q)
      → EndsAt first second start (slice_set rows second row)
  ends_now ends before = record {
    behind = up;
    within = within;
    as_many = length-set rows second row ∙ same.as_many;
    wide = λ q r inside. wide_set rows first second row ends.search within_now first_in set_is wide_now q r
        (omega (arith, inside, same.as_many, length-set rows second row)) ∙ sym (are.wide q r inside);
    known = λ r s. ap is_known (at_pair rows first second row ends.search within_now first_in set_is r s)
        ∙ sym ends.answer;
    watched = λ r s. ap watched_by (at_pair rows first second row ends.search within_now first_in set_is r s)
        ∙ ends.same s ∙ ap watched_by (old_at r s);
    ends = λ r s taken had. subst (λ (x : Search). KeepsEarliest taken x)
        (sym (at_pair rows first second row ends.search within_now first_in set_is r s))
        (ends.moment s taken (subst (λ (x : Search). HasTaken taken x) (sym (old_at r s)) had));
    before = before;
  }
    where
      set_is : (r : PairRow) → row.searches.items
          ≡ slice_set (slice_index_or rows second r).searches.items first ends.search
      set_is r = ends.set ∙ ap (λ (x : PairRow). slice_set x.searches.items first ends.search) (old_is r)

  pub stays : Ends first old.searches.items false row.searches.items
      → SameSearches start (slice_set rows second row)
  stays ends = same_trans start rows (slice_set rows second row) same (record {
    as_many = length-set rows second row;
    wide = λ q r inside. elim (eqb_tells q second) [
      | inl here ↦ rw (here.1, get_or-set_same rows second row r within_now)
          (ap length (ends.none refl) ∙ ap (λ (x : PairRow). length x.searches.items) (old_is r))
      | inr there ↦ ap (λ (x : PairRow). length x.searches.items) (get_or-set_other rows second q row r there.1)
    ];
    same = λ p q r s up' inside. elim (eqb_tells q second) [
      | inl here ↦ rw here.1 (ap (λ (x : PairRow). slice_index_or x.searches.items p s)
          (get_or-set_same rows second row r within_now)
          ∙ ap (λ (l : List Search). slice_index_or l p s) (ends.none refl)
          ∙ ap (λ (x : PairRow). slice_index_or x.searches.items p s) (old_is r))
      | inr there ↦ ap (λ (x : PairRow). slice_index_or x.searches.items p s)
          (get_or-set_other rows second q row r there.1)
    ];
  })

  pub none_now : Ends first old.searches.items false row.searches.items → HasNone start first second
  none_now ends r s taken had = subst (λ (w : List HostWatch). HasNoMoment w taken)
      (ends.same s ∙ ap watched_by (old_at r s))
      (ends.moment s taken (subst (λ (x : Search). HasTaken taken x) (sym (old_at r s)) had))

  pub none_up_to : Ends first old.searches.items false row.searches.items
      → ((q : ℕ) → first < q → q < second → HasNone start first q)
      → (q : ℕ) → first < q → q < second + 1 → HasNone start first q
  none_up_to ends before q above below = elim (eqb_tells q second) [
    | inl here ↦ subst (λ n. HasNone start first n) (sym here.1) (none_now ends)
    | inr there ↦ before q above (less there.1)
  ]
    where
      less : (q ≡ second → ⊥) → q < second
      less not_same = omega (arith, below, not_same)

module _ (rule : Rule Re) (logged : List Logged) (hosts : List Text) (start : List PairRow)
    (all : StandAll rule logged hosts start) where
  none_of : (p q : ℕ) → p < q → q < length hosts → HasNone start p q
      → OfTwo HasNoMoment rule logged (host_at hosts p) (host_at hosts q)
  none_of p q up within none =
      let row = some_at start q (omega (arith, within, all.as_many)) in
      let search = some_at (slice_index_or start q row).searches.items p
      (omega (arith, up, all.wide q row (omega (arith, within, all.as_many)))) in
      let stands = all.each p q row search up within in
      none_full stands.kept (taken_by rule logged (host_at hosts p) (host_at hosts q)) stands.thins
      (watches_of rule (host_at hosts p) (host_at hosts q))
      (subst (λ (w : List HostWatch). HasNoMoment w stands.kept) stands.watched
      (none row search stands.kept stands.taken))

  pub none_has : ((p q : ℕ) → p < q → q < length hosts → HasNone start p q) → NoPairHasOne rule logged hosts
  none_has none p q up within = none_of p q up within (none p q up within)

  pub ends_lowest : (rows new : List PairRow) (first second : ℕ) → SameSearches start rows
      → ((p q : ℕ) → p < first → p < q → q < length start → HasNone start p q)
      → EndsAt first second rows new
      → KnowsLowest IsEarliest HasNoMoment rule logged hosts new (record { first = first; second = second })
  ends_lowest rows new first second same before at = record {
    order = at.behind;
    within = inside;
    as_many = at.as_many ∙ same.as_many ∙ all.as_many;
    wide = λ q r less.
        let here : q < length rows = omega (arith, less, at.as_many) in
        let there : q < length start = omega (arith, here, same.as_many) in
        at.wide q r here ∙ same.wide q r there ∙ all.wide q r there;
    lower = λ p q up less low. elim low [
      | inl below ↦ none_of p q up less (before p q below up (omega (arith, less, all.as_many)))
      | inr is ↦ none_of p q up less (subst (λ n. HasNone start n q) (sym is.0)
          (none_before start rows same first q (omega (arith, up, is.0)) (omega (arith, less, all.as_many))
          (at.before q (omega (arith, up, is.0)) is.1)))
    ];
    knows = λ r s. knows r s;
  }
    where
      inside : second < length hosts
      inside = omega (arith, at.within, same.as_many, all.as_many)

      in_start : second < length start
      in_start = omega (arith, inside, all.as_many)

      knows : (r : PairRow) (s : Search) → KnowsOne IsEarliest rule logged (host_at hosts first) (host_at hosts second)
          (search_at new first second r s)
      knows r s =
          let stands = all.each first second r s at.behind inside in
          let is_same = same.same first second r s at.behind in_start in
          let watched = at.watched r s ∙ ap watched_by is_same ∙ stands.watched in
          let kept = at.ends r s stands.kept
          (subst (λ (x : Search). HasTaken stands.kept x) (sym is_same) stands.taken) in
          record {
            watched = watched;
            known = at.known r s;
            moment = kept.moment;
            is = earliest_full stands.kept (taken_by rule logged (host_at hosts first) (host_at hosts second))
                stands.thins (watches_of rule (host_at hosts first) (host_at hosts second)) kept.moment
                (subst (λ (w : List HostWatch). IsEarliest w stands.kept kept.moment) watched kept.earliest);
            keeps = kept.kept_is;
          }
