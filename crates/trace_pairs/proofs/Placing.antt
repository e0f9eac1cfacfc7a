-- The place of the host of the next event.
use Rattle.std.proofs.lemmas.Grind.{common_steps}
use Rattle.std.proofs.lemmas.Bool.Decides.{eqb_tells}
use Rattle.std.proofs.lemmas.List.{get_or_default}
use Rattle.std.proofs.Math.Seq.{get_or-append_seam}
use Rattle.trace_pairs.proofs.Words.{◌≡◌, ◌∙◌, ℕ, ◌+◌, ◌<◌, ◌≤◌, Bool, true, false, List, [], ◌∷◌, ◌++◌, length, map}
use Rattle.trace_pairs.proofs.Words.{refl}
use Rattle.trace_pairs.proofs.Words.{sym, ap, subst, arith, inl, inr, append-nil, length-append, get_or_append_left}
use Rattle.trace_pairs.proofs.Words.{slice_index_or, Contains, bytes_eq, filter, Re, Logged, Search, HostWatch, Taken}
use Rattle.trace_pairs.proofs.Words.{watch_at, Lasting, Rule, Text, Thins, AreInTurn}
use Rattle.std.specs.Prelude.{string_bytes}
use Rattle.trace_moment.specs.Search.{HasTaken, is_known, watched_by}
use Rattle.trace_moment.specs.Keeping.{KeepTaken}
use Rattle.trace_moment.proofs.KeptSteps.{known_kept}
use Rattle.trace_condition.specs.declared.rule.Rule.TheVariants as rule
use Rattle.trace_condition.specs.Rules.{map_rule}
use Rattle.trace_condition.specs.Holding.{matches}
use Rattle.trace_condition.specs.Judging.{HasJudged}
use Rattle.trace_condition.specs.Conditions.{rule_of}
use Rattle.trace_pairs.specs.declared.hosts.MatchedHost.{MatchedHost}
use Rattle.trace_pairs.specs.declared.rows.PairRow.{PairRow}
use Rattle.trace_pairs.specs.declared.pair_search.PairSearch.{PairSearch}
use Rattle.trace_pairs.specs.Hosts.{AreDistinct, count_events, count_matched, host_at, hosts_in}
unfoldable use Rattle.trace_pairs.specs.Taking.{judged_from}
use Rattle.trace_pairs.specs.Taking.{lasting_of, taken_at, taken_by, texts_at, watches_of}
use Rattle.trace_pairs.specs.Kept.{KeepsEvents, all_kept, seen_events}
use Rattle.trace_pairs.specs.Rows.{StandAll, Stands, search_at}
use Rattle.trace_pairs.specs.Searching.{AddsHost, AreHosts, HasPlaceAt, HasTakenLog, IsNoneOf, IsPlaceOf, KnowsHost}
use Rattle.trace_pairs.specs.Searching.{StandWithNew, StandsWithNew}
use Rattle.trace_pairs.proofs.Ending.{some_at}
use Rattle.trace_pairs.proofs.Silent.{AreOthers, any_at, any_none, hosts_added, hosts_push, hosts_same, none_logged}
use Rattle.trace_pairs.proofs.Silent.{none_taken, only_first, silent}

-- The names of the hosts are those that came.
pub named_at : (rule : Rule Re) (logged : List Logged) (names : List Text) (hosts : List MatchedHost) (p : ℕ)
    (host : MatchedHost) → AreHosts rule logged names hosts → p < length names
    → string_bytes (slice_index_or hosts p host).name ≡ host_at names p
named_at rule logged names hosts p host are within = (are.each p host within).named

pub none_named : (rule : Rule Re) (logged : List Logged) (names : List Text) (hosts : List MatchedHost) (name : Text)
    → AreHosts rule logged names hosts → IsNoneOf name hosts → (p : ℕ) → p < length names → host_at names p ≡ name → ⊥
none_named rule logged names hosts name are none p within is =
    let inside : p < length hosts = omega (arith, within, are.as_many) in
    let host = some_at hosts p inside in
    none p host inside (named_at rule logged names hosts p host are within ∙ is)

-- The host is known.
pub place_known : (pattern : Re) (rule : Rule Re) (before : List Logged) (name : Text) (place : ℕ) (search : PairSearch)
    → HasTakenLog pattern rule before search → IsPlaceOf name search.hosts.items place
    → HasPlaceAt pattern rule before name place search
place_known pattern rule before name place search taken is_place = record {
  by_names = taken.by_names;
  by_rule = taken.by_rule;
  names = hosts_in pattern before;
  those = λ one is. hosts_push pattern before one ∙ hosts_same pattern (hosts_in pattern before) one name is
      (any_at (hosts_in pattern before) place name within at);
  hosts = taken.hosts;
  rows = taken.rows;
  within = within;
  at = at;
}
  where
    within : place < length (hosts_in pattern before)
    within = omega (arith, is_place.within, taken.hosts.as_many)

    at : host_at (hosts_in pattern before) place ≡ name
    at =
        let host = some_at search.hosts.items place is_place.within in
        sym (named_at rule before (hosts_in pattern before) search.hosts.items place host taken.hosts within)
        ∙ is_place.named host

-- Nothing was taken of a host that has logged nothing.
knows_silent : (rule : Rule Re) (before : List Logged) (name : Text) (host : MatchedHost) → AreOthers name before
    → KnowsHost rule [] name host → KnowsHost rule before name host
unfolding judged_from
knows_silent rule before name host others knows = record {
  named = knows.named;
  judged = subst (λ texts. HasJudged rule texts host.judge)
      (sym (ap (map (λ (l : Logged). l.event.text)) (none_logged name before others))) knows.judged;
  events = knows.events ∙ sym (ap length (none_logged name before others));
  matched = knows.matched ∙ sym (ap count_matched (none_taken name rule [] before others));
  kept = subst (λ (l : List Taken). KeepsEvents name l (seen_events name host.kept))
      (sym (none_taken name rule [] before others)) knows.kept;
}

lasting_same : {A B : Type 0} (f : A → B) (r : Rule A) → lasting_of (map_rule f r) ≡ lasting_of r
lasting_same f (rule.While e) = refl
lasting_same f (rule.FromUntil e u) = refl
lasting_same f (rule.At e) = refl

-- A search of a host that has logged nothing knows no moment.
unknown_new : (kept : List Taken) (search : Search) (first second : Text) (lasting : Lasting) (known : Bool)
    → is_known search ≡ known
    → watched_by search ≡ record { host = first; lasting = lasting } ∷ record { host = second; lasting = lasting } ∷ []
    → HasTaken kept search → ((one : Taken) → Contains kept one → one.logged.event.host ≡ first)
    → (first ≡ second → ⊥) → is_known search ≡ false
unknown_new kept search first second lasting false is watched had all apart = is
unknown_new kept search first second lasting true is watched had all apart =
    let known = known_kept kept search.queues.items search.floors.items
    (subst (λ (k : Bool). KeepTaken kept search.queues.items search.floors.items k) is had) in
    let earliest = known.known [] tt in
    let two : 1 < length (watched_by search) = subst (λ (w : List HostWatch). 1 < length w) (sym watched) (omega arith)
    in
    let held = subst (λ (l : List Taken). Contains l (record { logged = known.moment 1; holds = true }))
    (append-nil kept) (earliest.one.held 1 two) in
    let named = ap (λ (w : List HostWatch). (watch_at w 1).host) watched in
    absurd (apart (sym (all (record { logged = known.moment 1; holds = true }) held) ∙ earliest.one.host 1 two ∙ named))

stands_new : (rule : Rule Re) (before : List Logged) (name : Text) (lasting : Lasting) (host : MatchedHost)
    (other : Text) (search : Search) → lasting ≡ lasting_of rule → AreOthers name before
    → KnowsHost rule before other host → (other ≡ name → ⊥) → StandsWithNew lasting host name search
    → Stands rule before other name search
stands_new rule before name lasting host other search is_lasting others knows apart new =
    let named : string_bytes host.name ≡ other = knows.named in
    let watched : watched_by search ≡ watches_of rule other name = new.watched
    ∙ ap (λ (l : Lasting). record { host = string_bytes host.name; lasting = l } ∷ record { host = name; lasting = l }
    ∷ [])
    is_lasting
    ∙ ap (λ (h : Text). record { host = h; lasting = lasting_of rule } ∷ record
    { host = name; lasting = lasting_of rule }
    ∷ []) named in
    let had : HasTaken (all_kept (seen_events other host.kept)) search =
    subst (λ (h : Text). AreInTurn (all_kept (seen_events h host.kept)) → HasTaken (all_kept (seen_events h host.kept))
    search) named new.taken knows.kept.in_turn in
    record {
      watched = watched;
      unknown = unknown_new (all_kept (seen_events other host.kept)) search other name (lasting_of rule)
          (is_known search)
          refl watched had
          (λ one is. knows.kept.of_host one (knows.kept.thins.among one is)) apart;
      kept = all_kept (seen_events other host.kept);
      taken = had;
      thins = subst (λ (l : List Taken). Thins (all_kept (seen_events other host.kept)) l)
          (sym (only_first other name rule [] before others)) knows.kept.thins;
    }

-- The host is new.
module _ (pattern : Re) (rule : Rule Re) (before : List Logged) (name : Text) (old new : PairSearch)
    (taken : HasTakenLog pattern rule before old) (adds : AddsHost name old new)
    (none : IsNoneOf name old.hosts.items) (matching : matches pattern name ≡ true) where
  abbrev names : List Text
  names = hosts_in pattern before

  not_named : (p : ℕ) → p < length names → host_at names p ≡ name → ⊥
  not_named = none_named rule before names old.hosts.items name taken.hosts none

  others : AreOthers name before
  others = silent pattern before name matching not_named

  many : length (names ++ name ∷ []) ≡ length names + 1
  many = length-append names (name ∷ [])

  old_name : (p : ℕ) → p < length names → host_at (names ++ name ∷ []) p ≡ host_at names p
  old_name p within = get_or_append_left names (name ∷ []) [] p within

  new_name : host_at (names ++ name ∷ []) (length names) ≡ name
  new_name = get_or-append_seam names name [] []

  distinct_more : AreDistinct (names ++ name ∷ [])
  distinct_more p q p_in q_in same = elim (eqb_tells p (length names)) [
    | inl p_new ↦ elim (eqb_tells q (length names)) [
      | inl q_new ↦ p_new.1 ∙ sym q_new.1
      | inr q_old ↦ absurd (not_named q (less q q_in q_old.1) (sym (old_name q (less q q_in q_old.1)) ∙ sym same
          ∙ ap (host_at (names ++ name ∷ [])) p_new.1 ∙ new_name))
    ]
    | inr p_old ↦ elim (eqb_tells q (length names)) [
      | inl q_new ↦ absurd (not_named p (less p p_in p_old.1) (sym (old_name p (less p p_in p_old.1)) ∙ same
          ∙ ap (host_at (names ++ name ∷ [])) q_new.1 ∙ new_name))
      | inr q_old ↦ taken.hosts.distinct p q (less p p_in p_old.1) (less q q_in q_old.1)
          (sym (old_name p (less p p_in p_old.1)) ∙ same ∙ old_name q (less q q_in q_old.1))
    ]
  ]
    where
      less : (n : ℕ) → n < length (names ++ name ∷ []) → (n ≡ length names → ⊥) → n < length names
      less n inside not_last = omega (arith, inside, not_last, many)

  hosts_more : AreHosts rule before (names ++ name ∷ []) new.hosts.items
  hosts_more = rw adds.hosts (record {
    as_many = omega (arith, length-append old.hosts.items (adds.host ∷ []), many, taken.hosts.as_many);
    distinct = distinct_more;
    each = λ p host inside. elim (eqb_tells p (length names)) [
      | inl last ↦ rw (last.1, new_name, sym taken.hosts.as_many, get_or-append_seam old.hosts.items adds.host [] host)
          (knows_silent rule before name adds.host others
          (subst (λ (r : Rule Re). KnowsHost r [] name adds.host) taken.by_rule adds.knows))
      | inr earlier ↦
          let within = less p inside earlier.1 in
          rw (
            old_name p within,
            get_or_append_left old.hosts.items (adds.host ∷ []) host p
                (omega (arith, within, taken.hosts.as_many)),
          ) (taken.hosts.each p host within)
    ];
  })
    where
      less : (n : ℕ) → n < length (names ++ name ∷ []) → (n ≡ length names → ⊥) → n < length names
      less n inside not_last = omega (arith, inside, not_last, many)

  rows_more : StandAll rule before (names ++ name ∷ []) new.rows.items
  rows_more = rw adds.rows (record {
    as_many = omega (arith, length-append old.rows.items (adds.row ∷ []), many, taken.rows.as_many);
    wide = λ q row inside. elim (eqb_tells q (length old.rows.items)) [
      | inl last ↦ rw (last.1, get_or-append_seam old.rows.items adds.row [] row)
          (omega (arith, adds.stand.as_many, taken.rows.as_many, taken.hosts.as_many))
      | inr earlier ↦ rw (get_or_append_left old.rows.items (adds.row ∷ []) row q (less q inside earlier.1))
          (taken.rows.wide q row (less q inside earlier.1))
    ];
    each = λ p q row search up inside. elim (eqb_tells q (length old.rows.items)) [
      | inl last ↦ rw last.1 (last_row p row search (omega (arith, up, last.1)))
      | inr earlier ↦
          let within = less_name q inside earlier.1 in
          rw (
            get_or_append_left old.rows.items (adds.row ∷ []) row q (omega (arith, within, taken.rows.as_many)),
            old_name q within,
            old_name p (omega (arith, up, within)),
          ) (taken.rows.each p q row search up within)
    ];
  })
    where
      less : (n : ℕ) → n < length (old.rows.items ++ adds.row ∷ []) → (n ≡ length old.rows.items → ⊥)
          → n < length old.rows.items
      less n inside not_last = omega (arith, inside, not_last, length-append old.rows.items (adds.row ∷ []))

      less_name : (n : ℕ) → n < length (names ++ name ∷ []) → (n ≡ length old.rows.items → ⊥) → n < length names
      less_name n inside not_last = omega (arith, inside, not_last, many, taken.rows.as_many)

      last_row : (p : ℕ) (row : PairRow) (search : Search) → p < length old.rows.items
          → Stands rule before (host_at (names ++ name ∷ []) p) (host_at (names ++ name ∷ []) (length old.rows.items))
          (search_at (old.rows.items ++ adds.row ∷ []) p (length old.rows.items) row search)
      last_row p row search below =
          let within : p < length names = omega (arith, below, taken.rows.as_many) in
          let host_in : p < length old.hosts.items = omega (arith, within, taken.hosts.as_many) in
          let host = some_at old.hosts.items p host_in in
          rw (get_or-append_seam old.rows.items adds.row [] row, taken.rows.as_many, new_name, old_name p within)
          (stands_new rule before name (lasting_of old.condition.now.rule) (slice_index_or old.hosts.items p host)
          (host_at names p)
          (slice_index_or adds.row.searches.items p search)
          (sym (ap lasting_of (sym taken.by_rule) ∙ lasting_same _ old.condition.now.rule)) others
          (taken.hosts.each p host within) (not_named p within) (adds.stand.each p host search host_in))

  pub place_new : (place : ℕ) → place ≡ length old.hosts.items → HasPlaceAt pattern rule before name place new
  place_new place is = record {
    by_names = adds.names ∙ taken.by_names;
    by_rule = ap rule_of adds.condition ∙ taken.by_rule;
    names = names ++ name ∷ [];
    those = λ one named. hosts_push pattern before one
        ∙ hosts_added pattern names one name named matching (any_none names name not_named);
    hosts = hosts_more;
    rows = rows_more;
    within = omega (arith, is, many, taken.hosts.as_many);
    at = rw (is, taken.hosts.as_many) new_name;
  }
