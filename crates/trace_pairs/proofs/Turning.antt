-- The searches of a host take its event, one after another.
use Rattle.std.proofs.lemmas.Grind.{common_steps}
use Rattle.std.proofs.lemmas.Bool.Decides.{eqb_tells}
use Rattle.trace_pairs.proofs.Words.{◌≡◌, ◌≢◌, ◌∙◌, ℕ, ◌+◌, ◌<◌, ◌≤◌, Bool, true, false, List, [], ◌∷◌, ◌++◌, Result}
use Rattle.trace_pairs.proofs.Words.{Ok, Err}
use Rattle.trace_pairs.proofs.Words.{length, refl, sym, ap, subst, arith, inl, inr, ◌⊎◌, length-set, get_or-set_same}
use Rattle.trace_pairs.proofs.Words.{get_or-set_other, slice_index_or, ◌||◌, bytes_eq, bytes_eq-Decides, Re, Logged}
use Rattle.trace_pairs.proofs.Words.{Search}
use Rattle.trace_pairs.proofs.Words.{HostWatch, Taken, watch_at, IsKnown, IsNextAt, MayFollow, NoneIsKnown, Rule, Text}
use Rattle.trace_pairs.proofs.Words.{Thins, FollowsIn}
use Rattle.std.specs.Prelude.{slice_set}
use Rattle.trace_moment.specs.Search.{HasTaken, Keeps, is_known, watched_by}
use Rattle.trace_moment.specs.Keeping.{KeepTaken, KeepKnown}
use Rattle.trace_moment.proofs.KeptSteps.{known_kept}
use Rattle.trace_moment.proofs.KeptQueues.{watched_same}
use Rattle.trace_condition.specs.Holding.{holds_at_last}
use Rattle.trace_pairs.specs.declared.rows.PairRow.{PairRow}
use Rattle.trace_pairs.specs.declared.rows.HostPair.{HostPair}
use Rattle.trace_pairs.specs.Hosts.{host_at, AreDistinct}
use Rattle.trace_pairs.specs.Taking.{judged, judged_after, is_at_one, taken_by, texts_at, watches_of}
use Rattle.trace_pairs.specs.Pairs.{IsLower, OfTwo}
use Rattle.trace_pairs.specs.Rows.{ComesAt, HadTurn, HasTurn, KnowsLowest, KnowsOne, StandAll, StandPartly, Stands}
use Rattle.trace_pairs.specs.Rows.{TakesAt, search_at}
use Rattle.trace_pairs.proofs.Taken.{picked_more, picked_same, may_picked}
use Rattle.trace_pairs.proofs.Thinning.{may_kept, thins_push, known_full, unknown_full}

-- One search of the rows is another one.
module _ (rows : List PairRow) (p q : ℕ) (row : PairRow) (one : Search) (q_in : q < length rows)
    (p_in : (other : PairRow) → p < length (slice_index_or rows q other).searches.items)
    (set : (other : PairRow) → row.searches.items ≡ slice_set (slice_index_or rows q other).searches.items p one) where
  pub at_pair : (r : PairRow) (s : Search) → search_at (slice_set rows q row) p q r s ≡ one
  at_pair r s = ap (λ (x : PairRow). slice_index_or x.searches.items p s) (get_or-set_same rows q row r q_in)
      ∙ ap (λ (l : List Search). slice_index_or l p s) (set r)
      ∙ get_or-set_same (slice_index_or rows q r).searches.items p one s (p_in r)

  pub at_other : (p' q' : ℕ) (r : PairRow) (s : Search) → (q' ≡ q → p' ≢ p)
      → search_at (slice_set rows q row) p' q' r s ≡ search_at rows p' q' r s
  at_other p' q' r s apart = elim (eqb_tells q' q) [
    | inl here ↦ rw here.1 (ap (λ (x : PairRow). slice_index_or x.searches.items p' s)
        (get_or-set_same rows q row r q_in) ∙ ap (λ (l : List Search). slice_index_or l p' s) (set r)
        ∙ get_or-set_other (slice_index_or rows q r).searches.items p p' one s (apart here.1))
    | inr there ↦ ap (λ (x : PairRow). slice_index_or x.searches.items p' s)
        (get_or-set_other rows q q' row r there.1)
  ]

  pub wide_set : ((q' : ℕ) (r : PairRow) → q' < length rows → length (slice_index_or rows q' r).searches.items ≡ q')
      → (q' : ℕ) (r : PairRow) → q' < length (slice_set rows q row)
      → length (slice_index_or (slice_set rows q row) q' r).searches.items ≡ q'
  wide_set wide q' r within = elim (eqb_tells q' q) [
    | inl here ↦ rw (
      here.1,
      get_or-set_same rows q row r q_in,
      set r,
      length-set (slice_index_or rows q r).searches.items p one,
    ) (wide q r q_in)
    | inr there ↦ rw (get_or-set_other rows q q' row r there.1)
        (wide q' r (omega (arith, within, length-set rows q row)))
  ]

-- A search that knows no moment shows that none is known.
pub unknown_of : (rule : Rule Re) (logged : List Logged) (first second : Text) (search : Search)
    → Stands rule logged first second search → OfTwo NoneIsKnown rule logged first second
unknown_of rule logged first second search stands =
    let had : KeepTaken stands.kept search.queues.items search.floors.items false =
    subst (λ (known : Bool). KeepTaken stands.kept search.queues.items search.floors.items known) stands.unknown
    stands.taken in
    unknown_full (watches_of rule first second) stands.kept (taken_by rule logged first second) stands.thins
    (subst (λ (w : List HostWatch). NoneIsKnown w stands.kept)
    (sym (watched_same search.queues.items had.queues had.are) ∙ stands.watched) had.stand.moment.none_known)

-- An event of neither host changes nothing.
pub stands_over : (rule : Rule Re) (before : List Logged) (one : Logged) (first second : Text) (search : Search)
    → (first ≡ one.event.host → ⊥) → (second ≡ one.event.host → ⊥) → Stands rule before first second search
    → Stands rule (before ++ one ∷ []) first second search
stands_over rule before one first second search not_first not_second stands = record {
  watched = stands.watched;
  unknown = stands.unknown;
  kept = stands.kept;
  taken = stands.taken;
  thins = subst (λ (l : List Taken). Thins stands.kept l)
      (sym (picked_same (is_at_one first second) rule before one neither)) stands.thins;
}
  where
    is_not : (name : Text) → (name ≡ one.event.host → ⊥) → bytes_eq one.event.host name ≡ false
    is_not name not_same = grind (arith, common_steps, bytes_eq-Decides)

    neither : (bytes_eq one.event.host first || bytes_eq one.event.host second) ≡ false
    neither = rw (is_not first not_first, is_not second not_second) refl

-- An event of one of the two is taken.
module _ (rule : Rule Re) (before : List Logged) (one : Logged) (holds : Bool) (first second : Text)
    (watched : ℕ) (old new : Search) (stands : Stands rule before first second old)
    (follow : FollowsIn before one.event)
    (held : holds ≡ holds_at_last rule (texts_at one.event.host (before ++ one ∷ [])))
    (named : one.event.host ≡ (watch_at (watches_of rule first second) watched).host)
    (is_one : is_at_one first second (judged_after rule before one) ≡ true) where
  next : Taken
  next = record { logged = one; holds = holds }

  all : (other : Taken) → bytes_eq other.logged.event.host one.event.host ≡ true
      → is_at_one first second other ≡ true
  all other same = ap (λ h. bytes_eq h first || bytes_eq h second)
      ((bytes_eq-Decides other.logged.event.host one.event.host).0 same) ∙ is_one

  may : MayFollow (taken_by rule before first second) one.event
  may = may_picked (is_at_one first second) rule before one all follow

  pub next_at : IsNextAt (watched_by old) watched stands.kept one
  next_at = subst (λ (w : List HostWatch). IsNextAt w watched stands.kept one) (sym stands.watched) (record {
    host = named;
    follows = may_kept stands.kept (taken_by rule before first second) stands.thins one.event may;
  })

  thins_next : Thins (stands.kept ++ record { logged = one; holds = holds } ∷ [])
      (taken_by rule (before ++ one ∷ []) first second)
  thins_next = subst (λ (l : List Taken). Thins (stands.kept ++ record { logged = one; holds = holds } ∷ []) l)
      (ap (λ (h : Bool). taken_by rule before first second ++ record { logged = one; holds = h } ∷ []) held
      ∙ sym (picked_more (is_at_one first second) rule before one is_one))
      (thins_push stands.kept (taken_by rule before first second) (record { logged = one; holds = holds })
      stands.thins may)

  module _ (same : watched_by new ≡ watched_by old)
      (taken : HasTaken (stands.kept ++ record { logged = one; holds = holds } ∷ []) new) where
    pub stands_next : is_known new ≡ false → Stands rule (before ++ one ∷ []) first second new
    stands_next unknown = record {
      watched = same ∙ stands.watched;
      unknown = unknown;
      kept = stands.kept ++ record { logged = one; holds = holds } ∷ [];
      taken = taken;
      thins = thins_next;
    }

    pub knows_next : is_known new ≡ true → KnowsOne IsKnown rule (before ++ one ∷ []) first second new
    knows_next known =
        let kept = known_kept (stands.kept ++ record { logged = one; holds = holds } ∷ []) new.queues.items
        new.floors.items (subst (λ (k : Bool). KeepTaken (stands.kept ++ record { logged = one; holds = holds } ∷ [])
        new.queues.items new.floors.items k) known taken) in
        record {
          watched = same ∙ stands.watched;
          known = known;
          moment = kept.moment;
          is = known_full (watches_of rule first second) (stands.kept ++ record { logged = one; holds = holds } ∷ [])
              (taken_by rule (before ++ one ∷ []) first second) thins_next kept.moment
              (subst (λ (w : List HostWatch). IsKnown w (stands.kept ++ record { logged = one; holds = holds } ∷ [])
              kept.moment) (same ∙ stands.watched) kept.known);
          keeps = kept.kept_is;
        }
