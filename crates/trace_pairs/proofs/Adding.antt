-- A host that comes late, and what is kept for it.
use Rattle.std.proofs.lemmas.Grind.{common_steps}
use Rattle.trace_pairs.proofs.Words.{◌≡◌, ◌∙◌, ℕ, ◌+◌, ◌<◌, ◌≤◌, Bool, Option, Some, None, List, [], ◌∷◌, ◌++◌, length}
use Rattle.trace_pairs.proofs.Words.{take}
use Rattle.trace_pairs.proofs.Words.{refl, sym, ap, subst, arith, inl, inr, zero, suc, slice_index_or, take_more}
use Rattle.trace_pairs.proofs.Words.{take_all}
use Rattle.trace_pairs.proofs.Words.{append-nil, length-append, get_or_append_left, Logged, Search, HostWatch, Taken}
use Rattle.trace_pairs.proofs.Words.{watch_at, IsNextAt, MayFollow, Lasting, Text, AreInTurn, option_to_list}
use Rattle.std.proofs.lemmas.Bool.Decides.{eqb_tells}
use Rattle.std.proofs.lemmas.List.{get_or_default}
use Rattle.std.proofs.Math.ListN.{get_or-append}
use Rattle.std.proofs.Math.Seq.{get_or-append_seam}
use Rattle.trace_moment.specs.Moment.{HaveDistinctHosts}
use Rattle.trace_moment.specs.Search.{HasTaken, watched_by}
use Rattle.trace_pairs.specs.Kept.{KeptEvents, all_kept}

-- Two hosts with two names are distinct.
pub two_distinct : (watched : List HostWatch) (lasting : Lasting) (first second : Text)
    → watched ≡ record { host = first; lasting = lasting } ∷ record { host = second; lasting = lasting } ∷ []
    → (first ≡ second → ⊥) → HaveDistinctHosts watched
two_distinct watched lasting first second is apart = rw is by_place
  where
    by_place : HaveDistinctHosts
        (record { host = first; lasting = lasting } ∷ record { host = second; lasting = lasting } ∷ [])
    by_place zero zero p_in q_in same = refl
    by_place zero (suc zero) p_in q_in same = absurd (apart same)
    by_place (suc zero) zero p_in q_in same = absurd (apart (sym same))
    by_place (suc zero) (suc zero) p_in q_in same = refl
    by_place (suc (suc p)) q p_in q_in same = absurd (omega (arith, p_in))
    by_place zero (suc (suc q)) p_in q_in same = absurd (omega (arith, q_in))
    by_place (suc zero) (suc (suc q)) p_in q_in same = absurd (omega (arith, q_in))

-- A search takes one event more of those that are kept.
module _ (all : List Taken) (host : Text) (first old new : Search) (one : Taken) (logged : Logged)
    (named : host ≡ (watch_at (watched_by first) 0).host) (is_same : watched_by old ≡ watched_by first)
    (logged_is : logged ≡ one.logged) (host_is : one.logged.event.host ≡ host) (turn : AreInTurn all)
    (takes : (taken : List Taken) → HasTaken taken old → IsNextAt (watched_by old) 0 taken logged
    → HasTaken (taken ++ record { logged = logged; holds = one.holds } ∷ []) new) where
  pub replays : (i : ℕ) → i < length all → slice_index_or all i one ≡ one → HasTaken (take i all) old
      → HasTaken (take (i + 1) all) new
  replays i within at had = subst (λ (l : List Taken). HasTaken l new)
      (ap (λ (l : Logged). take i all ++ record { logged = l; holds = one.holds } ∷ []) logged_is
      ∙ ap (λ (t : Taken). take i all ++ t ∷ []) (sym at) ∙ sym (take_more all i one within))
      (takes (take i all) had (record {
        host = ap (λ (l : Logged). l.event.host) logged_is ∙ host_is ∙ named
            ∙ ap (λ (w : List HostWatch). (watch_at w 0).host) (sym is_same);
        follows = subst (λ (l : Logged). MayFollow (take i all) l.event) (sym logged_is)
            (subst (λ (t : Taken). MayFollow (take i all) t.logged.event) at (turn i one within));
      }))

-- Of those that wait.
pub at_waiting : (waiting more : List Taken) (i : ℕ) (one : Taken) → i < length waiting
    → slice_index_or waiting i one ≡ one → slice_index_or (waiting ++ more) i one ≡ one
at_waiting waiting more i one within at = get_or_append_left waiting more one i within ∙ at

pub in_all : (waiting more : List Taken) (i : ℕ) → i < length waiting → i < length (waiting ++ more)
in_all waiting more i within = omega (arith, within, length-append waiting more)

-- The last one.
pub last_of_all : (waiting : List Taken) (one : Taken) (new : Search)
    → HasTaken (take (length waiting + 1) (waiting ++ one ∷ [])) new → HasTaken (waiting ++ one ∷ []) new
last_of_all waiting one new had = subst (λ (l : List Taken). HasTaken l new)
    (take_all (length waiting + 1) (waiting ++ one ∷ []) (omega (arith, length-append waiting (one ∷ [])))) had

pub before_last : (waiting : List Taken) (one : Taken) (search : Search) (i : ℕ) → i ≡ length waiting
    → HasTaken (take i (waiting ++ one ∷ [])) search → HasTaken (take (length waiting) (waiting ++ one ∷ [])) search
before_last waiting one search i is had = subst (λ n. HasTaken (take n (waiting ++ one ∷ [])) search) is had

-- One more, for one item more.
pub each_more : {X Y : Type 0} (R : X → Y → Type 0) (xs : List X) (ys : List Y) (n : ℕ) (x : X) (y : Y)
    → length ys ≡ n → n < length xs → R (slice_index_or xs n x) y
    → ((p : ℕ) (a : X) (b : Y) → p < n → R (slice_index_or xs p a) (slice_index_or ys p b))
    → (p : ℕ) (a : X) (b : Y) → p < n + 1 → R (slice_index_or xs p a) (slice_index_or (ys ++ y ∷ []) p b)
each_more R xs ys n x y many within now before p a b below =
    grind (arith, eqb_tells, get_or-append_seam, get_or_default, get_or-append)
