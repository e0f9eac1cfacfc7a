-- The clocks in JSON values, member by member, and the numbers in clocks.
use Rattle.trace_log.proofs.Words.{◌≡◌, ℕ, ◌+◌, ◌<◌, Bool, true, false, cond, max, List, [], ◌∷◌, ◌++◌, length, get_or}
use Rattle.trace_log.proofs.Words.{drop, take, Result, Ok, Err, string_bytes, refl, ap, sym, ◌∙◌, arith, add-one}
use Rattle.trace_log.proofs.Words.{append_assoc, append-nil, subst, ◌≤◌, map-append, drop_all, Bor, bytes_eq, drop-cons}
use Rattle.trace_log.proofs.Words.{take-suc, Json, Members, no_members, member, members_view, value_view, LineFault}
use Rattle.trace_log.proofs.Words.{Has}
use Rattle.trace_log.proofs.Words.{Memory, ◌>>=◌, Fails, Member, member_in, seen_member, seen_clock}
use Rattle.json.specs.declared.value.Value.{Value}
use Rattle.trace_log.specs.declared.fault.LogFaultKind.{LogFaultKind}
use Rattle.trace_log.specs.declared.event.Member.{Member as OwnMember}
use Rattle.trace_log.specs.Clock.{clock_of, number_of}

abbrev pub with_front : List Member → Result (List Member) LogFaultKind → Result (List Member) LogFaultKind
with_front front spelled = spelled >>= λ members. Ok (front ++ members)

regroup : (front : List Member) (one : Member) (spelled : Result (List Member) LogFaultKind)
    → with_front front (spelled >>= λ members. Ok (one ∷ members)) ≡ with_front (front ++ one ∷ []) spelled
regroup front one (Ok members) = ap (λ (all : List Member). Ok all) (sym (append_assoc front (one ∷ []) members))
regroup front one (Err fault) = refl

-- One member more of a clock.
pub clock_more : (front : List Member) (one : Member) (name : List ℕ) (value : Json) (others : Members)
    → member_in name value ≡ Ok one
    → with_front front (clock_of (member name value others)) ≡ with_front (front ++ one ∷ []) (clock_of others)
unfolding clock_of
clock_more front one name value others is = rw is (regroup front one (clock_of others))

-- A member that is none.
pub clock_fails : (fault : LineFault) (front : List Member) (name : List ℕ) (value : Json) (others : Members)
    → Fails fault (member_in name value) → Fails fault (with_front front (clock_of (member name value others)))
unfolding clock_of
clock_fails Memory front name value others fails = tt
clock_fails (Has what) front name value others fails = rw fails refl

pub clock_end : (front : List Member) → with_front front (clock_of no_members) ≡ Ok front
unfolding clock_of
clock_end front = ap (λ (all : List Member). Ok all) (append-nil front)

no_front : (spelled : Result (List Member) LogFaultKind) → with_front [] spelled ≡ spelled
no_front (Ok members) = refl
no_front (Err fault) = refl

module _ {A : Type 0} where
  -- The members that are left, and those after the first of them.
  pub members_left : (members : List (Bor (List ℕ) × Value A)) (i : ℕ) (d : Bor (List ℕ) × Value A) → i < length members
      → members_view (drop i members) ≡ member (get_or members i d).0.now (value_view (get_or members i d).1)
      (members_view (drop (i + 1) members))
  members_left members i d within = rw (add-one, drop-cons members i d within) refl

  pub clock_begins : (front : List Member) (members : List (Bor (List ℕ) × Value A)) → front ≡ []
      → with_front front (clock_of (members_view (drop 0 members))) ≡ clock_of (members_view members)
  clock_begins front members none = rw none (no_front (clock_of (members_view members)))

  -- One member more of the clock in the members from the i-th on.
  pub clock_more_at : (front : List Member) (members : List (Bor (List ℕ) × Value A)) (i : ℕ) (d : Bor (List ℕ)
      × Value A) (one : Member) (whole : Result (List Member) LogFaultKind) → i < length members
      → d ≡ get_or members i d
      → with_front front (clock_of (members_view (drop i members))) ≡ whole → member_in d.0.now (value_view d.1)
      ≡ Ok one → with_front (front ++ one ∷ []) (clock_of (members_view (drop (i + 1) members))) ≡ whole
  clock_more_at front members i d one whole within same so_far is =
      let read : member_in (get_or members i d).0.now (value_view (get_or members i d).1) ≡ Ok one = rw (← same) is in
      let left = ap (λ all. with_front front (clock_of all)) (members_left members i d within) in
      sym (clock_more front one _ _ _ read) ∙ sym left ∙ so_far

  pub clock_fails_at : (fault : LineFault) (front : List Member) (members : List (Bor (List ℕ) × Value A)) (i : ℕ) (d :
      Bor (List ℕ) × Value A) (whole : Result (List Member) LogFaultKind) → i < length members → d ≡ get_or members i d
      → with_front front (clock_of (members_view (drop i members))) ≡ whole
      → Fails fault (member_in d.0.now (value_view d.1)) → Fails fault whole
  clock_fails_at fault front members i d whole within same so_far fails =
      let failed : Fails fault (member_in (get_or members i d).0.now (value_view (get_or members i d).1)) =
      rw (← same) fails in
      let left = ap (λ all. with_front front (clock_of all)) (members_left members i d within) in
      subst (Fails fault) (sym left ∙ so_far) (clock_fails fault front _ _ _ failed)

  pub clock_ends : (front : List Member) (members : List (Bor (List ℕ) × Value A)) (i : ℕ)
      (whole : Result (List Member) LogFaultKind) → length members ≤ i
      → with_front front (clock_of (members_view (drop i members))) ≡ whole → whole ≡ Ok front
  clock_ends front members i whole end so_far =
      sym so_far ∙ ap (λ (left : List (Bor (List ℕ) × Value A)). with_front front (clock_of (members_view left)))
      (drop_all i members end) ∙ clock_end front

pub no_number_of : (host : List ℕ) → 0 ≡ number_of host []
unfolding number_of
no_number_of host = refl

pub number_of-more : (name : List ℕ) (clock : List Member) (one : Member) → number_of name (clock ++ one ∷ []) ≡ cond
    (bytes_eq one.name name) (max one.number (number_of name clock)) (number_of name clock)
unfolding number_of
number_of-more name [] one = refl
number_of-more name (first ∷ others) one = rw (number_of-more name others one)
    (swapped (bytes_eq first.name name) (bytes_eq one.name name) first.number one.number (number_of name others))
  where
    swapped : (a b : Bool) (m n k : ℕ) → cond a (max m (cond b (max n k) k)) (cond b (max n k) k) ≡ cond b
        (max n (cond a (max m k) k)) (cond a (max m k) k)
    swapped true true m n k = omega arith
    swapped true false m n k = refl
    swapped false true m n k = refl
    swapped false false m n k = refl

-- The clock up to a member, and with it.
pub number_of-next : (host : List ℕ) (clock : List OwnMember) (i : ℕ) (d : OwnMember) → i < length clock
    → d ≡ get_or clock i d
    → number_of host (seen_clock (take (i + 1) clock)) ≡ cond (bytes_eq (string_bytes d.name) host)
    (max d.number (number_of host (seen_clock (take i clock)))) (number_of host (seen_clock (take i clock)))
number_of-next host clock i d within same =
    let next : take (i + 1) clock ≡ take i clock ++ d ∷ [] =
    rw (add-one, take-suc clock i d within) (ap (λ (m : OwnMember). take i clock ++ m ∷ []) (sym same)) in
    ap (λ all. number_of host (seen_clock all)) next ∙ ap (number_of host)
    (map-append seen_member (take i clock) (d ∷ [])) ∙ number_of-more host (seen_clock (take i clock)) (seen_member d)

-- The number once a member was looked at.
pub number_same : (host : List ℕ) (clock : List OwnMember) (i : ℕ) (d : OwnMember) (text : List ℕ) (n : ℕ)
    → i < length clock → d ≡ get_or clock i d → text ≡ string_bytes d.name → true ≡ bytes_eq text host
    → n ≡ number_of host (seen_clock (take i clock))
    → max d.number n ≡ number_of host (seen_clock (take (i + 1) clock))
number_same host clock i d text n within same name is so_far =
    let next = number_of-next host clock i d within same in
    rw (next, ← name, ← is, ← so_far) refl

pub number_other : (host : List ℕ) (clock : List OwnMember) (i : ℕ) (d : OwnMember) (text : List ℕ) (n : ℕ)
    → i < length clock → d ≡ get_or clock i d → text ≡ string_bytes d.name → false ≡ bytes_eq text host
    → n ≡ number_of host (seen_clock (take i clock))
    → n ≡ number_of host (seen_clock (take (i + 1) clock))
number_other host clock i d text n within same name is so_far =
    let next = number_of-next host clock i d within same in
    rw (next, ← name, ← is, ← so_far) refl
