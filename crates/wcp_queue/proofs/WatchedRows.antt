-- The watched processes by rising number, and the rows that a checker has of them.
use Rattle.wcp_queue.proofs.Words.{◌≡◌, ◌≢◌, ℕ, zero, suc, ◌+◌, ◌<◌, ◌≤◌, ◌⊎◌, Bool, true, false, cond, Option, Some}
use Rattle.wcp_queue.proofs.Words.{None, List, [], ◌∷◌, ◌++◌, length, get_or, slice_get, slice_index, slice_index_or}
use Rattle.wcp_queue.proofs.Words.{filter, refl, sym, ◌∙◌, ap, subst, inl, inr, arith, is_some, unwrap_or, cases_Bool}
use Rattle.wcp_queue.proofs.Words.{cases_eq, cases_lt, eqb, eq-eqb, ne_eqb, get_or-map, slice_get-get_or}
use Rattle.wcp_queue.proofs.Words.{slice_get_past, length-map-range_with_len, get_or-map-range_with_len, range_with_len}
use Rattle.wcp_queue.proofs.Words.{NumberSet, IsWatched, filter-append, NamesWatched, interval_of, AreSomeWatched}
use Rattle.wcp_queue.proofs.Words.{members_of, row_of, known_of, cut_of, set as list_set, take, append-nil, length-set}
use Rattle.wcp_queue.proofs.Words.{get_or-set_same, get_or-set_other, get_or_append_left, get_or-take, length-take-le}
use Rattle.std.proofs.lemmas.List.{ext_get_or, get_or_push, length_push}
use Rattle.std.specs.FinSet as set

-- what a test keeps of the numbers from a on
module _ (test : ℕ → Bool) where
  abbrev kept : ℕ → ℕ → List ℕ
  kept a n = filter test (range_with_len a n)

  record IsKept (a n x : ℕ) : Type 0 where
    from : a ≤ x
    below : x < a + n
    passes : test x ≡ true

  kept_in : (a n i : ℕ) → i < length (kept a n) → IsKept a n (slice_index (kept a n) i)
  kept_in a zero i below = absurd (omega arith)
  kept_in a (suc n) i below = elim (cases_Bool (test a)) [
    | inl passes ↦ rw passes (first passes (kept_in (a + 1) n) i (rw passes at below))
    | inr out ↦ rw out (later (kept_in (a + 1) n i (rw out at below)))
  ]
    where
      later : {x : ℕ} → IsKept (a + 1) n x → IsKept a (suc n) x
      later rest = record { from = omega (arith, rest.from); below = omega (arith, rest.below); passes = rest.passes }

      first : test a ≡ true
          → ((i : ℕ) → i < length (kept (a + 1) n) → IsKept (a + 1) n (slice_index (kept (a + 1) n) i))
          → (i : ℕ) → i < length (a ∷ kept (a + 1) n) → IsKept a (suc n) (slice_index (a ∷ kept (a + 1) n) i)
      first passes rest zero below = record { from = omega arith; below = omega arith; passes = passes }
      first passes rest (suc i) below = later (rest i (omega arith))

  kept_at : (a n x : ℕ) → IsKept a n x → (i : ℕ) × (i < length (kept a n)) × (slice_index (kept a n) i ≡ x)
  kept_at a zero x is = absurd (omega (arith, is.from, is.below))
  kept_at a (suc n) x is = elim (cases_eq a x) [
    | inl same ↦
        let passes : test a ≡ true = ap test same ∙ is.passes in
        rw passes (0, omega arith, same)
    | inr apart ↦
        let (i, below, here) =
        kept_at (a + 1) n x (record { from = after apart; below = omega (arith, is.below); passes = is.passes }) in
        elim (cases_Bool (test a)) [
          | inl passes ↦ rw passes (suc i, omega arith, here)
          | inr out ↦ rw out (i, below, here)
        ]
  ]
    where
      after : a ≢ x → a + 1 ≤ x
      after apart = elim (cases_lt a x) [
        | inl less ↦ omega arith
        | inr more ↦ absurd (apart (omega (arith, is.from)))
      ]

  kept_rises : (a n i j : ℕ) → i < j → j < length (kept a n) → slice_index (kept a n) i < slice_index (kept a n) j
  kept_rises a zero i j order below = absurd (omega arith)
  kept_rises a (suc n) i j order below = elim (cases_Bool (test a)) [
    | inl passes ↦ rw passes (first (kept_rises (a + 1) n) i j order (rw passes at below))
    | inr out ↦ rw out (kept_rises (a + 1) n i j order (rw out at below))
  ]
    where
      first : ((i j : ℕ) → i < j → j < length (kept (a + 1) n)
          → slice_index (kept (a + 1) n) i < slice_index (kept (a + 1) n) j)
          → (i j : ℕ) → i < j → j < length (a ∷ kept (a + 1) n)
          → slice_index (a ∷ kept (a + 1) n) i < slice_index (a ∷ kept (a + 1) n) j
      first rest i zero order below = absurd (omega arith)
      first rest zero (suc j) order below = omega (arith, (kept_in (a + 1) n j (omega arith)).from)
      first rest (suc i) (suc j) order below = rest i j (omega arith) (omega arith)

  kept_few : (a n : ℕ) → length (kept a n) ≤ n
  kept_few a zero = omega arith
  kept_few a (suc n) = elim (cases_Bool (test a)) [
    | inl passes ↦ rw passes (omega (arith, kept_few (a + 1) n))
    | inr out ↦ rw out (omega (arith, kept_few (a + 1) n))
  ]

  -- what keeps as many as there are keeps all of them
  kept_all : (a n : ℕ) → length (kept a n) ≡ n → kept a n ≡ range_with_len a n
  kept_all a zero all = refl
  kept_all a (suc n) all = elim (cases_Bool (test a)) [
    | inl passes ↦ rw passes (ap (λ rest. a ∷ rest) (kept_all (a + 1) n (omega (arith, rw passes at all))))
    | inr out ↦ absurd (omega (arith, kept_few (a + 1) n, rw out at all))
  ]

-- a process has a row, or its row is past the rows
pub record HasRow (members : List ℕ) (p : ℕ) : Type 0 where
  pub within : row_of members p < length members
  pub own : slice_index members (row_of members p) ≡ p

pub record HasNoRow (members : List ℕ) (p : ℕ) : Type 0 where
  pub past : row_of members p ≡ length members
  pub other : (i : ℕ) → i < length members → slice_index members i ≢ p

pub row_cases : (members : List ℕ) (p : ℕ) → HasRow members p ⊎ HasNoRow members p
row_cases [] p = inr (record { past = refl; other = λ i below. absurd (omega arith) })
row_cases (k ∷ members) p = elim (cases_eq k p) [
  | inl same ↦
      let here : eqb k p ≡ true = eq-eqb k p same in
      inl (record { within = rw here (omega arith); own = rw here same })
  | inr apart ↦
      let elsewhere : eqb k p ≡ false = ne_eqb k p apart in
      elim (row_cases members p) [
        | inl has ↦ inl (record { within = rw elsewhere (omega (arith, has.within)); own = rw elsewhere has.own })
        | inr none ↦ inr (record { past = rw elsewhere (ap suc none.past); other = others apart none })
      ]
]
  where
    others : k ≢ p → HasNoRow members p → (i : ℕ) → i < length (k ∷ members) → slice_index (k ∷ members) i ≢ p
    others apart none zero below = apart
    others apart none (suc i) below = none.other i (omega arith)

module _ (n : ℕ) (watched : NumberSet) where
  abbrev members : List ℕ
  members = members_of n watched

  -- a row is that of a watched process
  pub member_is_watched : (i : ℕ) → i < length members → IsWatched n watched (slice_index members i)
  member_is_watched i below =
      let is = kept_in (set.contains watched) 0 n i below in
      record { below = omega (arith, is.below); member = is.passes }

  -- no two rows are of one process
  pub apart_rows : (i j : ℕ) → i < length members → j < length members → i ≢ j
      → slice_index members i ≢ slice_index members j
  apart_rows i j i_below j_below apart same = elim (cases_lt i j) [
    | inl less ↦ omega (arith, kept_rises (set.contains watched) 0 n i j less j_below)
    | inr more ↦ elim (cases_lt j i) [
      | inl less ↦ omega (arith, kept_rises (set.contains watched) 0 n j i less i_below)
      | inr equal ↦ apart (omega arith)
    ]
  ]

  pub few_rows : length members ≤ n
  few_rows = kept_few (set.contains watched) 0 n

  -- a watched process has a row, and another has none
  pub row_of_watched : (p : ℕ) → IsWatched n watched p → HasRow members p
  row_of_watched p is =
      let (i, below, here) = kept_at (set.contains watched) 0 n p
      (record { from = omega arith; below = omega (arith, is.below); passes = is.member }) in
      elim (row_cases members p) [
        | inl has ↦ has
        | inr none ↦ absurd (none.other i below here)
      ]

  pub watched_with_row : (p : ℕ) → HasRow members p → IsWatched n watched p
  watched_with_row p has = subst (IsWatched n watched) has.own (member_is_watched (row_of members p) has.within)

  pub row_of_member : (i : ℕ) → i < length members → row_of members (slice_index members i) ≡ i
  row_of_member i below = elim (row_cases members (slice_index members i)) [
    | inl has ↦ elim (cases_eq (row_of members (slice_index members i)) i) [
      | inl same ↦ same
      | inr apart ↦ absurd (apart_rows (row_of members (slice_index members i)) i has.within below apart has.own)
    ]
    | inr none ↦ absurd (none.other i below refl)
  ]

  pub some_rows : AreSomeWatched n watched → 0 < length members
  some_rows are =
      let (p, member) = are.some in
      omega (arith, (row_of_watched p (record { below = are.within p member; member = member })).within)

  -- the cut that names these intervals names a state of each watched process, and of no other
  module _ (intervals : List ℕ) (each : length intervals ≡ length members) where
    at_process : (p : ℕ) → p < n
        → slice_index_or (cut_of n members intervals) p None ≡ slice_get intervals (row_of members p)
    at_process p below =
        let at : 0 + p ≡ p = omega arith in
        get_or-map-range_with_len (λ q. slice_get intervals (row_of members q)) 0 n p p None below at

    pub interval_of-cut : (p : ℕ) → IsWatched n watched p
        → interval_of (cut_of n members intervals) p ≡ slice_index intervals (row_of members p)
    interval_of-cut p is =
        let within = (row_of_watched p is).within in
        ap (λ (o : Option ℕ). unwrap_or o 0)
        (at_process p is.below ∙ slice_get-get_or intervals (row_of members p) 0 (omega arith))

    pub NamesWatched-cut : NamesWatched n watched (cut_of n members intervals)
    NamesWatched-cut = record {
      processes = length-map-range_with_len (λ q. slice_get intervals (row_of members q)) 0 n;
      named = λ p below. ap is_some (at_process p below) ∙ named p below (row_cases members p);
    }
      where
        named : (p : ℕ) → p < n → HasRow members p ⊎ HasNoRow members p
            → is_some (slice_get intervals (row_of members p)) ≡ set.contains watched p
        named p below (inl has) =
            ap is_some (slice_get-get_or intervals (row_of members p) 0 (omega (arith, has.within)))
            ∙ sym (watched_with_row p has).member
        named p below (inr none) =
            let out : set.contains watched p ≡ false = elim (cases_Bool (set.contains watched p)) [
              | inl member ↦
                  let has = row_of_watched p (record { below = below; member = member }) in
                  absurd (omega (arith, has.within, none.past))
              | inr out ↦ out
            ] in
            ap is_some (slice_get_past intervals (row_of members p) (omega (arith, none.past))) ∙ sym out

-- what a clock says of the process of a row
pub known_at : (members clock : List ℕ) (i : ℕ) → i < length members
    → slice_index (known_of members clock) i ≡ slice_index clock (slice_index members i)
known_at members clock i below = get_or-map (slice_index clock) members i 0 0 below

-- the row of a process is the first place at which it stands
pub row_first : (members : List ℕ) (p row : ℕ) → row < length members → slice_index members row ≡ p
    → ((k : ℕ) → k < row → slice_index members k ≢ p) → row_of members p ≡ row
row_first [] p row below own none = absurd (omega arith)
row_first (k ∷ members) p zero below own none = rw (eq-eqb k p own) refl
row_first (k ∷ members) p (suc row) below own none =
    rw (ne_eqb k p (none 0 (omega arith)))
    (ap suc (row_first members p row (omega arith) own (λ i i_below. none (suc i) (omega arith))))

-- numbers from a on, and one more
range_more : (a n last : ℕ) → a + n ≡ last → range_with_len a (n + 1) ≡ range_with_len a n ++ last ∷ []
range_more a zero last is = ap (λ k. k ∷ []) (omega (arith, is))
range_more a (suc n) last is =
    let longer : suc n + 1 ≡ suc (n + 1) = omega arith in
    ap (range_with_len a) longer ∙ ap (λ rest. a ∷ rest) (range_more (a + 1) n last (omega (arith, is)))

-- with one process more
pub members_more : (n : ℕ) (watched : NumberSet)
    → members_of (n + 1) watched ≡ members_of n watched ++ cond (set.contains watched n) (n ∷ []) []
members_more n watched =
    let last : 0 + n ≡ n = omega arith in
    ap (filter (set.contains watched)) (range_more 0 n n last)
    ∙ filter-append (set.contains watched) (range_with_len 0 n) (n ∷ [])

pub row_none : (members : List ℕ) (p : ℕ) → ((k : ℕ) → k < length members → slice_index members k ≢ p)
    → row_of members p ≡ length members
row_none members p none = elim (row_cases members p) [
  | inl has ↦ absurd (none (row_of members p) has.within has.own)
  | inr out ↦ out.past
]

pub own_row : (members : List ℕ) (p row : ℕ) → row ≡ row_of members p → row < length members
    → slice_index members row ≡ p
own_row members p row is below = elim (row_cases members p) [
  | inl has ↦ subst (λ r. slice_index members r ≡ p) (sym is) has.own
  | inr out ↦ absurd (omega (arith, out.past))
]

-- the first of these numbers are the watched ones of n processes
pub record AreListed (numbers : List ℕ) (count n : ℕ) (watched : NumberSet) : Type 0 where
  pub long : length numbers ≡ 16
  pub counted : count ≡ length (members_of n watched)
  pub few : count ≤ n
  pub done : (k : ℕ) → k < count → get_or numbers k 0 ≡ get_or (members_of n watched) k 0

module _ (numbers : List ℕ) (count n : ℕ) (watched : NumberSet) (are : AreListed numbers count n watched) where
  pub listed_with : set.contains watched n ≡ true → count < 16
      → AreListed (list_set numbers count n) (count + 1) (n + 1) watched
  listed_with member room =
      let more : members_of (n + 1) watched ≡ members_of n watched ++ n ∷ [] =
      members_more n watched ∙ ap (λ b. members_of n watched ++ cond b (n ∷ []) []) member in
      record {
        long = length-set numbers count n ∙ are.long;
        counted = ap (λ k. k + 1) are.counted ∙ sym (length_push (members_of n watched) n) ∙ sym (ap length more);
        few = omega (arith, are.few);
        done = λ k below. elim (cases_lt k count) [
          | inl earlier ↦
              get_or-set_other numbers count k n 0 (λ same. absurd (omega (arith, same, earlier)))
              ∙ are.done k earlier
              ∙ sym (get_or_append_left (members_of n watched) (n ∷ []) 0 k (omega (arith, are.counted)))
              ∙ sym (ap (λ l. get_or l k 0) more)
          | inr last ↦
              let here : count ≡ k = omega arith in
              let size : length (members_of n watched) ≡ k = omega (arith, are.counted) in
              subst (λ i. get_or (list_set numbers count n) i 0 ≡ n) here
              (get_or-set_same numbers count n 0 (omega (arith, are.long)))
              ∙ sym (get_or_push (members_of n watched) n 0 k size) ∙ sym (ap (λ l. get_or l k 0) more)
        ];
      }

  pub listed_without : set.contains watched n ≡ false → AreListed numbers count (n + 1) watched
  listed_without out =
      let same : members_of (n + 1) watched ≡ members_of n watched =
      members_more n watched ∙ ap (λ b. members_of n watched ++ cond b (n ∷ []) []) out
      ∙ append-nil (members_of n watched) in
      record {
        long = are.long;
        counted = are.counted ∙ sym (ap length same);
        few = omega (arith, are.few);
        done = λ k below. are.done k below ∙ sym (ap (λ l. get_or l k 0) same);
      }

  pub listed_members : n ≤ 16 → take count numbers ≡ members_of n watched
  listed_members room =
      let size = length-take-le count numbers (omega (arith, are.long, are.few)) in
      ext_get_or 0 (take count numbers) (members_of n watched) (size ∙ are.counted) (λ k below.
      get_or-take count numbers k 0 (omega (arith, size)) ∙ are.done k (omega (arith, size)))

-- the first n entries are those of the cut
pub record AreEntries (entries : List (Option ℕ)) (n : ℕ) (members intervals : List ℕ) : Type 0 where
  pub long : length entries ≡ 16
  pub done : (k : ℕ) → k < n → get_or entries k None ≡ slice_get intervals (row_of members k)
  pub later : (k : ℕ) → n ≤ k → get_or entries k None ≡ None

module _ (entries : List (Option ℕ)) (n : ℕ) (members intervals : List ℕ)
    (are : AreEntries entries n members intervals) where
  pub entries_with : (interval : ℕ) → n < 16 → slice_get intervals (row_of members n) ≡ Some interval
      → AreEntries (list_set entries n (Some interval)) (n + 1) members intervals
  entries_with interval room at = record {
    long = length-set entries n (Some interval) ∙ are.long;
    done = λ k below. elim (cases_lt k n) [
      | inl earlier ↦
          get_or-set_other entries n k (Some interval) None (λ same. absurd (omega (arith, same, earlier)))
          ∙ are.done k earlier
      | inr last ↦
          let here : n ≡ k = omega arith in
          subst (λ i. get_or (list_set entries n (Some interval)) i None ≡ slice_get intervals (row_of members i)) here
          (get_or-set_same entries n (Some interval) None (omega (arith, are.long)) ∙ sym at)
    ];
    later = λ k past.
        get_or-set_other entries n k (Some interval) None (λ same. absurd (omega (arith, same, past)))
        ∙ are.later k (omega arith);
  }

  pub entries_without : slice_get intervals (row_of members n) ≡ None → AreEntries entries (n + 1) members intervals
  entries_without at = record {
    long = are.long;
    done = λ k below. elim (cases_lt k n) [
      | inl earlier ↦ are.done k earlier
      | inr last ↦
          let here : n ≡ k = omega arith in
          are.later k (omega arith) ∙ subst (λ i. None ≡ slice_get intervals (row_of members i)) here (sym at)
    ];
    later = λ k past. are.later k (omega arith);
  }

  pub cut_entries : n ≤ 16 → take n entries ≡ cut_of n members intervals
  cut_entries room =
      let entry = λ (p : ℕ). slice_get intervals (row_of members p) in
      let size = length-take-le n entries (omega (arith, are.long)) in
      ext_get_or None (take n entries) (cut_of n members intervals) (size ∙ sym (length-map-range_with_len entry 0 n))
      (λ k below.
      let at : 0 + k ≡ k = omega arith in
      get_or-take n entries k None (omega (arith, size))
      ∙ are.done k (omega (arith, size))
      ∙ sym (get_or-map-range_with_len entry 0 n k k None (omega (arith, size)) at))

-- Where every process is watched, the row of each is its number, and a clock says all that it says of them.
row_in_range : (a n k : ℕ) → k < n → row_of (range_with_len a n) (a + k) ≡ k
row_in_range a zero k below = absurd (omega arith)
row_in_range a (suc n) zero below = rw (eq-eqb a (a + 0) (omega arith)) refl
row_in_range a (suc n) (suc k) below =
    let next : a + suc k ≡ (a + 1) + k = omega arith in
    rw (ne_eqb a (a + suc k) (λ same. absurd (omega (arith, same))))
    (ap suc (ap (row_of (range_with_len (a + 1) n)) next ∙ row_in_range (a + 1) n k (omega arith)))

known_in_range : (n : ℕ) (clock : List ℕ) → length clock ≡ n → known_of (range_with_len 0 n) clock ≡ clock
known_in_range n clock long =
    ext_get_or 0 (known_of (range_with_len 0 n) clock) clock
    (length-map-range_with_len (slice_index clock) 0 n ∙ sym long)
    (λ k below.
    let within : k < n = omega (arith, length-map-range_with_len (slice_index clock) 0 n) in
    let at : 0 + k ≡ k = omega arith in
    get_or-map-range_with_len (slice_index clock) 0 n k k 0 within at)

module _ (n : ℕ) (watched : NumberSet) (members : List ℕ) (is : members ≡ members_of n watched)
    (all : length members ≡ n) where
  all_members : members ≡ range_with_len 0 n
  all_members = is ∙ kept_all (set.contains watched) 0 n (ap length (sym is) ∙ all)

  pub row_of_all : (p : ℕ) → p < n → row_of members p ≡ p
  row_of_all p below =
      let at : p ≡ 0 + p = omega arith in
      ap (λ l. row_of l p) all_members ∙ ap (row_of (range_with_len 0 n)) at ∙ row_in_range 0 n p below

  pub known_of_all : (clock : List ℕ) → length clock ≡ n → known_of members clock ≡ clock
  known_of_all clock long = ap (λ l. known_of l clock) all_members ∙ known_in_range n clock long
