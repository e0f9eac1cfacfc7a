-- The tag of a member of the cut that was found.
use Rattle.std.proofs.Common.{◌≡◌, ◌==◌, ◌&&◌, ◌<◌, ℕ, Bool, true, false, Option, Some, None, List, [], ◌∷◌, length}
use Rattle.std.proofs.Common.{slice_get, slice_index, slice_index_or, is_some, unwrap_or, inl, inr, refl, sym, ap}
use Rattle.std.proofs.Common.{ap₂, ◌∙◌, subst, arith}
use Rattle.std.proofs.lemmas.Bool.{cases_eq, cases_Bool}
use Rattle.std.proofs.lemmas.List.{append-nil}
use Rattle.std.proofs.lemmas.Option.{slice_get_within, slice_get-get_or}
use Rattle.std.proofs.lemmas.List.Elements.{Contains-append_left, Contains-append_right, Contains-append_cases}
use Rattle.std.specs.List.{Contains, find}
use Rattle.std.specs.Option.{option_map}
use Rattle.wcp_clock.specs.Notes.{is_last}
use Rattle.wcp_clock.specs.declared.note.Item.{Item}
use Rattle.wcp_clock.specs.declared.note.Note.{Note}
use Rattle.wcp_clock.specs.declared.note.Note.TheVariants.{Snap, Close, Lost}
use Rattle.wcp_clock.specs.ProcessNumbers.{NumberSet}
use Rattle.wcp_model.specs.Cut.{Intervals, NamesWatched, interval_of}
use Rattle.wcp_model.specs.ReportByClocks.{ClocksRise, IsCutByClocks}
use Rattle.wcp_model.specs.Report.{clocks_taken}
use Rattle.wcp_model.specs.Watched.{IsWatched}
use Rattle.wcp_model.specs.declared.outcome.Report.{Report}
use Rattle.wcp_model.specs.declared.outcome.Report.TheVariants.{Found, Nothing, Undecided}
use Rattle.wcp_queue.specs.Checker.{CheckerState, processes, report_of, IsReportOfAnyClocks}
use Rattle.wcp_queue.proofs.NotesTaken.{clocks_taken-append}
use Rattle.wcp_c.specs.Checkers.{IsInCut}
use Rattle.wcp_saved.specs.declared.watch.Tagged.{Tagged}
use Rattle.wcp_c.specs.Tags.{TakenItem, items_of, tags_in, tags_by, tags_of, IsTagOf, StandsForTaken}
use Rattle.wcp_c.proofs.TakenTags.{in_none, in_first, in_rest, one_of_one, tag_listed}

abbrev pub is_at : ℕ → ℕ → Tagged → Bool
is_at p interval tagged = (tagged.process == p) && (tagged.interval == interval)

-- the tag found on a shelf, and where none is
at_test : (p interval : ℕ) (tagged : Tagged) → is_at p interval tagged ≡ true
    → (tagged.process ≡ p) × (tagged.interval ≡ interval)
at_test p interval tagged is = (grind arith, grind arith)

at_itself : (p interval tag : ℕ) → is_at p interval (record { process = p; interval = interval; tag = tag }) ≡ true
at_itself p interval tag = grind arith

found_there : (shelf : List Tagged) (p interval : ℕ) (tagged : Tagged) → find (is_at p interval) shelf ≡ Some tagged
    → Contains shelf tagged × (is_at p interval tagged ≡ true)
found_there [] p interval tagged is = cc
found_there (first ∷ shelf) p interval tagged is = elim (cases_Bool (is_at p interval first)) [
  | inl here ↦
      let same : first ≡ tagged = cc (rw here at is) in (
        subst (λ it. Contains (first ∷ shelf) it) same (in_first first shelf),
        subst (λ it. is_at p interval it ≡ true) same here,
      )
  | inr elsewhere ↦
      let later = found_there shelf p interval tagged (rw elsewhere at is) in
      (in_rest first shelf tagged later.0, later.1)
]

found_none : (shelf : List Tagged) (p interval tag : ℕ) → find (is_at p interval) shelf ≡ None
    → Contains shelf (record { process = p; interval = interval; tag = tag }) → ⊥
found_none [] p interval tag is has = in_none _ has
found_none (first ∷ shelf) p interval tag is has = elim (cases_Bool (is_at p interval first)) [
  | inl here ↦ cc (rw here at is)
  | inr elsewhere ↦ elim (Contains-append_cases (first ∷ []) shelf _ has) [
    | inl mine ↦ grind (
      arith,
      at_itself p interval tag,
      one_of_one first (record { process = p; interval = interval; tag = tag }) mine,
    )
    | inr later ↦ found_none shelf p interval tag (rw elsewhere at is) later
  ]
]

-- a clock that was taken is that of a snapshot, with its tag
none_from : (p from : ℕ) (note : Note) → (from ≡ p → ⊥) → clocks_taken p (record { from = from; note = note } ∷ []) ≡ []
none_from p from note other = grind (arith, other)

none_of_last : (p from : ℕ) (note : Note) → is_last note ≡ true
    → clocks_taken p (record { from = from; note = note } ∷ []) ≡ []
none_of_last p from (Snap number known) last = cc
none_of_last p from (Close count) last = grind arith
none_of_last p from (Lost count) last = grind arith

one_from : (p number : ℕ) (known : List ℕ)
    → clocks_taken p (record { from = p; note = Snap number known } ∷ []) ≡ known ∷ []
one_from p number known = grind arith

clock_of : (p from : ℕ) (note : Note) (clock : List ℕ)
    → Contains (clocks_taken p (record { from = from; note = note } ∷ [])) clock
    → (number : ℕ) × (from ≡ p) × (note ≡ Snap number clock)
clock_of p from (Snap number known) clock has = elim (cases_eq from p) [
  | inl same ↦
      let mine : Contains (clocks_taken p (record { from = p; note = Snap number known } ∷ [])) clock =
      subst (λ q. Contains (clocks_taken p (record { from = q; note = Snap number known } ∷ [])) clock) same has in
      let is : known ≡ clock =
      one_of_one known clock (subst (λ clocks. Contains clocks clock) (one_from p number known) mine) in
      (number, same, ap (λ it. Snap number it) is)
  | inr other ↦
      absurd (in_none clock (subst (λ clocks. Contains clocks clock) (none_from p from (Snap number known) other) has))
]
clock_of p from (Close count) clock has =
    absurd (in_none clock (subst (λ clocks. Contains clocks clock) (none_of_last p from (Close count) refl) has))
clock_of p from (Lost count) clock has =
    absurd (in_none clock (subst (λ clocks. Contains clocks clock) (none_of_last p from (Lost count) refl) has))

tag_of_clock : (taken : List TakenItem) (p interval : ℕ) (clock : List ℕ)
    → Contains (clocks_taken p (items_of taken)) clock
    → slice_index clock p ≡ interval → (tag : ℕ) × IsTagOf taken p interval tag
tag_of_clock [] p interval clock has own = absurd (in_none clock has)
tag_of_clock (first ∷ taken) p interval clock has own =
    elim (Contains-append_cases (clocks_taken p (first.item ∷ [])) (clocks_taken p (items_of taken)) clock
    (subst (λ clocks. Contains clocks clock) (clocks_taken-append (first.item ∷ []) (items_of taken) p) has)) [
      | inl mine ↦
          let (number, from, is) = clock_of p first.item.from first.item.note clock mine in (
            first.tag,
            record {
              one = first;
              among = in_first first taken;
              number = number;
              clock = clock;
              item = ap₂ (λ (from : ℕ) (note : Note). let it : Item = record { from = from; note = note } in it)
                  from is;
              own = own;
              tagged = refl;
            },
          )
      | inr later ↦
          let (tag, of) = tag_of_clock taken p interval clock later own in (
            tag,
            record {
              one = of.one;
              among = in_rest first taken of.one of.among;
              number = of.number;
              clock = of.clock;
              item = of.item;
              own = of.own;
              tagged = of.tagged;
            },
          )
    ]

-- what has a tag has it listed, unless it is 0
listed_in : (taken : List TakenItem) (one : TakenItem) (tagged : Tagged) → Contains taken one
    → Contains (tags_in one) tagged
    → Contains (tags_of taken) tagged
listed_in [] one tagged among is = absurd (in_none one among)
listed_in (first ∷ taken) one tagged among is = elim (Contains-append_cases (first ∷ []) taken one among) [
  | inl mine ↦ Contains-append_left (tags_in first) (tags_of taken) tagged
      (subst (λ it. Contains (tags_in it) tagged) (sym (one_of_one first one mine)) is)
  | inr later ↦ Contains-append_right (tags_in first) (tags_of taken) tagged (listed_in taken one tagged later is)
]

tag_given : (p number : ℕ) (clock : List ℕ) (tag : ℕ) → (tag == 0) ≡ false
    → Contains (tags_by p (Snap number clock) tag) (record { process = p; interval = slice_index clock p; tag = tag })
tag_given p number clock tag some = rw some (in_first _ [])

listed_tag : (taken : List TakenItem) (p interval tag : ℕ) → IsTagOf taken p interval tag → (tag == 0) ≡ false
    → Contains (tags_of taken) (record { process = p; interval = interval; tag = tag })
listed_tag taken p interval tag of some =
    listed_in taken of.one (record { process = p; interval = interval; tag = tag }) of.among
    (subst (λ (item : Item). Contains (tags_by item.from item.note of.one.tag)
    (record { process = p; interval = interval; tag = tag }))
    (sym of.item) (subst (λ t. Contains (tags_by p (Snap of.number of.clock) t)
    (record { process = p; interval = interval; tag = tag }))
    (sym of.tagged) (subst (λ i. Contains (tags_by p (Snap of.number of.clock) tag)
    (record { process = p; interval = i; tag = tag }))
    of.own (tag_given p of.number of.clock tag some))))

-- the tag that is told of a member
abbrev pub tag_told : List Tagged → ℕ → ℕ → ℕ
tag_told shelf p interval = unwrap_or (option_map (λ tagged. tagged.tag) (find (is_at p interval) shelf)) 0

found_same : (known other : Intervals) → Found known ≡ Found other → known ≡ other
found_same known other is = cc

module _ (checker : CheckerState) (shelf : List Tagged) (taken : List TakenItem) (s : StandsForTaken checker shelf
    taken) (cut : Intervals)
    (is : report_of checker ≡ Found cut)
    (one : IsCutByClocks (processes checker) checker.watched (items_of taken) cut)
    (order : ClocksRise (processes checker) (items_of taken)) (p interval : ℕ)
    (watched : IsWatched (processes checker) checker.watched p) (own : interval_of cut p ≡ interval) where
  -- the snapshot with this tag may be in the cut
  kept_there : (tag : ℕ) → IsTagOf taken p interval tag → (tag == 0) ≡ false
      → Contains shelf (record { process = p; interval = interval; tag = tag })
  kept_there tag of some =
      elim (s.kept (record { process = p; interval = interval; tag = tag }) (listed_tag taken p interval tag of some)
      watched) [
        | inl there ↦ there
        | inr past ↦ absurd (past cut (record {
          come = record {
            more = [];
            order = subst (ClocksRise (processes checker)) (sym (append-nil (items_of taken))) order;
            one = subst (λ items. IsCutByClocks (processes checker) checker.watched items cut)
                (sym (append-nil (items_of taken))) one;
          };
          found = λ known known_is. found_same known cut (sym known_is ∙ is);
        }) (sym own))
      ]

  known : (tag : ℕ) × IsTagOf taken p interval tag
  known = tag_of_clock taken p interval (one.clock p) (one.taken p watched) (one.own p watched ∙ own)

  told : (found : Option Tagged) → find (is_at p interval) shelf ≡ found
      → IsTagOf taken p interval (unwrap_or (option_map (λ tagged. tagged.tag) found) 0)
  told (Some tagged) found =
      let there = found_there shelf p interval tagged found in
      let at = at_test p interval tagged there.1 in
      subst (λ q. IsTagOf taken q interval tagged.tag) at.0 (subst (λ i. IsTagOf taken tagged.process i tagged.tag) at.1
      (tag_listed taken tagged (s.right tagged there.0)))
  told None found = elim (cases_Bool (known.0 == 0)) [
    | inl none ↦ subst (IsTagOf taken p interval) (grind (arith, none)) known.1
    | inr some ↦ absurd (found_none shelf p interval known.0 found (kept_there known.0 known.1 some))
  ]

  pub tag_of_member : IsTagOf taken p interval (tag_told shelf p interval)
  tag_of_member = told (find (is_at p interval) shelf) refl

-- one interval of a process is in a cut
get_there : {X : Type 0} (xs : List X) (i : ℕ) (x d : X) → slice_get xs i ≡ Some x
    → (i < length xs) × (slice_index_or xs i d ≡ x)
get_there xs i x d is =
    let within = slice_get_within xs i x is in
    let here = slice_get-get_or xs i d within in
    (within, cc)

pub same_interval : (report : Report) (p one other : ℕ) → IsInCut report p one → IsInCut report p other → one ≡ other
same_interval (Found cut) p one other first second = cc
same_interval Nothing p one other first second = absurd first
same_interval Undecided p one other first second = absurd first

is_watched : (n : ℕ) (watched : NumberSet) (cut : Intervals) (p interval : ℕ) → NamesWatched n watched cut
    → slice_get cut p ≡ Some (Some interval) → IsWatched n watched p
is_watched n watched cut p interval names is =
    let there = get_there cut p (Some interval) None is in
    let below : p < n = omega (arith, there.0, names.processes) in
    record { below = below; member = sym (names.named p below) ∙ ap is_some there.1 }

pub tag_in_cut : (checker : CheckerState) (shelf : List Tagged) (taken : List TakenItem)
    → StandsForTaken checker shelf taken
    → ClocksRise (processes checker) (items_of taken) → (p interval : ℕ) (report : Report)
    → report_of checker ≡ report
    → IsReportOfAnyClocks (processes checker) checker.watched (items_of taken) report
    → IsInCut report p interval → IsTagOf taken p interval (tag_told shelf p interval)
tag_in_cut checker shelf taken s order p interval (Found cut) is one in_cut =
    tag_of_member checker shelf taken s cut is one order p interval
    (is_watched (processes checker) checker.watched cut p interval one.members in_cut)
    (ap (λ (it : Option ℕ). unwrap_or it 0) (get_there cut p (Some interval) None in_cut).1)
tag_in_cut checker shelf taken s order p interval Nothing is any in_cut = absurd in_cut
tag_in_cut checker shelf taken s order p interval Undecided is any in_cut = absurd in_cut
