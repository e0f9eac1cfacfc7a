-- The tags of what was taken: each is on the shelf that may still be asked for.
use Rattle.std.proofs.Common.{◌≡◌, ℕ, ◌==◌, ◌⊎◌, ◌∷◌, ◌++◌, List, [], slice_index, inl, inr, All, false}
use Rattle.std.proofs.Common.{refl, sym, ◌∙◌, ap, ap₂, subst, arith, append_assoc}
use Rattle.std.proofs.lemmas.Bool.{cases_Bool}
use Rattle.std.proofs.lemmas.List.{append-nil, map-append}
use Rattle.std.proofs.lemmas.List.Elements.{Contains-append_left, Contains-append_right, Contains-append_cases}
use Rattle.std.proofs.lemmas.List.Elements.{Contains-push, Contains-push_cases}
use Rattle.std.specs.List.{Contains}
use Rattle.wcp_clock.specs.declared.note.Item.{Item}
use Rattle.wcp_clock.specs.declared.note.Note.{Note}
use Rattle.wcp_clock.specs.declared.note.Note.TheVariants.{Snap, Close, Lost}
use Rattle.wcp_model.specs.Cut.{Intervals}
use Rattle.wcp_model.specs.ReportByClocks.{ClocksRise, IsCutByClocks}
use Rattle.wcp_model.specs.Report.{IsNamed, clocks_taken}
use Rattle.wcp_model.specs.Watched.{IsWatched}
use Rattle.wcp_queue.specs.Candidates.{IsCutToCome}
use Rattle.wcp_queue.specs.Checker.{CheckerState, KeepsFound, StandsForItems, processes}
use Rattle.wcp_queue.specs.Panel.{no_question, TakesOrIsStarved}
use Rattle.wcp_queue.proofs.NotesTaken.{clocks_taken-append}
use Rattle.wcp_saved.specs.declared.watch.Tagged.{Tagged}
use Rattle.wcp_c.specs.declared.watching.Watching.{Watching}
use Rattle.wcp_c.specs.Questions.{checker_at, checkers_of, TakesNote}
use Rattle.wcp_c.specs.Tags.{TakenItem, items_of, tags_by, tags_in, tags_of, IsTagOf, IsPast, IsSpent}
use Rattle.wcp_c.specs.Tags.{StandsForTaken, TakesTagged}

-- lists of one element, and of one more
pub in_none : {X : Type 0} (x : X) → Contains [] x → ⊥
in_none x has = omega (arith, has.1)

pub one_of_one : {X : Type 0} (x y : X) → Contains (x ∷ []) y → x ≡ y
one_of_one x y has = elim (Contains-push_cases [] x y has) [
  | inl none ↦ absurd (in_none y none)
  | inr is ↦ is
]

pub in_first : {X : Type 0} (x : X) (xs : List X) → Contains (x ∷ xs) x
in_first x xs = Contains-append_left (x ∷ []) xs x (Contains-push [] x)

pub in_rest : {X : Type 0} (x : X) (xs : List X) (y : X) → Contains xs y → Contains (x ∷ xs) y
in_rest x xs y has = Contains-append_right (x ∷ []) xs y has

pub without_none : {X : Type 0} (xs : List X) (x : X) → Contains (xs ++ []) x → Contains xs x
without_none xs x has = subst (λ ys. Contains ys x) (append-nil xs) has

-- what was taken, with one more at its end
items_of-push : (taken : List TakenItem) (one : TakenItem)
    → items_of (taken ++ one ∷ []) ≡ items_of taken ++ one.item ∷ []
items_of-push taken one = map-append (λ (it : TakenItem). it.item) taken (one ∷ [])

tags_of-push : (taken : List TakenItem) (one : TakenItem) → tags_of (taken ++ one ∷ []) ≡ tags_of taken ++ tags_in one
tags_of-push [] one = append-nil (tags_in one)
tags_of-push (first ∷ taken) one =
    ap (λ tags. tags_in first ++ tags) (tags_of-push taken one)
    ∙ sym (append_assoc (tags_in first) (tags_of taken) (tags_in one))

-- the tag that a note gives
record IsOf (p : ℕ) (note : Note) (tag : ℕ) (tagged : Tagged) : Type 0 where
  number : ℕ
  clock : List ℕ
  process : p ≡ tagged.process
  snapshot : note ≡ Snap number clock
  own : slice_index clock p ≡ tagged.interval
  same : tag ≡ tagged.tag

in_tags_by : (p : ℕ) (note : Note) (tag : ℕ) (tagged : Tagged) → Contains (tags_by p note tag) tagged
    → IsOf p note tag tagged
in_tags_by p (Snap number clock) tag tagged has = elim (cases_Bool (tag == 0)) [
  | inl none ↦ absurd (in_none tagged (rw none at has))
  | inr some ↦
      let is = one_of_one (record { process = p; interval = slice_index clock p; tag = tag }) tagged (rw some at has) in
      record {
        number = number;
        clock = clock;
        process = ap (λ (it : Tagged). it.process) is;
        snapshot = refl;
        own = ap (λ (it : Tagged). it.interval) is;
        same = ap (λ (it : Tagged). it.tag) is;
      }
]
in_tags_by p (Close count) tag tagged has = absurd (in_none tagged has)
in_tags_by p (Lost count) tag tagged has = absurd (in_none tagged has)

-- a tag is that of a snapshot that was taken
pub tag_listed : (taken : List TakenItem) (tagged : Tagged) → Contains (tags_of taken) tagged
    → IsTagOf taken tagged.process tagged.interval tagged.tag
tag_listed [] tagged has = absurd (in_none tagged has)
tag_listed (one ∷ taken) tagged has = elim (Contains-append_cases (tags_in one) (tags_of taken) tagged has) [
  | inl mine ↦
      let of = in_tags_by one.item.from one.item.note one.tag tagged mine in
      record {
        one = one;
        among = in_first one taken;
        number = of.number;
        clock = of.clock;
        item = ap₂ (λ (from : ℕ) (note : Note). let it : Item = record { from = from; note = note } in it) of.process
            of.snapshot;
        own = ap (λ q. slice_index of.clock q) (sym of.process) ∙ of.own;
        tagged = of.same;
      }
  | inr later ↦
      let of = tag_listed taken tagged later in
      record {
        one = of.one;
        among = in_rest one taken of.one of.among;
        number = of.number;
        clock = of.clock;
        item = of.item;
        own = of.own;
        tagged = of.tagged;
      }
]

-- the clock of a snapshot that was taken is among those taken of its process
clock_of_one : (p number : ℕ) (clock : List ℕ)
    → clocks_taken p (record { from = p; note = Snap number clock } ∷ []) ≡ clock ∷ []
clock_of_one p number clock = grind arith

clock_listed : (taken : List TakenItem) (one : TakenItem) (p number : ℕ) (clock : List ℕ) → Contains taken one
    → one.item ≡ record { from = p; note = Snap number clock } → Contains (clocks_taken p (items_of taken)) clock
clock_listed [] one p number clock among is = absurd (in_none one among)
clock_listed (first ∷ taken) one p number clock among is =
    subst (λ clocks. Contains clocks clock) (sym (clocks_taken-append (first.item ∷ []) (items_of taken) p))
    (elim (Contains-append_cases (first ∷ []) taken one among) [
      | inl mine ↦
          let same : first.item ≡ record { from = p; note = Snap number clock } =
          ap (λ (it : TakenItem). it.item) (one_of_one first one mine) ∙ is in
          Contains-append_left (clocks_taken p (first.item ∷ [])) (clocks_taken p (items_of taken)) clock
          (subst (λ (it : Item). Contains (clocks_taken p (it ∷ [])) clock) (sym same)
          (subst (λ clocks. Contains clocks clock) (sym (clock_of_one p number clock)) (Contains-push [] clock)))
      | inr later ↦ Contains-append_right (clocks_taken p (first.item ∷ [])) (clocks_taken p (items_of taken)) clock
          (clock_listed taken one p number clock later is)
    ])

pub named_tag : (taken : List TakenItem) (p interval tag : ℕ) → IsTagOf taken p interval tag
    → IsNamed (items_of taken) (record { process = p; interval = interval })
named_tag taken p interval tag of = record {
  clock = of.clock;
  taken = clock_listed taken of.one p of.number of.clock of.among of.item;
  own = of.own;
}

-- a cut to come once an item was taken was one to come before
come_more : (old new : CheckerState) (items : List Item) (item : Item) (cut : Intervals)
    → processes new ≡ processes old → new.watched ≡ old.watched → IsCutToCome new (items ++ item ∷ []) cut
    → IsCutToCome old items cut
come_more old new items item cut same_count same_watched come =
    let all : List Item = items ++ item ∷ come.more in
    let is : (items ++ item ∷ []) ++ come.more ≡ all = append_assoc items (item ∷ []) come.more in
    record {
      more = item ∷ come.more;
      order = subst (λ n. ClocksRise n all) same_count (subst (ClocksRise (processes new)) is come.order);
      one = subst (λ n. IsCutByClocks n old.watched all cut) same_count
          (subst (λ watched. IsCutByClocks (processes new) watched all cut) same_watched
          (subst (λ these. IsCutByClocks (processes new) new.watched these cut) is come.one));
    }

past_more : (old new : CheckerState) (items : List Item) (item : Item) (tagged : Tagged)
    → processes new ≡ processes old → new.watched ≡ old.watched → KeepsFound old new → IsPast old items tagged
    → IsPast new (items ++ item ∷ []) tagged
past_more old new items item tagged same_count same_watched keeps past = λ cut come. past cut (record {
  come = come_more old new items item cut same_count same_watched come.come;
  found = λ known is. come.found known (keeps known is);
})

-- an item that a question took with its tag
module _ (old new : CheckerState) (shelf after : List Tagged) (item : Item) (tag : ℕ)
    (takes : TakesOrIsStarved old new item) (fed : new.starved ≡ false) where
  abbrev tags : List Tagged
  tags = tags_by item.from item.note tag

  abbrev last : TakenItem
  last = record { item = item; tag = tag }

  module _ (right : (tagged : Tagged) → Contains after tagged → Contains (shelf ++ tags) tagged)
      (kept : (tagged : Tagged) → Contains (shelf ++ tags) tagged
      → Contains after tagged ⊎ IsSpent new tagged) where
    module _ (taken : List TakenItem) (s : StandsForTaken old shelf taken) where
      abbrev more : List TakenItem
      more = taken ++ last ∷ []

      stands : StandsForItems new (items_of more)
      stands = subst (StandsForItems new) (sym (items_of-push taken last)) (takes.stands (items_of taken) s.stands)

      still : (tagged : Tagged) → Contains (tags_of more) tagged → IsWatched (processes new) new.watched tagged.process
          → Contains (shelf ++ tags) tagged → Contains after tagged ⊎ IsPast new (items_of more) tagged
      still tagged listed watched has = elim (kept tagged has) [
        | inl there ↦ inl there
        | inr spent ↦ inr (spent (items_of more) stands fed watched
            (named_tag more tagged.process tagged.interval tagged.tag (tag_listed more tagged listed)))
      ]

      was_watched : (p : ℕ) → IsWatched (processes new) new.watched p → IsWatched (processes old) old.watched p
      was_watched p watched = subst (λ n. IsWatched n old.watched p) takes.processes
          (subst (λ members. IsWatched (processes new) members p) takes.watched watched)

      past_still : (tagged : Tagged) → IsPast old (items_of taken) tagged → IsPast new (items_of more) tagged
      past_still tagged past = subst (λ items. IsPast new items tagged) (sym (items_of-push taken last))
          (past_more old new (items_of taken) item tagged takes.processes takes.watched takes.found_stays past)

      pub question_takes_tagged : StandsForTaken new after more
      question_takes_tagged = record {
        stands = stands;
        not_starved = fed;
        right = λ tagged has. subst (λ all. Contains all tagged) (sym (tags_of-push taken last))
            (elim (Contains-append_cases shelf tags tagged (right tagged has)) [
              | inl was ↦ Contains-append_left (tags_of taken) tags tagged (s.right tagged was)
              | inr is ↦ Contains-append_right (tags_of taken) tags tagged is
            ]);
        kept = λ tagged listed watched. elim (Contains-append_cases (tags_of taken) tags tagged
            (subst (λ all. Contains all tagged) (tags_of-push taken last) listed)) [
              | inl was ↦ elim (s.kept tagged was (was_watched tagged.process watched)) [
                | inl there ↦ still tagged listed watched (Contains-append_left shelf tags tagged there)
                | inr past ↦ inr (past_still tagged past)
              ]
              | inr is ↦ still tagged listed watched (Contains-append_right shelf tags tagged is)
            ];
      }

-- the same of each question
module _ (old new : Watching) (item : Item) (tag : ℕ) (takes : TakesNote old.questions new.questions item) where
  pub takes_tagged : ((tagged : Tagged) → Contains new.shelf tagged
      → Contains (old.shelf ++ tags_by item.from item.note tag) tagged)
      → ((tagged : Tagged) → Contains (old.shelf ++ tags_by item.from item.note tag) tagged
      → Contains new.shelf tagged ⊎ All (λ checker. IsSpent checker tagged) (checkers_of new.questions))
      → TakesTagged old new item tag
  takes_tagged right kept question within fed taken stands =
      question_takes_tagged (checker_at old.questions question) (checker_at new.questions question) old.shelf new.shelf
      item tag (takes.each.each question within) fed right
      (λ tagged has. elim (kept tagged has) [
        | inl there ↦ inl there
        | inr spent ↦ inr (spent question no_question (omega (arith, within, takes.each.as_many)))
      ]) taken stands

  -- and where it has no tag
  pub takes_untagged : new.shelf ≡ old.shelf → tags_by item.from item.note tag ≡ [] → TakesTagged old new item tag
  takes_untagged same none = takes_tagged
      (λ tagged has. Contains-append_left old.shelf (tags_by item.from item.note tag) tagged
      (subst (λ all. Contains all tagged) same has))
      (λ tagged has. inl (subst (λ all. Contains all tagged) (sym same)
      (without_none old.shelf tagged (rw none at has))))
