-- Items of one process that go over a lane together.
use Rattle.std.specs.Prelude.{◌≡◌, ℕ, ◌+◌, ◌<◌, ◌≤◌, false, List, [], ◌∷◌, ◌++◌, length, slice_get, IfSome}
use Rattle.wcp_clock.specs.Notes.{place_of, is_last}
use Rattle.wcp_clock.specs.declared.note.Item.{Item}
use Rattle.wcp_clock.specs.declared.note.Note.TheVariants.{Close}

-- A bundle has at most 8 items.
abbrev pub most_bundle : ℕ
most_bundle = 8

-- What fills the places behind its last item.
abbrev pub filler : Item
filler = record { from = 0; note = Close 0 }

-- An item continues another if it is of the same process, at the next place, and the other isn't a last one.
pub record Continues (before item : Item) : Type 0 where
  pub from : item.from ≡ before.from
  pub place : place_of item.note ≡ place_of before.note + 1
  pub unended : is_last before.note ≡ false

-- Each of these items continues the one before it.
abbrev pub IsRun : List Item → Type 0
IsRun [] = Unit {0}
IsRun (one ∷ []) = Unit {0}
IsRun (one ∷ next ∷ items) = Continues one next × IsRun (next ∷ items)

-- A bundle has 1 to 8 items, and they are a run.
pub record IsBundle (items : List Item) : Type 0 where
  pub some : 0 < length items
  pub within : length items ≤ most_bundle
  pub run : IsRun items

-- An item may join a bundle if there is room for it, and it continues the last item.
pub record MayJoin (items : List Item) (item : Item) : Type 0 where
  pub room : length items < most_bundle
  pub continues : (before : List Item) (end : Item) → items ≡ before ++ end ∷ [] → Continues end item

-- The first bundle of some items is the longest run of one process at their front, or as much of it as there is room
-- for: the item behind it may not join.
pub record IsFirstBundle (items bundle : List Item) : Type 0 where
  pub rest : List Item
  pub is : items ≡ bundle ++ rest
  pub longest : IfSome (slice_get rest 0) (λ next. ¬ MayJoin bundle next)

-- These bundles were cut off some items, each the first bundle of what those before it left, and the rest is left.
abbrev pub AreFirstBundles : List Item → List (List Item) → List Item → Type 0
AreFirstBundles items [] rest = items ≡ rest
AreFirstBundles items (bundle ∷ bundles) rest =
    (first : IsFirstBundle items bundle) × AreFirstBundles first.rest bundles rest
