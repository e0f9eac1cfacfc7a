-- Bundles, as one more item joins them.
use Rattle.wcp_relay.proofs.Words.{◌≡◌, ℕ, zero, suc, ◌+◌, ◌-◌, ◌<◌, ◌≤◌, Option, None, Some, List, [], ◌∷◌, ◌++◌}
use Rattle.wcp_relay.proofs.Words.{length, get_or, take, drop, replicate, add-one, sym, refl, ap, ◌∙◌, append_assoc}
use Rattle.wcp_relay.proofs.Words.{subst, arith, All, slice_get, last_or, take-suc, common_steps, length-append}
use Rattle.wcp_relay.proofs.Words.{drop-replicate, Item, most_bundle, Continues, IsRun, IsBundle, MayJoin}
use Rattle.wcp_relay.proofs.Words.{IsFirstBundle}

-- the last of some items with one more
pub last_or-push : {X : Type 0} (o : Option X) (xs : List X) (x : X) → last_or o (xs ++ x ∷ []) ≡ Some x
last_or-push o [] x = refl
last_or-push o (y ∷ ys) x = last_or-push (Some y) ys x

pub same_last : {X : Type 0} (xs ys : List X) (x y : X) → xs ++ x ∷ [] ≡ ys ++ y ∷ [] → x ≡ y
same_last xs ys x y e =
    let both : Some x ≡ Some y = sym (last_or-push None xs x) ∙ ap (last_or None) e ∙ last_or-push None ys y in cc

pub prefix_and_last : {X : Type 0} (n : ℕ) (cells : List X) (d : X) → 0 < n → n ≤ length cells
    → take n cells ≡ take (n - 1) cells ++ get_or cells (n - 1) d ∷ []
prefix_and_last n cells d some within =
    let is : suc (n - 1) ≡ n = omega arith in
    subst (λ k. take k cells ≡ take (n - 1) cells ++ get_or cells (n - 1) d ∷ []) is
    (take-suc cells (n - 1) d (omega arith))

-- who may join, by the last item
pub may_join : (items before : List Item) (end item : Item) → items ≡ before ++ end ∷ [] → length items < most_bundle
    → Continues end item → MayJoin items item
may_join items before end item is room continues =
    record {
      room = room;
      continues = λ front other same. subst (λ (x : Item). Continues x item)
          (same_last before front end other (sym is ∙ same)) continues;
    }

-- a run with an item that continues it is a run
IsRun-push : (items : List Item) (item : Item) → IsRun items
    → ((before : List Item) (end : Item) → items ≡ before ++ end ∷ [] → Continues end item) → IsRun (items ++ item ∷ [])
IsRun-push [] item run continues = tt
IsRun-push (x ∷ []) item run continues = (continues [] x refl, tt)
IsRun-push (x ∷ y ∷ items) item run continues =
    (run.0, IsRun-push (y ∷ items) item run.1 (λ before end is. continues (x ∷ before) end (ap (λ xs. x ∷ xs) is)))

pub joined : (items : List Item) (item : Item) → IsBundle items → MayJoin items item → IsBundle (items ++ item ∷ [])
joined items item bundle may =
    record {
      some = omega (arith, length-append items (item ∷ []));
      within = omega (arith, length-append items (item ∷ []), may.room);
      run = IsRun-push items item bundle.run may.continues;
    }

-- the items of a run are of one process
pub one_process : (x : Item) (items : List Item) → IsRun (x ∷ items) → All (λ item. item.from ≡ x.from) (x ∷ items)
one_process x items run zero d below = refl
one_process x [] run (suc k) d below = absurd (omega arith)
one_process x (y ∷ items) run (suc k) d below = one_process y items run.1 k d (omega arith) ∙ run.0.from

pub drop_one : {X : Type 0} (n : ℕ) (cells : List X) → drop (n + 1) cells ≡ drop 1 (drop n cells)
drop_one n [] = grind (arith, common_steps)
drop_one zero (c ∷ cells) = grind (arith, common_steps)
drop_one (suc n) (c ∷ cells) = rw add-one (sym (rw add-one at (sym (drop_one n cells))))

-- behind one more item there is one filler less
pub drop_more : {X : Type 0} (n size : ℕ) (x : X) (cells : List X) → drop n cells ≡ replicate (size - n) x
    → drop (n + 1) cells ≡ replicate (size - (n + 1)) x
drop_more n size x cells rest =
    let count : size - n - 1 ≡ size - (n + 1) = omega arith in
    drop_one n cells ∙ ap (drop 1) rest ∙ drop-replicate 1 (size - n) x ∙ ap (λ k. replicate k x) count

at_seam : {X : Type 0} (xs ys : List X) → slice_get (xs ++ ys) (length xs) ≡ slice_get ys 0
at_seam [] ys = refl
at_seam (x ∷ xs) ys = at_seam xs ys

behind : (items bundle rest : List Item) (item : Item) → items ≡ bundle ++ rest
    → slice_get items (length bundle) ≡ Some item → slice_get rest 0 ≡ Some item
behind items bundle rest item is there = sym (at_seam bundle rest) ∙ ap (λ xs. slice_get xs (length bundle)) (sym is)
    ∙ there

-- a run at the front of some items is their first bundle where the item behind it may not join
pub first_bundle_is : (items bundle rest : List Item) → items ≡ bundle ++ rest
    → ((next : Item) → slice_get items (length bundle) ≡ Some next → ¬ MayJoin bundle next) → IsFirstBundle items bundle
first_bundle_is items bundle [] is refused = record { rest = []; is = is; longest = tt }
first_bundle_is items bundle (x ∷ rest) is refused = record {
  rest = x ∷ rest;
  is = is;
  longest = refused x (ap (λ xs. slice_get xs (length bundle)) is ∙ at_seam bundle (x ∷ rest));
}

-- an item more at the front
pub front_more : (items bundle rest : List Item) (item : Item) → items ≡ bundle ++ rest
    → slice_get items (length bundle) ≡ Some item → (more : List Item) × (items ≡ (bundle ++ item ∷ []) ++ more)
front_more items bundle [] item is there =
    let none : slice_get [] 0 ≡ Some item = behind items bundle [] item is there in absurd (cc)
front_more items bundle (x ∷ rest) item is there =
    let both : Some x ≡ Some item = behind items bundle (x ∷ rest) item is there in
    let one : x ≡ item = cc in
    (rest, is ∙ ap (λ (y : Item). bundle ++ y ∷ rest) one ∙ sym (append_assoc bundle (item ∷ []) rest))
