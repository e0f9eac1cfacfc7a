-- What a run of `split` finds.
use Rattle.std.proofs.Common.{◌≡◌, ◌≢◌, ◌<◌, ℕ, suc, Bool, true, false, List, [], ◌∷◌, length, Option, IfSome, All}
use Rattle.std.proofs.Common.{MatchBool, sym, true≢false, arith}
use Rattle.std.proofs.lemmas.List.Elements.{All-from_recursion, All-from_all_within, recursion_from_All}
use Rattle.std.specs.Borrow.{Bor}
use Rattle.std.specs.Iterator.Runs.{Run, YieldsRun}
use Rattle.std.specs.List.{AllByRecursion, AllWithin, HoldsAt, slice_get}
use Rattle.std.specs.Str.Iter.{CutsAtEveryByte, IsSplitnRun, LacksByte}
use Rattle.draw_cli.specs.Names.{AreParts, seen}

each_lacks : (texts : List (Bor (List ℕ))) → ((k : ℕ) → IfSome (slice_get texts k) (λ text. LacksByte 44 text.now))
    → AllByRecursion (LacksByte 44) (seen texts)
each_lacks [] lacks = tt
each_lacks (text ∷ texts) lacks = (lacks 0, each_lacks texts (λ k. lacks (suc k)))

some_seen : (n : ℕ) (texts : List (Bor (List ℕ))) → n ≡ length texts → 0 < n → 0 < length (seen texts)
some_seen n [] is some = rw is at some
some_seen n (text ∷ texts) is some = omega arith

module _ {S : Type 0} {steps : S → Option (Bor (List ℕ)) → S → Type 0} (u : Run steps) (list : List ℕ) where
  pub are_parts : u.whole ≡ true → (u.whole ≡ true → 0 < u.len) → IsSplitnRun u list 44 → CutsAtEveryByte u list 44
      → AreParts list (seen u.items)
  unfolding YieldsRun
  are_parts whole some cut every = record {
    some = some_seen u.len u.items u.long (some whole);
    joined = sym (cut.2 whole);
    plain = All-from_recursion (LacksByte 44) (seen u.items)
        (each_lacks u.items (λ k. rw (← u.gave.1 k) (every.0 k)));
  }

some_byte : (text : List ℕ) → 0 < length text → text ≢ []
some_byte text some none = let bad : 0 < 0 = rw none at some in omega arith

named_seen : (texts : List (Bor (List ℕ))) → AllByRecursion (λ text. 0 < length text.now) texts
    → AllByRecursion (λ text. text ≢ []) (seen texts)
named_seen [] named = tt
named_seen (text ∷ texts) named = (some_byte text.now named.0, named_seen texts named.1)

-- Where no text was found empty, none is.
pub all_named : (texts : List (Bor (List ℕ))) (found : Bool) → found ≡ false
    → MatchBool found ((k : ℕ) × (k < length texts) × HoldsAt (λ text. length text.now ≡ 0) texts k)
    (AllWithin (λ text. 0 < length text.now) texts 0 (length texts)) → All (λ text. text ≢ []) (seen texts)
all_named texts true none cases = absurd (true≢false none)
all_named texts false none cases =
    All-from_recursion (λ text. text ≢ []) (seen texts) (named_seen texts
    (recursion_from_All (λ text. 0 < length text.now) texts
    (All-from_all_within (λ text. 0 < length text.now) texts cases)))
