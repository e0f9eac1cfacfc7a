-- A lane that was just made for the messages of one process.
use Rattle.wcp_worker.proofs.Words.{◌≡◌, ℕ, true, false, ◌||◌, [], ◌∷◌, length, refl, sym, ap, ◌∙◌, subst, arith}
use Rattle.wcp_worker.proofs.Words.{nat_eq, list_any, Numbers, PutEnd, TakeEnd, new_putter, alone, alone_has}
use Rattle.wcp_worker.proofs.Words.{contains_with, Message, IsNewLane, messages_from}
use Rattle.std.specs.Ordering.{nat_cmp}
use Rattle.std.specs.FinSet as set
use Rattle.std.proofs.lemmas.Bool.Decides.{nat_tests}
use Rattle.wcp_ring.specs.declared.sleeper.Bell.{Bell}
use Rattle.wcp_ring.specs.declared.sleeper.Sleeper.{Sleeper}

-- the set of one number has no other
has_no_other : (p q : ℕ) → set.contains (alone p) q ≡ true → q ≡ p
has_no_other p q has =
    let is : (nat_eq q p || false) ≡ true =
    ap (λ b. nat_eq q p || b) (sym (set.contains-empty nat_cmp q)) ∙ sym (contains_with set.empty p q) ∙ has in
    grind (arith, nat_tests)

pub new_ends : (p count : ℕ) (putter : PutEnd Message Message) (taker : TakeEnd Message Message) (bell : Bell)
    (sleeper : Sleeper) → putter ≡ new_putter taker.lane (alone p)
    → ((q : ℕ) → set.contains taker.members q ≡ list_any (λ (numbers : Numbers). set.contains numbers q) (alone p ∷ []))
    → taker.taken ≡ []
    → IsNewLane p count (record { putter = putter; sent = 0; room = count; bell = bell })
    (record { taker = taker; due = count; sleeper = sleeper })
new_ends p count putter taker bell sleeper is members empty =
    record {
      one_lane = ap (λ (e : PutEnd Message Message). e.lane) is;
      puts = record {
        own = ap (λ (e : PutEnd Message Message). set.contains e.members p) is ∙ alone_has p;
        counted = subst (λ (e : PutEnd Message Message). 0 ≡ length (messages_from p e.put)) (sym is) refl;
      };
      takes = λ q has.
          let either : (set.contains (alone p) q || false) ≡ true = sym (members q) ∙ has in
          let has_it : set.contains (alone p) q ≡ true = grind arith in
          has_no_other p q has_it;
      none_put = ap (λ (e : PutEnd Message Message). e.put) is;
      none_taken = empty;
      room = refl;
      due = refl;
    }
