-- What waits to be said, while events are given on.
use Rattle.std.proofs.Common.{◌≡◌, ◌∙◌, ℕ, false, List, [], ◌++◌, Option, Some, None, Ok, Err, refl}
use Rattle.std.proofs.Common.{sym, ap, subst, is_some, append_assoc, append-nil, inr}
use Rattle.std.proofs.lemmas.Grind.{flat_map-append}
use Rattle.trace_order.proofs.Kept.{ordered_as}
use Rattle.trace_order.proofs.Rounds.{giving_none, giving_many, giving_one}
use Rattle.trace_order.specs.declared.order.MessageOrder.{MessageOrder}
use Rattle.trace_order.specs.declared.order.OrderedEvent.{OrderedEvent}
use Rattle.trace_order.specs.declared.order_fault.GiveFault.{GiveFault}
use Rattle.trace_order.specs.declared.order_fault.GiveFault.TheVariants as give
use Rattle.trace_order.specs.declared.order_fault.PutFault.{PutFault}
use Rattle.trace_order.specs.declared.order_fault.PutFault.TheVariants as put
use Rattle.trace_order.specs.Giving.{IsNext, Giving, Next, OrderState, giving, next_in, state_of}
use Rattle.trace_order.specs.Giving.Next.{one, too_many}
use Rattle.trace_order.specs.Ids.{HasSecond, Second, is_known, second_in}
use Rattle.trace_order.specs.Messages.{MessageEvent, Words}
use Rattle.trace_order.specs.Orders.{Ordered}
use Rattle.trace_order.specs.State.{HasOrdered, names_in, seen_ordered}
use Rattle.trace_messages.specs.declared.message_fault.MessageFault.{MessageFault}
use Rattle.trace_messages.specs.declared.message_fault.MessageFault.TheVariants.{Has, Told, Memory}
use Rattle.trace_messages.specs.Lines.{GivesOn, IsPutFault, IsRefused}
use Rattle.trace_messages.specs.Printed.{ordered_line, ordered_lines}
use Rattle.trace_messages.specs.Said.{IsGivenOut, IsGivingOn, IsTurn, fault_turn, line_turn, read_turn, unsaid_line}
use Rattle.trace_messages.specs.Said.{words_turn}
use Rattle.trace_messages.specs.Words.{words_in}

-- Nothing was given on.
on_same : (waits waits' : List ℕ) (old new : OrderState) → waits' ≡ waits → new ≡ old
    → IsGivingOn waits old waits' new
on_same waits waits' old new same kept = record {
  names = ap (λ (s : OrderState). names_in s.hosts) kept;
  said = ap (λ l. l ++ ordered_lines (names_in old.hosts) (giving new).given) same
      ∙ ap (λ s. waits ++ ordered_lines (names_in old.hosts) (giving s).given) kept;
  kept = ap (λ s. (giving s).kept) kept;
  many = ap (λ s. (giving s).many) kept;
}

-- One event was given on.
on_one : (said : List ℕ) (old new : OrderState) (first : Ordered) → names_in new.hosts ≡ names_in old.hosts
    → next_in old ≡ one first new → IsGivingOn said old (said ++ ordered_line (names_in new.hosts) first) new
on_one said old new first names is =
    let all = giving_one old new first is in
    record {
      names = names;
      said = append_assoc said (ordered_line (names_in new.hosts) first) _
          ∙ ap (λ n. said ++ (ordered_line n first ++ ordered_lines (names_in old.hosts) (giving new).given)) names
          ∙ ap (λ (g : Giving). said ++ ordered_lines (names_in old.hosts) g.given) (sym all);
      kept = ap (λ (g : Giving). g.kept) (sym all);
      many = ap (λ (g : Giving). g.many) (sym all);
    }

pub gave_one : (before : List ℕ) (old : OrderState) (said : List ℕ) (found : Option OrderedEvent) (new : OrderState)
    → said ++ [] ≡ before → names_in new.hosts ≡ names_in old.hosts → IsNext (Ok found) (next_in old) old new
    → IsGivingOn before old (said ++ unsaid_line (names_in new.hosts) found) new
gave_one before old said None new same names is = on_same before (said ++ []) old new same is.1
gave_one before old said (Some found) new same names is =
    subst (λ l. IsGivingOn l old (said ++ ordered_line (names_in new.hosts) (seen_ordered found)) new)
    (sym (append-nil said) ∙ same) (on_one said old new (seen_ordered found) names is)

-- None is left.
pub gave_none : (found : Option OrderedEvent) (old new : OrderState) → is_some found ≡ false
    → IsNext (Ok found) (next_in old) old new → IsGivenOut new None
gave_none None old new none is = subst (λ s. IsGivenOut s None) (sym is.1) (giving_none old is.0)
gave_none (Some found) old new none is = cc

pub gave_many : (fault : GiveFault) (at : ℕ) (old new : OrderState) → fault ≡ give.Many at
    → IsNext (Err fault) (next_in old) old new → IsGivenOut new (Some at)
gave_many (give.Many line) at old new same is =
    let here : line ≡ at = cc in
    subst (λ s. IsGivenOut s (Some at)) (sym is.1) (giving_many old at (is.0 ∙ ap too_many here))
gave_many give.Memory at old new same is = cc

-- A fault leaves the order as it was.
pub fault_same : (fault : GiveFault) (next : Next) (old new : OrderState) → IsNext (Err fault) next old new → new ≡ old
fault_same (give.Many line) next old new is = is.1
fault_same give.Memory next old new is = is

pub gives_none : (log : List MessageEvent) (given : List Ordered) (old new : MessageOrder) (before after : List ℕ)
    → state_of new ≡ state_of old → after ≡ before → HasOrdered log given old → GivesOn log given new before after
gives_none log given old new before after kept same ordered = record {
  more = [];
  ordered = subst (λ l. HasOrdered log l new) (sym (append-nil given)) (ordered_as log given old new kept ordered);
  printed = same ∙ sym (append-nil before);
}

-- More and more is given on.
pub gives_more : (log : List MessageEvent) (given : List Ordered) (mid new : MessageOrder)
    (before between after : List ℕ) → names_in new.hosts.items ≡ names_in mid.hosts.items
    → (first : GivesOn log given mid before between)
    → (HasOrdered log (given ++ first.more) mid → GivesOn log (given ++ first.more) new between after)
    → GivesOn log given new before after
gives_more log given mid new before between after names first then =
    let next = then first.ordered in
    record {
      more = first.more ++ next.more;
      ordered = subst (λ l. HasOrdered log l new) (append_assoc given first.more next.more) next.ordered;
      printed = next.printed ∙ ap (λ l. l ++ ordered_lines (names_in new.hosts.items) next.more) first.printed
          ∙ ap (λ n. (before ++ ordered_lines n first.more) ++ ordered_lines (names_in new.hosts.items) next.more)
          (sym names)
          ∙ append_assoc before _ _
          ∙ ap (λ l. before ++ l)
          (sym (flat_map-append (ordered_line (names_in new.hosts.items)) first.more next.more));
    }

pub on_more : (before between after : List ℕ) (old mid new : OrderState) → IsGivingOn before old between mid
    → IsGivingOn between mid after new → IsGivingOn before old after new
on_more before between after old mid new first then = record {
  names = then.names ∙ first.names;
  said = ap (λ n. after ++ ordered_lines n (giving new).given) (sym first.names) ∙ then.said
      ∙ ap (λ n. between ++ ordered_lines n (giving mid).given) first.names ∙ first.said;
  kept = then.kept ∙ first.kept;
  many = then.many ∙ first.many;
}

-- A line whose event wasn't read sends an id again, unless memory ran out.
pub refused_read : (fault : PutFault) (given : MessageFault) (lines : List ℕ → Option ℕ) (number : ℕ) (line : List ℕ)
    (words : Words) → IsPutFault fault given → words_in line ≡ Ok words
    → ((second : Second) → fault ≡ put.Twice second → HasSecond (is_known lines) words.sends)
    → ((second : Second) → fault ≡ put.Twice second → second_in lines number words.sends ≡ Some second)
    → IsRefused given lines number line
refused_read (put.Twice second) (Has what said) lines number line words is says twice first = absurd is
refused_read (put.Twice second) (Told what said) lines number line words is says twice first =
    inr (record {
      said = words;
      says = says;
      again = twice second refl;
      second = second;
      first = first second refl;
      is = is;
    })
refused_read (put.Twice second) Memory lines number line words is says twice first = tt
refused_read put.Memory (Has what said) lines number line words is says twice first = absurd is
refused_read put.Memory (Told what said) lines number line words is says twice first = absurd is
refused_read put.Memory Memory lines number line words is says twice first = tt

-- The turn of such a line is its fault.
pub refused_turn : (fault : PutFault) (given : MessageFault) (state kept : OrderState) (number : ℕ) (line : List ℕ)
    (words : Words) → IsPutFault fault given → words_in line ≡ Ok words
    → ((second : Second) → fault ≡ put.Twice second → second_in state.announced number words.sends ≡ Some second)
    → IsTurn (Err given) number (line_turn state number line) kept
refused_turn (put.Twice second) (Has what said) state kept number line words is says first = absurd is
refused_turn (put.Twice second) (Told what said) state kept number line words is says first =
    ap (words_turn state number) says ∙ ap (read_turn state number words) (first second refl)
    ∙ ap (fault_turn number) (sym is)
refused_turn (put.Twice second) Memory state kept number line words is says first = tt
refused_turn put.Memory (Has what said) state kept number line words is says first = absurd is
refused_turn put.Memory (Told what said) state kept number line words is says first = absurd is
refused_turn put.Memory Memory state kept number line words is says first = tt
