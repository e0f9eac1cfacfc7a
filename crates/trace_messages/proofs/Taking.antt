-- A line that was taken, and the fault that it may have.
use Rattle.std.proofs.Common.{◌≡◌, ◌∙◌, ℕ, Bool, true, false, List, [], ◌∷◌, ◌++◌, Option, Some, None, refl, sym, ap}
use Rattle.std.proofs.Common.{subst}
use Rattle.std.proofs.Common.{is_some, append_assoc, append-nil}
use Rattle.trace_order.specs.declared.order.MessageOrder.{MessageOrder}
use Rattle.trace_order.specs.Messages.{MessageEvent}
use Rattle.trace_order.specs.Orders.{Ordered}
use Rattle.trace_order.specs.State.{AllWait, names_in}
use Rattle.trace_messages.proofs.Naming.{have_clocks}
use Rattle.trace_messages.specs.Lines.{GivesOn, IsEventOf, ReadsLine, SaysFault, TakesLine}
use Rattle.trace_messages.specs.Lines.SaysFault.{of_waiting}
use Rattle.trace_messages.specs.Said.{many_line}

pub takes_line : (log : List MessageEvent) (given : List Ordered) (number : ℕ) (line : List ℕ)
    (begun order : MessageOrder) (waits said before after : List ℕ) (many : Option ℕ)
    → (read : ReadsLine log given number line begun)
    → (gives : GivesOn (log ++ read.reads.event ∷ []) given order [] waits)
    → names_in order.hosts.items ≡ names_in begun.hosts.items → waits ≡ said → many ≡ None
    → AllWait (given ++ gives.more) order.hosts.items → after ≡ before ++ (said ++ many_line many)
    → TakesLine log given number line order before after
takes_line log given number line begun order waits said before after many read gives names whole none all_wait added =
    let event = read.reads.event in
    record {
      words = read.words;
      says = read.says;
      event = event;
      is_event = subst (λ names. IsEventOf number read.words names event) (sym names) read.reads.is_event;
      gives = record {
        more = gives.more;
        ordered = gives.ordered;
        printed = added ∙ ap (λ m. before ++ (said ++ many_line m)) none ∙ ap (λ l. before ++ l) (append-nil said)
            ∙ ap (λ l. before ++ l) (sym whole ∙ gives.printed);
      };
      all_wait = all_wait;
      clocks = have_clocks (log ++ event ∷ []) (given ++ gives.more) order gives.ordered;
    }

pub none_many : (many : Option ℕ) (over : Bool) → over ≡ is_some many → over ≡ false → many ≡ None
none_many None over is goes_on = refl
none_many (Some at) over is goes_on = cc

-- A fault ended the giving on.
pub many_said : (lines : List ℕ → Option ℕ) (number : ℕ) (line : List ℕ) (many : Option ℕ) (over : Bool)
    (before said after : List ℕ) → over ≡ is_some many → over ≡ true → after ≡ before ++ (said ++ many_line many)
    → SaysFault lines number line before after
many_said lines number line None over before said after is ended added = cc
many_said lines number line (Some at) over before said after is ended added =
    of_waiting (before ++ said) at (added ∙ sym (append_assoc before said (many_line (Some at))))
