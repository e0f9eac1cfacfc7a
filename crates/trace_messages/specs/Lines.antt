-- What a line of a log without clocks makes known.
use Rattle.std.specs.Prelude.{◌≡◌, ℕ, ◌<◌, List, [], ◌∷◌, ◌++◌, Err, Ok, ◌⊎◌, Contains, codes, decimal}
use Rattle.std.specs.Prelude.{Option, Some, string_bytes}
use Rattle.trace_log.specs.declared.fault.LogFaultKind.TheVariants as kind
use Rattle.trace_order.specs.Messages.{MessageEvent, Words}
use Rattle.trace_order.specs.Ids.{HasSecond, Second, is_known, second_in}
use Rattle.trace_order.specs.Orders.{Ordered}
use Rattle.trace_order.specs.State.{HasOrdered, AllWait, name_at, names_in}
use Rattle.trace_order.specs.declared.order.MessageOrder.{MessageOrder}
use Rattle.trace_order.specs.declared.order_fault.PutFault.{PutFault}
use Rattle.trace_order.specs.declared.order_fault.PutFault.TheVariants as put
use Rattle.trace_messages.specs.declared.message_fault.MessageFault.{MessageFault}
use Rattle.trace_messages.specs.declared.message_fault.MessageFault.TheVariants.{Has, Told, Memory}
use Rattle.trace_messages.specs.Named.{HaveClocks}
use Rattle.trace_messages.specs.Printed.{ordered_lines}
use Rattle.trace_messages.specs.Words.{LineFault, fault_of, told, words_in}
use Rattle.trace_rewrite.specs.Lines.{fault_line}

-- All lines of the log stand before this one.
abbrev pub AreBefore : List MessageEvent → ℕ → Type 0
AreBefore log number = (other : MessageEvent) → Contains log other → other.line < number

-- The event of the line of this number, which says these words, where the hosts have these names.
pub record IsEventOf (number : ℕ) (words : Words) (names : List (List ℕ)) (event : MessageEvent) : Type 0 where
  pub line : event.line ≡ number
  pub host : name_at names event.host ≡ words.host
  pub text : event.text ≡ words.text
  pub receives : event.receives ≡ words.receives
  pub sends : event.sends ≡ words.sends

-- The event of this line was read, behind those of the log.
pub record ReadsEvent (log : List MessageEvent) (given : List Ordered) (number : ℕ) (words : Words) (order :
    MessageOrder)
    : Type 0 where
  pub event : MessageEvent
  pub is_event : IsEventOf number words (names_in order.hosts.items) event
  pub ordered : HasOrdered (log ++ event ∷ []) given order

-- More events were given on, and their lines were added.
pub record GivesOn (log : List MessageEvent) (given : List Ordered) (order : MessageOrder) (before after : List ℕ) :
    Type 0
  where
    pub more : List Ordered
    pub ordered : HasOrdered log (given ++ more) order
    pub printed : after ≡ before ++ ordered_lines (names_in order.hosts.items) more

-- A line was taken: its event was read, all events that wait for none were given on, and their lines were added. Those
-- that wait receive what wasn't sent, or stand behind such a one of their host. The clocks of all that were given on
-- are happened-before.
pub record TakesLine (log : List MessageEvent) (given : List Ordered) (number : ℕ) (line : List ℕ) (order :
    MessageOrder)
    (before after : List ℕ) : Type 0 where
  pub words : Words
  pub says : words_in line ≡ Ok words
  pub event : MessageEvent
  pub is_event : IsEventOf number words (names_in order.hosts.items) event
  pub gives : GivesOn (log ++ event ∷ []) given order before after
  pub all_wait : AllWait (given ++ gives.more) order.hosts.items
  pub clocks : HaveClocks (log ++ event ∷ []) (given ++ gives.more) (names_in order.hosts.items)

-- The words of the fault where an id is sent a second time.
abbrev pub second_words : Second → List ℕ
second_words second =
    codes "\"" ++ (told second.id ++ (codes "\" is sent a second time, first in line " ++ decimal second.first))

-- The fault of a line whose event sends an id again.
abbrev pub second_send : Second → LineFault
second_send second = fault_of kind.Twice (second_words second)

-- The words of the fault where an event has a number that no clock can have.
abbrev pub too_many : List ℕ
too_many = codes "no clock can count so many events"

-- What a fault of the order is for a line, unless memory ran out.
abbrev pub IsPutFault : PutFault → MessageFault → Type 0
IsPutFault (put.Twice second) (Has what words) = ⊥
IsPutFault (put.Twice second) (Told what words) = fault_of what (string_bytes words) ≡ second_send second
IsPutFault (put.Twice second) Memory = Unit {0}
IsPutFault put.Memory (Has what words) = ⊥
IsPutFault put.Memory (Told what words) = ⊥
IsPutFault put.Memory Memory = Unit {0}

-- The line says an event that sends an id which was sent, or sends one twice: the first of these is named.
pub record SendsAgain (fault : LineFault) (lines : List ℕ → Option ℕ) (number : ℕ) (line : List ℕ) : Type 0 where
  pub said : Words
  pub says : words_in line ≡ Ok said
  pub again : HasSecond (is_known lines) said.sends
  pub second : Second
  pub first : second_in lines number said.sends ≡ Some second
  pub is : fault ≡ second_send second

-- The line says no event, or one that sends an id again.
abbrev pub HasFault : LineFault → (List ℕ → Option ℕ) → ℕ → List ℕ → Type 0
HasFault fault lines number line = (words_in line ≡ Err fault) ⊎ SendsAgain fault lines number line

-- Why the event of a line wasn't read: the line's fault, unless memory ran out.
abbrev pub IsRefused : MessageFault → (List ℕ → Option ℕ) → ℕ → List ℕ → Type 0
IsRefused (Has what words) lines number line = HasFault (fault_of what words.now) lines number line
IsRefused (Told what words) lines number line = HasFault (fault_of what (string_bytes words)) lines number line
IsRefused Memory lines number line = Unit {0}

-- A fault was said: that of the line, or that an event which was to be given on has a number that no clock can have.
pub data SaysFault (lines : List ℕ → Option ℕ) (number : ℕ) (line before after : List ℕ) : Type 0 where
  of_line : (fault : LineFault) → HasFault fault lines number line
      → after ≡ before ++ fault_line number fault.kind fault.words → SaysFault lines number line before after
  of_waiting : (front : List ℕ) (at : ℕ) → after ≡ front ++ fault_line at kind.Many too_many
      → SaysFault lines number line before after

-- The event of a line was read.
pub record ReadsLine (log : List MessageEvent) (given : List Ordered) (number : ℕ) (line : List ℕ) (order :
    MessageOrder)
    : Type 0 where
  pub words : Words
  pub says : words_in line ≡ Ok words
  pub reads : ReadsEvent log given number words order
