-- What is said of a line, by whether it was read before.
use Rattle.std.proofs.Common.{◌≡◌, ◌∙◌, ℕ, Bool, true, false, List, [], ◌∷◌, ◌++◌, Option, None, Result, Ok, Err}
use Rattle.std.proofs.Common.{OnErr, OnOk, refl, sym, ap, append_assoc, append-nil, IfErr}
use Rattle.trace_order.specs.Giving.{Giving, OrderState, giving, state_of}
use Rattle.trace_order.specs.State.{names_in}
use Rattle.trace_messages.specs.declared.message_fault.MessageFault.{MessageFault}
use Rattle.trace_messages.specs.declared.message_fault.MessageFault.TheVariants.{Has, Told, Memory}
use Rattle.trace_messages.specs.declared.message_log.MessageLog.{MessageLog}
use Rattle.trace_messages.specs.declared.unsent.Unsent.{Unsent}
use Rattle.trace_messages.specs.Printed.{ordered_lines}
use Rattle.trace_messages.specs.Said.{IsGivenOut, IsGivingOn, IsSaidOf, IsTurn, end_said, giving_turn}
use Rattle.trace_messages.specs.Said.{if_kept, kept_unless, line_turn, many_line, message_says, said_lines, says_at}
use Rattle.trace_messages.specs.Said.{turn_said, unsaid_line, waits_in}
use Rattle.trace_rewrite.specs.Saying.{Saying, SaysAgain}

module _ (unsent : Unsent) (last : ℕ) (waits : List ℕ) (state : OrderState) (number : ℕ) where
  pub says_end : (is_over is_giving : Bool) → is_over ≡ false
      → says_at is_over is_giving unsent last waits state number [] ≡ end_said unsent last state
  unfolding said_lines
  says_end true is_giving goes_on = cc
  says_end false true goes_on = refl
  says_end false false goes_on = refl

  pub says_over : (is_over is_giving : Bool) (lines : List (List ℕ)) → is_over ≡ true
      → says_at is_over is_giving unsent last waits state number lines ≡ []
  says_over true is_giving lines over = refl
  says_over false is_giving lines over = cc

  pub says_reading : (is_over is_giving : Bool) (line : List ℕ) (lines : List (List ℕ)) → is_over ≡ false
      → is_giving ≡ false → says_at is_over is_giving unsent last waits state number (line ∷ lines)
      ≡ turn_said unsent number (line_turn state number line) lines
  unfolding said_lines
  says_reading true is_giving line lines goes_on reads = cc
  says_reading false true line lines goes_on reads = cc
  says_reading false false line lines goes_on reads = refl

  pub says_giving : (is_over is_giving : Bool) (line : List ℕ) (lines : List (List ℕ)) → is_over ≡ false
      → is_giving ≡ true → says_at is_over is_giving unsent last waits state number (line ∷ lines)
      ≡ waits ++ turn_said unsent number (giving_turn state) lines
  says_giving true is_giving line lines goes_on gives = cc
  says_giving false true line lines goes_on gives = refl
  says_giving false false line lines goes_on gives = cc

-- Where the order keeps the same, the same is said.
pub says_same : (old new : MessageLog) → new ≡ record old { order = new.order; scratch = new.scratch }
    → state_of new.order ≡ state_of old.order → message_says new ≡ message_says old
says_same old new rest same =
    ap message_says rest
    ∙ ap (λ s. says_at old.is_over old.is_giving old.unsent old.last
    (old.said.items ++ unsaid_line (names_in s.hosts) old.unsaid) s) same

-- What is said of a fault.
pub fault_said : {X : Type 0} (fault : MessageFault) (result : Result X MessageFault) (old : MessageLog) (number : ℕ)
    (line : List ℕ) (kept : OrderState) → result ≡ Err fault → old.is_over ≡ false → old.is_giving ≡ false
    → IsTurn (Err fault) number (line_turn (state_of old.order) number line) kept
    → IsSaidOf fault (message_says old) number line
fault_said (Has what words) result old number line kept is goes_on reads turn = λ lines.
    says_reading _ _ _ _ number old.is_over old.is_giving line lines goes_on reads
    ∙ ap (λ t. turn_said old.unsent number t lines) turn ∙ append-nil _
fault_said (Told what words) result old number line kept is goes_on reads turn = λ lines.
    says_reading _ _ _ _ number old.is_over old.is_giving line lines goes_on reads
    ∙ ap (λ t. turn_said old.unsent number t lines) turn ∙ append-nil _
fault_said Memory result old number line kept is goes_on reads turn = tt

kept_same : (say : OrderState → List ℕ) (many many' : Option ℕ) (kept kept' : OrderState)
    → many' ≡ many → kept' ≡ kept
    → many_line many' ++ if_kept (kept_unless many' kept') say ≡ many_line many ++ if_kept (kept_unless many kept) say
kept_same say many many' kept kept' same_many same_kept =
    ap (λ m. many_line m ++ if_kept (kept_unless m kept') say) same_many
    ∙ ap (λ s. many_line many ++ if_kept (kept_unless many s) say) same_kept

-- While events are given on, the same is said in the end.
pub giving_same : (say : OrderState → List ℕ) (before after : List ℕ) (old new : OrderState)
    → IsGivingOn before old after new
    → after ++ ((giving_turn new).said ++ if_kept (giving_turn new).kept say)
    ≡ before ++ ((giving_turn old).said ++ if_kept (giving_turn old).kept say)
giving_same say before after old new on =
    parted after (ordered_lines (names_in new.hosts) (giving new).given) (many_line (giving new).many) _
    ∙ ap (λ n. (after ++ ordered_lines n (giving new).given) ++ (many_line (giving new).many
    ++ if_kept (kept_unless (giving new).many (giving new).kept) say)) on.names
    ∙ ap (λ l. l ++ (many_line (giving new).many ++ if_kept (kept_unless (giving new).many (giving new).kept) say))
    on.said
    ∙ ap (λ l. (before ++ ordered_lines (names_in old.hosts) (giving old).given) ++ l)
    (kept_same say (giving old).many (giving new).many (giving old).kept (giving new).kept on.many on.kept)
    ∙ sym (parted before (ordered_lines (names_in old.hosts) (giving old).given) (many_line (giving old).many) _)
  where
    parted : (a b c d : List ℕ) → a ++ ((b ++ c) ++ d) ≡ (a ++ b) ++ (c ++ d)
    parted a b c d = ap (λ l. a ++ l) (append_assoc b c d) ∙ sym (append_assoc a b (c ++ d))

-- All was given on: what waits is said, and then the rest.
pub given_out : (say : OrderState → List ℕ) (waits : List ℕ) (state : OrderState) (many : Option ℕ)
    → IsGivenOut state many
    → waits ++ ((giving_turn state).said ++ if_kept (giving_turn state).kept say)
    ≡ (waits ++ many_line many) ++ if_kept (kept_unless many state) say
given_out say waits state many out =
    ap (λ (g : Giving). waits ++ ((ordered_lines (names_in state.hosts) g.given ++ many_line g.many)
    ++ if_kept (kept_unless g.many g.kept) say)) out
    ∙ sym (append_assoc waits (many_line many) _)

-- What is so where a call succeeded, from what it ensures then.
pub on_success : {A E P Q : Type 0} (called : Result A E) → (P → Q) → OnOk called P → OnOk called Q
on_success (Ok x) turn is = turn is
on_success (Err e) turn is = is

-- And from two things.
pub on_two : {A E P Q R : Type 0} (called : Result A E) → (P → Q → R) → OnOk called P → OnOk called Q → OnOk called R
on_two (Ok x) turn one other = turn one other
on_two (Err e) turn one other = one

pub on_three : {A E P Q R S : Type 0} (called : Result A E) → (P → Q → R → S) → OnOk called P → OnOk called Q
    → OnOk called R → OnOk called S
on_three (Ok x) turn one other last = turn one other last
on_three (Err e) turn one other last = one

-- What is said of a line is the same once its event was read.
pub begun_says : (result : Result (Unit {0}) MessageFault) (old new : MessageLog) (number : ℕ) (line : List ℕ)
    → old.is_over ≡ false → old.is_giving ≡ false
    → OnOk result (new ≡ record old {
      order = new.order;
      scratch = new.scratch;
      is_giving = true;
      said = new.said;
      unsaid = None;
    })
    → OnOk result (waits_in new ≡ []) → OnErr result (new ≡ record old { order = new.order; scratch = new.scratch })
    → OnErr result (state_of new.order ≡ state_of old.order)
    → IsTurn result number (line_turn (state_of old.order) number line) (state_of new.order)
    → SaysAgain (message_says old) (message_says new) number line
begun_says (Ok _) old new number line goes_on reads rest none stays same turn = λ lines.
    says_giving new.unsent new.last (waits_in new) (state_of new.order) number new.is_over new.is_giving line lines
    (ap (λ (l : MessageLog). l.is_over) rest ∙ goes_on) (ap (λ (l : MessageLog). l.is_giving) rest)
    ∙ ap (λ w. w ++ turn_said new.unsent number (giving_turn (state_of new.order)) lines) none
    ∙ ap (λ (l : MessageLog). turn_said l.unsent number (giving_turn (state_of new.order)) lines) rest
    ∙ ap (λ t. turn_said old.unsent number t lines) (sym turn)
    ∙ sym (says_reading old.unsent old.last (waits_in old) (state_of old.order) number old.is_over old.is_giving line
    lines goes_on reads)
begun_says (Err fault) old new number line goes_on reads rest none stays same turn = λ lines.
    ap (λ (say : Saying). say number (line ∷ lines)) (says_same old new stays same)

pub begun_fault : (result : Result (Unit {0}) MessageFault) (old : MessageLog) (number : ℕ) (line : List ℕ)
    (kept : OrderState) → old.is_over ≡ false → old.is_giving ≡ false
    → IsTurn result number (line_turn (state_of old.order) number line) kept
    → IfErr result (λ fault. IsSaidOf fault (message_says old) number line)
begun_fault (Ok _) old number line kept goes_on reads turn = tt
begun_fault (Err fault) old number line kept goes_on reads turn =
    fault_said {X = Unit {0}} fault (Err fault) old number line kept refl goes_on reads turn
