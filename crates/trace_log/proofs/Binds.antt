-- Questions that are asked one after another.
use Rattle.std.proofs.Common.{◌≡◌, Bool, true, false, Result, Ok, Err, refl}
use Rattle.trace_log.specs.declared.fault.LogFaultKind.{LogFaultKind}
use Rattle.trace_log.specs.Judgement.{◌>>=◌, ask}

pub bind_gives : {A B E : Type 0} (P : Type 0) (r : Result A E) (f : A → Result B E) (y : B) → (r >>= f) ≡ Ok y
    → ((x : A) → r ≡ Ok x → f x ≡ Ok y → P) → P
bind_gives P (Ok x) f y said on = on x refl said
bind_gives P (Err e) f y said on = absurd (cc)

pub same_ok : {A E : Type 0} (x y : A) → ◌≡◌ {A = Result A E} (Ok x) (Ok y) → x ≡ y
same_ok x y same = cc

pub asked : (b : Bool) (what : LogFaultKind) → ask b what ≡ Ok tt → b ≡ true
asked true what is = refl
asked false what is = cc

both_asked : {B C D E : Type 0} (r : Result B E) (c : C) (next : C → Result D E)
    → ((r >>= λ _. Ok c) >>= next) ≡ (r >>= λ _. next c)
both_asked (Ok b) c next = refl
both_asked (Err fault) c next = refl

-- A question whose answer is put together, and what is asked of it then.
pub regrouped : {A B C D E : Type 0} (first : Result A E) (then : A → Result B E) (s : A → C) (next : C → Result D E)
    → ((first >>= λ a. then a >>= λ _. Ok (s a)) >>= next) ≡ (first >>= λ a. then a >>= λ _. next (s a))
regrouped (Ok a) then s next = both_asked (then a) (s a) next
regrouped (Err fault) then s next = refl
