use Rattle.wcp_world.proofs.Words.{◌≡◌, false, is_some, Some, slice_get, set, refl, sym, ◌∙◌, ap, eq-eqb}
use Rattle.wcp_world.proofs.Words.{slice_get_read}
use Rattle.wcp_world.proofs.messages.Letters.deliver.Goals as goal
use Rattle.wcp_world.proofs.messages.Letters.deliver.Goals.{in-Ok, in-Err}

pub returns-clause-answered : goal.returns-clause-answered
returns-clause-answered c =
    let letters = c.self.inside.letters in
    let letter = c.in-Some.letter.now in
    let at : slice_get letters.items c.args.number ≡ Some letter = slice_get_read letters.items _ c.args.number letter
    letters.ok.0 (c.in-Some.ensures.variant.0 refl) c.in-Some.ensures.value in
    let free : is_some c.args.probe.now.pending ≡ false = cc in
    let was : letter.message ≡ Some c.in-Some-take.message = sym c.take.ensures.value ∙ c.in-Some-take.is in
    let mine = eq-eqb letter.to c.args.p c.if-letter-p.false in
    let is_open = sym c.closed.ensures ∙ c.if-closed.false in
    rw (← c.self.view_is, at, was) (elim c.match-receive.branch [
      | in-Ok w ↦ rw (w.result-is, w.in-Ok.ensures.first, mine, is_open, free) refl
      | in-Err w ↦ rw (w.result-is, w.in-Err.ensures.first, mine, is_open, free) refl
    ])

pub returns-clause-delivered : goal.returns-clause-delivered
returns-clause-delivered c done =
    let letters = c.self.inside.letters in
    let letter = c.in-Some.letter.now in
    let at : slice_get letters.items c.args.number ≡ Some letter = slice_get_read letters.items _ c.args.number letter
    letters.ok.0 (c.in-Some.ensures.variant.0 refl) c.in-Some.ensures.value in
    rw (← c.self.view_is) (elim c.match-receive.branch [
      | in-Ok w ↦ rw w.self-inside-is (record {
        letter = letter;
        at = at;
        message = c.in-Some-take.message;
        was = sym c.take.ensures.value ∙ c.in-Some-take.is;
        accepted = w.in-Ok.ensures.accepted;
        same = w.in-Ok.ensures.same;
        pending = w.in-Ok.ensures.pending;
        emptied =
            ap (λ m. set letters.items c.args.number (record { to = letter.to; message = m })) c.take.ensures.after;
      })
      | in-Err w ↦ cc (done, w.result-is)
    ])
