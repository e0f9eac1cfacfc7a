use Rattle.wcp_io.proofs.Words.{◌∙◌, ◌+◌, ◌<◌, ◌∷◌, ◌++◌, length, take, drop, sym, ap, subst, arith, length-append}
use Rattle.wcp_io.proofs.Words.{length-take-le, take-append-drop, take_all, line_feed, HasNoFeed, ToFeed}
use Rattle.wcp_io.proofs.Found.{no_feed_before, parted_in_front}
use Rattle.wcp_io.proofs.Given.{moves_part}
use Rattle.wcp_io.proofs.line_reader.LineReader.take_part.Goals as goal

pub returns-in_ok-extend_from_slice-in-Some-clause-ok : goal.returns-in_ok-extend_from_slice-in-Some-clause-ok
returns-in_ok-extend_from_slice-in-Some-clause-ok c =
    let waiting = c.waiting-waiting.result.now in
    let room = c.min.result in
    let front = take room waiting in
    let place = c.in-Some.place in
    let part = take place front in
    let found = c.in-Some.ensures in
    let high : place < length front = found.0.high in
    let grown = c.in_ok-extend_from_slice-in-Some.ensures.items in
    let size = ap length grown ∙ length-append c.args.self.now.line.items part in
    let many = length-take-le room waiting (omega (arith, c.min.ensures)) in
    let few = length-take-le place front (omega arith) in
    ToFeed part
    (no_feed_before front place (omega arith) found.0.before)
    (omega (arith, size, many, few, c.min.ensures, c.len-room.ensures))
    grown
    (sym c.waiting-waiting.ensures ∙ parted_in_front waiting room place high found.1
    ∙ ap (λ l. part ++ line_feed ∷ l) (ap (drop (place + 1)) c.waiting-waiting.ensures ∙ sym c.take.ensures))

pub returns-in_ok-extend_from_slice-in-None-clause-ok : goal.returns-in_ok-extend_from_slice-in-None-clause-ok
returns-in_ok-extend_from_slice-in-None-clause-ok c =
    let waiting = c.waiting-waiting.result.now in
    let room = c.min.result in
    let front = take room waiting in
    let clean = subst HasNoFeed (take_all (length front) front (omega arith))
    (no_feed_before front (length front) (omega arith) c.in-None.ensures) in
    let grown = c.in_ok-extend_from_slice-in-None.ensures.items in
    let size = ap length grown ∙ length-append c.args.self.now.line.items front in
    let many = length-take-le room waiting (omega (arith, c.min.ensures)) in
    moves_part _ _ _ _ front c.len.result (omega (arith, c.len.ensures)) clean
    (omega (arith, size, many, c.min.ensures, c.len-room.ensures))
    grown
    (sym c.waiting-waiting.ensures ∙ sym (take-append-drop room waiting)
    ∙ ap (λ l. front ++ l) (ap (λ n. drop n waiting) (sym many) ∙ ap (drop (length front)) c.waiting-waiting.ensures
    ∙ sym c.take-in-None.ensures))
    (λ short.
    omega (
      arith,
      size,
      many,
      c.min.ensures,
      c.len-room.ensures,
      c.len.ensures,
      ap length c.waiting-waiting.ensures,
    ))
