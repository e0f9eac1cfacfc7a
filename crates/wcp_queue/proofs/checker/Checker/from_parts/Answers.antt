use Rattle.wcp_queue.proofs.Words.{◌≡◌, true, map, refl, ◌∙◌, ap, length, arith}
use Rattle.wcp_queue.proofs.SoundParts.{IsSoundChecker-parts}
use Rattle.wcp_queue.proofs.checker.Checker.from_parts.Goals as goal

pub invariant_of-result : goal.invariant_of-result
invariant_of-result c =
    let parts = c.args.parts.now in
    let have = c.have_sound_counts.ensures in
    let counted : c.have_sound_counts.result ≡ true = grind arith in
    let searched : c.is_sound_search.result ≡ true = grind arith in
    let queues : c.in_ok-queues.queues ≡ map (λ row. row.items) parts.queues.items =
    c.in_ok-queues.ensures ∙ ap (map (λ row. row.items)) c.deref.ensures.value in
    let rows = c.len.ensures.value ∙ ap length c.members_of-members.ensures in
    let search = rw (queues, rows) at (c.is_sound_search.ensures.0 searched) in
    rw (queues, c.members_of-members.ensures)
    (IsSoundChecker-parts parts (have.counts counted) (have.marks counted) (have.losses counted) (have.sound.0 counted)
    search)

pub returns-clause-sound : goal.returns-clause-sound
returns-clause-sound c =
    let parts = c.args.parts.now in
    let have = c.have_sound_counts.ensures in
    let counted : c.have_sound_counts.result ≡ true = grind arith in
    let searched : c.is_sound_search.result ≡ true = grind arith in
    let queues : c.in_ok-queues.queues ≡ map (λ row. row.items) parts.queues.items =
    c.in_ok-queues.ensures ∙ ap (map (λ row. row.items)) c.deref.ensures.value in
    let rows = c.len.ensures.value ∙ ap length c.members_of-members.ensures in
    let search = rw (queues, rows) at (c.is_sound_search.ensures.0 searched) in (
      λ _. IsSoundChecker-parts parts (have.counts counted) (have.marks counted) (have.losses counted)
          (have.sound.0 counted) search,
      λ _. refl,
    )
