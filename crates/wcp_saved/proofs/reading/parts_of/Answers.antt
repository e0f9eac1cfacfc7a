use Rattle.std.proofs.Common.{◌∙◌, arith, eqb}
use Rattle.wcp_queue.specs.declared.checker.parts.CheckerParts.{CheckerParts}
use Rattle.wcp_saved.proofs.Restored.{field_by_field, state_is, starved_is, long_marks, few_numbers}
use Rattle.wcp_saved.proofs.reading.parts_of.Goals as goal

pub returns : goal.returns
returns c = λ checker sound range e.
    let magic = c.take_word-magic.ensures _ _ (e ∙ field_by_field checker) in
    let version = c.take_word-version.ensures _ _ magic.1 in
    let processes = c.take_word-processes.ensures _ _ version.1 in
    let tests = c.take_word-tests.ensures _ _ processes.1 in
    let starved = c.take_word-starved.ensures _ _ tests.1 in
    let marks = c.take_flags.ensures _ _ starved.1 (long_marks checker.watched) in
    let taken = c.take_words.ensures _ _ marks.1 sound.counts in
    let closed = c.take_flags-2.ensures _ _ taken.1 sound.marks in
    let lost = c.take_flags-3.ensures _ _ closed.1 sound.losses in
    let floor = c.take_numbers.ensures _ _ lost.1 range.components range.floor in
    let heads = c.take_flags-4.ensures _ _ floor.1 range.heads in
    let found = c.take_cut-found.ensures _ _ range.found heads.1 in
    let parts : CheckerParts = record {
      processes = c.number_of.result;
      watched = c.watched_of.result;
      queues = c.in_ok-queues.queues;
      floor = c.take_numbers.result.0;
      heads = c.take_flags-4.result.0;
      tests = c.take_word-tests.result.0;
      taken = c.take_words.result.0;
      closed = c.take_flags-2.result.0;
      lost = c.take_flags-3.result.0;
      found = c.take_cut-found.result.0;
      starved = eqb c.take_word-starved.result.0 1;
    } in
    state_is parts checker sound (record {
      count = c.number_of.ensures (omega (arith, processes.0, sound.few)) ∙ processes.0;
      watched = c.watched_of.ensures checker.watched (few_numbers checker sound) marks.0;
      queues = c.in_ok-queues.ensures checker.queues range.queues found.1;
      components = floor.0;
      heads = heads.0;
      tests = tests.0;
      taken = taken.0;
      closed = closed.0;
      lost = lost.0;
      found = found.0;
      starved = starved_is _ checker.starved starved.0;
    })
