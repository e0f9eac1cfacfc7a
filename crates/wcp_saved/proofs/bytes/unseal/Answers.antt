use Rattle.std.proofs.Common.{◌<◌, ◌++◌, ◌+◌, ◌∙◌, length, get_or, drop, arith}
use Rattle.std.specs.Int.{w64, to_le_bytes}
use Rattle.wcp_saved.specs.Spelling.{bytes_of}
use Rattle.wcp_saved.proofs.Spelled.{next_piece, taken_more, all_taken, count_is}
use Rattle.wcp_saved.proofs.bytes.unseal.Goals as goal

pub loop-preserved : goal.loop-preserved
loop-preserved c = λ spelled behind small e short.
    let i = c.loop.counter in
    let so_far = c.loop.invariant spelled behind small e short in
    let within : i < length spelled = omega (
      arith,
      count_is spelled behind c.args.bytes.now e short,
      c.loop-test.true,
    ) in
    let got = c.take_word-word.ensures (get_or spelled i 0) (bytes_of (drop (i + 1) spelled) ++ behind)
    (small i 0 within) (so_far.1 ∙ next_piece (to_le_bytes w64) spelled i 0 behind within) in (
      taken_more spelled c.loop.words.items c.push.new.self.items i 0 _ within so_far.0 got.0
          c.in_ok-push.ensures.items,
      got.1,
    )

pub returns : goal.returns
returns c = λ spelled behind small e short.
    let so_far = c.loop.invariant spelled behind small e short in
    (all_taken (to_le_bytes w64) spelled c.loop.words.items c.loop.counter c.loop.rest.now behind
    (omega (arith, count_is spelled behind c.args.bytes.now e short, c.loop-test.false)) so_far.0 so_far.1).0
