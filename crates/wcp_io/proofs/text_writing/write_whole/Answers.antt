use Rattle.std.proofs.KnownBytes.{Appends-kept}
use Rattle.wcp_io.proofs.Rests.{front_more, front_within}
use Rattle.wcp_io.proofs.text_writing.write_whole.Goals as goal
use Rattle.wcp_io.proofs.text_writing.write_whole.Goals.{in-Ok, in-Err+else-ne}

pub loop-preserved : goal.loop-preserved
loop-preserved g c =
    let text = c.args.text.now in
    let contents = g.W.Write.contents in
    elim c.match-write.branch [
      | in-Ok w ↦ rw w.written-is (record {
        written = front_more (contents c.args.output.now) (contents c.loop.output)
            (contents c.write.new.self) text c.loop.written w.in-Ok.count
            c.loop.invariant.written w.in-Ok.ensures.bytes;
        within = front_within text c.loop.written w.in-Ok.count c.loop.invariant.within w.in-Ok.ensures.bound;
      })
      | in-Err+else-ne w ↦ rw w.written-is (record {
        written = Appends-kept (contents c.args.output.now) (contents c.loop.output)
            (contents c.write.new.self) _ c.loop.invariant.written w.in-Err.ensures.bytes;
        within = c.loop.invariant.within;
      })
    ]
