use Rattle.trace_detect.proofs.Words.{refl, subst, Judged, JudgesNext}
use Rattle.std.proofs.lemmas.List.{get_or_default}
use Rattle.trace_detect.proofs.judged.judge_at.Goals as goal

pub returns : goal.returns
returns c = record {
  judge = c.take.new.self;
  set = refl;
  next = λ before. subst (λ (j : Judged). JudgesNext j c.args.text.now c.take.result c.take.new.self)
      (get_or_default c.args.judges.now c.args.place c.index-judges-place.result before c.requires.place)
      c.take.ensures;
}
