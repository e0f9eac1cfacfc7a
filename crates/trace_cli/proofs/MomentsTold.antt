-- One moment more that is told, and the end of telling.
use Rattle.std.proofs.Common.{◌≡◌, ◌≢◌, refl, ap, sym, ℕ, ◌+◌, List, [], ◌∷◌, ◌++◌, length}
use Rattle.std.proofs.Common.{None, Result, Ok, Err, IsErr, IsErrAnd, true≢false, arith}
use Rattle.std.proofs.KnownBytes.{Appends-nil, Appends-trans}
use Rattle.std.specs.Io.KnownBytes.{Appends}
use Rattle.wcp_io.specs.Prefixes.{AppendsPrefix}
use Rattle.trace_log.specs.declared.turn.Form.{Form}
use Rattle.trace_condition.specs.declared.condition.Condition.{Condition}
use Rattle.trace_detect.specs.declared.answer.TraceAnswer.{TraceAnswer}
use Rattle.trace_detect.specs.declared.fault.DetectFault.{DetectFault}
use Rattle.trace_detect.specs.declared.moments.Moments.{Moments}
use Rattle.trace_detect.specs.Moments.{CanFollow, HasNoneBehind, IsFollowing, StopsBehind, TellsNext}
use Rattle.trace_detect.specs.Watching.{taken_of, watches}
use Rattle.trace_moment.specs.Standing.{HasNoMoment}
use Rattle.trace_detect.specs.Told.{told_by}
use Rattle.trace_text.specs.declared.format.AnswerFormat.{AnswerFormat}
use Rattle.trace_text.specs.Printed.{bytes_of, counted}
use Rattle.trace_cli.specs.declared.fault.TraceFault.{TraceFault}
use Rattle.trace_cli.specs.declared.fault.TraceFault.TheVariants.{Detection}
use Rattle.trace_cli.specs.EachMoment.{AreMoments, CutAtEnd, HasToldSome, NotKnown, WholeTold}
use Rattle.trace_text.specs.Unknown.{Tells}
use Rattle.trace_cli.specs.EachMoment.{Counted, CutWithin, HasToldAll, HasToldLast, IsTellingMoments, IsWhole}
use Rattle.trace_cli.specs.EachMoment.{Stopped, ToldMoment, last_logged, last_moment}
use Rattle.trace_cli.specs.EachMoment.{moments_text}
use Rattle.trace_cli.specs.Requested.{Known}
use Rattle.trace_cli.specs.Statuses.{refused, status_after, status_of}
use Rattle.trace_cli.proofs.Statuses.{status_after_err}
use Rattle.trace_cli.proofs.Telling.{cut_behind}

pub status_for : (result : Result ℕ TraceFault) (why : DetectFault)
    → IsErr result × IsErrAnd result (λ given. given ≡ Detection why) → status_after result ≡ refused
status_for (Ok status) why given = absurd (true≢false (sym given.0))
status_for (Err fault) why given = ap status_of given.1

module _ (form : Form) (format : AnswerFormat) (conditions : List Condition) (known : Known) where
  pub begun : (rest output : Known) (moments : Moments) → IsFollowing form conditions known rest None [] moments
      → IsTellingMoments form format conditions known rest output output 0 moments
  begun rest output moments following = record {
    told = [];
    are = tt;
    following = following;
    written = Appends-nil output;
    many = refl;
  }

  module _ (rest before now : Known) (count : ℕ) (moments : Moments)
      (telling : IsTellingMoments form format conditions known rest before now count moments) where
    pub can_follow : CanFollow rest moments
    can_follow = record {
      form = form;
      conditions = conditions;
      input = known;
      told = last_moment telling.told;
      logged = last_logged telling.told;
      is = telling.following;
    }

    pub stopped : (status : ℕ) → status ≡ refused → HasToldAll form format conditions known before now status
    stopped status is = Stopped telling.told telling.are telling.written is

    pub stops_for : (why : DetectFault) → StopsBehind form conditions known (last_moment telling.told) why
        → HasToldSome form format conditions known before now why
    stops_for why stops =
        record { told = telling.told; are = telling.are; stops = stops; written = telling.written }

    pub ended : (further : Known) (new : Moments)
        → HasNoneBehind form conditions known further (last_moment telling.told) new
        → HasToldLast form format conditions known further before now count new
    ended further new none = record {
      told = telling.told;
      are = telling.are;
      none = none;
      written = telling.written;
      many = telling.many;
    }

    module _ (further : Known) (answer : TraceAnswer) (text : List ℕ) (new : Moments)
        (next : TellsNext form conditions known further (last_moment telling.told) (last_logged telling.told) answer new)
        (is : text ≡ bytes_of format None (told_by answer))
      where
        abbrev one : ToldMoment
        one = record { logged = next.logged; moment = next.moment }

        pub tells_more : (then : Known) → Appends now then text
            → IsTellingMoments form format conditions known further before then (count + 1) new
        tells_more then written = record {
          told = one ∷ telling.told;
          are = (further, telling.are, next.next);
          following = next.following;
          written = Appends-trans before now then _ _ telling.written (rw (is, next.told_is) at written);
          many = omega (arith, telling.many);
        }

        pub cut_within : (then : Known) (result : Result ℕ TraceFault) → IsErr result
            → AppendsPrefix now then text
            → HasToldAll form format conditions known before then (status_after result)
        cut_within then result bad prefix =
            CutWithin (one ∷ telling.told) (further, telling.are, next.next)
            (cut_behind before now then _ _ telling.written (rw (is, next.told_is) at prefix)) (status_after_err result bad)

  module _ (rest before now : Known) (count : ℕ) (moments : Moments)
      (last : HasToldLast form format conditions known rest before now count moments) where
    pub last_stopped : (status : ℕ) → status ≡ refused → HasToldAll form format conditions known before now status
    last_stopped status is = Stopped last.told last.are last.written is

-- Lines wait at the end of the log, so that it isn't known whether there are more.
module _ (form : Form) (format : AnswerFormat) (conditions : List Condition) (known before now : Known)
    (why : DetectFault) (some : HasToldSome form format conditions known before now why) where
  pub some_stopped : (status : ℕ) → status ≡ refused → HasToldAll form format conditions known before now status
  some_stopped status is = Stopped some.told some.are some.written is

  module _ (text : List ℕ) (status : ℕ) (tells : Tells format (Err why) text status) where
    not_known : IsWhole form format conditions known (moments_text format conditions some.told ++ text) refused
    not_known =
        NotKnown some.told some.are why some.stops tells.0 tells.1
        (ap (λ bytes. moments_text format conditions some.told ++ bytes) tells.2) refl

    pub told_unknown : (then : Known) → Appends now then text
        → HasToldAll form format conditions known before then refused
    told_unknown then written = WholeTold _ not_known (Appends-trans before now then _ _ some.written written)

    pub cut_unknown : (then : Known) (result : Result ℕ TraceFault) → IsErr result → AppendsPrefix now then text
        → HasToldAll form format conditions known before then (status_after result)
    cut_unknown then result bad prefix =
        CutAtEnd _ refused not_known (cut_behind before now then _ _ some.written prefix) (status_after_err result bad)

-- The end, by what was told before it.
module _ (form : Form) (format : AnswerFormat) (conditions : List Condition) (known rest before now : Known)
    (moments : Moments) where
  pub no_moment : (told : List ToldMoment) → length told ≡ 0
      → (none : HasNoneBehind form conditions known rest (last_moment told) moments)
      → HasNoMoment (watches conditions) (taken_of conditions none.logged)
  no_moment [] is none = none.no_moment
  no_moment (one ∷ earlier) is none = absurd (omega (arith, is))

  pub alone : (told : List ToldMoment) → length told ≡ 0 → Appends before now (moments_text format conditions told)
      → (then : Known) (printed : List ℕ) → Appends now then printed → Appends before then printed
  alone [] is written then printed more = Appends-trans before now then [] printed written more
  alone (one ∷ earlier) is written then printed more = absurd (omega (arith, is))

  pub cut_alone : (told : List ToldMoment) → length told ≡ 0 → Appends before now (moments_text format conditions told)
      → (then : Known) (printed : List ℕ) → AppendsPrefix now then printed → AppendsPrefix before then printed
  cut_alone [] is written then printed more = cut_behind before now then [] printed written more
  cut_alone (one ∷ earlier) is written then printed more = absurd (omega (arith, is))

  pub counts : (told : List ToldMoment) (count : ℕ) → length told ≡ count → count ≢ 0
      → AreMoments form conditions known told → HasNoneBehind form conditions known rest (last_moment told) moments
      → IsWhole form format conditions known (moments_text format conditions told ++ counted format count) 0
  counts [] count is some are none = absurd (some (sym is))
  counts (one ∷ earlier) count is some are none =
      Counted one earlier are rest none.logged none.says none.no_moment
      (ap (λ (n : ℕ). moments_text format conditions (one ∷ earlier) ++ counted format n) (sym is)) refl
