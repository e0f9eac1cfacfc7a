-- The words of the proofs of this crate, from one place.
pub use Rattle.std.proofs.Common.{◌≡◌, ℕ, List, ◌++◌, Result, append_assoc, arith, zero, suc, ◌+◌, ◌*◌, ◌-◌, ◌<◌, ◌≤◌}
pub use Rattle.std.proofs.Common.{Bool, true, false, cond, ◌&&◌, eqb, [], ◌∷◌, length, take, refl, ap, ◌∙◌}
pub use Rattle.std.proofs.Common.{length-append, mul-suc, Ok, Err, sym, subst, ◌^◌, not, All, get_or, Option, Some}
pub use Rattle.std.proofs.Common.{None, MatchOption, drop, ◌≢◌, le-leb, ne_eqb, inl, inr, ⊎_elim, lt-ltb, vec_len}
pub use Rattle.std.proofs.Common.{string_bytes, rules}
pub use Rattle.std.proofs.Math.Seq.{take-append-add, set-append_seam}
pub use Rattle.std.proofs.lemmas.Bool.{cond_both, and_parts, not-true, cases_lt, cases_eq, false_from_ne_true}
pub use Rattle.std.proofs.lemmas.Bool.{true≢false, eqb-true, eqb-false, false≢true}
pub use Rattle.std.proofs.lemmas.Fmt.{digits_decimal, decimal_step, digits_value-decimal, decimal-digits_value}
pub use Rattle.std.proofs.lemmas.Fmt.{first_decimal, decimal_nonempty, decimal_digit}
pub use Rattle.std.proofs.lemmas.Grind.{flat_map-append, common_steps}
pub use Rattle.std.proofs.lemmas.Int.Digits.{digits_value_more, digits_more}
pub use Rattle.std.proofs.lemmas.List.{append-nil, take-append-le, take_all, get_or_default, take_rest}
pub use Rattle.std.proofs.lemmas.List.Elements.{All-from_recursion, All-append, All-cons, All-nil, recursion_from_All}
pub use Rattle.std.proofs.lemmas.List.Splits.{slice_split_at, slice_split_none, slice_split_first, length-slice_split}
pub use Rattle.std.proofs.lemmas.List.Sums.{sum_by-append, AllPass-from_list_all, fails_before_first}
pub use Rattle.std.proofs.lemmas.Slice.Eq.{bytes_eq-Decides}
pub use Rattle.std.proofs.lemmas.Str.Parse.{not_in_digits, IsNumeralModel, numerals_by_value, tells_digits, digit_at}
pub use Rattle.std.proofs.lemmas.Str.Parse.{digits_value-take-le}
pub use Rattle.std.specs.Char.{digit_value}
pub use Rattle.std.specs.Fmt.{decimal}
pub use Rattle.std.specs.List.{flat_map, range_with_len, count_by, join_with_byte, list_all, AllByRecursion}
pub use Rattle.std.specs.List.{slice_split, position}
pub use Rattle.std.specs.Prelude.{OnOk, IfOk, IfErr, codes, replicate, slice_get, slice_set}
pub use Rattle.std.specs.Str.Parse.{digits_value, AllDigits}
pub use Rattle.wcp_model.proofs.CheckedPlans.{some_process, few_processes, some_watched}
pub use Rattle.wcp_model.specs.PlanFault.{IsCheckedPlan, IsOutside, HasFault}
pub use Rattle.wcp_model.specs.PlainPlan.{IsSamePlan}
pub use Rattle.wcp_model.specs.WorkloadComputation.{sends, receives, IsWithin, IsFitOrder, CouldBeRead}
pub use Rattle.wcp_model.specs.declared.plan.Parent.{Parent}
pub use Rattle.wcp_model.specs.declared.plan.Parent.TheVariants.{Root, Relay}
pub use Rattle.wcp_model.specs.declared.plan.Plan.{Plan}
pub use Rattle.wcp_model.specs.declared.step.Step.{Step}
pub use Rattle.wcp_model.specs.declared.workload.Task.{Task}
pub use Rattle.wcp_order.specs.Stuck.{IsStuckAt, IfOrder, IfStuck, IsFirstStuck}
pub use Rattle.wcp_script.specs.Head.{HeadRead, head_of, IsPlanOf, Head, first_head, head_by, head_line, with_line}
pub use Rattle.wcp_script.specs.Head.{first_word, head_words, is_watched_by, parent_in, is_above, is_after}
pub use Rattle.wcp_script.specs.Head.{IsWithinLimits, line_count}
pub use Rattle.wcp_script.specs.Judgement.{number_in, ◌>>=◌, at_line, ask}
pub use Rattle.wcp_script.specs.Lines.{Word, text_of, TextLine, line_text, lines_of, words_of, lines_among}
pub use Rattle.wcp_script.specs.PlanText.{cap_lines, hold_lines, relay_lines, attach_lines, numbered, is_first}
pub use Rattle.wcp_script.specs.PlanText.{is_root_alone, has_one_relay, tree_lines, watch_lines, flag_lines}
pub use Rattle.wcp_script.specs.PlanText.{are_all_watched, watched_words, head_lines, parent_word, opening_lines}
pub use Rattle.wcp_script.specs.ReadAnswers.{IsReadAs, IsRefusedFor, IsFaultOf, ReadsSchedule, ReadsWorkload, Fails}
pub use Rattle.wcp_script.specs.ReadAnswers.{ReadsText, ReadsInOrder}
pub use Rattle.wcp_script.specs.Ring.{before, finds_both, received, sent, ring_turn, ring_round, ring_fault}
pub use Rattle.wcp_script.specs.Ring.{ring_length}
pub use Rattle.wcp_script.specs.TextFault.{TextKind, workloads, schedules, steps_by, Spells, HasTextFault, InHead}
pub use Rattle.wcp_script.specs.TextFault.{OfPlan, InStep, HasWorkloadFault, InText, AtEnd, step_after}
pub use Rattle.wcp_script.specs.Views.{GoesOn, seen_read, seen_line, seen_head}
pub use Rattle.wcp_script.specs.WorkloadLines.{is_task_word, is_within}
pub use Rattle.wcp_script.specs.WorkloadText.{action_words, task_line, task_words}
pub use Rattle.wcp_script.specs.declared.fault.FaultKind.{FaultKind}
pub use Rattle.wcp_script.specs.declared.fault.ReadFault.{ReadFault}
pub use Rattle.wcp_script.specs.declared.fault.ReadFault.TheVariants.{Script, NoMemory}
pub use Rattle.wcp_script.specs.declared.fault.ScriptFault.{ScriptFault}
pub use Rattle.wcp_script.specs.declared.head_line.HeadLine.{HeadLine}
