use Rattle.wcp_worker.proofs.Words.{◌≡◌, subst, rules, arith, common_steps, IfBoth, HasTakenMore, inbox_from}
use Rattle.wcp_worker.proofs.TakenMore.{each_entry, both_then, more_more, entry_none}
use Rattle.wcp_worker.proofs.mailbox.Mailbox.take_rest.Goals as goal

pub loop-from-init : goal.loop-from-init
loop-from-init g c =
    record { count = search rules; more = λ q. entry_none q (inbox_from c.args.self.now q); outboxes = search rules }

pub loop-from-preserved : goal.loop-from-preserved
loop-from-preserved g c =
    let old = c.loop-from.invariant in
    let k = c.loop-from.from in
    let is : c.index_mut.result.now ≡ inbox_from c.loop-from.self k = grind (arith, common_steps) in
    record {
      count = search rules;
      more = each_entry (λ q entry. IfBoth (HasTakenMore q) (inbox_from c.args.self.now q) entry)
          c.loop-from.self.inboxes.items k c.take_all_by.new.inbox old.more
          (both_then (HasTakenMore k) (more_more k) (inbox_from c.args.self.now k)
          (inbox_from c.loop-from.self k) c.take_all_by.new.inbox (old.more k)
          (subst (λ entry. IfBoth (HasTakenMore k) entry c.take_all_by.new.inbox) is (c.in_ok-take_all_by.ensures k)));
      outboxes = old.outboxes;
    }
