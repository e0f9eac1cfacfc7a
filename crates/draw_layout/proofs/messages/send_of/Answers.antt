use Rattle.draw_layout.proofs.Queues.{task_within, to_within, from_within, channel_within, after_send, after_receive}
use Rattle.draw_layout.proofs.Queues.{some_waits, stay}
use Rattle.draw_layout.proofs.Words.{refl, observe_is_no_send, observe_is_no_receive}
use Rattle.draw_layout.proofs.messages.send_of.Goals as goal

pub bounds-in_transit-channel : goal.bounds-in_transit-channel
bounds-in_transit-channel c =
    let (order, next, are) = c.requires.next in
    channel_within next are (task_within next are).0 (to_within next are c.in-Send.is) c.channel.ensures

pub channel-requires-in-Recv-clause-from : goal.channel-requires-in-Recv-clause-from
channel-requires-in-Recv-clause-from c =
    let (order, next, are) = c.requires.next in
    from_within next are c.in-Recv.is

pub channel-requires-in-Recv-clause-to : goal.channel-requires-in-Recv-clause-to
channel-requires-in-Recv-clause-to c =
    let (order, next, are) = c.requires.next in
    (task_within next are).0

pub bounds-in_transit-channel-in-Recv : goal.bounds-in_transit-channel-in-Recv
bounds-in_transit-channel-in-Recv c =
    let (order, next, are) = c.requires.next in
    channel_within next are (from_within next are c.in-Recv.is) (task_within next are).0 c.channel-in-Recv.ensures

pub pop-requires : goal.pop-requires
pop-requires c =
    let (order, next, are) = c.requires.next in
    some_waits next are _ c.in-Recv.from c.in-Recv.is c.channel-in-Recv.ensures

pub returns-in-Recv : goal.returns-in-Recv
returns-in-Recv c = λ order next are.
    after_receive next are _ c.in-Recv.from c.pop.result c.in-Recv.is c.channel-in-Recv.ensures c.pop.ensures

pub returns-in-Observe : goal.returns-in-Observe
returns-in-Observe c = λ order next are. (
  stay next are (λ p q. (
    rw c.in-Observe.is (observe_is_no_send p q c.args.task.p c.in-Observe.field-0),
    rw c.in-Observe.is (observe_is_no_receive p q c.args.task.p c.in-Observe.field-0),
  )),
  rw c.in-Observe.is refl,
)

pub returns-in_ok-push-in-Send : goal.returns-in_ok-push-in-Send
returns-in_ok-push-in-Send c = λ order next are. (
  after_send next are _ c.in-Send.to c.in-Send.is c.channel.ensures c.in_ok-push-in-Send.ensures,
  rw c.in-Send.is refl,
)
