use Rattle.wcp_single.proofs.Words.{arith, seal_of}
use Rattle.wcp_single.proofs.NextTask.{next_within, sends_within, receives_within}
use Rattle.wcp_single.proofs.RunAfterTask.{channel_within, caught_up, may_communicate, performs_observe, performs_send}
use Rattle.wcp_single.proofs.RunAfterTask.{some_wait, may_receive, performs_receive}
use Rattle.wcp_single.proofs.workload_run.WorkloadRun.perform.Goals as goal

pub observe-requires : goal.observe-requires
observe-requires c =
    caught_up c.args.n c.requires.next.watched c.requires.next.flag c.requires.next.done c.args.self.now.processes.items
    c.args.self.now.in_transit.items c.args.self.now.checker c.requires.next.run c.args.task.p c.args.task.action
    c.requires.next.next c.index_mut.result.now c.index_mut.ensures.value

pub send-message-requires-clause-may : goal.send-message-requires-clause-may
send-message-requires-clause-may c =
    may_communicate c.args.n c.requires.next.watched c.requires.next.flag c.requires.next.done
    c.args.self.now.processes.items c.args.self.now.in_transit.items c.args.self.now.checker c.requires.next.run
    c.args.task.p c.args.task.action c.requires.next.next c.index_mut-in-Send.result.now
    c.index_mut-in-Send.ensures.value

pub index_mut-requires-in-Send-2 : goal.index_mut-requires-in-Send-2
index_mut-requires-in-Send-2 c =
    omega (
      arith,
      c.args.self.now.in_transit.ok.0,
      channel_within c.args.n c.requires.next.watched c.requires.next.flag
          c.requires.next.done c.args.self.now.processes.items c.args.self.now.in_transit.items c.args.self.now.checker
          c.requires.next.run c.args.task.p c.args.task.action c.requires.next.next c.args.task.p c.in-Send.to
          c.channel.result (next_within c.args.n c.requires.next.done c.args.task c.requires.next.next).0 (sends_within
          c.args.n c.requires.next.done c.args.task c.in-Send.to c.requires.next.next c.in-Send.is) c.channel.ensures,
    )

pub index_mut-requires-in-Recv : goal.index_mut-requires-in-Recv
index_mut-requires-in-Recv c =
    omega (
      arith,
      c.args.self.now.in_transit.ok.0,
      channel_within c.args.n c.requires.next.watched c.requires.next.flag
          c.requires.next.done c.args.self.now.processes.items c.args.self.now.in_transit.items c.args.self.now.checker
          c.requires.next.run c.args.task.p c.args.task.action c.requires.next.next c.in-Recv.from c.args.task.p
          c.channel-in-Recv.result (receives_within c.args.n c.requires.next.done c.args.task c.in-Recv.from
          c.requires.next.next c.in-Recv.is) (next_within c.args.n c.requires.next.done c.args.task
          c.requires.next.next).0 c.channel-in-Recv.ensures,
    )

pub pop-message-requires : goal.pop-message-requires
pop-message-requires c =
    some_wait c.args.n c.requires.next.watched c.requires.next.flag c.requires.next.done c.args.self.now.processes.items
    c.args.self.now.in_transit.items c.args.self.now.checker c.requires.next.run c.args.task.p c.args.task.action
    c.requires.next.next c.in-Recv.from c.in-Recv.is c.channel-in-Recv.result c.channel-in-Recv.ensures
    c.index_mut-in-Recv.result.now c.index_mut-in-Recv.ensures.value

pub receive-requires : goal.receive-requires
receive-requires c =
    may_receive c.args.n c.requires.next.watched c.requires.next.flag c.requires.next.done
    c.args.self.now.processes.items c.args.self.now.in_transit.items c.args.self.now.checker c.requires.next.run
    c.args.task.p c.args.task.action c.requires.next.next c.index_mut-in-Recv-2.result.now
    c.index_mut-in-Recv-2.ensures.value c.in-Recv.from c.in-Recv.is c.channel-in-Recv.result c.channel-in-Recv.ensures
    c.index_mut-in-Recv.result.now c.index_mut-in-Recv.ensures.value
    (seal_of c.pop-message.result) c.pop-message.new.self c.pop-message.ensures

pub returns-in_ok-observe-in-Observe : goal.returns-in_ok-observe-in-Observe
returns-in_ok-observe-in-Observe c = λ watched flag done next run.
    performs_observe c.args.n watched flag done c.args.self.now.processes.items c.args.self.now.in_transit.items
    c.args.self.now.checker run c.args.task.p c.args.task.action next c.index_mut.result.now c.index_mut.ensures.value
    c.in-Observe.holds c.in-Observe.is c.observe.new.self c.in_ok-observe-in-Observe.ensures.runs
    c.observe.new.checker c.in_ok-observe-in-Observe.ensures.feeds

pub returns-in_ok-push-in-Send : goal.returns-in_ok-push-in-Send
returns-in_ok-push-in-Send c = λ watched flag done next run.
    performs_send c.args.n watched flag done c.args.self.now.processes.items c.args.self.now.in_transit.items
    c.args.self.now.checker run c.args.task.p c.args.task.action next c.index_mut-in-Send.result.now
    c.index_mut-in-Send.ensures.value c.in-Send.to c.in-Send.is c.channel.result c.channel.ensures
    c.index_mut-in-Send-2.result.now c.index_mut-in-Send-2.ensures.value c.send-message.new.self
    c.send-message.ensures.runs
    (seal_of c.send-message.result) c.send-message.ensures.seal c.push.new.self c.in_ok-push-in-Send.ensures

pub returns-in-Recv : goal.returns-in-Recv
returns-in-Recv c = λ watched flag done next run.
    performs_receive c.args.n watched flag done c.args.self.now.processes.items c.args.self.now.in_transit.items
    c.args.self.now.checker run c.args.task.p c.args.task.action next c.index_mut-in-Recv-2.result.now
    c.index_mut-in-Recv-2.ensures.value c.in-Recv.from c.in-Recv.is c.channel-in-Recv.result c.channel-in-Recv.ensures
    c.index_mut-in-Recv.result.now c.index_mut-in-Recv.ensures.value
    (seal_of c.pop-message.result) c.pop-message.new.self c.pop-message.ensures c.receive.new.self c.receive.ensures
