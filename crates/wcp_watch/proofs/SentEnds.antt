-- A relay's end may go to another thread.
use denote.Param.Send.{IsSend, EachSend, enum_send, recorded_send, struct_send, sendable}
use denote.Enum.Declared as declared_enum
use denote.Struct.Declared.{shape}
use Rattle.std.proofs.Crossing.{crosses}
use Rattle.wcp_clock.proofs.note.Item.TheSendSync.{the_send as item_send}
use Rattle.wcp_lane.proofs.putter.PutReceipt.TheSendSync.{the_send as put_receipt_send}
use Rattle.wcp_model.proofs.plan.Parent.TheSendSync.{the_field_send as parent_send}
use Rattle.wcp_relay.proofs.bundle.Bundle.TheSendSync.{the_send as bundle_send}
use Rattle.wcp_relay.proofs.relay_end.Receipts.TheSendSync.{the_field_send as receipts_send}
use Rattle.wcp_relay.proofs.relay_end.RelayFault.TheSendSync.{the_field_send as fault_send}
use Rattle.wcp_relay.specs.contracts.relay_end.RelayOutcome as outcome
use Rattle.wcp_relay.specs.contracts.relay_end.RelayEnd as relay_end

variants_send : EachSend (declared_enum.shape outcome.the_type).variants
variants_send = (
  (parent_send, (receipts_send, (search (put_receipt_send, bundle_send, item_send), tt))),
  ((fault_send, (search crosses, (search crosses, (search crosses, tt)))), tt),
)

outcome_send : IsSend (outcome.the_field).row
outcome_send = enum_send (declared_enum.shape outcome.the_type) variants_send

pub relay_end_send : IsSend relay_end.the_row
relay_end_send = recorded_send _ _ _ relay_end.the_type.to_one
    (struct_send (shape relay_end.the_type) (search sendable, (search sendable, (outcome_send, tt))))
