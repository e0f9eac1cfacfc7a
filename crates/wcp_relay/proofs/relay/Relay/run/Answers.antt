use Rattle.wcp_relay.proofs.Words.{None, sym, ◌∙◌, subst, IsPrefix, Item, PutEnd, Bundle, Outlet, Source, items_of}
use Rattle.wcp_relay.proofs.Words.{source_taken, taken_in}
use Rattle.wcp_relay.proofs.Ending.{starts, put_front, ended_prefix, end_taken, end_from_rings, no_gap}
use Rattle.wcp_relay.proofs.relay.Relay.run.Goals as goal

pub run-met-requires : goal.run-met-requires
run-met-requires g c =
    starts c.args.self.source (record { putter = c.args.self.putter; hold = c.args.self.hold; cut = None })
    c.args.self.serves c.args.self.room c.args.self.nothing_held c.args.self.nothing_put

pub returns-in_default-clause-prefix : goal.returns-in_default-clause-prefix
returns-in_default-clause-prefix g c p =
    let outlet = c.run-met.new.outlet in
    let front = put_front outlet (source_taken c.run-met.new.self p) p
    (ended_prefix c.run-met.new.self outlet c.run-met.result c.run-met.ensures.ended p) in
    subst (λ (e : PutEnd Bundle Item). IsPrefix (items_of p e.put) (taken_in c.end.result p))
    (sym c.end-in_default.ensures)
    (subst (IsPrefix (items_of p outlet.putter.put))
    (sym (end_taken c.run-met.new.self c.end.result c.end.ensures p)) front)

pub returns-clause-prefix : goal.returns-clause-prefix
returns-clause-prefix g c p =
    let outlet = c.run-met.new.outlet in
    let front = put_front outlet (source_taken c.run-met.new.self p) p
    (ended_prefix c.run-met.new.self outlet c.run-met.result c.run-met.ensures.ended p) in
    subst (λ (o : Outlet). IsPrefix (items_of p o.putter.put) (source_taken c.of.result.value p)) (sym c.of-2.ensures)
    (subst (λ (s : Source). IsPrefix (items_of p outlet.putter.put) (source_taken s p)) (sym c.of.ensures) front)

pub returns-in_default-clause-rings : goal.returns-in_default-clause-rings
returns-in_default-clause-rings g c =
    end_from_rings c.run-met.new.self c.end.result c.args.self.parent c.end-in_default.result c.run-met.result
    c.end.ensures (no_gap c.run-met.new.outlet.cut c.run-met.result (sym c.first_fault.ensures ∙ c.in_default.is))
    c.run-met.ensures.rings

pub returns-clause-rings : goal.returns-clause-rings
returns-clause-rings g c = rw (c.of.ensures, c.of-3.ensures) c.run-met.ensures.rings
