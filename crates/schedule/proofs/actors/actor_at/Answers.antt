use Rattle.std.proofs.Common.{◌-◌, ◌*◌, sym, arith}
use Rattle.catalogue.specs.PlanOf.{plan_of}
use Rattle.schedule.proofs.DrawnPlaces.{client_at, port_at, stage_at, recover_at}
use Rattle.schedule.proofs.actors.actor_at.Goals as goal

pub returns-then-place-clients : goal.returns-then-place-clients
returns-then-place-clients c = sym (client_at (plan_of c.args.session.now) c.args.place (omega arith))

pub returns-then-place-clients-2 : goal.returns-then-place-clients-2
returns-then-place-clients-2 c = sym (port_at (plan_of c.args.session.now) c.args.place (c.args.place - c.from-clients.result) (omega arith) (omega arith))

pub returns-then-place-clients-3 : goal.returns-then-place-clients-3
returns-then-place-clients-3 c = sym (stage_at (plan_of c.args.session.now) c.args.place (c.args.place - 2 * c.from-clients.result) (omega arith) (omega arith))

pub returns-else-place-clients-3 : goal.returns-else-place-clients-3
returns-else-place-clients-3 c = sym (recover_at (plan_of c.args.session.now) c.args.place (omega arith))
