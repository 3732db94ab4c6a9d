use Rattle.std.proofs.Common.{◌≡◌, ◌<◌, ◌≤◌, List, length, sym, subst}
use Rattle.std.specs.List.{AllByRecursion}
use Rattle.stage_layout.specs.Late.{parts_of}
use Rattle.stage_layout.specs.Passes.{NeedEarlier}
use Rattle.stage_layout.specs.declared.pass_plan.HotOp.{HotOp}
use Rattle.warm_split.proofs.PackedLaws.{planned_earlier, planned_stages, planned_count}
use Rattle.warm_split.proofs.Sets.{hot_set}
use Rattle.warm_split.proofs.packets.hot_plan.Goals as goal

pub planned_ops-planned-requires-clause-sets : goal.planned_ops-planned-requires-clause-sets
planned_ops-planned-requires-clause-sets c = hot_set (parts_of c.args.layout.now c.args.script.now.items) c.args.parts.now c.requires.sets

pub plan-requires : goal.plan-requires
plan-requires c =
    let rows = c.args.layout.now in
    let ops = c.args.script.now.items in
    let same = sym c.planned_ops-planned.ensures.ops in
    record {
      count = subst (λ (l : List HotOp). (1 ≤ length l) × (length l ≤ 16)) same (planned_count rows ops c.requires.fit c.requires.hot);
      earlier = subst (λ (l : List HotOp). NeedEarlier 0 l) same (planned_earlier rows ops c.requires.fit);
      stages = subst (λ (l : List HotOp). AllByRecursion (λ op. op.place.stage < c.args.shape.now.stages) l) same (planned_stages c.args.shape.now rows ops c.requires.places);
    }
