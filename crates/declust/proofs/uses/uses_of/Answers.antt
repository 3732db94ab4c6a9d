use Rattle.std.proofs.Common.{leb, ltb, arith, rules}
use Rattle.std.proofs.lemmas.List.Sorted.{IsPartitionPoint-from_clause, IsPartitionedBy-leb, IsPartitionedBy-ltb}
use Rattle.declust.specs.declared.uses.Use.{Use}
use Rattle.declust.specs.Uses.{tuple_number}
use Rattle.declust.proofs.Counts.{in_order, same_are_between}
use Rattle.declust.proofs.uses.uses_of.Goals as goal

pub slice_bounds-result-count : goal.slice_bounds-result-count
slice_bounds-result-count c =
    let t = c.args.tuple.0 in
    let low = IsPartitionPoint-from_clause (λ (u : Use). ltb u.tuple.0 t) c.args.uses.now _ c.partition_point-from.ensures.partitioned (IsPartitionedBy-ltb tuple_number c.args.uses.now t c.requires) (λ a r q k. search rules) in
    let high = IsPartitionPoint-from_clause (λ (u : Use). leb u.tuple.0 t) c.args.uses.now _ c.partition_point-to.ensures.partitioned (IsPartitionedBy-leb tuple_number c.args.uses.now t c.requires) (λ a r q k. search rules) in
    in_order tuple_number t c.args.uses.now c.partition_point-from.result c.partition_point-to.result c.partition_point-from.ensures.bound low high

pub returns : goal.returns
returns c =
    let t = c.args.tuple.0 in
    let low = IsPartitionPoint-from_clause (λ (u : Use). ltb u.tuple.0 t) c.args.uses.now _ c.partition_point-from.ensures.partitioned (IsPartitionedBy-ltb tuple_number c.args.uses.now t c.requires) (λ a r q k. search rules) in
    let high = IsPartitionPoint-from_clause (λ (u : Use). leb u.tuple.0 t) c.args.uses.now _ c.partition_point-to.ensures.partitioned (IsPartitionedBy-leb tuple_number c.args.uses.now t c.requires) (λ a r q k. search rules) in
    same_are_between tuple_number t c.args.uses.now c.partition_point-from.result c.partition_point-to.result c.partition_point-from.ensures.bound c.partition_point-to.ensures.bound low high

pub slice_bounds-result-start : goal.slice_bounds-result-start
slice_bounds-result-start c =
    let t = c.args.tuple.0 in
    let low = IsPartitionPoint-from_clause (λ (u : Use). ltb u.tuple.0 t) c.args.uses.now _ c.partition_point-from.ensures.partitioned (IsPartitionedBy-ltb tuple_number c.args.uses.now t c.requires) (λ a r q k. search rules) in
    let high = IsPartitionPoint-from_clause (λ (u : Use). leb u.tuple.0 t) c.args.uses.now _ c.partition_point-to.ensures.partitioned (IsPartitionedBy-leb tuple_number c.args.uses.now t c.requires) (λ a r q k. search rules) in
    in_order tuple_number t c.args.uses.now c.partition_point-from.result c.partition_point-to.result c.partition_point-from.ensures.bound low high
