use Rattle.std.proofs.Common.{leb, ltb, arith, rules}
use Rattle.std.proofs.lemmas.List.Sorted.{IsPartitionPoint-from_clause, IsPartitionedBy-leb, IsPartitionedBy-ltb}
use Rattle.txn_model.specs.declared.op.TupleId.{TupleId}
use Rattle.hot_set.proofs.EqualRange.{between}
use Rattle.hot_set.proofs.used.uses_in.Goals as goal

pub overflow_sub-result : goal.overflow_sub-result
overflow_sub-result c =
    let t = c.args.tuple.0 in
    let low = IsPartitionPoint-from_clause (λ (u : TupleId). ltb u.0 t) c.args.used.now _ c.partition_point-from.ensures.partitioned (IsPartitionedBy-ltb (λ (u : TupleId). u.0) c.args.used.now t c.requires.sorted) (λ a r q k. search rules) in
    let high = IsPartitionPoint-from_clause (λ (u : TupleId). leb u.0 t) c.args.used.now _ c.partition_point-to.ensures.partitioned (IsPartitionedBy-leb (λ (u : TupleId). u.0) c.args.used.now t c.requires.sorted) (λ a r q k. search rules) in
    omega (arith, between (λ (u : TupleId). u.0) t c.args.used.now c.partition_point-from.result c.partition_point-to.result c.partition_point-from.ensures.bound c.partition_point-to.ensures.bound low high)

pub returns : goal.returns
returns c =
    let t = c.args.tuple.0 in
    let low = IsPartitionPoint-from_clause (λ (u : TupleId). ltb u.0 t) c.args.used.now _ c.partition_point-from.ensures.partitioned (IsPartitionedBy-ltb (λ (u : TupleId). u.0) c.args.used.now t c.requires.sorted) (λ a r q k. search rules) in
    let high = IsPartitionPoint-from_clause (λ (u : TupleId). leb u.0 t) c.args.used.now _ c.partition_point-to.ensures.partitioned (IsPartitionedBy-leb (λ (u : TupleId). u.0) c.args.used.now t c.requires.sorted) (λ a r q k. search rules) in
    omega (arith, between (λ (u : TupleId). u.0) t c.args.used.now c.partition_point-from.result c.partition_point-to.result c.partition_point-from.ensures.bound c.partition_point-to.ensures.bound low high)
