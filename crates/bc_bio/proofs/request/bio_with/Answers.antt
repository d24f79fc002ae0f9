use Rattle.std.proofs.Common.{rules}
use Rattle.std.specs.Prelude.{nat_le}
use Rattle.std.proofs.lemmas.List.Sorted.{IsPartitionPoint-from_clause}
use Rattle.bc_bio.proofs.request.bio_with.Goals as goal

pub returns-clause-parts : goal.returns-clause-parts
returns-clause-parts c = λ parted. IsPartitionPoint-from_clause (λ end. nat_le end c.args.n) _ _ c.partition_point.ensures.partitioned parted (λ a r f k. search rules)
