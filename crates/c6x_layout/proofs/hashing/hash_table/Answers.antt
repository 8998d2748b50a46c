use Rattle.std.proofs.Common.{ℕ, ◌+◌, ◌-◌, ◌<◌, ◌≤◌, length, sym, ap, ◌∙◌, refl, arith}
use Rattle.c6x_elf.specs.Names.{hash_of}
use Rattle.c6x_layout.specs.Tables.{shared_names}
use Rattle.c6x_layout.proofs.Backward.{put_back, buckets_are, chains_are, done, names_count}
use Rattle.c6x_layout.proofs.hashing.hash_table.Goals as goal

pub returns-clause-buckets : goal.returns-clause-buckets
returns-clause-buckets c =
    let end : length c.args.shared.now ≤ c.loop-back.back = omega arith in
    buckets_are _ (shared_names c.args.shared.now) c.loop-back.buckets.items c.loop-back.chains.items (done (length c.args.shared.now + 3) (length c.args.shared.now) c.loop-back.back (shared_names c.args.shared.now) c.loop-back.buckets.items c.loop-back.chains.items end c.loop-back.invariant)

pub returns-clause-chains : goal.returns-clause-chains
returns-clause-chains c =
    let end : length c.args.shared.now ≤ c.loop-back.back = omega arith in
    chains_are _ (shared_names c.args.shared.now) c.loop-back.buckets.items c.loop-back.chains.items (done (length c.args.shared.now + 3) (length c.args.shared.now) c.loop-back.back (shared_names c.args.shared.now) c.loop-back.buckets.items c.loop-back.chains.items end c.loop-back.invariant)
    (ap (λ (n : ℕ). n + 3) (sym (names_count c.args.shared.now)))

pub loop-back-preserved : goal.loop-back-preserved
loop-back-preserved c =
    let below : c.loop-back.back < length c.args.shared.now = omega arith in
    put_back (length c.args.shared.now) c.loop-back.back (length c.args.shared.now - 1 - c.loop-back.back + 3) c.hash.result c.index.result.now c.args.shared.now _ c.loop-back.buckets.items c.loop-back.chains.items refl below refl (c.hash.ensures ∙ ap (hash_of 0) c.as_bytes.ensures) c.index.ensures c.loop-back.invariant
