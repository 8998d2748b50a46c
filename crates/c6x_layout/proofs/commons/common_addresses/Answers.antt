use Rattle.std.proofs.Common.{◌^◌, false, true}
use Rattle.c6x_layout.proofs.CommonsLaid.{common_here}
use Rattle.c6x_layout.proofs.commons.common_addresses.Goals as goal

pub address_in-requires-clause-near : goal.address_in-requires-clause-near
address_in-requires-clause-near c =
    common_here true c.loop-number.near_at c.args.bindings.now c.loop-number.number _ c.get-binding.result _ (2 ^ 32) c.get-binding.ensures c.len-number-end.ensures.value c.loop-number-test.true c.loop-number.invariant.near c.requires.near

pub address_in-requires-clause-far : goal.address_in-requires-clause-far
address_in-requires-clause-far c =
    common_here false c.loop-number.far_at c.args.bindings.now c.loop-number.number _ c.get-binding.result _ (2 ^ 32) c.get-binding.ensures c.len-number-end.ensures.value c.loop-number-test.true c.loop-number.invariant.far c.requires.far

pub end_in-near_at-requires : goal.end_in-near_at-requires
end_in-near_at-requires c =
    common_here true c.loop-number.near_at c.args.bindings.now c.loop-number.number _ c.get-binding.result _ (2 ^ 32) c.get-binding.ensures c.len-number-end.ensures.value c.loop-number-test.true c.loop-number.invariant.near c.requires.near

pub end_in-far_at-requires : goal.end_in-far_at-requires
end_in-far_at-requires c =
    common_here false c.loop-number.far_at c.args.bindings.now c.loop-number.number _ c.get-binding.result _ (2 ^ 32) c.get-binding.ensures c.len-number-end.ensures.value c.loop-number-test.true c.loop-number.invariant.far c.requires.far
