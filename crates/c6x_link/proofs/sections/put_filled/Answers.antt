use Rattle.std.proofs.Common.{◌≡◌, ℕ, ◌+◌, ◌-◌, ◌∙◌, ◌++◌, length, replicate, ap, arith}
use Rattle.std.specs.Vec.{vec_len}
use Rattle.c6x_elf.specs.Laid.{laid}
use Rattle.c6x_link.specs.Images.{filled_to}
use Rattle.c6x_link.proofs.SectionRows.{filled_length, filled_more}
use Rattle.c6x_link.proofs.sections.put_filled.Goals as goal

pub returns-clause-end : goal.returns-clause-end
returns-clause-end c = omega (arith, c.in_ok-pad_up.ensures.end, c.in_ok-extend_from_slice.ensures.len, c.in_ok-pad.ensures.end, filled_length c.args.len c.args.bytes.now)

pub returns-clause-laid : goal.returns-clause-laid
returns-clause-laid c = λ rest.
    let count : c.args.at + c.args.len - vec_len c.extend_from_slice.new.self ≡ c.args.len - length c.args.bytes.now = omega (arith, c.in_ok-extend_from_slice.ensures.len, c.in_ok-pad.ensures.end) in
    let end : vec_len c.pad_up.new.out ≡ c.args.at + length (filled_to c.args.len c.args.bytes.now) = omega (arith, c.in_ok-pad_up.ensures.end, c.in_ok-extend_from_slice.ensures.len, c.in_ok-pad.ensures.end, filled_length c.args.len c.args.bytes.now) in
    ap (λ n. c.pad_up.new.out.items ++ laid n rest) end
    ∙ filled_more c.args.out.now.items c.pad_up.new.out.items c.args.bytes.now (vec_len c.args.out.now) c.args.at c.args.len rest
    (c.in_ok-pad_up.ensures.zeros
    ∙ ap (λ n. c.extend_from_slice.new.self.items ++ replicate {A = ℕ} n 0) count
    ∙ ap (λ xs. xs ++ replicate {A = ℕ} (c.args.len - length c.args.bytes.now) 0) (c.in_ok-extend_from_slice.ensures.items ∙ ap (λ xs. xs ++ c.args.bytes.now) c.in_ok-pad.ensures.zeros))
