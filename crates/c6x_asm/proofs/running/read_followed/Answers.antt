use Rattle.std.proofs.Common.{length, arith}
use Rattle.std.specs.Prelude.{vec_len}
use Rattle.c6x_asm_lines.specs.Grammar.{line_of}
use Rattle.c6x_asm.specs.States.{state_of}
use Rattle.c6x_asm.specs.Touching.{Touches}
use Rattle.c6x_asm.proofs.Followed.{blocks_behind, inside_behind, inside_items, told_touches}
use Rattle.c6x_asm.proofs.running.read_followed.Goals as goal

pub follow-requires : goal.follow-requires
follow-requires c =
    let touches : Touches c.args.object.now.sections.items c.args.object.now.current c.read_line.new.object.sections.items =
    told_touches c.args.text.now c.args.number (line_of c.args.lexemes.now) (state_of c.args.object.now) c.in_ok-rule.field-0 c.in-Ok.field-0 c.read_line.new.object c.in-Ok.is c.in_ok-rule.ensures.is in
    rw c.deref.ensures.value (inside_behind c.args.object.now.sections.items c.args.object.now.current c.read_line.new.object.sections.items (inside_items c.args.object.now.current (vec_len c.args.object.now.sections) (length c.args.object.now.sections.items) (omega (arith, c.as_slice-count.ensures.len)) c.requires.sound.current) touches)

pub returns-in_ok-follow-in-Ok-clause-outline : goal.returns-in_ok-follow-in-Ok-clause-outline
returns-in_ok-follow-in-Ok-clause-outline c =
    let touches : Touches c.args.object.now.sections.items c.args.object.now.current c.read_line.new.object.sections.items =
    told_touches c.args.text.now c.args.number (line_of c.args.lexemes.now) (state_of c.args.object.now) c.in_ok-rule.field-0 c.in-Ok.field-0 c.read_line.new.object c.in-Ok.is c.in_ok-rule.ensures.is in
    rw (c.in_ok-follow-in-Ok.ensures, c.deref.ensures.value, c.as_slice-count.ensures.value) (blocks_behind c.args.text.now c.args.object.now.sections.items c.args.outline.now c.args.object.now.current c.read_line.new.object.sections.items (inside_items c.args.object.now.current (vec_len c.args.object.now.sections) (length c.args.object.now.sections.items) (omega (arith, c.as_slice-count.ensures.len)) c.requires.sound.current) touches c.requires.outline)
