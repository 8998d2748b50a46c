use Rattle.std.proofs.Common.{◌∙◌, sym, List, [], ◌∷◌}
use Rattle.std.proofs.lemmas.List.{append-nil}
use Rattle.c6x_elf.specs.Laid.{Part}
use Rattle.c6x_layout.specs.Text.{parts_at}
use Rattle.c6x_layout.proofs.Fitting.{from_none}
use Rattle.std.specs.Vec.{vec_len}
use Rattle.c6x_layout.proofs.filing.lay_text.Goals as goal

pub returns : goal.returns
unfolding parts_at
returns c =
    let t = c.args.tables.now in
    let p = c.args.places.now in
    let p7 : List Part = record { at = p.dynamic; bytes = t.dynamic } ∷ [] in
    let p6 : List Part = record { at = p.jumps; bytes = t.jumps } ∷ p7 in
    let p5 : List Part = record { at = p.relas; bytes = t.relas } ∷ p6 in
    let p4 : List Part = record { at = p.strings; bytes = t.strings } ∷ p5 in
    let p3 : List Part = record { at = p.symbols; bytes = t.symbols } ∷ p4 in
    let p2 : List Part = record { at = p.hash; bytes = t.hash } ∷ p3 in
    sym (append-nil c.put_table-7.new.out.items)
    ∙ c.in_ok-put_table-7.ensures.laid []
    ∙ c.in_ok-put_table-6.ensures.laid p7
    ∙ c.in_ok-put_table-5.ensures.laid p6
    ∙ c.in_ok-put_table-4.ensures.laid p5
    ∙ c.in_ok-put_table-3.ensures.laid p4
    ∙ c.in_ok-put_table-2.ensures.laid p3
    ∙ c.in_ok-put_table.ensures.laid p2
    ∙ from_none c.new-text.result.items (vec_len c.new-text.result) (record { at = 0; bytes = c.args.code.now } ∷ p2) c.new-text.ensures.items c.new-text.ensures.len
