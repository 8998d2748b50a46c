use Rattle.std.proofs.Common.{arith}
use Rattle.c6x_layout.proofs.laying.counts_of.Goals as goal

pub returns-clause-small : goal.returns-clause-small
returns-clause-small c = record {
  code = omega (arith, c.requires.small);
  symbols = omega (arith, c.shared_names-exports.ensures.count, c.shared_names-imports.ensures.count);
  strings = omega (arith, c.shared_names-exports.ensures.bytes, c.shared_names-imports.ensures.bytes, c.module_bytes.ensures.few);
  relas = omega (arith, c.filled_words-words.ensures.few, c.requires.words, c.in_ok-fields.ensures.few);
  jumps = omega (arith, c.len.ensures, c.requires.stubs);
  named = omega (arith, c.named_count.ensures.few);
}
