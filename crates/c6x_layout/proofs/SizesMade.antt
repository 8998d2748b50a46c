-- The numbers that are worked out step by step are those of the layout.
use Rattle.std.proofs.Common.{◌≡◌, ℕ, ◌+◌, ◌*◌, List, length, ap, ◌∙◌}
use Rattle.c6x_spec.specs.Rounded.{rounded}
use Rattle.c6x_layout.specs.FilePlaces.{places_of, text_size}
use Rattle.c6x_layout.specs.declared.counts.Counts.{Counts}
use Rattle.c6x_layout.specs.declared.file_limits.TheConstants.{TEXT_START}
use Rattle.c6x_layout.specs.declared.places.Places.{Places}
use Rattle.c6x_symbols.specs.Parts.{parts_of}
use Rattle.c6x_symbols.specs.declared.part.Part.{Part}
use Rattle.c6x_layout.proofs.Sized.{code_of_is, ends_of_is}
use Rattle.c6x_layout.specs.Codes.{code_of}
use Rattle.c6x_layout.specs.Groups.{ends_of}
use Rattle.c6x_layout.specs.Layouts.{Laying, code_end, counts_of, sections_end, stubs_at, table_at, text_end, words_at, words_end}
use Rattle.c6x_layout.specs.Sizes.{sizes_of}
use Rattle.c6x_layout.specs.declared.code.Code.{Code}
use Rattle.c6x_layout.specs.declared.ends.Ends.{Ends}
use Rattle.c6x_layout.specs.declared.limits.TheConstants.{PAGE}
use Rattle.c6x_layout.specs.declared.sizes.Sizes.{Sizes}

pub code_made : (l : Laying) (code : Code) (parts : List Part) (stubs : ℕ) → parts ≡ parts_of l.objects → stubs ≡ length l.stubs → code ≡ code_of parts stubs → code ≡ record { sections = sections_end l; stubs = stubs_at l; end = code_end l }
code_made l code parts stubs same count is =
    is ∙ ap (λ ps. code_of ps stubs) same ∙ ap (code_of (parts_of l.objects)) count ∙ code_of_is l

pub end_made : (l : Laying) (code : Code) (parts : List Part) (stubs : ℕ) → parts ≡ parts_of l.objects → stubs ≡ length l.stubs → code ≡ code_of parts stubs → code.end ≡ code_end l
end_made l code parts stubs same count is = ap (λ (c : Code). c.end) (code_made l code parts stubs same count is)

text_end_made : (l : Laying) (text : Places) → text ≡ places_of (counts_of l) → text.end ≡ text_size (counts_of l)
unfolding places_of
text_end_made l text is = ap (λ (p : Places). p.end) is

table_made : (l : Laying) (text : Places) (table : ℕ) → text ≡ places_of (counts_of l) → table ≡ rounded (TEXT_START + text.end + PAGE) PAGE → table ≡ table_at l
unfolding table_at text_end
table_made l text table is at = at ∙ ap (λ n. rounded (TEXT_START + n + PAGE) PAGE) (text_end_made l text is)

words_made : (l : Laying) (table : ℕ) → table ≡ table_at l → table + 4 * l.plan.table ≡ words_at l
unfolding words_at
words_made l table is = ap (λ n. n + 4 * l.plan.table) is

start_made : (l : Laying) (table words stubs : ℕ) → table ≡ table_at l → words ≡ length l.words → stubs ≡ length l.stubs → table + 4 * l.plan.table + 4 * (words + stubs) ≡ words_end l
unfolding words_end
start_made l table words stubs is w s =
    ap (λ n. n + 4 * (words + stubs)) (words_made l table is) ∙ ap (λ n. words_at l + 4 * (n + stubs)) w
    ∙ ap (λ n. words_at l + 4 * (length l.words + n)) s

ends_made : (l : Laying) (from : ℕ) (parts : List Part) (ends : Ends) → from ≡ words_end l → parts ≡ parts_of l.objects → ends ≡ ends_of from parts l.bindings → ends ≡ ends_of (words_end l) (parts_of l.objects) l.bindings
ends_made l from parts ends start same is =
    is ∙ ap (λ n. ends_of n parts l.bindings) start ∙ ap (λ ps. ends_of (words_end l) ps l.bindings) same

pub sizes_made : (l : Laying) (code : Code) (text : Places) (table words stubs slots : ℕ) (ends : Ends) (parts : List Part) → parts ≡ parts_of l.objects → code ≡ code_of parts stubs → text ≡ places_of (counts_of l) → table ≡ rounded (TEXT_START + text.end + PAGE) PAGE → words ≡ length l.words → stubs ≡ length l.stubs → slots ≡ l.plan.table → ends ≡ ends_of (table + 4 * slots + 4 * (words + stubs)) parts l.bindings → ◌≡◌ {A = Sizes} (record { code = code; text = text; table = table; words = table + 4 * slots; start = table + 4 * slots + 4 * (words + stubs); ends = ends }) (sizes_of l)
unfolding sizes_of
sizes_made l code text table words stubs slots ends parts same code_is text_is table_is w s n ends_is =
    let t : table ≡ table_at l = table_made l text table text_is table_is in
    let word : table + 4 * slots ≡ words_at l = ap (λ k. table + 4 * k) n ∙ words_made l table t in
    let start : table + 4 * slots + 4 * (words + stubs) ≡ words_end l = ap (λ k. table + 4 * k + 4 * (words + stubs)) n ∙ start_made l table words stubs t w s in
    let e = ends_made l (table + 4 * slots + 4 * (words + stubs)) parts ends start same ends_is ∙ ends_of_is l in
    let c = code_made l code parts stubs same s code_is in
    λ i. record { code = c i; text = text_is i; table = t i; words = word i; start = start i; ends = e i }

pub text_made : (l : Laying) (counts : Counts) (text : Places) → counts ≡ counts_of l → text ≡ places_of counts → text ≡ places_of (counts_of l)
text_made l counts text is placed = placed ∙ ap places_of is
