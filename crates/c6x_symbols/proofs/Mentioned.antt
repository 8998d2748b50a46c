-- The mentions of objects, one more each.
use Rattle.std.proofs.Common.{◌≡◌, ℕ, suc, ◌+◌, ◌<◌, length, take, get_or, List, [], ◌∷◌, ◌++◌, refl, sym, ap, ◌∙◌, subst, append_assoc, arith}
use Rattle.std.proofs.lemmas.List.{append-nil, length-take-le, take_more}
use Rattle.c6x_elf.specs.declared.file.File.{File}
use Rattle.c6x_elf.specs.Types.{Symbol}
use Rattle.c6x_symbols.specs.Growth.{AreGroups}
use Rattle.c6x_symbols.specs.Mentions.{Named, mention_of, mentions_along, mentions_from, object_mentions}
use Rattle.c6x_symbols.specs.declared.group.Group.{Group}

along_push : (strings : List ℕ) (object number : ℕ) (symbols : List Symbol) (symbol : Symbol) → mentions_along strings object number (symbols ++ symbol ∷ []) ≡ mentions_along strings object number symbols ++ mention_of strings object (number + length symbols) symbol
along_push strings object number [] symbol =
    let e : number ≡ number + 0 = omega arith in
    rw (append-nil (mention_of strings object number symbol)) (ap (λ n. mention_of strings object n symbol) e)
along_push strings object number (s ∷ symbols) symbol =
    let e : number + 1 + length symbols ≡ number + suc (length symbols) = omega arith in
    ap (λ ms. mention_of strings object number s ++ ms) (along_push strings object (number + 1) symbols symbol ∙ ap (λ n. mentions_along strings object (number + 1) symbols ++ mention_of strings object n symbol) e)
    ∙ sym (append_assoc (mention_of strings object number s) (mentions_along strings object (number + 1) symbols) (mention_of strings object (number + suc (length symbols)) symbol))

along_more : (strings : List ℕ) (object : ℕ) (symbols : List Symbol) (i : ℕ) (d : Symbol) → i < length symbols → mentions_along strings object 0 (take (i + 1) symbols) ≡ mentions_along strings object 0 (take i symbols) ++ mention_of strings object i (get_or symbols i d)
along_more strings object symbols i d below =
    let n : 0 + length (take i symbols) ≡ i = omega (arith, length-take-le i symbols (omega arith)) in
    ap (mentions_along strings object 0) (take_more symbols i d below) ∙ along_push strings object 0 (take i symbols) (get_or symbols i d)
    ∙ ap (λ k. mentions_along strings object 0 (take i symbols) ++ mention_of strings object k (get_or symbols i d)) n

-- one symbol more of a table
pub more_mentions : (strings : List ℕ) (object : ℕ) (symbols : List Symbol) (i : ℕ) (d : Symbol) (xs : List Named) (names : List (List ℕ)) (list : List Group) → i < length symbols → AreGroups ((xs ++ mentions_along strings object 0 (take i symbols)) ++ mention_of strings object i (get_or symbols i d)) names list → AreGroups (xs ++ mentions_along strings object 0 (take (i + 1) symbols)) names list
more_mentions strings object symbols i d xs names list below was =
    let P : List Named → Type 0 = λ ys. AreGroups ys names list in
    subst P (append_assoc xs (mentions_along strings object 0 (take i symbols)) (mention_of strings object i (get_or symbols i d)) ∙ ap (λ ys. xs ++ ys) (sym (along_more strings object symbols i d below))) was

mentions_push : (object : ℕ) (files : List File) (file : File) → mentions_from object (files ++ file ∷ []) ≡ mentions_from object files ++ object_mentions (object + length files) file.sections
mentions_push object [] file =
    let e : object ≡ object + 0 = omega arith in
    rw (append-nil (object_mentions object file.sections)) (ap (λ n. object_mentions n file.sections) e)
mentions_push object (f ∷ files) file =
    let e : object + 1 + length files ≡ object + suc (length files) = omega arith in
    ap (λ ms. object_mentions object f.sections ++ ms) (mentions_push (object + 1) files file ∙ ap (λ n. mentions_from (object + 1) files ++ object_mentions n file.sections) e)
    ∙ sym (append_assoc (object_mentions object f.sections) (mentions_from (object + 1) files) (object_mentions (object + suc (length files)) file.sections))

pub mentions_more : (files : List File) (i : ℕ) (d : File) → i < length files → mentions_from 0 (take (i + 1) files) ≡ mentions_from 0 (take i files) ++ object_mentions i (get_or files i d).sections
mentions_more files i d below =
    let n : 0 + length (take i files) ≡ i = omega (arith, length-take-le i files (omega arith)) in
    ap (mentions_from 0) (take_more files i d below) ∙ mentions_push 0 (take i files) (get_or files i d)
    ∙ ap (λ k. mentions_from 0 (take i files) ++ object_mentions k (get_or files i d).sections) n
