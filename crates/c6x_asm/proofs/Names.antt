-- Names are only added, and a change keeps them sound.
use Rattle.std.proofs.Common.{◌≡◌, ℕ, ◌<◌, ◌≤◌, List, length, Option, Some, None, refl, arith}
use Rattle.std.specs.Prelude.{All, IfSome}
use Rattle.std.specs.Str.{bytes_eq}
use Rattle.std.proofs.lemmas.List.{length_push, length-set}
use Rattle.std.proofs.lemmas.List.Elements.{All-push, All-set}
use Rattle.std.proofs.lemmas.List.Quantifiers.{position-Some}
use Rattle.c6x_asm_lines.specs.declared.word.Word.{Word}
use Rattle.c6x_asm_lines.specs.declared.relocation.Relocation.{Relocation}
use Rattle.c6x_asm_lines.specs.Bytes.{bytes_at}
use Rattle.c6x_asm_object.specs.declared.reloc_entry.RelocEntry.{RelocEntry}
use Rattle.c6x_asm_object.specs.declared.symbol.Symbol.{Symbol}
use Rattle.c6x_asm_object.specs.Symbols.{fresh, interned, no_symbol, or_added, symbol_at, symbol_name, symbol_of}
use Rattle.c6x_asm.specs.States.{name_changed, named_entry, relocated}
use Rattle.c6x_asm_object.specs.Sound.{IsEntrySound, IsSymbolSound}

-- names behind those before, and the place of one of them
pub record AreAdded (sections : ℕ) (before after : List Symbol) (place : ℕ) : Type 0 where
  pub more : length before ≤ length after
  pub symbols : All (IsSymbolSound sections) after
  pub inside : place < length after

fresh_sound : (sections : ℕ) (word : Word) → IsSymbolSound sections (fresh word)
unfolding fresh
fresh_sound sections word = record { place = tt }

found_inside : (text : List ℕ) (symbols : List Symbol) (name : List ℕ) (i : ℕ) → symbol_at text symbols name ≡ Some i → i < length symbols
unfolding symbol_at
found_inside text symbols name i is = (position-Some (λ s. bytes_eq (symbol_name text s) name) symbols i no_symbol is).0

-- a name, which is added if it is new
pub interned_added : (text : List ℕ) (sections : ℕ) (symbols : List Symbol) (word : Word) → All (IsSymbolSound sections) symbols → AreAdded sections symbols (interned text symbols word).0 (interned text symbols word).1
unfolding interned
interned_added text sections symbols word sound = either (symbol_at text symbols (bytes_at text word.at word.len)) refl
  where
    either : (o : Option ℕ) → symbol_at text symbols (bytes_at text word.at word.len) ≡ o → AreAdded sections symbols (or_added o symbols word).0 (or_added o symbols word).1
    either (Some i) is = record { more = omega arith; symbols = sound; inside = found_inside text symbols (bytes_at text word.at word.len) i is }
    either None is = record {
      more = omega (arith, length_push symbols (fresh word));
      symbols = All-push (IsSymbolSound sections) symbols (fresh word) sound (fresh_sound sections word);
      inside = omega (arith, length_push symbols (fresh word));
    }

-- a name, which is added if it is new, changed
pub changed_added : (text : List ℕ) (sections : ℕ) (symbols : List Symbol) (word : Word) (change : Symbol → Symbol) → ((s : Symbol) → IsSymbolSound sections s → IsSymbolSound sections (change s)) → All (IsSymbolSound sections) symbols → (length symbols ≤ length (name_changed text symbols word change)) × All (IsSymbolSound sections) (name_changed text symbols word change)
unfolding name_changed
changed_added text sections symbols word change keeps sound =
    let added = interned_added text sections symbols word sound in
    let names = (interned text symbols word).0 in
    let place = (interned text symbols word).1 in
    let now = change (symbol_of names place) in
    let here : IsSymbolSound sections now = keeps (symbol_of names place) (added.symbols place no_symbol added.inside) in
    (omega (arith, added.more, length-set names place now), All-set (IsSymbolSound sections) names place now here added.symbols)

-- names with that of a relocation, and its entry
pub record AreNamed (sections : ℕ) (before : List Symbol) (after : List Symbol × Option RelocEntry) : Type 0 where
  pub more : length before ≤ length after.0
  pub symbols : All (IsSymbolSound sections) after.0
  pub entry : IfSome after.1 (IsEntrySound (length after.0))

entry_named : (text : List ℕ) (sections : ℕ) (symbols : List Symbol) (r : Relocation) (offset : ℕ) (name : Option Word) → All (IsSymbolSound sections) symbols → AreNamed sections symbols (named_entry text symbols r offset name)
entry_named text sections symbols r offset None sound = record { more = omega arith; symbols = sound; entry = record { there = tt } }
entry_named text sections symbols r offset (Some word) sound =
    let added = interned_added text sections symbols word sound in
    record { more = added.more; symbols = added.symbols; entry = record { there = added.inside } }

-- a relocation, if there is one
pub relocated_named : (text : List ℕ) (sections : ℕ) (symbols : List Symbol) (offset : ℕ) (relocation : Option Relocation) → All (IsSymbolSound sections) symbols → AreNamed sections symbols (relocated text symbols offset relocation)
unfolding relocated
relocated_named text sections symbols offset None sound = record { more = omega arith; symbols = sound; entry = tt }
relocated_named text sections symbols offset (Some r) sound = entry_named text sections symbols r offset r.symbol sound
