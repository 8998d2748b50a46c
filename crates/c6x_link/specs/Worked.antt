-- What a link has worked out where no rule on sizes is broken.
use Rattle.std.specs.Prelude.{◌≡◌, ◌≢◌, ℕ, ◌+◌, ◌^◌, ◌<◌, ◌≤◌, false, All, None, length}
use Rattle.c6x_layout.specs.Layouts.{Laying, layout_of, size_refusal}
use Rattle.c6x_dsbt.specs.declared.wanted.Wanted.{Wanted}
use Rattle.c6x_link.specs.Targets.{import_symbol, target_of}
use Rattle.c6x_link.specs.Working.{Working}
use Rattle.c6x_symbols.specs.Objects.{IsObject}
use Rattle.c6x_link.specs.Images.{first_stub_word}

abbrev pub laying_in : Working → Laying
laying_in w = record { objects = w.objects; bindings = w.bindings; words = w.words; stubs = w.stubs; plan = w.plan }

pub record IsWorkedOut (w : Working) : Type 0 where
  pub layout : w.layout ≡ layout_of (laying_in w)
  pub sized : size_refusal (laying_in w) ≡ None
  pub objects : All (IsObject false) w.objects

-- The number of each stub's word has its place in the stub's first instruction.
pub record HasFewStubs (w : Working) : Type 0 where
  pub few : length w.stubs ≢ 0 → first_stub_word w + length w.stubs ≤ 32768

-- Each dynamic symbol's number has its place in the info of a relocation entry.
pub record HasFewSymbols (w : Working) : Type 0 where
  pub imports : (number : ℕ) → import_symbol w.bindings number < 2 ^ 24
  pub targets : (wanted : Wanted) → (target_of w wanted).symbol < 2 ^ 24
