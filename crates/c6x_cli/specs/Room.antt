-- Want of room is all that stops what a number comes to.
use Rattle.std.specs.Prelude.{◌≡◌, ℕ, List, Err}
use Rattle.c6x_gen.specs.Generated.{generated}
use Rattle.c6x_gen.specs.BoundModules.{AreGenerated}
use Rattle.c6x_module.specs.declared.module.Module.{Module}
use Rattle.c6x_cli_run.specs.Placing.{no_room, placing}
use Rattle.c6x_cli_steps.specs.declared.cause.Cause.{Cause}
use Rattle.c6x_cli_steps.specs.declared.cause.Cause.TheVariants.{Refused}
use Rattle.c6x_cli.specs.Made.{gen_name, generated_loading}

-- Each source becomes a module, so that these are left to be bound and placed.
pub record BecomesModules (number : ℕ) : Type 0 where
  pub modules : List Module
  pub are : AreGenerated number modules
  pub placed : (base len : ℕ) → generated_loading number base len ≡ placing gen_name (generated number).plan modules base len

-- Every number's do.
abbrev pub SourcesBecomeModules : Type 0
SourcesBecomeModules = (number : ℕ) → BecomesModules number

-- For every number, no rule is broken but that there is room on the board.
abbrev pub GeneratedLacksRoomAlone : Type 0
GeneratedLacksRoomAlone =
    (number base len : ℕ) (cause : Cause) → generated_loading number base len ≡ Err cause → cause ≡ Refused (no_room gen_name len)
