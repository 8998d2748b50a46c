-- What a process keeps, as the relation sees it.
use Rattle.std.specs.Prelude.{ℕ, Option, Some, None, if◌then◌else◌, nat_lt}
use Rattle.c6x_exec.specs.Pending.{due, target_due}
use Rattle.c6x_exec.specs.declared.context.Context.{Context}

-- what is to land at a cycle on the register at a place
abbrev pub pending_write : Context → ℕ → ℕ → Option ℕ
pending_write p t r = due p.writes.stamps p.writes.values t r

-- the target that is to land at a cycle
abbrev pub pending_target : Context → ℕ → Option ℕ
pending_target p t = target_due p.targets.stamps p.targets.addresses t

-- the address behind the last packet, where it may issue at a cycle
abbrev pub behind_of : Context → ℕ → Option ℕ
behind_of p t = if nat_lt t p.ready then None else Some p.next
