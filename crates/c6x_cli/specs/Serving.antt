-- Whether the policy that a command asks is there, and what the words come to then.
use Rattle.std.specs.Prelude.{◌≡◌, ◌⊎◌, ℕ, List, Option, None, Some, is_some, if◌then◌else◌}
use Rattle.c6x_ports.specs.Chooser.{Chooser}
use Rattle.c6x_ports.specs.declared.kind.Kind.{Kind}
use Rattle.c6x_cli_steps.specs.Policies.{first_of}
use Rattle.c6x_cli_words.specs.Requests.{kind_asked}
use Rattle.c6x_cli_words.specs.declared.request.Request.{Request}

-- The reading of words, where it asks for no policy, or a policy of its kind is there.
abbrev pub served_by : Option Request → Option Kind → List Chooser → Option Request
served_by read None policies = read
served_by read (Some kind) policies = if is_some (first_of kind policies) then read else None

abbrev pub served : Option Request → List Chooser → Option Request
served read policies = served_by read (kind_asked read) policies

-- Status 2 comes exactly where the words have no reading, or ask for a policy of a kind that is not there, but where its line
-- could not be put, or memory ran out while they were read.
pub record EndsUsage (status : ℕ) (read : Option Request) : Type 0 where
  pub only : status ≡ 2 → read ≡ None
  pub whenever : read ≡ None → (status ≡ 2) ⊎ ((status ≡ 6) ⊎ (status ≡ 7))
