-- The lines on how processes ended.
use Rattle.std.specs.Prelude.{ℕ, ◌+◌, List, [], ◌∷◌, ◌++◌, codes, decimal, length, Option, None, Some}
use Rattle.c6x_spec.specs.Printed.{hex_word}
use Rattle.c6x_machine.specs.declared.end.End.{End}
use Rattle.c6x_machine.specs.declared.end.End.TheVariants.{Exit, Fault, Limit}
use Rattle.c6x_machine.specs.declared.fault_kind.FaultKind.{FaultKind}
use Rattle.c6x_machine.specs.declared.fault_kind.FaultKind.TheVariants.{TwoBranches, Fetch, BadWord, BadPacket, BadRead, BadWrite, Misaligned, TwoStores, TwoWrites, OutputFull}
use Rattle.c6x_machine.specs.History.{output_of}
use Rattle.c6x_machine.specs.Machine.{Life, alone, life}
use Rattle.c6x_machine.specs.Origin.{Origin}
use Rattle.c6x_plan.specs.declared.process_plan.ProcessPlan.{ProcessPlan}

-- A process that its limit ended has no other end.
abbrev pub end_or_limit : Option End → End
end_or_limit (Some end) = end
end_or_limit None = Limit

-- The words of an end.
unfoldable pub fault_words : FaultKind → List ℕ
fault_words TwoBranches = codes "F1 TwoBranches"
fault_words Fetch = codes "F2 Fetch"
fault_words BadWord = codes "F3 BadWord"
fault_words BadPacket = codes "F4 BadPacket"
fault_words BadRead = codes "F5 BadRead"
fault_words BadWrite = codes "F6 BadWrite"
fault_words Misaligned = codes "F7 Misaligned"
fault_words TwoStores = codes "F8 TwoStores"
fault_words TwoWrites = codes "F9 TwoWrites"
fault_words OutputFull = codes "F10 OutputFull"

unfoldable pub end_words : End → List ℕ
end_words (Exit status) = codes "exit " ++ decimal status
end_words (Fault kind at) = codes "fault " ++ fault_words kind ++ codes " at " ++ hex_word at
end_words Limit = codes "limit"

-- The line of a process that has ended, then its output and a newline.
unfoldable pub head_line : List ℕ → End → List ℕ
head_line process end = codes "process " ++ process ++ codes " " ++ end_words end

unfoldable pub count_line : ℕ → List ℕ → List ℕ
count_line cycles output =
    codes " cycles " ++ decimal cycles ++ codes " output " ++ decimal (length output) ++ codes "\n" ++ output ++ codes "\n"

unfoldable pub process_line : List ℕ → End → ℕ → List ℕ → List ℕ
process_line process end cycles output = head_line process end ++ count_line cycles output

-- The process where it has ended: alone, after as many cycles as its limit, since nothing changes after its end.
abbrev pub last_of : Origin → Life
last_of s = alone s s.limit

-- The line of a process, from its life.
unfoldable pub life_line : List ℕ → Origin → List ℕ
life_line process s = process_line process (end_or_limit (last_of s).ended) (life s) (output_of (last_of s).history)

-- The processes of a plan, in its order, where the first of these has the number `from`.
abbrev pub ends_from : (ℕ → Origin) → ℕ → List ProcessPlan → List ℕ
ends_from s from [] = []
ends_from s from (plan ∷ plans) = life_line plan.name (s from) ++ ends_from s (from + 1) plans

abbrev pub ends_text : List ProcessPlan → (ℕ → Origin) → List ℕ
ends_text plans s = ends_from s 0 plans
