-- The machine on small programs, computed.
use Rattle.std.specs.Prelude.{◌≡◌, ℕ, ◌-◌, List, [], ◌∷◌, ◌++◌, map, replicate, slice_index, Option, Some, true, false, refl}
use Rattle.c6x_access.specs.Rights.{has_right, may_access}
use Rattle.c6x_packet.specs.Packets.{split_of, tested}
use Rattle.c6x_packet.specs.Rules.{breaks}
use Rattle.c6x_machine.specs.History.{output_of, registers_at}
use Rattle.c6x_machine.specs.Machine.{outcome_of, packet_of, issued, put_of, executed, limit_end, next_by, going_by, alone, alone_by, life, life_by}
use Rattle.c6x_machine.specs.Origin.{Origin, most_output, origin_of}
use Rattle.c6x_machine.specs.Packet.{low_bytes, longest, words_by, with_packet, ends_if, two_targets, fault_by}
use Rattle.c6x_machine.specs.declared.end.End.{End}
use Rattle.c6x_machine.specs.declared.end.End.TheVariants.{Exit, Fault, Limit}
use Rattle.c6x_machine.specs.declared.fault_kind.FaultKind.TheVariants.{TwoBranches, Fetch, BadWord, BadPacket, BadRead, BadWrite, Misaligned, TwoStores, TwoWrites}
use Rattle.c6x_encoding.specs.Decoded.{decoded}
use Rattle.c6x_encoding.specs.Rows.{effects_of, only_wait}

-- words of code, an argument and a limit; and the end, the cycles and the output that they come to
record Program : Type 0 where
  words : List ℕ
  arg : ℕ
  limit : ℕ
  ended : End
  cycles : ℕ
  output : List ℕ

abbrev row : List ℕ → ℕ → ℕ → End → ℕ → List ℕ → Program
row words arg limit ended cycles output = record {
  words = words;
  arg = arg;
  limit = limit;
  ended = ended;
  cycles = cycles;
  output = output;
}

abbrev code_of : List ℕ → List ℕ
code_of [] = []
code_of (word ∷ words) = low_bytes false 4 word ++ code_of words

-- a process of these words at 0x80000000, in 128 bytes of text, and with 72 bytes of data behind them
abbrev origin : Program → Origin
origin p =
    origin_of false (record { entry = 0x80000000; b14 = 0x80000080; b15 = 0x800000C0; arg = p.arg; limit = p.limit })
    (λ x. slice_index (code_of p.words) (x - 0x80000000))
    (record { lo = 0x80000000; len = 128; read = true; write = false; run = true } ∷ record { lo = 0x80000080; len = 72; read = true; write = true; run = false } ∷ [])

abbrev found : Program → Option End × ℕ × List ℕ
found p = ((alone (origin p) p.limit).ended, life (origin p), output_of (alone (origin p) p.limit).history)

abbrev told : Program → Option End × ℕ × List ℕ
told p = (Some p.ended, p.cycles, p.output)

abbrev programs : List Program
programs =
    -- MVK, and a branch with its wait
    row (0x020002A8 ∷ 0x008CA362 ∷ []) 0x0 100 (Exit 5) 8 [] ∷
    -- a target that lands ends a wait
    row (0x000C0362 ∷ 0x00010000 ∷ []) 0x7 100 (Exit 7) 7 [] ∷
    -- the same, one cycle short of its end
    row (0x000C0362 ∷ 0x00010000 ∷ []) 0x7 6 (Limit) 6 [] ∷
    -- the same, with as many cycles as it needs
    row (0x000C0362 ∷ 0x00010000 ∷ []) 0x7 7 (Exit 7) 7 [] ∷
    -- F1: two branches in one packet
    row (0x000C0363 ∷ 0x00000010 ∷ []) 0x0 100 (Fault TwoBranches 0x80000000) 1 [] ∷
    -- F9: a load and a multiply that land together
    row (0x02100264 ∷ 0x00002000 ∷ 0x02082C80 ∷ 0x008CA362 ∷ []) 0x80000088 100 (Fault TwoWrites 0x80000008) 4 [] ∷
    -- the same, the multiply under a false condition
    row (0x02100264 ∷ 0x00002000 ∷ 0x82082C80 ∷ 0x008CA362 ∷ []) 0x80000088 100 (Exit 0) 11 [] ∷
    -- F6: a store into the text
    row (0x02100274 ∷ 0x008CA362 ∷ []) 0x80000000 100 (Fault BadWrite 0x80000000) 1 [] ∷
    -- F7: a store at an odd half
    row (0x02100274 ∷ 0x008CA362 ∷ []) 0x80000082 100 (Fault Misaligned 0x80000082) 1 [] ∷
    -- a load of the text
    row (0x02100264 ∷ 0x008CA362 ∷ []) 0x80000000 100 (Exit 34603620) 8 [] ∷
    -- the put gate
    row (0x02002428 ∷ 0x007F902A ∷ 0x0080A362 ∷ []) 0x0 100 (Exit 72) 10 (72 ∷ []) ∷
    -- a packet that swaps two registers
    row (0x028002A8 ∷ 0x02140059 ∷ 0x029001A0 ∷ 0x0210A0F8 ∷ 0x008CA362 ∷ []) 0xC 100 (Exit 7) 10 [] ∷
    -- a load is read from the fifth cycle on
    row (0x02900264 ∷ 0x00004000 ∷ 0x03140058 ∷ 0x03940058 ∷ 0x0218E0F8 ∷ 0x008CA362 ∷ []) 0x80000004 100 (Exit 16384) 14 [] ∷
    -- a load sees no store of its own packet
    row (0x028002A8 ∷ 0x03100058 ∷ 0x030004AA ∷ 0x0390105A ∷ 0x02900275 ∷ 0x041C02E6 ∷ 0x00006000 ∷ 0x02201058 ∷ 0x008CA362 ∷ []) 0x80000080 100 (Exit 0) 17 [] ∷
    -- and sees it from the next cycle on
    row (0x028002A8 ∷ 0x02900274 ∷ 0x02100264 ∷ 0x00006000 ∷ 0x008CA362 ∷ []) 0x80000080 100 (Exit 5) 14 [] ∷
    -- F5 before F6: the store comes first
    row (0x02900275 ∷ 0x040C02E6 ∷ 0x008CA362 ∷ []) 0x80000000 100 (Fault BadRead 0xFFFFFF00) 1 [] ∷
    -- F8: at the second store's address
    row (0x02900275 ∷ 0x02B842B6 ∷ 0x008CA362 ∷ []) 0x80000080 100 (Fault TwoStores 0x80000082) 1 [] ∷
    -- F9: two writes of one packet
    row (0x02900059 ∷ 0x029001A0 ∷ 0x008CA362 ∷ []) 0x0 100 (Fault TwoWrites 0x80000000) 1 [] ∷
    -- F4: one unit twice
    row (0x02900059 ∷ 0x03100058 ∷ 0x008CA362 ∷ []) 0x0 100 (Fault BadPacket 0x80000000) 1 [] ∷
    -- F3: the word that spells nothing
    row (0x02900059 ∷ 0xE0000000 ∷ []) 0x0 100 (Fault BadWord 0x80000004) 1 [] ∷
    -- F2: a packet that goes on behind the text
    row (0x00000F10 ∷ 0x00008000 ∷ (replicate 29 0 ++ 0x02900059 ∷ [])) 0x0 100 (Fault Fetch 0x80000080) 8 [] ∷
    -- F2: at an address that is no multiple of four
    row (0x00101362 ∷ 0x00010000 ∷ []) 0x80000002 100 (Fault Fetch 0x80000002) 7 [] ∷
    []

worked : map found programs ≡ map told programs
unfolding outcome_of packet_of issued put_of most_output executed limit_end next_by going_by alone_by life_by registers_at longest words_by with_packet ends_if two_targets fault_by may_access has_right decoded effects_of only_wait split_of tested breaks
worked = refl
