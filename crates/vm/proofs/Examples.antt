-- Runs of the machine, as one table with one theorem. The verdicts are those of vm.rs, and the steps those of a copy of it that counts what
-- it fetches and tells a load that leaves the frame from the rest of Rust's None. The numbers of refusals are document 01's.
use Rattle.std.specs.Prelude.{Option, None, Some}
use Rattle.error.specs.Answer.{Out}
use Prim.Native.Nat.{ℕ, zero, suc, ◌+◌}
use mathlib.Core.List.{List, [], ◌∷◌, ◌++◌}
use mathlib.Core.Bool.{Bool, true, false, cond, not, ◌&&◌, ◌||◌}
use lib.ListN.{replicate}
use lib.Dec.{eqb, T}
use Rattle.bpf.specs.declared.Insn.{Insn}
use Rattle.bpf.specs.Bytes.{be, le_at}
use Rattle.bpf.specs.Program.{insn, insn_at, insns_at}
use Rattle.vm.specs.declared.Verdict.{Verdict}
use Rattle.vm.specs.declared.Verdict.TheVariants.{Accepted, Dropped, Short, Broken}
use Rattle.vm.specs.declared.Outcome.{Outcome}
use Rattle.vm.specs.Machine.{load, sized_load, scratch, ld, ldx, alu, jmp, effect, exec, inner, run, refusal_of, inner_of, number_of_verdict, verdict_of, steps_of}

data Row : Type 0 where
  runs : List Insn → List ℕ → Verdict → ℕ → Row  -- a program over a frame: the verdict and the instructions fetched
  answers : List Insn → List ℕ → Option Bool → Row  -- the same: what `inner` of vm.rs answers
  ran : List ℕ → List ℕ → ℕ → ℕ → Row  -- a program's bytes over a frame: the verdict's number and the instructions fetched
  refuses : List ℕ → List ℕ → ℕ → Row  -- the same: the number of the refusal
  both : ℕ → ℕ → ℕ → List Insn → Verdict → ℕ → Row  -- A, a code, its operand, what follows: verdict and steps, with the operand in k and in X
  unknown : List ℕ → Row  -- the codes from 0 to 255 that are broken where k and X are 1

-- ---- the programs' parts

-- an instruction that does not jump by jt or jf
abbrev op : ℕ → ℕ → Insn
op c k = insn c 0 0 k

-- accept, or drop if one instruction is skipped
abbrev ends : List Insn
ends = op 0x06 1 ∷ op 0x06 0 ∷ []

-- accept exactly when A has this value; when X has it
abbrev is_a : ℕ → List Insn
is_a v = insn 0x15 0 1 v ∷ ends

abbrev is_x : ℕ → List Insn
is_x v = op 0x87 0 ∷ is_a v

abbrev five : List ℕ
five = 0x8a ∷ 0x02 ∷ 0xf3 ∷ 0x04 ∷ 0x45 ∷ []

-- the programs of document 01 for Ethernet: Ip; Tcp and Tcp destination port 80
abbrev ip : List Insn
ip = op 0x28 12 ∷ insn 0x15 0 1 0x0800 ∷ op 0x06 0xffffffff ∷ op 0x06 0 ∷ []

abbrev web : List Insn
web =
    op 0x28 12 ∷ insn 0x15 0 8 0x0800 ∷ op 0x30 23 ∷ insn 0x15 0 6 6 ∷ op 0x28 20 ∷ insn 0x45 4 0 0x1fff
    ∷ op 0xb1 14 ∷ op 0x48 16 ∷ insn 0x15 0 1 80 ∷ op 0x06 0xffffffff ∷ op 0x06 0 ∷ []

-- an Ethernet frame with an IPv4 header of 24 bytes for TCP: the low byte of its fragment field, and what follows the source port
abbrev tcp : ℕ → List ℕ → List ℕ
tcp fragment rest = replicate 12 0 ++ (8 ∷ 0 ∷ 0x46 ∷ replicate 6 0 ++ (fragment ∷ 0 ∷ 6 ∷ replicate 16 0 ++ rest))

-- ---- the test of a row

abbrev same : Outcome → Verdict → ℕ → Bool
same o v n = eqb (number_of_verdict o.verdict) (number_of_verdict v) && eqb o.steps n

-- refusal, verdict and steps of a run's answer
abbrev valued : Out Outcome → ℕ → ℕ → ℕ → Bool
valued r n v t = eqb (refusal_of r) n && (eqb (verdict_of r) v && eqb (steps_of r) t)

abbrev member : ℕ → List ℕ → Bool
member n [] = false
member n (m ∷ l) = eqb n m || member n l

abbrev equal : Bool → Bool → Bool
equal true b = b
equal false b = not b

abbrev alike : Option Bool → Option Bool → Bool
alike None None = true
alike None (Some b) = false
alike (Some a) None = false
alike (Some a) (Some b) = equal a b

-- of the codes below n, those of the list are broken and no others
unknown_below : ℕ → List ℕ → Bool
unknown_below zero l = true
unknown_below (suc c) l = equal (same (inner (op 0x01 1 ∷ op c 1 ∷ ends) five) Broken 2) (member c l) && unknown_below c l

holds : Row → Bool
holds (runs p f v n) = same (inner p f) v n
-- the operand that is not used is 0, or 1 where the other is 0
holds (both a c v p o n) =
    let u : ℕ = cond (eqb v 0) 1 0 in
    same (inner (op 0x00 a ∷ op 0x01 u ∷ insn c 0 1 v ∷ p) five) o n && same (inner (op 0x00 a ∷ op 0x01 v ∷ insn (c + 8) 0 1 u ∷ p) five) o n
holds (answers p f b) = alike (inner_of (inner p f).verdict) b
holds (ran p f v n) = valued (run p f) 0 v n
holds (refuses p f n) = valued (run p f) n 0 0
holds (unknown l) = unknown_below 256 l

test : List Row → Bool
test [] = true
test (r ∷ rs) = holds r && test rs

unknowns : List ℕ
unknowns =
    0x38 ∷ 0x58 ∷ 0xa0 ∷ 0xa8 ∷ 0xb0 ∷ 0xb8 ∷ 0xc0 ∷ 0xc8 ∷ 0xd0 ∷ 0xd8 ∷ 0xe0 ∷ 0xe8 ∷ 0xf0 ∷ 0xf8
    ∷ 0x21 ∷ 0x29 ∷ 0x31 ∷ 0x39 ∷ 0x41 ∷ 0x49 ∷ 0x51 ∷ 0x59 ∷ 0xa1 ∷ 0xa9 ∷ 0xb9 ∷ 0xc1 ∷ 0xc9 ∷ 0xd1 ∷ 0xd9 ∷ 0xe1 ∷ 0xe9 ∷ 0xf1 ∷ 0xf9
    ∷ 0x94 ∷ 0x9c ∷ 0xb4 ∷ 0xbc ∷ 0xc4 ∷ 0xcc ∷ 0xd4 ∷ 0xdc ∷ 0xe4 ∷ 0xec ∷ 0xf4 ∷ 0xfc
    ∷ 0x55 ∷ 0x5d ∷ 0x65 ∷ 0x6d ∷ 0x75 ∷ 0x7d ∷ 0x85 ∷ 0x8d ∷ 0x95 ∷ 0x9d ∷ 0xa5 ∷ 0xad ∷ 0xb5 ∷ 0xbd ∷ 0xc5 ∷ 0xcd ∷ 0xd5 ∷ 0xdd ∷ 0xe5 ∷ 0xed ∷ 0xf5 ∷ 0xfd
    ∷ []

table : List Row
table =
    -- A and X start at zero
    runs (op 0x16 7 ∷ []) five Dropped 1
    ∷ runs (is_x 0) five Accepted 3
    -- LD of a number and of the frame's length
    ∷ runs (op 0x00 0xffffffff ∷ is_a 0xffffffff) five Accepted 3
    ∷ runs (op 0x80 9 ∷ is_a 5) five Accepted 3
    -- LD of a word, a half word and a byte, big-endian; the second of each ends at the frame's end
    ∷ runs (op 0x20 0 ∷ is_a 0x8a02f304) five Accepted 3
    ∷ runs (op 0x20 1 ∷ is_a 0x02f30445) five Accepted 3
    ∷ runs (op 0x28 0 ∷ is_a 0x8a02) five Accepted 3
    ∷ runs (op 0x28 3 ∷ is_a 0x0445) five Accepted 3
    ∷ runs (op 0x30 0 ∷ is_a 0x8a) five Accepted 3
    ∷ runs (op 0x30 4 ∷ is_a 0x45) five Accepted 3
    -- one byte past the frame's end; the end of the load is 2^32; an empty frame
    ∷ runs (op 0x20 2 ∷ ends) five Short 1
    ∷ runs (op 0x28 4 ∷ ends) five Short 1
    ∷ runs (op 0x30 5 ∷ ends) five Short 1
    ∷ runs (op 0x20 0xfffffffc ∷ ends) five Short 1
    ∷ runs (op 0x28 0xfffffffe ∷ ends) five Short 1
    ∷ runs (op 0x30 0xffffffff ∷ ends) five Short 1
    ∷ runs (op 0x30 0 ∷ ends) [] Short 1
    -- LD at X + k, to the frame's end and one past it
    ∷ runs (op 0x01 1 ∷ op 0x40 0 ∷ is_a 0x02f30445) five Accepted 4
    ∷ runs (op 0x01 1 ∷ op 0x40 1 ∷ ends) five Short 2
    ∷ runs (op 0x01 2 ∷ op 0x48 1 ∷ is_a 0x0445) five Accepted 4
    ∷ runs (op 0x01 2 ∷ op 0x48 2 ∷ ends) five Short 2
    ∷ runs (op 0x01 1 ∷ op 0x50 3 ∷ is_a 0x45) five Accepted 4
    ∷ runs (op 0x01 1 ∷ op 0x50 4 ∷ ends) five Short 2
    -- X + k wraps to 1, 0, 4 and 5, and is 2^31
    ∷ runs (op 0x01 0xffffffff ∷ op 0x40 2 ∷ is_a 0x02f30445) five Accepted 4
    ∷ runs (op 0x01 0xfffffffe ∷ op 0x48 2 ∷ is_a 0x8a02) five Accepted 4
    ∷ runs (op 0x01 5 ∷ op 0x50 0xffffffff ∷ is_a 0x45) five Accepted 4
    ∷ runs (op 0x01 6 ∷ op 0x50 0xffffffff ∷ ends) five Short 2
    ∷ runs (op 0x01 0x7fffffff ∷ op 0x50 1 ∷ ends) five Short 2
    -- size 0x18 in a packet load is broken inside the frame and past its end
    ∷ runs (op 0x38 0 ∷ ends) five Broken 1
    ∷ runs (op 0x38 5 ∷ ends) five Broken 1
    ∷ runs (op 0x01 9 ∷ op 0x58 9 ∷ ends) five Broken 2
    -- LDX of a number and of the frame's length; LDX leaves A, LD leaves X
    ∷ runs (op 0x01 0xffffffff ∷ is_x 0xffffffff) five Accepted 4
    ∷ runs (op 0x81 9 ∷ is_x 5) five Accepted 4
    ∷ runs (op 0x00 7 ∷ op 0x01 9 ∷ is_a 7) five Accepted 4
    ∷ runs (op 0x01 9 ∷ op 0x20 0 ∷ is_x 9) five Accepted 5
    -- LDX of four times a byte's low half, to the frame's last byte and past it
    ∷ runs (op 0xb1 2 ∷ is_x 12) five Accepted 4
    ∷ runs (op 0xb1 4 ∷ is_x 20) five Accepted 4
    ∷ runs (op 0xb1 5 ∷ ends) five Short 1
    -- the same with another size is broken, past the frame's end too
    ∷ runs (op 0xa1 5 ∷ ends) five Broken 1
    ∷ runs (op 0xb9 5 ∷ ends) five Broken 1
    -- ST and STX, then LD and LDX of a scratch word; the others stay zero
    ∷ runs (op 0x00 7 ∷ op 0x02 14 ∷ op 0x02 15 ∷ op 0x60 15 ∷ is_a 7) five Accepted 6
    ∷ runs (op 0x00 7 ∷ op 0x02 15 ∷ op 0x61 15 ∷ is_x 7) five Accepted 6
    ∷ runs (op 0x01 9 ∷ op 0x03 0 ∷ op 0x60 0 ∷ is_a 9) five Accepted 5
    ∷ runs (op 0x00 7 ∷ op 0x02 14 ∷ op 0x60 15 ∷ is_a 0) five Accepted 5
    ∷ runs (op 0x00 7 ∷ op 0x02 0 ∷ op 0x03 0 ∷ op 0x60 0 ∷ is_a 0) five Accepted 6
    -- there is no scratch word 16
    ∷ runs (op 0x02 16 ∷ ends) five Broken 1
    ∷ runs (op 0x03 16 ∷ ends) five Broken 1
    ∷ runs (op 0x60 16 ∷ ends) five Broken 1
    ∷ runs (op 0x61 16 ∷ ends) five Broken 1
    -- ALU: sums, differences and products wrap
    ∷ both 0xffffffff 0x04 2 (is_a 1) Accepted 5
    ∷ both 3 0x14 5 (is_a 0xfffffffe) Accepted 5
    ∷ both 0x10001 0x24 0x10001 (is_a 0x20001) Accepted 5
    ∷ both 7 0x34 2 (is_a 3) Accepted 5
    ∷ both 0xf0 0x44 0x3c (is_a 0xfc) Accepted 5
    ∷ both 0xf0 0x54 0x3c (is_a 0x30) Accepted 5
    ∷ both 0xf0 0xa4 0x3c (is_a 0xcc) Accepted 5
    -- a shift counts by the operand mod 32
    ∷ both 3 0x64 31 (is_a 0x80000000) Accepted 5
    ∷ both 3 0x64 32 (is_a 3) Accepted 5
    ∷ both 3 0x64 33 (is_a 6) Accepted 5
    ∷ both 3 0x64 0xffffffff (is_a 0x80000000) Accepted 5
    ∷ both 0xc0000000 0x74 31 (is_a 1) Accepted 5
    ∷ both 0xc0000000 0x74 32 (is_a 0xc0000000) Accepted 5
    ∷ both 0xc0000000 0x74 33 (is_a 0x60000000) Accepted 5
    -- NEG of 0 and 1
    ∷ both 0 0x84 5 (is_a 0) Accepted 5
    ∷ both 1 0x84 5 (is_a 0xffffffff) Accepted 5
    -- a division by 0 is broken, and so is MOD
    ∷ both 7 0x34 0 ends Broken 3
    ∷ both 7 0x94 5 ends Broken 3
    -- JEQ, JGT, JGE, JSET both ways; numbers have no sign
    ∷ both 5 0x15 5 ends Accepted 4
    ∷ both 5 0x15 4 ends Dropped 4
    ∷ both 4 0x15 5 ends Dropped 4
    ∷ both 0x80000000 0x25 1 ends Accepted 4
    ∷ both 5 0x25 5 ends Dropped 4
    ∷ both 4 0x25 5 ends Dropped 4
    ∷ both 6 0x35 5 ends Accepted 4
    ∷ both 5 0x35 5 ends Accepted 4
    ∷ both 4 0x35 5 ends Dropped 4
    ∷ both 6 0x45 3 ends Accepted 4
    ∷ both 6 0x45 9 ends Dropped 4
    -- JA by k, whatever jt, jf and the X bit are; what is skipped is not fetched, A and X stay
    ∷ runs (insn 0x05 9 9 1 ∷ ends) five Dropped 2
    ∷ runs (op 0x0d 1 ∷ ends) five Dropped 2
    ∷ runs (op 0x00 7 ∷ op 0x01 9 ∷ op 0x05 2 ∷ op 0x94 0 ∷ op 0x94 0 ∷ is_a 7) five Accepted 5
    ∷ runs (op 0x00 7 ∷ op 0x01 9 ∷ op 0x05 2 ∷ op 0x94 0 ∷ op 0x94 0 ∷ is_x 9) five Accepted 6
    ∷ runs (insn 0x15 2 0 0 ∷ op 0x94 0 ∷ op 0x94 0 ∷ ends) five Accepted 2
    -- the counter is past the program: the fetch that fails is not counted
    ∷ runs [] five Broken 0
    ∷ runs (op 0x00 1 ∷ []) five Broken 1
    ∷ runs (op 0x05 2 ∷ ends) five Broken 1
    ∷ runs (op 0x05 0xffffffff ∷ ends) five Broken 1
    ∷ runs (insn 0x15 255 0 0 ∷ ends) five Broken 1
    ∷ runs (insn 0x15 0 2 1 ∷ ends) five Broken 1
    -- RET by A
    ∷ runs (op 0x00 7 ∷ op 0x16 0 ∷ []) five Accepted 2
    -- TAX: X has A's value, and A stays
    ∷ runs (op 0x00 7 ∷ op 0x07 0 ∷ op 0x00 0 ∷ is_x 7) five Accepted 6
    ∷ runs (op 0x00 7 ∷ op 0x07 0 ∷ is_a 7) five Accepted 4
    -- bits that are not looked at: the high byte, sizes where no packet is read, and others
    ∷ runs (op 0xff20 1 ∷ is_a 0x02f30445) five Accepted 3
    ∷ runs (op 0x01b1 2 ∷ is_x 12) five Accepted 4
    ∷ both 9 0x0114 4 (is_a 5) Accepted 5
    ∷ both 5 0x0115 5 ends Accepted 4
    ∷ runs (op 0x18 7 ∷ is_a 7) five Accepted 3
    ∷ runs (op 0x98 9 ∷ is_a 5) five Accepted 3
    ∷ runs (op 0x00 7 ∷ op 0xfa 2 ∷ op 0x78 2 ∷ is_a 7) five Accepted 5
    ∷ runs (op 0x01 9 ∷ op 0xfb 2 ∷ op 0x79 2 ∷ is_x 9) five Accepted 6
    ∷ runs (op 0x01 9 ∷ op 0x0e 0 ∷ []) five Dropped 2
    ∷ runs (op 0x00 7 ∷ op 0xf6 0 ∷ []) five Accepted 2
    ∷ runs (op 0x00 7 ∷ op 0x407f 0 ∷ op 0x00 0 ∷ is_x 7) five Accepted 6
    ∷ runs (op 0x01 9 ∷ op 0xff 0 ∷ is_a 9) five Accepted 4
    -- of the codes 0 to 255 exactly these are unknown
    ∷ unknown unknowns
    -- what vm.rs answers: for a return its truth; None for two loads past the frame's end, an unknown code, size 0x18, no scratch word,
    -- divisor 0 and no next instruction
    ∷ answers (op 0x06 1 ∷ []) five (Some true)
    ∷ answers (op 0x06 0 ∷ []) five (Some false)
    ∷ answers (op 0x30 5 ∷ ends) five None
    ∷ answers (op 0xb1 5 ∷ ends) five None
    ∷ answers (op 0x94 5 ∷ ends) five None
    ∷ answers (op 0x38 0 ∷ ends) five None
    ∷ answers (op 0x60 16 ∷ ends) five None
    ∷ answers (op 0x34 0 ∷ ends) five None
    ∷ answers (op 0x00 1 ∷ []) five None
    -- two filters of document 01: Ip, and Tcp with Tcp destination port 80
    ∷ runs ip (replicate 13 0) Short 1
    ∷ runs ip (replicate 12 0 ++ (8 ∷ 0 ∷ [])) Accepted 3
    ∷ runs web (tcp 0 (0 ∷ 80 ∷ [])) Accepted 10
    ∷ runs web (tcp 0 (80 ∷ 0 ∷ [])) Dropped 10
    ∷ runs web (tcp 0 (0 ∷ [])) Short 8
    ∷ runs web (tcp 1 (0 ∷ 80 ∷ [])) Dropped 7
    -- bytes run over a frame: little-endian instructions; a frame of 65,535 bytes; the longest program, with JA to its last instruction
    ∷ ran (0 ∷ 0 ∷ 0 ∷ 0 ∷ 4 ∷ 3 ∷ 2 ∷ 1 ∷ 21 ∷ 0 ∷ 1 ∷ 0 ∷ 4 ∷ 3 ∷ 2 ∷ 1 ∷ 6 ∷ 0 ∷ 0 ∷ 0 ∷ 0 ∷ 0 ∷ 0 ∷ 0 ∷ 6 ∷ 255 ∷ 0 ∷ 0 ∷ 0 ∷ 0 ∷ 0 ∷ 1 ∷ []) [] 1 3
    ∷ ran (128 ∷ 0 ∷ 0 ∷ 0 ∷ 0 ∷ 0 ∷ 0 ∷ 0 ∷ 21 ∷ 0 ∷ 0 ∷ 1 ∷ 255 ∷ 255 ∷ 0 ∷ 0 ∷ 6 ∷ 0 ∷ 0 ∷ 0 ∷ 1 ∷ 0 ∷ 0 ∷ 0 ∷ []) (replicate 65535 0) 1 3
    ∷ ran (5 ∷ 0 ∷ 0 ∷ 0 ∷ 0xfe ∷ 0x0f ∷ replicate 32762 0) [] 4 2
    -- dropped is number 2, short number 3
    ∷ ran (6 ∷ 0 ∷ 0 ∷ 0 ∷ 0 ∷ 0 ∷ 0 ∷ 0 ∷ []) [] 2 1
    ∷ ran (0x30 ∷ 0 ∷ 0 ∷ 0 ∷ 0 ∷ 0 ∷ 0 ∷ 0 ∷ []) [] 3 1
    -- number 11 for the lengths 0, 7, 9 and 32,776
    ∷ refuses [] [] 11
    ∷ refuses (replicate 7 6) [] 11
    ∷ refuses (replicate 9 6) [] 11
    ∷ refuses (replicate 32776 6) [] 11
    -- number 10 for a frame of 65,536 bytes; number 11 comes before it
    ∷ refuses (6 ∷ 0 ∷ 0 ∷ 0 ∷ 1 ∷ 0 ∷ 0 ∷ 0 ∷ []) (replicate 65536 0) 10
    ∷ refuses (replicate 7 6) (replicate 65536 0) 11
    ∷ []

table_holds : T (test table)
unfolding test holds unknown_below unknowns table load sized_load scratch ld ldx alu jmp effect exec inner run insns_at insn_at le_at be
table_holds = tt
