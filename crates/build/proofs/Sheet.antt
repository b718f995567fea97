-- The commissioning sheet's ★ lines, and the listing's ★, as one table with one theorem: from tree files to the
-- bytes of the buffer and to runs of them.
use Rattle.std.specs.Prelude.{Ok}
use Rattle.error.specs.Answer.{Out}
use Rattle.vm.specs.declared.Outcome.{Outcome}
use Prim.Native.Nat.{ℕ, ◌*◌, ◌-◌, ◌/◌, ◌%◌}
use mathlib.Core.List.{List, [], ◌∷◌, ◌++◌}
use mathlib.Core.Bool.{Bool, true, false, ◌&&◌}
use lib.ListN.{length, replicate, take}
use lib.Dec.{eqb, T}
use Rattle.bpf.specs.declared.Insn.{Insn}
use Rattle.bpf.specs.Bytes.{be, bytes_at, segments_at, le, le_at}
use Rattle.bpf.specs.Program.{insn_bytes, program_bytes, insn_at, insns_at}
use Rattle.vm.specs.declared.Verdict.{Verdict}
use Rattle.vm.specs.declared.Verdict.TheVariants.{Accepted, Short}
use Rattle.vm.specs.Machine as VM
use Rattle.vm.specs.Machine.{run, ended}
use Rattle.ast.specs.Record.{record_at, good, node_by}
use Rattle.ast.specs.File as F
use Rattle.codegen.specs.Guards.{primitive_guards, required_guards}
use Rattle.codegen.specs.Block.{settle, turn, otherwise, far, writes_x, assemble}
use Rattle.codegen.specs.Emit as E
use Rattle.codegen.specs.Compile.{finished, compile}
use Rattle.build.specs.Build.{Built, program, build, listing, refusal_of, count_of}

-- ---- tree files

-- a record: kind, direction, protocol, small number, A, B, and the first bytes of the address
abbrev node : ℕ → ℕ → ℕ → ℕ → ℕ → ℕ → List ℕ → List ℕ
node k d p n a b address = k ∷ d ∷ p ∷ n ∷ (a / 256) ∷ (a % 256) ∷ (b / 256) ∷ (b % 256) ∷ (address ++ replicate (16 - length address) 0)

abbrev join : ℕ → List ℕ → List ℕ → List ℕ
join k l r = node k 0 0 0 0 0 [] ++ (l ++ r)

abbrev and : List ℕ → List ℕ → List ℕ
and = join 1

abbrev or : List ℕ → List ℕ → List ℕ
or = join 2

abbrev not : List ℕ → List ℕ
not t = join 3 t []

abbrev protocol : ℕ → List ℕ
protocol p = node 10 0 p 0 0 0 []

abbrev pub Ip : List ℕ
Ip = protocol 1

abbrev pub Ip6 : List ℕ
Ip6 = protocol 2

abbrev Tcp : List ℕ
Tcp = protocol 5

abbrev Udp : List ℕ
Udp = protocol 6

abbrev Icmp6 : List ℕ
Icmp6 = protocol 8

-- a port: direction, protocol, number
abbrev port : ℕ → ℕ → ℕ → List ℕ
port d p k = node 15 d p 0 k 0 []

abbrev ether_multicast : List ℕ
ether_multicast = node 19 0 0 0 0 0 []

-- the bytes lent for each build: twenty instructions
abbrev lent : ℕ
lent = 160

-- link and records
abbrev file : ℕ → List ℕ → List ℕ
file link records = 0x50 ∷ 0x46 ∷ 0x54 ∷ 0 ∷ 1 ∷ link ∷ 0 ∷ (length records / 24) ∷ records

abbrev pub ethernet : List ℕ → List ℕ
ethernet = file 1

abbrev pub raw_ip : List ℕ → List ℕ
raw_ip = file 2

-- ---- what the sheet says of a build and of runs of its program

data Fact : Type 0 where
  refusal : ℕ → Fact
  count : ℕ → Fact
  jt jf ja : ℕ → ℕ → Fact  -- a field's value at an index
  ran : List ℕ → Verdict → ℕ → Fact  -- the verdict and the steps on a frame
  lists : List (List ℕ) → Fact  -- the lines of the listing

-- a run's answer as numbers: refusal, verdict and steps
abbrev outcome : Out Outcome → List ℕ
outcome r = VM.refusal_of r ∷ VM.verdict_of r ∷ VM.steps_of r ∷ []

same_numbers : List ℕ → List ℕ → Bool
same_numbers [] [] = true
same_numbers [] (m ∷ ms) = false
same_numbers (n ∷ ns) [] = false
same_numbers (n ∷ ns) (m ∷ ms) = eqb n m && same_numbers ns ms

same_lines : List (List ℕ) → List (List ℕ) → Bool
same_lines [] [] = true
same_lines [] (m ∷ ms) = false
same_lines (n ∷ ns) [] = false
same_lines (n ∷ ns) (m ∷ ms) = same_numbers n m && same_lines ns ms

-- the count, and the instruction at an index of the buffer
abbrev counted : Built → ℕ
counted b = count_of b.answer

abbrev at : Built → ℕ → Insn
at b n = insn_at (8 * n) b.buffer

abbrev holds : Fact → Built → Bool
holds (refusal n) b = eqb n (refusal_of b.answer) && same_numbers b.buffer (replicate lent 0)
holds (count n) b = eqb n (counted b)
holds (jt v n) b = eqb v (at b n).jt
holds (jf v n) b = eqb v (at b n).jf
holds (ja v n) b = eqb v (at b n).k && eqb (at b n).code 0x05
holds (ran f v n) b = same_numbers (outcome (run (take (8 * counted b) b.buffer) f)) (outcome (Ok (ended v n)))
holds (lists ns) b = same_lines ns (listing (insns_at (counted b) 0 b.buffer))

record Row : Type 0 where
  tree : List ℕ
  facts : List Fact

abbrev row : List ℕ → List Fact → Row
row t fs = record { tree = t; facts = fs }

abbrev all : List Fact → Built → Bool
all [] b = true
all (x ∷ xs) b = holds x b && all xs b

test : List Row → Bool
test [] = true
test (r ∷ rs) = all r.facts (build r.tree lent) && test rs

-- the listing's ★, and the ★ lines in the sheet's order
sheet : List Row
sheet =
    row (ethernet (not Ip))
    (lists
    ((5 ∷ [])
    ∷ (40 ∷ 0 ∷ 0 ∷ 12 ∷ [])
    ∷ (21 ∷ 0 ∷ 1 ∷ 2048 ∷ [])
    ∷ (5 ∷ 0 ∷ 0 ∷ 1 ∷ [])
    ∷ (6 ∷ 0 ∷ 0 ∷ 4294967295 ∷ [])
    ∷ (6 ∷ 0 ∷ 0 ∷ 0 ∷ [])
    ∷ [])
    ∷ [])
    ∷ row (raw_ip Ip) (lists ((2 ∷ []) ∷ (6 ∷ 0 ∷ 0 ∷ 4294967295 ∷ []) ∷ (6 ∷ 0 ∷ 0 ∷ 0 ∷ []) ∷ []) ∷ [])
    ∷ row (ethernet Ip)
    (count 4 ∷ jf 1 1 ∷ ran (replicate 13 0) Short 1 ∷ ran (replicate 12 0 ++ (8 ∷ 0 ∷ [])) Accepted 3 ∷ [])
    ∷ row (ethernet (or Tcp Udp)) (count 9 ∷ jf 6 1 ∷ jf 1 3 ∷ jf 1 6 ∷ ja 2 4 ∷ [])
    ∷ row (ethernet (and Tcp (port 2 5 80))) (count 11 ∷ jf 8 1 ∷ jf 6 3 ∷ jf 1 8 ∷ jt 4 5 ∷ [])
    ∷ row (ethernet (port 0 0 53)) (count 20 ∷ jt 8 1 ∷ [])
    ∷ row (ethernet (node 14 0 0 0 0 0 [])) (count 5 ∷ [])
    ∷ row (raw_ip Ip6) (refusal 5 ∷ [])
    ∷ row (ethernet (port 0 7 53)) (refusal 6 ∷ [])
    ∷ row (raw_ip (or (and (port 0 7 53) Icmp6) Icmp6)) (refusal 5 ∷ [])
    ∷ row (raw_ip ether_multicast) (refusal 7 ∷ [])
    ∷ []

sheet_holds : T (test sheet)
unfolding test sheet same_numbers same_lines listing build program insn_bytes program_bytes insn_at insns_at le le_at run compile finished assemble settle turn otherwise far writes_x primitive_guards required_guards E.check_loads E.check_blocks E.check_ip6_addr E.check_net6 E.check_range E.check_mac E.l4_set_check E.l4_check E.header4 E.header6 E.fork E.dual_path E.emit_ethertype E.guarded E.emit_l4 E.port_prereqs E.ported E.ether E.emit_primitive E.or_hoist E.emit VM.load VM.sized_load VM.scratch VM.ld VM.ldx VM.alu VM.jmp VM.effect VM.exec VM.inner record_at good node_by F.header F.count F.nodes_at F.grow F.trees_of F.parse be bytes_at segments_at
sheet_holds = tt
