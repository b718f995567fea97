-- T-05's question and load, computed from a tree file to every byte of the buffer.
use Rattle.std.specs.Prelude.{Ok, Err}
use Rattle.error.specs.Answer.{Out}
use Prim.Native.Nat.{ℕ}
use mathlib.Core.Path.{◌≡◌, refl}
use mathlib.Core.List.{List, [], ◌∷◌}
use lib.ListN.{replicate}
use Rattle.error.specs.declared.Refusal.TheVariants.{KindOnRaw}
use Rattle.bpf.specs.Bytes.{be, bytes_at, segments_at, le}
use Rattle.bpf.specs.Program.{insn_bytes, program_bytes}
use Rattle.ast.specs.Record.{record_at, good, node_by}
use Rattle.ast.specs.File as F
use Rattle.codegen.specs.Block.{settle, far, assemble}
use Rattle.codegen.specs.Emit as E
use Rattle.codegen.specs.Compile.{finished, compile}
use Rattle.build.specs.Build.{Built, program, question, load, refusal_of, count_of}
use Rattle.build.proofs.Sheet.{Ip, Ip6, ethernet, raw_ip}

-- IP on Ethernet has four instructions; IPv6 on a raw link is number 5
abbrev ip : List ℕ
ip = ethernet Ip

abbrev ip6 : List ℕ
ip6 = raw_ip Ip6

questions : List (Out ℕ)
questions = question ip ∷ question ip6 ∷ []

-- a load's refusal, its count, and every byte that it leaves
abbrev told : Built → List ℕ
told b = refusal_of b.answer ∷ count_of b.answer ∷ b.buffer

-- a refusal and zeros
abbrev down : ℕ → ℕ → List ℕ
down number lent = number ∷ 0 ∷ replicate lent 0

-- "count moved"
abbrev moved : ℕ
moved = 19

-- the tree's count with all the bytes that it needs, and with one less
loads : List (List ℕ)
loads = told (load ip 4 32) ∷ told (load ip 4 31) ∷ []

-- other counts: one less, one more, equal in 16 bits, the largest, and one with too few bytes
others : List (List ℕ)
others = told (load ip 3 32) ∷ told (load ip 5 40) ∷ told (load ip 65540 32) ∷ told (load ip 4294967295 32) ∷ told (load ip 3 31) ∷ []

-- any count of a tree that is turned down
downs : List (List ℕ)
downs = told (load ip6 4 32) ∷ told (load ip6 0 0) ∷ []

record Examples : Type 0 where
  asks : questions ≡ (Ok 4 ∷ Err KindOnRaw ∷ [])
  same : loads
      ≡ ((0 ∷ 4 ∷ 40 ∷ 0 ∷ 0 ∷ 0 ∷ 12 ∷ 0 ∷ 0 ∷ 0 ∷ 21 ∷ 0 ∷ 0 ∷ 1 ∷ 0 ∷ 8 ∷ 0 ∷ 0 ∷ 6 ∷ 0 ∷ 0 ∷ 0 ∷ 255 ∷ 255 ∷ 255 ∷ 255 ∷ 6 ∷ 0 ∷ 0 ∷ 0 ∷ 0 ∷ 0 ∷ 0 ∷ 0 ∷ []) ∷ down 9 31 ∷ [])
  other : others ≡ (down moved 32 ∷ down moved 40 ∷ down moved 32 ∷ down moved 32 ∷ down moved 31 ∷ [])
  turned : downs ≡ (down 5 32 ∷ down 5 0 ∷ [])

examples : Examples
unfolding questions loads others downs question load program insn_bytes program_bytes le compile finished assemble settle far E.emit_ethertype E.emit_primitive E.emit record_at good node_by F.header F.count F.nodes_at F.grow F.trees_of F.parse be bytes_at segments_at
examples = record { asks = refl; same = refl; other = refl; turned = refl }
