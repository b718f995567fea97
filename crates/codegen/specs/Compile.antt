-- A tree's program: codegen.rs `compile` down to its call of `optimize`.
use Rattle.std.specs.Prelude.{Ok}
use Rattle.std.specs.Prelude.{List, [], ◌∷◌, ◌++◌, map, cond}
use Rattle.error.specs.Answer.{Out, ◌>>=◌}
use Rattle.bpf.specs.declared.Insn.{Insn}
use Rattle.bpf.specs.Program.{insn}
use Rattle.ast.specs.declared.LinkType.{LinkType}
use Rattle.ast.specs.Tree.{Expr}
use Rattle.codegen.specs.declared.Facts.{Facts}
use Rattle.codegen.specs.Facts.{no_facts, learn_ethertype}
use Rattle.codegen.specs.declared.Side.TheVariants.{Success, Failure}
use Rattle.codegen.specs.Block.{Block, settle, resolved, assemble}
use Rattle.codegen.specs.Emit.{is_raw, emit}

-- "RawIp starts with ethertype 0x0800."
abbrev pub entry_facts : LinkType → Facts
entry_facts L = cond (is_raw L) (learn_ethertype no_facts 0x0800) no_facts

-- `ret_k(BPF_ACCEPT)`, `ret_k(BPF_DROP)`
abbrev pub returns : List Insn
returns = insn 0x06 0 0 0xffff_ffff ∷ insn 0x06 0 0 0 ∷ []

-- the open exits go to the two returns: success to the first, failure to the second
unfoldable pub finished : Block → Block
finished b = settle Failure 1 (settle Success 0 b)

unfoldable pub compile : LinkType → Expr → Out (List Insn)
compile L t = do
  c ← emit L t (entry_facts L)
  b ← resolved (finished c.block)
  Ok (map assemble b ++ returns)
