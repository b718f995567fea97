-- The parts of `ported` and `or_hoist` as the code has them.
use Rattle.std.specs.Prelude.{ℕ, ◌+◌, ◌++◌, cond, Option, None}
use Rattle.error.specs.Answer.{Out}
use Rattle.ast.specs.declared.LinkType.{LinkType}
use Rattle.codegen.specs.declared.L4Set.{L4Set}
use Rattle.codegen.specs.declared.Facts.{Facts}
use Rattle.codegen.specs.Block.{Block}
use Rattle.codegen.specs.Emit.{Code, code, net_offset, is_raw, established, version, emit_ethertype, port_prereqs, hoist_known}
use Rattle.emit.specs.declared.Emitter.{Emitter}
use Rattle.emit.specs.Grown.{Grew, Replies}
use Rattle.conditions.specs.declared.Version.{Version}
use Rattle.conditions.specs.Loads.{proto_place, proto_fact, learn_proto, header, emit_version}

-- a prologue for a set and then a block
abbrev pub ported_by : LinkType → L4Set → Block → Facts → Code
ported_by L want b g = let c = port_prereqs L want g in code (c.block ++ b) c.facts

-- one version's prologue
abbrev pub version_for : LinkType → Version → L4Set → Facts → Code
version_for L v want g =
    established (learn_proto v) g (version g.ports_ready (proto_fact v g) (net_offset L + proto_place v) want (header v (net_offset L)))

-- the guards of an ethertype and of a protocol, by link
abbrev pub hoist_ethertype : Option ℕ → LinkType → Code → Out Code
hoist_ethertype et L = hoist_known L (cond (is_raw L) None et) (emit_ethertype L)

abbrev pub hoist_l4 : Version → Option ℕ → LinkType → Code → Out Code
hoist_l4 v proto L = hoist_known L proto (emit_version L v)

-- whatever code was added before, what is added after it is as this step has it
pub record Follows (step : Code → Out Code) (e f : Emitter) (r : Out (Unit {0})) : Type 0 where
  pub on : (c : Code) (d : Emitter) → Grew c d e → Replies (step c) d f r
