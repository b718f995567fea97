-- What a condition loads and compares, and the two IP versions, as the code passes them.
use Rattle.std.specs.Prelude.{ℕ, ◌+◌, [], ◌∷◌, ◌++◌, Option, None, Some}
use Rattle.error.specs.Answer.{Out}
use Rattle.ast.specs.declared.LinkType.{LinkType}
use Rattle.codegen.specs.declared.L4Set.{L4Set}
use Rattle.codegen.specs.declared.Facts.{Facts}
use Rattle.codegen.specs.declared.Width.TheVariants.{Half, Word}
use Rattle.codegen.specs.declared.Op.{Op}
use Rattle.codegen.specs.declared.Op.TheVariants.{AndK}
use Rattle.codegen.specs.declared.Line.TheVariants.{Plain}
use Rattle.codegen.specs.Facts.{learn_ip4, learn_ip6}
use Rattle.codegen.specs.Block.{Block}
use Rattle.codegen.specs.Emit.{net_offset, Code, check, header4, header6, l4_check, emit_l4}
use Rattle.conditions.specs.declared.Version.{Version}
use Rattle.conditions.specs.declared.Version.TheVariants.{V4, V6}

-- a load of an address or a port, under a mask
abbrev pub load : Op → Option ℕ → Block
load o None = Plain o ∷ []
load o (Some m) = Plain o ∷ Plain (AndK m) ∷ []

-- four bytes and then two
abbrev pub mac_block : ℕ → ℕ → ℕ → Block
mac_block four two at = check Word at four ++ check Half (at + 4) two

-- by version: the ethertype, where the protocol stands after the network header's start, and its fact
abbrev pub ether_of : Version → ℕ
ether_of V4 = 0x0800
ether_of V6 = 0x86dd

abbrev pub proto_place : Version → ℕ
proto_place V4 = 9
proto_place V6 = 6

abbrev pub proto_fact : Version → Facts → Option ℕ
proto_fact V4 = λ g. g.ip4_proto
proto_fact V6 = λ g. g.ip6_nh

abbrev pub learn_proto : Version → Facts → ℕ → Facts
learn_proto V4 = learn_ip4
learn_proto V6 = learn_ip6

abbrev pub header : Version → ℕ → Block
header V4 n = header4 n
header V6 n = header6

-- the protocol, and what X needs
abbrev pub path : Version → ℕ → L4Set → Block
path v n want = l4_check (n + proto_place v) want ++ header v n

abbrev pub emit_version : LinkType → Version → ℕ → Facts → Out Code
emit_version L v = emit_l4 L (ether_of v) (net_offset L + proto_place v) (proto_fact v) (learn_proto v)
