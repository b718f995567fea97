-- The guards that a tree requires on every accepting path: codegen.rs `required_guards`, `primitive_guards`.
use Rattle.std.specs.Prelude.{Option, None, Some}
use Rattle.std.specs.Prelude.{Ok, Err}
use Rattle.std.specs.Prelude.{ℕ}
use Rattle.error.specs.Answer.{Out}
use Rattle.ast.specs.declared.Proto.{Proto}
use Rattle.ast.specs.declared.Primitive.{Primitive}
use Rattle.ast.specs.declared.Primitive.TheVariants.{Protocol, Host4, Host6, Net, Net6, Port, PortRange, EtherHost, EtherProto, EtherMulticast, IpBroadcast, IpMulticast, Ip6Multicast, IpProtoChain, Ip6ProtoChain}
use Rattle.ast.specs.Tree.{Expr, Leaf, And, Or, Not}
use Rattle.codegen.specs.declared.L4Set.{L4Set}
use Rattle.codegen.specs.declared.GuardSet.{GuardSet}
use Rattle.codegen.specs.Facts.{no_guards, union, intersect}
use Rattle.codegen.specs.Protocols.{row_of, small_of, known, l4set_for}

abbrev pub guards : ℕ → Option ℕ → Option ℕ → GuardSet
guards e p n = record { ethertype = Some e; ip4_proto = p; ip6_nh = n; port_prereqs = None }

-- the set of a prologue; none where `l4set_for` refuses
abbrev pub set_of : Out L4Set → Option L4Set
set_of (Err r) = None
set_of (Ok s) = Some s

abbrev pub port_guards : Option Proto → GuardSet
port_guards p = record { ethertype = None; ip4_proto = None; ip6_nh = None; port_prereqs = set_of (l4set_for p) }

unfoldable pub primitive_guards : Primitive → GuardSet
primitive_guards (Protocol p) = let r = row_of p in guards r.ethertype (known r.ip4_proto (small_of p)) (known r.ip6_nh (small_of p))
primitive_guards (Host4 d a) = guards 0x0800 None None
primitive_guards (Host6 d a) = guards 0x86dd None None
primitive_guards (Net d a m) = guards 0x0800 None None
primitive_guards (Net6 d p a) = guards 0x86dd None None
primitive_guards (Port d p k) = port_guards p
primitive_guards (PortRange d p lo hi) = port_guards p
primitive_guards (EtherHost d a) = no_guards
primitive_guards (EtherProto v) = guards v None None
primitive_guards EtherMulticast = no_guards
primitive_guards IpBroadcast = guards 0x0800 None None
primitive_guards IpMulticast = guards 0x0800 None None
primitive_guards Ip6Multicast = guards 0x86dd None None
primitive_guards (IpProtoChain n) = guards 0x0800 (Some n) None
primitive_guards (Ip6ProtoChain n) = guards 0x86dd None (Some n)

-- "a negated check proves nothing about what its parent requires"
unfoldable pub required_guards : Expr → GuardSet
required_guards (Leaf p) = primitive_guards p
required_guards (And l r) = union (required_guards l) (required_guards r)
required_guards (Or l r) = intersect (required_guards l) (required_guards r)
required_guards (Not t) = no_guards
