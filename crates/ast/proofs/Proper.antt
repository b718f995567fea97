-- The bounds on a tree's numbers that its file gives them.
use Prim.Native.Nat.{ℕ, zero, suc, ◌^◌, ◌<◌}
use mathlib.Core.Path.{◌≡◌}
use mathlib.Core.List.{List, [], ◌∷◌}
use native.Mathlib.Omega.{arith}
use lib.ListN.{length}
use Rattle.bpf.specs.Bytes.{AreBytes}
use Rattle.bpf.specs.Program.{Each}
use Rattle.ast.specs.declared.Proto.{Proto}
use Rattle.ast.specs.declared.Proto.TheVariants.{Num, Ip6Proto}
use Rattle.ast.specs.declared.Primitive.{Primitive}
use Rattle.ast.specs.declared.Primitive.TheVariants.{Protocol, Host4, Host6, Net, Net6, Port, PortRange, EtherHost, EtherProto, IpProtoChain, Ip6ProtoChain}
use Rattle.ast.specs.Tree.{Expr, Leaf, And, Or, Not}

abbrev pub Byte : ℕ → Type 0
Byte n = n < 2 ^ 8

abbrev pub Half : ℕ → Type 0
Half n = n < 2 ^ 16

abbrev pub Word : ℕ → Type 0
Word n = n < 2 ^ 32

abbrev pub ProperProto : Proto → Type 0
ProperProto (Num n) = Byte n
ProperProto (Ip6Proto n) = Byte n
ProperProto p = Unit {0}

abbrev pub ProperPrimitive : Primitive → Type 0
ProperPrimitive (Protocol p) = ProperProto p
ProperPrimitive (Host4 d a) = Word a
ProperPrimitive (Host6 d a) = (length a ≡ 8) × Each Half a
ProperPrimitive (Net d a m) = Word a × Word m
ProperPrimitive (Net6 d p a) = (length a ≡ 8) × Each Half a
ProperPrimitive (Port d p k) = Half k
ProperPrimitive (PortRange d p lo hi) = Half lo × Half hi
ProperPrimitive (EtherHost d a) = (length a ≡ 6) × Each Byte a
ProperPrimitive (EtherProto v) = Half v
ProperPrimitive (IpProtoChain n) = Byte n
ProperPrimitive (Ip6ProtoChain n) = Byte n
ProperPrimitive p = Unit {0}

abbrev pub Proper : Expr → Type 0
Proper (Leaf p) = ProperPrimitive p
Proper (And l r) = Proper l × Proper r
Proper (Or l r) = Proper l × Proper r
Proper (Not t) = Proper t

-- a list of bytes, as the laws of numbers take it
pub each_bytes : (a : List ℕ) → Each Byte a → AreBytes a
each_bytes [] h i = omega arith
each_bytes (b ∷ a) h zero = h.0
each_bytes (b ∷ a) h (suc i) = each_bytes a h.1 i
