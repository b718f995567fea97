-- T-03, "Cooked captures have no destination address", in the customer's words: what the generator and the direct reading make of ether
-- addresses on LinuxSll, and that every other tree keeps its program. `proofs/Cooked.antt` proves the page below.
use Rattle.std.specs.Prelude.{Option, None, Some}
use Rattle.std.specs.Prelude.{Ok, Err}
use Rattle.std.specs.Prelude.{ℕ, ◌%◌, ◌≡◌, List, [], ◌∷◌, ◌++◌, map, Bool, true, false, cond, ◌&&◌, ◌||◌, ◌⊎◌, eqb}
use Rattle.error.specs.declared.Refusal.{Refusal}
use Rattle.error.specs.declared.Refusal.TheVariants.{EtherOnRaw, FarJump, CookedAddress}
use Rattle.error.specs.Answer.{Out, ◌>>=◌}
use Rattle.bpf.specs.Bytes.{be}
use Rattle.bpf.specs.declared.Insn.{Insn}
use Rattle.ast.specs.declared.LinkType.{LinkType}
use Rattle.ast.specs.declared.LinkType.TheVariants.{LinuxSll}
use Rattle.ast.specs.declared.Dir.{Dir}
use Rattle.ast.specs.declared.Dir.TheVariants.{SrcOrDst, Src, Dst, SrcAndDst}
use Rattle.ast.specs.declared.Primitive.{Primitive}
use Rattle.ast.specs.declared.Primitive.TheVariants.{Protocol, Host4, Host6, Net, Net6, Port, PortRange, EtherHost, EtherProto, EtherMulticast, IpBroadcast, IpMulticast, Ip6Multicast, IpProtoChain, Ip6ProtoChain}
use Rattle.ast.specs.Tree.{Expr, Leaf, And, Or, Not}
use Rattle.direct.specs.Reading.{sides, bytes_are, reads_primitive}
use Rattle.codegen.specs.declared.Facts.{Facts}
use Rattle.codegen.specs.Facts.{meet, intersect}
use Rattle.codegen.specs.Protocols.{l4set_for}
use Rattle.codegen.specs.Guards.{required_guards}
use Rattle.codegen.specs.declared.Width.TheVariants.{Byte, Half, Word}
use Rattle.codegen.specs.declared.Op.TheVariants.{LdAbs}
use Rattle.codegen.specs.declared.Test.TheVariants.{Jeq, Jset}
use Rattle.codegen.specs.declared.Side.TheVariants.{Success, Failure}
use Rattle.codegen.specs.declared.Exit.TheVariants.{Leave}
use Rattle.codegen.specs.declared.Slot.TheVariants.{Jf}
use Rattle.codegen.specs.declared.Line.TheVariants.{Plain, Branch}
use Rattle.codegen.specs.Block.{Block, settle, turn, otherwise, resolved, assemble}
use Rattle.codegen.specs.Emit.{is_raw, Code, code, restored_after, check_blocks, check_mac, emit_primitive, or_hoist}
use Rattle.codegen.specs.Compile.{entry_facts, returns, finished, compile}

-- ---- the number that a tree meets on LinuxSll

-- "kind 17 is now accepted only with direction 1"
abbrev pub of_address : Dir → Option Refusal
of_address SrcOrDst = Some CookedAddress
of_address Src = None
of_address Dst = Some CookedAddress
of_address SrcAndDst = Some CookedAddress

abbrev pub refusal_in : {A : Type 0} → Out A → Option Refusal
refusal_in (Err r) = Some r
refusal_in (Ok a) = None

-- what turns a condition down there, wherever it stands: 15, and number 6 as before
abbrev pub turns_down : Primitive → Option Refusal
turns_down (Protocol p) = None
turns_down (Host4 d a) = None
turns_down (Host6 d a) = None
turns_down (Net d a m) = None
turns_down (Net6 d p a) = None
turns_down (Port d p k) = refusal_in (l4set_for p)
turns_down (PortRange d p lo hi) = refusal_in (l4set_for p)
turns_down (EtherHost d a) = of_address d
turns_down (EtherProto v) = None
turns_down EtherMulticast = Some CookedAddress
turns_down IpBroadcast = None
turns_down IpMulticast = None
turns_down Ip6Multicast = None
turns_down (IpProtoChain p) = None
turns_down (Ip6ProtoChain p) = None

abbrev pub or_else : Option Refusal → Option Refusal → Option Refusal
or_else None later = later
or_else (Some r) later = Some r

-- the first such condition, in the order of the file's records
unfoldable pub first_down : Expr → Option Refusal
first_down (Leaf p) = turns_down p
first_down (And l r) = or_else (first_down l) (first_down r)
first_down (Or l r) = or_else (first_down l) (first_down r)
first_down (Not t) = first_down t

-- ---- the generator before T-03: kinds 17 and 19 as document 01 has them, all other conditions as today

-- kinds 17 and 19
abbrev pub of_ether : Primitive → Bool
of_ether (Protocol p) = false
of_ether (Host4 d a) = false
of_ether (Host6 d a) = false
of_ether (Net d a m) = false
of_ether (Net6 d p a) = false
of_ether (Port d p k) = false
of_ether (PortRange d p lo hi) = false
of_ether (EtherHost d a) = true
of_ether (EtherProto v) = false
of_ether EtherMulticast = true
of_ether IpBroadcast = false
of_ether IpMulticast = false
of_ether Ip6Multicast = false
of_ether (IpProtoChain p) = false
of_ether (Ip6ProtoChain p) = false

-- a tree holds one of them
unfoldable pub holds_ether : Expr → Bool
holds_ether (Leaf p) = of_ether p
holds_ether (And l r) = holds_ether l || holds_ether r
holds_ether (Or l r) = holds_ether l || holds_ether r
holds_ether (Not t) = holds_ether t

module _ (L : LinkType) where
  -- number 7, "RawIp with kind 17 or 19"
  abbrev pub ether_before : Block → Facts → Out Code
  ether_before b g = cond (is_raw L) (Err EtherOnRaw) (Ok (code b g))

  -- "source 6-11, destination 0-5, on LinuxSll too"
  unfoldable pub primitive_before : Primitive → Facts → Out Code
  primitive_before (EtherHost SrcOrDst a) = ether_before (check_blocks SrcOrDst (check_mac a 0) (check_mac a 6))
  primitive_before (EtherHost Src a) = ether_before (check_mac a 6)
  primitive_before (EtherHost Dst a) = ether_before (check_mac a 0)
  primitive_before (EtherHost SrcAndDst a) = ether_before (check_blocks SrcAndDst (check_mac a 0) (check_mac a 6))
  primitive_before EtherMulticast = ether_before (Plain (LdAbs Byte 0) ∷ Branch Jset 0x01 Jf (Leave Failure) ∷ [])
  primitive_before (Protocol p) = emit_primitive L (Protocol p)
  primitive_before (Host4 d a) = emit_primitive L (Host4 d a)
  primitive_before (Host6 d a) = emit_primitive L (Host6 d a)
  primitive_before (Net d a m) = emit_primitive L (Net d a m)
  primitive_before (Net6 d p a) = emit_primitive L (Net6 d p a)
  primitive_before (Port d p k) = emit_primitive L (Port d p k)
  primitive_before (PortRange d p lo hi) = emit_primitive L (PortRange d p lo hi)
  primitive_before (EtherProto v) = emit_primitive L (EtherProto v)
  primitive_before IpBroadcast = emit_primitive L IpBroadcast
  primitive_before IpMulticast = emit_primitive L IpMulticast
  primitive_before Ip6Multicast = emit_primitive L Ip6Multicast
  primitive_before (IpProtoChain p) = emit_primitive L (IpProtoChain p)
  primitive_before (Ip6ProtoChain p) = emit_primitive L (Ip6ProtoChain p)

-- the walk of `emit` and `compile`, over any conditions
module _ (L : LinkType) (leaf : Primitive → Facts → Out Code) where
  unfoldable pub walk : Expr → Facts → Out Code
  walk (Leaf p) g = leaf p g
  walk (And l r) g = do
    b ← walk l g
    b' ← resolved (settle Success 0 b.block)
    c ← walk r b.facts
    Ok (code (b' ++ c.block) c.facts)
  walk (Or l r) g = do
    h ← or_hoist L (intersect (required_guards l) (required_guards r)) g
    b ← walk l h.facts
    b' ← resolved (otherwise b.block)
    c ← walk r (restored_after b.block h.facts)
    Ok (code (h.block ++ (b' ++ c.block)) (meet b.facts c.facts))
  walk (Not t) g = do
    b ← walk t g
    b' ← resolved (turn (otherwise b.block))
    Ok (code b' (restored_after b.block g))

  unfoldable pub walked : Expr → Out (List Insn)
  walked t = do
    c ← walk t (entry_facts L)
    b ← resolved (finished c.block)
    Ok (map assemble b ++ returns)

abbrev pub compile_before : LinkType → Expr → Out (List Insn)
compile_before L t = walked L (primitive_before L) t

-- ---- the page

-- a load, and a test of it whose jf fails
abbrev length_is_six : Block
length_is_six = Plain (LdAbs Half 4) ∷ Branch Jeq 6 Jf (Leave Failure) ∷ []

abbrev address_is : List ℕ → Block
address_is a = Plain (LdAbs Word 6) ∷ Branch Jeq (be 4 0 a) Jf (Leave Failure) ∷ Plain (LdAbs Half 10) ∷ Branch Jeq (be 2 4 a) Jf (Leave Failure) ∷ []

pub record Cooked : Type 0 where
  -- "On LinuxSll, kind 17 is now accepted only with direction 1,": whatever is known before it
  pub only : (d : Dir) (a : List ℕ) (g : Facts) → ¬ (d ≡ Src) → emit_primitive LinuxSll (EtherHost d a) g ≡ Err CookedAddress
  -- "and kind 19 is turned down."
  pub multicast : (g : Facts) → emit_primitive LinuxSll EtherMulticast g ≡ Err CookedAddress
  -- "The sender test also wants the 16-bit address length at byte 4 to be 6; that test comes first.": nothing is learned
  pub sender : (a : List ℕ) (g : Facts) → emit_primitive LinuxSll (EtherHost Src a) g ≡ Ok (code (length_is_six ++ address_is a) g)
  -- and so is it read directly; a test of a destination is false
  pub reads : (f : List ℕ) (d : Dir) (a : List ℕ) → reads_primitive LinuxSll f (EtherHost d a) ≡ sides d (eqb (be 2 4 f) 6 && bytes_are f 6 a) false
  pub nobody : (f : List ℕ) → reads_primitive LinuxSll f EtherMulticast ≡ false
  -- "15 .., met in the source's walk at that leaf .., like 7": on every link the walk is the one before T-03, and knows of 15 by its conditions
  -- alone;
  pub walks : (L : LinkType) (t : Expr) → compile L t ≡ walked L (emit_primitive L) t
  -- so the first condition of the file that is turned down gives its number, unless a jump is too far;
  pub first : (t : Expr) (r : Refusal) → first_down t ≡ Some r → (compile LinuxSll t ≡ Err r) ⊎ (compile LinuxSll t ≡ Err FarJump)
  -- without such a condition there is a program, unless a jump is too far
  pub free : (t : Expr) (r : Refusal) → first_down t ≡ None → compile LinuxSll t ≡ Err r → r ≡ FarJump
  -- "Such trees no longer equal the Rust": the others still do, as they have the program, or the number, that they had;
  pub before : (L : LinkType) (t : Expr) → (¬ (L ≡ LinuxSll)) ⊎ (holds_ether t ≡ false) → compile L t ≡ compile_before L t
  -- and on other links kinds 17 and 19 are read directly as document 01 has them
  pub host : (L : LinkType) (f : List ℕ) (d : Dir) (a : List ℕ) → ¬ (L ≡ LinuxSll) → reads_primitive L f (EtherHost d a) ≡ sides d (bytes_are f 6 a) (bytes_are f 0 a)
  pub many : (L : LinkType) (f : List ℕ) → ¬ (L ≡ LinuxSll) → reads_primitive L f EtherMulticast ≡ eqb (be 1 0 f % 2) 1
