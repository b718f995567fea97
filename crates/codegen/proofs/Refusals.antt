-- The refusals of a tree are 5 to 8 and 15.
use Rattle.std.specs.Prelude.{Option, None, Some}
use Prim.Native.Nat.{ℕ}
use mathlib.Core.List.{List, [], ◌∷◌}
use mathlib.Core.Bool.{cond}
use lib.Dec.{eqb}
use Rattle.error.specs.declared.Refusal.{Refusal}
use Rattle.error.specs.Answer.{Out, Numbered}
use Rattle.error.proofs.All.{Turned, turned_bind, turned_cond}
use Rattle.ast.specs.declared.LinkType.{LinkType}
use Rattle.ast.specs.declared.LinkType.TheVariants.{LinuxSll}
use Rattle.ast.specs.declared.Dir.{Dir}
use Rattle.ast.specs.declared.Dir.TheVariants.{Src}
use Rattle.ast.specs.declared.Proto.{Proto}
use Rattle.ast.specs.declared.Proto.TheVariants.{Ip6Proto}
use Rattle.ast.specs.declared.Primitive.{Primitive}
use Rattle.ast.specs.declared.Primitive.TheVariants.{Protocol, Port, PortRange, EtherHost, EtherProto, EtherMulticast, IpProtoChain, Ip6ProtoChain}
use Rattle.ast.specs.Tree.{Expr, Leaf, And, Or, Not}
use Rattle.codegen.specs.declared.L4Set.{L4Set}
use Rattle.codegen.specs.declared.Facts.{Facts}
use Rattle.codegen.specs.declared.GuardSet.{GuardSet}
use Rattle.codegen.specs.Facts.{holds}
use Rattle.codegen.specs.Protocols.{row_of, small_of, known, l4set_for}
use Rattle.codegen.specs.Block.{Block, far, resolved}
use Rattle.codegen.specs.Emit.{ether_proto_offset, is_raw, Code, code, ethertype_at, emit_ethertype, guarded, emit_l4, emit_row, ported, by_link, no_address, sender, ether, emit_primitive, hoist_known, hoist_ports, or_hoist, emit}
use Rattle.codegen.specs.Compile.{entry_facts, compile}

abbrev pub late : List ℕ
late = 5 ∷ 6 ∷ 7 ∷ 8 ∷ 15 ∷ []

abbrev pub Late : Refusal → Type 0
Late = Numbered late

resolved_turned : (b : Block) → Turned Late (resolved b)
resolved_turned b = turned_cond Late (far b) _ _ tt tt

-- ---- whatever holds of the refusals of ethertypes holds of those of protocols, and of the tests that an or emits first

module _ (q : Refusal → Type 0) (L : LinkType) (kinds : (v : ℕ) (g : Facts) → Turned q (emit_ethertype L v g)) where
  pub guarded_turned : (v : ℕ) (b : Block) (g : Facts) → Turned q (guarded L v b g)
  unfolding guarded
  guarded_turned v b g = turned_bind q (emit_ethertype L v g) _ (kinds v g) (λ c. tt)

  pub l4_turned : (v at : ℕ) (get : Facts → Option ℕ) (learn : Facts → ℕ → Facts) (p : ℕ) (g : Facts) → Turned q (emit_l4 L v at get learn p g)
  unfolding emit_l4
  l4_turned v at get learn p g = turned_bind q (emit_ethertype L v g) _ (kinds v g) (λ c. turned_cond q (holds (get c.facts) p) _ _ tt tt)

  pub row_turned : (v : ℕ) (p n : Option ℕ) (g : Facts) → Turned q (emit_row L v p n g)
  row_turned v None None g = kinds v g
  row_turned v None (Some n) g = l4_turned _ _ _ _ n g
  row_turned v (Some p) n g = l4_turned _ _ _ _ p g

  known_turned : (k : Option ℕ) (e : ℕ → Facts → Out Code) → ((v : ℕ) (g : Facts) → Turned q (e v g)) → (c : Code) → Turned q (hoist_known L k e c)
  known_turned None e h c = tt
  known_turned (Some v) e h c = turned_bind q (e v c.facts) _ (h v c.facts) (λ d. tt)

  ports_turned : (p : Option L4Set) (c : Code) → Turned q (hoist_ports L p c)
  ports_turned None c = tt
  ports_turned (Some want) c = tt

  pub hoist_turned : (r : GuardSet) (g : Facts) → Turned q (or_hoist L r g)
  unfolding or_hoist
  hoist_turned r g =
      let e = cond (is_raw L) None r.ethertype in
      turned_bind q (hoist_known L e (emit_ethertype L) (code [] g)) _ (known_turned e _ kinds (code [] g))
      (λ a. turned_bind q (hoist_known L r.ip4_proto _ a) _ (known_turned r.ip4_proto _ (l4_turned _ _ _ _) a)
      (λ b. turned_bind q (hoist_known L r.ip6_nh _ b) _ (known_turned r.ip6_nh _ (l4_turned _ _ _ _) b)
      (λ c. ports_turned r.port_prereqs c)))

-- ---- conditions

ethertype_turned : (o : Option ℕ) (v : ℕ) (g : Facts) → Turned Late (ethertype_at o v g)
ethertype_turned None v g = turned_cond Late (eqb v 0x0800) _ _ tt tt
ethertype_turned (Some off) v g = turned_cond Late (holds g.ethertype v) _ _ tt tt

set_turned : (p : Option Proto) → Turned Late (l4set_for p)
set_turned (Some (Ip6Proto n)) = tt
set_turned p = tt

link_turned : (L : LinkType) (b : Block) (cooked : Out Block) → Turned Late cooked → Turned Late (by_link L b cooked)
link_turned LinuxSll b cooked h = h
link_turned L b cooked h = tt

sender_turned : (d : Dir) (b : Block) → Turned Late (sender d b)
sender_turned Src b = tt
sender_turned d b = tt

module _ (L : LinkType) where
  kind_turned : (v : ℕ) (g : Facts) → Turned Late (emit_ethertype L v g)
  unfolding emit_ethertype
  kind_turned v g = ethertype_turned (ether_proto_offset L) v g

  ported_turned : (p : Option Proto) (b : Block) (g : Facts) → Turned Late (ported L p b g)
  unfolding ported
  ported_turned p b g = turned_bind Late (l4set_for p) _ (set_turned p) (λ want. tt)

  ether_turned : (b : Block) (cooked : Out Block) (g : Facts) → Turned Late cooked → Turned Late (ether L b cooked g)
  unfolding ether
  ether_turned b cooked g h = turned_bind Late (by_link L b cooked) _ (link_turned L b cooked h) (λ k. tt)

  condition_turned : (p : Primitive) (g : Facts) → Turned Late (emit_primitive L p g)
  unfolding emit_primitive
  condition_turned (Protocol p) g = let r = row_of p in row_turned Late L kind_turned r.ethertype (known r.ip4_proto (small_of p)) (known r.ip6_nh (small_of p)) g
  condition_turned (Port d p k) g = ported_turned p _ g
  condition_turned (PortRange d p lo hi) g = ported_turned p _ g
  condition_turned (EtherHost d a) g = ether_turned _ (sender d _) g (sender_turned d _)
  condition_turned (EtherProto v) g = kind_turned v g
  condition_turned EtherMulticast g = ether_turned _ no_address g tt
  condition_turned (IpProtoChain p) g = l4_turned Late L kind_turned _ _ _ _ p g
  condition_turned (Ip6ProtoChain p) g = l4_turned Late L kind_turned _ _ _ _ p g
  condition_turned p g = guarded_turned Late L kind_turned _ _ g

  -- ---- joins

  tree_turned : (t : Expr) (g : Facts) → Turned Late (emit L t g)
  unfolding emit
  tree_turned (Leaf p) g = condition_turned p g
  tree_turned (And l r) g =
      turned_bind Late (emit L l g) _ (tree_turned l g)
      (λ b. turned_bind Late (resolved _) _ (resolved_turned _) (λ b'. turned_bind Late (emit L r _) _ (tree_turned r _) (λ c. tt)))
  tree_turned (Or l r) g =
      turned_bind Late (or_hoist L _ g) _ (hoist_turned Late L kind_turned _ g)
      (λ h. turned_bind Late (emit L l _) _ (tree_turned l _)
      (λ b. turned_bind Late (resolved _) _ (resolved_turned _) (λ b'. turned_bind Late (emit L r _) _ (tree_turned r _) (λ c. tt))))
  tree_turned (Not t) g = turned_bind Late (emit L t g) _ (tree_turned t g) (λ b. turned_bind Late (resolved _) _ (resolved_turned _) (λ b'. tt))

pub compile_turned : (L : LinkType) (t : Expr) → Turned Late (compile L t)
unfolding compile
compile_turned L t =
    turned_bind Late (emit L t (entry_facts L)) _ (tree_turned L t (entry_facts L)) (λ c. turned_bind Late (resolved _) _ (resolved_turned _) (λ b. tt))
