-- T-03's page: the number that a tree meets on LinuxSll, and the trees that keep their programs.
use Rattle.std.specs.Prelude.{Option, None, Some}
use Rattle.std.specs.Prelude.{Ok, Err}
use Prim.Native.Nat.{ℕ, ◌%◌}
use mathlib.Core.Path.{◌≡◌, refl, ap}
use mathlib.Core.List.{List}
use mathlib.Core.Bool.{Bool, false, ◌||◌}
use mathlib.Core.Logic.{◌⊎◌, inl, inr}
use lib.Dec.{eqb}
use Rattle.error.specs.declared.Refusal.{Refusal}
use Rattle.error.specs.declared.Refusal.TheVariants.{FarJump, CookedAddress}
use Rattle.error.specs.Answer.{Out, ◌>>=◌}
use Rattle.std.proofs.lemmas.Bool.{or_parts}
use Rattle.error.proofs.All.{Turned, turned_cond}
use Rattle.bpf.specs.Bytes.{be}
use Rattle.ast.specs.declared.LinkType.{LinkType}
use Rattle.ast.specs.declared.LinkType.TheVariants.{Ethernet, RawIp, LinuxSll}
use Rattle.ast.specs.declared.Dir.{Dir}
use Rattle.ast.specs.declared.Dir.TheVariants.{Src, SrcAndDst}
use Rattle.ast.specs.declared.Primitive.{Primitive}
use Rattle.ast.specs.declared.Primitive.TheVariants.{Protocol, Port, PortRange, EtherHost, EtherProto, EtherMulticast, IpProtoChain, Ip6ProtoChain}
use Rattle.ast.specs.Tree.{Expr, Leaf, And, Or, Not}
use Rattle.direct.specs.Reading.{sides, bytes_are, reads_primitive}
use Rattle.codegen.specs.declared.Facts.{Facts}
use Rattle.codegen.specs.Facts.{holds, intersect}
use Rattle.codegen.specs.Protocols.{row_of, small_of, known, l4set_for}
use Rattle.codegen.specs.Guards.{required_guards}
use Rattle.codegen.specs.Block.{Block, far, resolved}
use Rattle.codegen.specs.Emit.{check_blocks, check_mac, Code, restored_after, emit_ethertype, ported, ether, emit_primitive, or_hoist, emit}
use Rattle.codegen.specs.Compile.{entry_facts, compile}
use Rattle.codegen.proofs.Refusals.{guarded_turned, l4_turned, row_turned, hoist_turned}
use Rattle.codegen.specs.Cooked.{of_address, refusal_in, turns_down, or_else, first_down, of_ether, holds_ether, primitive_before, walk, walked, Cooked}

-- ---- what an answer meets: a number, or 8; where there is none, 8 alone

IsFar : Refusal → Type 0
IsFar r = r ≡ FarJump

Meets : {A : Type 0} → Option Refusal → Out A → Type 0
Meets None o = Turned IsFar o
Meets (Some r) (Err x) = (x ≡ r) ⊎ (x ≡ FarJump)
Meets (Some r) (Ok a) = ⊥

met_far : (A : Type 0) (m : Option Refusal) (x : Refusal) → IsFar x → Meets {A = A} m (Err x)
unfolding Meets IsFar
met_far A None x e = e
met_far A (Some r) x e = inr e

met_bind : {A B : Type 0} (m n : Option Refusal) (o : Out A) (k : A → Out B) → Meets m o → ((a : A) → Meets n (k a)) → Meets (or_else m n) (o >>= k)
unfolding Meets
met_bind {B = B} None n (Err x) k h j = met_far B n x h
met_bind None n (Ok a) k h j = j a
met_bind (Some r) n (Err x) k h j = h
met_bind (Some r) n (Ok a) k h j = absurd h

-- only a jump may be too far after it
met_after : {A B : Type 0} (m : Option Refusal) (o : Out A) (k : A → Out B) → Meets m o → ((a : A) → Meets None (k a)) → Meets m (o >>= k)
met_after None o k h j = met_bind None None o k h j
met_after (Some r) o k h j = met_bind (Some r) None o k h j

-- nothing after it is turned down
met_last : {A B : Type 0} (m : Option Refusal) (o : Out A) (f : A → B) → Meets m o → Meets m (o >>= λ a. Ok (f a))
unfolding Meets
met_last None (Err x) f h = h
met_last None (Ok a) f h = tt
met_last (Some r) (Err x) f h = h
met_last (Some r) (Ok a) f h = absurd h

met_own : {A B : Type 0} (o : Out A) (f : A → B) → Meets (refusal_in o) (o >>= λ a. Ok (f a))
unfolding Meets
met_own (Err r) f = inl refl
met_own (Ok a) f = tt

resolved_met : (b : Block) → Meets None (resolved b)
unfolding Meets IsFar
resolved_met b = turned_cond IsFar (far b) _ _ refl tt

-- ---- conditions on LinuxSll

kind_never : (v : ℕ) (g : Facts) → Turned IsFar (emit_ethertype LinuxSll v g)
unfolding emit_ethertype
kind_never v g = turned_cond IsFar (holds g.ethertype v) _ _ tt tt

host_met : (d : Dir) (a : List ℕ) (g : Facts) → Meets (of_address d) (emit_primitive LinuxSll (EtherHost d a) g)
unfolding emit_primitive ether Meets
host_met Src a g = tt
host_met d a g = inl refl

condition_met : (p : Primitive) (g : Facts) → Meets (turns_down p) (emit_primitive LinuxSll p g)
unfolding emit_primitive ether ported Meets
condition_met (Protocol p) g = let r = row_of p in row_turned IsFar LinuxSll kind_never r.ethertype (known r.ip4_proto (small_of p)) (known r.ip6_nh (small_of p)) g
condition_met (Port d p k) g = met_own (l4set_for p) _
condition_met (PortRange d p lo hi) g = met_own (l4set_for p) _
condition_met (EtherHost d a) g = host_met d a g
condition_met (EtherProto v) g = kind_never v g
condition_met EtherMulticast g = inl refl
condition_met (IpProtoChain p) g = l4_turned IsFar LinuxSll kind_never _ _ _ _ p g
condition_met (Ip6ProtoChain p) g = l4_turned IsFar LinuxSll kind_never _ _ _ _ p g
condition_met p g = guarded_turned IsFar LinuxSll kind_never _ _ g

-- ---- trees on LinuxSll

tree_met : (t : Expr) (g : Facts) → Meets (first_down t) (emit LinuxSll t g)
unfolding emit first_down
tree_met (Leaf p) g = condition_met p g
tree_met (And l r) g =
    met_bind (first_down l) (first_down r) (emit LinuxSll l g) _ (tree_met l g)
    (λ b. met_bind None (first_down r) (resolved _) _ (resolved_met _) (λ b'. met_last (first_down r) (emit LinuxSll r _) _ (tree_met r _)))
tree_met (Or l r) g =
    met_bind None (or_else (first_down l) (first_down r)) (or_hoist LinuxSll (intersect (required_guards l) (required_guards r)) g) _ (unfold Meets in hoist_turned IsFar LinuxSll kind_never _ g)
    (λ h. met_bind (first_down l) (first_down r) (emit LinuxSll l h.facts) _ (tree_met l _)
    (λ b. met_bind None (first_down r) (resolved _) _ (resolved_met _) (λ b'. met_last (first_down r) (emit LinuxSll r _) _ (tree_met r _))))
tree_met (Not t) g = met_after (first_down t) (emit LinuxSll t g) _ (tree_met t g) (λ b. met_last None (resolved _) _ (resolved_met _))

compile_met : (t : Expr) → Meets (first_down t) (compile LinuxSll t)
unfolding compile
compile_met t = met_after (first_down t) (emit LinuxSll t (entry_facts LinuxSll)) _ (tree_met t _) (λ c. met_last None (resolved _) _ (resolved_met _))

first_down_lem : {A : Type 0} (o : Out A) (r : Refusal) → Meets (Some r) o → (o ≡ Err r) ⊎ (o ≡ Err FarJump)
unfolding Meets
first_down_lem (Err x) r (inl e) = inl (ap Err e)
first_down_lem (Err x) r (inr e) = inr (ap Err e)
first_down_lem (Ok a) r h = absurd h

free_far : {A : Type 0} (o : Out A) (r : Refusal) → Meets None o → o ≡ Err r → r ≡ FarJump
unfolding Meets IsFar
free_far (Err x) r h e = cc
free_far (Ok a) r h e = cc

-- ---- trees that are as before

bind_same : {A B : Type 0} (o : Out A) {j k : A → Out B} → ((a : A) → j a ≡ k a) → (o >>= j) ≡ (o >>= k)
bind_same (Err r) h = refl
bind_same (Ok a) h = h a

module _ (L : LinkType) where
  -- another link, or no kind 17 or 19
  Other : Bool → Type 0
  Other b = (¬ (L ≡ LinuxSll)) ⊎ (b ≡ false)

  other_left : (a b : Bool) → Other (a || b) → Other a
  unfolding Other
  other_left a b (inl n) = inl n
  other_left a b (inr e) = inr (or_parts a b e).0

  other_right : (a b : Bool) → Other (a || b) → Other b
  unfolding Other
  other_right a b (inl n) = inl n
  other_right a b (inr e) = inr (or_parts a b e).1

host_before : (L : LinkType) (d : Dir) (a : List ℕ) (g : Facts) → ¬ (L ≡ LinuxSll) → emit_primitive L (EtherHost d a) g ≡ primitive_before L (EtherHost d a) g
unfolding emit_primitive ether primitive_before check_blocks
host_before LinuxSll d a g n = absurd (n refl)
host_before Ethernet SrcAndDst a g n = refl
host_before RawIp SrcAndDst a g n = refl
host_before L d a g n = refl

multicast_before : (L : LinkType) (g : Facts) → ¬ (L ≡ LinuxSll) → emit_primitive L EtherMulticast g ≡ primitive_before L EtherMulticast g
unfolding emit_primitive ether primitive_before
multicast_before LinuxSll g n = absurd (n refl)
multicast_before L g n = refl

condition_before : (L : LinkType) (p : Primitive) (g : Facts) → Other L (of_ether p) → emit_primitive L p g ≡ primitive_before L p g
unfolding primitive_before Other
condition_before L (EtherHost d a) g (inl n) = host_before L d a g n
condition_before L (EtherHost d a) g (inr e) = cc
condition_before L EtherMulticast g (inl n) = multicast_before L g n
condition_before L EtherMulticast g (inr e) = cc
condition_before L p g o = refl

-- with other leaves that are the same on trees of which q holds, the walk is the same
module _ (L : LinkType) (q : Bool → Type 0) (left : (a b : Bool) → q (a || b) → q a) (right : (a b : Bool) → q (a || b) → q b)
    (leaf : Primitive → Facts → Out Code) (same : (p : Primitive) (g : Facts) → q (of_ether p) → emit_primitive L p g ≡ leaf p g) where
  tree_walks : (t : Expr) (g : Facts) → q (holds_ether t) → emit L t g ≡ walk L leaf t g
  unfolding emit walk holds_ether
  tree_walks (Leaf p) g o = same p g o
  tree_walks (And l r) g o =
      rw (tree_walks l g (left (holds_ether l) (holds_ether r) o))
      (bind_same (walk L leaf l g) (λ b. bind_same (resolved _) (λ b'. rw (tree_walks r b.facts (right (holds_ether l) (holds_ether r) o)))))
  tree_walks (Or l r) g o =
      bind_same (or_hoist L (intersect (required_guards l) (required_guards r)) g)
      (λ h. rw (tree_walks l h.facts (left (holds_ether l) (holds_ether r) o))
      (bind_same (walk L leaf l h.facts) (λ b. bind_same (resolved _) (λ b'. rw (tree_walks r (restored_after b.block h.facts) (right (holds_ether l) (holds_ether r) o))))))
  tree_walks (Not t) g o = rw (tree_walks t g o)

  compile_walks : (t : Expr) → q (holds_ether t) → compile L t ≡ walked L leaf t
  unfolding compile walked
  compile_walks t o = rw (tree_walks t (entry_facts L) o)

-- ---- direct readings

host_reads : (L : LinkType) (f : List ℕ) (d : Dir) (a : List ℕ) → ¬ (L ≡ LinuxSll) → reads_primitive L f (EtherHost d a) ≡ sides d (bytes_are f 6 a) (bytes_are f 0 a)
unfolding reads_primitive
host_reads LinuxSll f d a n = absurd (n refl)
host_reads L f d a n = refl

many_reads : (L : LinkType) (f : List ℕ) → ¬ (L ≡ LinuxSll) → reads_primitive L f EtherMulticast ≡ eqb (be 1 0 f % 2) 1
unfolding reads_primitive
many_reads LinuxSll f n = absurd (n refl)
many_reads L f n = refl

-- ---- the page

other_directions : (d : Dir) (a : List ℕ) (g : Facts) → ¬ (d ≡ Src) → emit_primitive LinuxSll (EtherHost d a) g ≡ Err CookedAddress
unfolding emit_primitive ether
other_directions Src a g n = absurd (n refl)
other_directions d a g n = refl

pub cooked : Cooked
unfolding Other
cooked = record {
  only = other_directions;
  multicast = λ g. unfold emit_primitive in unfold ether in refl;
  sender = λ a g. unfold emit_primitive in unfold ether in unfold check_mac in refl;
  reads = λ f d a. unfold reads_primitive in refl;
  nobody = λ f. unfold reads_primitive in refl;
  first = λ t r e. first_down_lem (compile LinuxSll t) r (rw e at (compile_met t));
  free = λ t r e. free_far (compile LinuxSll t) r (rw e at (compile_met t));
  walks = λ L t. compile_walks L (λ b. Unit {0}) (λ a b u. tt) (λ a b u. tt) (emit_primitive L) (λ p g u. refl) t tt;
  before = λ L t o. compile_walks L (Other L) (other_left L) (other_right L) (primitive_before L) (condition_before L) t o;
  host = host_reads;
  many = many_reads;
}
