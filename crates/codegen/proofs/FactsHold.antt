-- What the generator's facts say of a frame and of X, and that its ways to put facts together keep them true.
use Rattle.std.specs.Prelude.{Option, None, Some, IfSome}
use Prim.Native.Nat.{ℕ, ◌+◌, ◌*◌, ◌%◌, ◌^◌}
use mathlib.Core.Path.{◌≡◌, refl}
use mathlib.Core.List.{List}
use mathlib.Core.Bool.{Bool, true, false, cond, ◌&&◌, ◌||◌}
use lib.Dec.{eqb}
use borrow.Author.Tests.{eqb-true}
use Rattle.std.proofs.lemmas.Bool.{and_parts, and_from, or_left, or_right}
use Rattle.error.proofs.All.{cases}
use Rattle.bpf.specs.Bytes.{be}
use Rattle.ast.specs.declared.LinkType.{LinkType}
use Rattle.ast.specs.declared.LinkType.TheVariants.{RawIp}
use Rattle.direct.specs.Reading.{kind}
use Rattle.codegen.specs.declared.L4Set.{L4Set}
use Rattle.codegen.specs.declared.L4Set.TheVariants.{One, TcpOrUdp}
use Rattle.codegen.specs.declared.Facts.{Facts}
use Rattle.codegen.specs.Facts.{contains, subset_of, same_set, join, fill, both, join_ports, learn_ethertype, learn_ip4, learn_ip6, restored, meet}
use Rattle.codegen.specs.Emit.{net_offset}
use Rattle.codegen.proofs.KnownLaws.{of_two_lem, says_fill, says_left, says_right, same_set_eq}

-- ---- Bool

pub or_cases : {A : Type 0} (b c : Bool) → (b ≡ true → A) → (c ≡ true → A) → (b || c) ≡ true → A
or_cases true c p q e = p refl
or_cases false c p q e = q e

-- ---- sets of protocols

pub subset_contains : (a b : L4Set) (n : ℕ) → subset_of a b ≡ true → contains a n ≡ true → contains b n ≡ true
subset_contains (One p) b n w h = rw (eqb-true n p h) w
subset_contains TcpOrUdp (One q) n w h = cc
subset_contains TcpOrUdp TcpOrUdp n w h = h

-- what a test passes
abbrev pub Passes : {A : Type 0} → (A → Bool) → A → Type 0
Passes q a = q a ≡ true

-- a test that a larger set passes too
abbrev Grows : (L4Set → Bool) → Type 0
Grows q = (a b : L4Set) → subset_of a b ≡ true → q a ≡ true → q b ≡ true

-- a join passes what its set `s`, the left or the right, passes
join_passes : (q : L4Set → Bool) → Grows q → (a b s : L4Set) → (same_set a b ≡ true → q a ≡ true) → ((subset_of a TcpOrUdp && subset_of b TcpOrUdp) ≡ true → subset_of s TcpOrUdp ≡ true)
    → q s ≡ true → IfSome (join a b) (Passes q)
join_passes q g a b s same sub h =
    cases (λ k. IfSome k (Passes q)) (same_set a b) (λ e. same e)
    (λ n. cases (λ k. IfSome k (Passes q)) (subset_of a TcpOrUdp && subset_of b TcpOrUdp) (λ e. g s TcpOrUdp (sub e) h) (λ e. tt))

pub join_left : (q : L4Set → Bool) → Grows q → (k l : Option L4Set) → IfSome k (Passes q) → IfSome (join_ports k l) (Passes q)
join_left q g k l = of_two_lem join (Passes q) (λ k l. IfSome k (Passes q)) (λ a b h. join_passes q g a b a (λ e. h) (λ e. (and_parts (subset_of a TcpOrUdp) _ e).0) h) k l

pub join_right : (q : L4Set → Bool) → Grows q → (k l : Option L4Set) → IfSome l (Passes q) → IfSome (join_ports k l) (Passes q)
join_right q g k l = of_two_lem join (Passes q) (λ k l. IfSome l (Passes q)) (λ a b h. join_passes q g a b b (λ e. rw (same_set_eq a b e) h) (λ e. (and_parts (subset_of a TcpOrUdp) _ e).1) h) k l

-- ---- RawIp keeps the ethertype 0x0800 with which it starts

abbrev pub Raw : LinkType → Option ℕ → Type 0
Raw RawIp k = k ≡ Some 0x0800
Raw L k = Unit {0}

pub raw_fill : (L : LinkType) (k : Option ℕ) (v : ℕ) → Raw L k → Raw L (fill k v)
raw_fill RawIp k v h = rw h
raw_fill L k v h = tt

pub raw_both : (L : LinkType) (k l : Option ℕ) → Raw L k → Raw L l → Raw L (both k l)
raw_both RawIp k l h j = rw (h, j)
raw_both L k l h j = tt

-- ---- facts

module _ (L : LinkType) (f : List ℕ) where
  -- the packet is the first or only part of an IPv4 packet
  abbrev pub first_part : Bool
  first_part = eqb (be 2 (net_offset L + 6) f % 2 ^ 13) 0

  -- the packet has ports of a protocol of the set
  unfoldable pub has_ports : L4Set → Bool
  has_ports set =
      (kind L f 0x0800 && (contains set (be 1 (net_offset L + 9) f) && first_part))
      || (kind L f 0x86dd && (contains set (be 1 (net_offset L + 6) f) && true))

  -- the length of the network header, by the kind
  unfoldable pub header_length : ℕ
  header_length = cond (kind L f 0x0800) (4 * (be 1 (net_offset L) f % 16)) 40

  pub has_ports_grows : Grows has_ports
  unfolding has_ports
  has_ports_grows a b w h =
      or_cases (kind L f 0x0800 && (contains a (be 1 (net_offset L + 9) f) && first_part)) (kind L f 0x86dd && (contains a (be 1 (net_offset L + 6) f) && true))
      (λ p. or_left _ _ (part (kind L f 0x0800) (be 1 (net_offset L + 9) f) first_part p)) (λ p. or_right _ _ (part (kind L f 0x86dd) (be 1 (net_offset L + 6) f) true p)) h
    where
      part : (k : Bool) (n : ℕ) (z : Bool) → (k && (contains a n && z)) ≡ true → (k && (contains b n && z)) ≡ true
      part true n z e = and_from (contains b n) z (subset_contains a b n w (and_parts (contains a n) z e).0) (and_parts (contains a n) z e).1
      part false n z e = e

  -- ports are ready for a set: the prologue passed, and X is the header's length
  abbrev pub ready_at : ℕ → L4Set → Bool
  ready_at x set = has_ports set && eqb x header_length

  ready_at_grows : (x : ℕ) → Grows (ready_at x)
  ready_at_grows x a b w h =
      and_from (has_ports b) (eqb x header_length) (has_ports_grows a b w (and_parts (has_ports a) (eqb x header_length) h).0) (and_parts (has_ports a) (eqb x header_length) h).1

  -- what facts say: the ethertype, the protocol bytes, and that ports are ready
  pub record Holds (g : Facts) (x : ℕ) : Type 0 where
    pub ethertype : IfSome g.ethertype (Passes (kind L f))
    pub ip4 : IfSome g.ip4_proto (Passes (eqb (be 1 (net_offset L + 9) f)))
    pub ip6 : IfSome g.ip6_nh (Passes (eqb (be 1 (net_offset L + 6) f)))
    pub ports : IfSome g.ports_ready (Passes (ready_at x))

  pub holds_meet_left : (g h : Facts) (x : ℕ) → Holds g x → Holds (meet g h) x
  holds_meet_left g h x k =
      record {
        ethertype = says_left eqb g.ethertype h.ethertype _ k.ethertype;
        ip4 = says_left eqb g.ip4_proto h.ip4_proto _ k.ip4;
        ip6 = says_left eqb g.ip6_nh h.ip6_nh _ k.ip6;
        ports = join_left (ready_at x) (ready_at_grows x) g.ports_ready h.ports_ready k.ports;
      }

  pub holds_meet_right : (g h : Facts) (x : ℕ) → Holds h x → Holds (meet g h) x
  holds_meet_right g h x k =
      record {
        ethertype = says_right eqb eqb-true g.ethertype h.ethertype _ k.ethertype;
        ip4 = says_right eqb eqb-true g.ip4_proto h.ip4_proto _ k.ip4;
        ip6 = says_right eqb eqb-true g.ip6_nh h.ip6_nh _ k.ip6;
        ports = join_right (ready_at x) (ready_at_grows x) g.ports_ready h.ports_ready k.ports;
      }

  kept_ports : (w : Bool) (k : Option L4Set) (x y : ℕ) → (w ≡ false → y ≡ x) → IfSome k (Passes (ready_at x)) → IfSome (cond w None k) (Passes (ready_at y))
  kept_ports true k x y e h = tt
  kept_ports false k x y e h = rw (e refl) h

  pub holds_restored : (w : Bool) (g : Facts) (x y : ℕ) → Holds g x → (w ≡ false → y ≡ x) → Holds (restored w g) y
  holds_restored w g x y h e = record { ethertype = h.ethertype; ip4 = h.ip4; ip6 = h.ip6; ports = kept_ports w g.ports_ready x y e h.ports }

  pub holds_ethertype : (g : Facts) (v x : ℕ) → Holds g x → kind L f v ≡ true → Holds (learn_ethertype g v) x
  holds_ethertype g v x h e = record { ethertype = says_fill g.ethertype _ v h.ethertype e; ip4 = h.ip4; ip6 = h.ip6; ports = h.ports }

  pub holds_ip4 : (g : Facts) (v x : ℕ) → Holds g x → eqb (be 1 (net_offset L + 9) f) v ≡ true → Holds (learn_ip4 g v) x
  holds_ip4 g v x h e = record { ethertype = h.ethertype; ip4 = says_fill g.ip4_proto _ v h.ip4 e; ip6 = h.ip6; ports = h.ports }

  pub holds_ip6 : (g : Facts) (v x : ℕ) → Holds g x → eqb (be 1 (net_offset L + 6) f) v ≡ true → Holds (learn_ip6 g v) x
  holds_ip6 g v x h e = record { ethertype = h.ethertype; ip4 = h.ip4; ip6 = says_fill g.ip6_nh _ v h.ip6 e; ports = h.ports }
