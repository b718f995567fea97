-- "Facts: ethertype, IPv4 protocol, IPv6 next header, ports ready." codegen.rs `L4Set`, `Facts`, `GuardSet`.
use Rattle.std.specs.Prelude.{Option, None, Some}
use Rattle.std.specs.Prelude.{ℕ, Bool, true, false, cond, ◌&&◌, ◌||◌, eqb}
use Rattle.codegen.specs.declared.L4Set.{L4Set}
use Rattle.codegen.specs.declared.L4Set.TheVariants.{One, TcpOrUdp}
use Rattle.codegen.specs.declared.Facts.{Facts}
use Rattle.codegen.specs.declared.GuardSet.{GuardSet}

-- ---- `L4Set`

abbrev pub contains : L4Set → ℕ → Bool
contains (One x) p = eqb p x
contains TcpOrUdp p = eqb p 6 || eqb p 17

abbrev pub subset_of : L4Set → L4Set → Bool
subset_of (One a) o = contains o a
subset_of TcpOrUdp (One b) = false
subset_of TcpOrUdp TcpOrUdp = true

abbrev pub same_set : L4Set → L4Set → Bool
same_set (One a) (One b) = eqb a b
same_set (One a) TcpOrUdp = false
same_set TcpOrUdp (One b) = false
same_set TcpOrUdp TcpOrUdp = true

-- the smallest set with both, if there is one
abbrev pub join : L4Set → L4Set → Option L4Set
join a b = cond (same_set a b) (Some a) (cond (subset_of a TcpOrUdp && subset_of b TcpOrUdp) (Some TcpOrUdp) None)

-- ---- what may be known

-- "A fact is only filled where empty"
abbrev pub fill : Option ℕ → ℕ → Option ℕ
fill None v = Some v
fill (Some w) v = Some w

abbrev pub holds : Option ℕ → ℕ → Bool
holds None v = false
holds (Some w) v = eqb w v

-- what either knows, the left first
abbrev pub or : {A : Type 0} → Option A → Option A → Option A
or None y = y
or (Some a) y = Some a

-- what is made of two values, where there are two
abbrev pub of_two : {A : Type 0} → (A → A → Option A) → Option A → Option A → Option A
of_two f None y = None
of_two f (Some a) None = None
of_two f (Some a) (Some b) = f a b

-- what both know, where it is the same
abbrev pub same : {A : Type 0} → (A → A → Bool) → Option A → Option A → Option A
same eq = of_two (λ a b. cond (eq a b) (Some a) None)

abbrev pub both : Option ℕ → Option ℕ → Option ℕ
both = same eqb

abbrev pub both_ports : Option L4Set → Option L4Set → Option L4Set
both_ports = same same_set

abbrev pub join_ports : Option L4Set → Option L4Set → Option L4Set
join_ports = of_two join

-- an earlier prologue, at least as strict, has passed
abbrev pub as_strict : Option L4Set → L4Set → Bool
as_strict None want = false
as_strict (Some have) want = subset_of have want

abbrev pub ready_for : Option L4Set → L4Set → Bool
ready_for = as_strict

-- ---- `Facts`

abbrev pub no_facts : Facts
no_facts = record { ethertype = None; ip4_proto = None; ip6_nh = None; ports_ready = None }

abbrev pub learn_ethertype : Facts → ℕ → Facts
learn_ethertype g v = record { ethertype = fill g.ethertype v; ip4_proto = g.ip4_proto; ip6_nh = g.ip6_nh; ports_ready = g.ports_ready }

abbrev pub learn_ip4 : Facts → ℕ → Facts
learn_ip4 g v = record { ethertype = g.ethertype; ip4_proto = fill g.ip4_proto v; ip6_nh = g.ip6_nh; ports_ready = g.ports_ready }

abbrev pub learn_ip6 : Facts → ℕ → Facts
learn_ip6 g v = record { ethertype = g.ethertype; ip4_proto = g.ip4_proto; ip6_nh = fill g.ip6_nh v; ports_ready = g.ports_ready }

-- "'ports ready' is replaced"
abbrev pub with_ports : Facts → Option L4Set → Facts
with_ports g r = record { ethertype = g.ethertype; ip4_proto = g.ip4_proto; ip6_nh = g.ip6_nh; ports_ready = r }

-- entry facts restored after code that may have written X: "without ports ready if the left wrote X"
abbrev pub restored : Bool → Facts → Facts
restored wrote_x g = with_ports g (cond wrote_x None g.ports_ready)

-- "after it `Facts::meet` holds": what is known where two paths join
abbrev pub meet : Facts → Facts → Facts
meet g h =
    record {
      ethertype = both g.ethertype h.ethertype;
      ip4_proto = both g.ip4_proto h.ip4_proto;
      ip6_nh = both g.ip6_nh h.ip6_nh;
      ports_ready = join_ports g.ports_ready h.ports_ready;
    }

-- ---- `GuardSet`

abbrev pub no_guards : GuardSet
no_guards = record { ethertype = None; ip4_proto = None; ip6_nh = None; port_prereqs = None }

-- guards of a conjunction: "anything either side requires"
abbrev pub union : GuardSet → GuardSet → GuardSet
union g h =
    record {
      ethertype = or g.ethertype h.ethertype;
      ip4_proto = or g.ip4_proto h.ip4_proto;
      ip6_nh = or g.ip6_nh h.ip6_nh;
      port_prereqs = or g.port_prereqs h.port_prereqs;
    }

-- guards of a disjunction: "only what both sides require"
abbrev pub intersect : GuardSet → GuardSet → GuardSet
intersect g h =
    record {
      ethertype = both g.ethertype h.ethertype;
      ip4_proto = both g.ip4_proto h.ip4_proto;
      ip6_nh = both g.ip6_nh h.ip6_nh;
      port_prereqs = both_ports g.port_prereqs h.port_prereqs;
    }
