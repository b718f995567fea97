-- What holds of a value that is known, and of a set that ports are ready for: the ways to put facts and guards together keep it.
use Rattle.std.specs.Prelude.{Option, None, Some, IfSome}
use Prim.Native.Nat.{ℕ}
use mathlib.Core.Path.{◌≡◌, refl, ap}
use mathlib.Core.Bool.{Bool, true}
use lib.Dec.{eqb}
use borrow.Author.Tests.{eqb-true}
use Rattle.error.proofs.All.{cases, either}
use Rattle.codegen.specs.declared.L4Set.{L4Set}
use Rattle.codegen.specs.declared.L4Set.TheVariants.{One, TcpOrUdp}
use Rattle.codegen.specs.declared.GuardSet.{GuardSet}
use Rattle.codegen.specs.Facts.{of_two, same, same_set, fill, holds, or, union, intersect}

pub says_fill : (k : Option ℕ) (q : ℕ → Type 0) (a : ℕ) → IfSome k q → q a → IfSome (fill k a) q
says_fill None q a h e = e
says_fill (Some b) q a h e = search h

pub says_holds : (k : Option ℕ) (v : ℕ) (q : ℕ → Type 0) → IfSome k q → holds k v ≡ true → q v
says_holds None v q h e = cc
says_holds (Some w) v q h e = rw (← (eqb-true w v e)) h

says_or : {A : Type 0} (k l : Option A) (q : A → Type 0) → IfSome k q → IfSome l q → IfSome (or k l) q
says_or None l q h j = j
says_or (Some a) l q h j = h

-- what is made of two values says q where r holds of them, if that is so of every two
pub of_two_lem : {A : Type 0} (f : A → A → Option A) (q : A → Type 0) (r : Option A → Option A → Type 0) → ((a b : A) → r (Some a) (Some b) → IfSome (f a b) q)
    → (k l : Option A) → r k l → IfSome (of_two f k l) q
of_two_lem f q r w None l h = tt
of_two_lem f q r w (Some a) None h = tt
of_two_lem f q r w (Some a) (Some b) h = w a b h

module _ {A : Type 0} (eq : A → A → Bool) where
  pub says_left : (k l : Option A) (q : A → Type 0) → IfSome k q → IfSome (same eq k l) q
  says_left k l q = of_two_lem _ q (λ k l. IfSome k q) (λ a b h. either (λ k. IfSome k q) (eq a b) h tt) k l

  pub says_right : ((a b : A) → eq a b ≡ true → a ≡ b) → (k l : Option A) (q : A → Type 0) → IfSome l q → IfSome (same eq k l) q
  says_right e k l q = of_two_lem _ q (λ k l. IfSome l q) (λ a b h. cases (λ k. IfSome k q) (eq a b) (λ t. rw (e a b t) h) (λ t. tt)) k l

pub same_set_eq : (a b : L4Set) → same_set a b ≡ true → a ≡ b
same_set_eq (One p) (One q) e = ap One (eqb-true p q e)
same_set_eq (One p) TcpOrUdp e = cc
same_set_eq TcpOrUdp (One q) e = cc
same_set_eq TcpOrUdp TcpOrUdp e = refl

-- ---- guards

pub record GuardsSay (e p n : ℕ → Type 0) (s : L4Set → Type 0) (g : GuardSet) : Type 0 where
  pub ethertype : IfSome g.ethertype e
  pub ip4 : IfSome g.ip4_proto p
  pub ip6 : IfSome g.ip6_nh n
  pub ports : IfSome g.port_prereqs s

module _ {e p n : ℕ → Type 0} {s : L4Set → Type 0} (g h : GuardSet) where
  pub union_says : GuardsSay e p n s g → GuardsSay e p n s h → GuardsSay e p n s (union g h)
  union_says m k =
      record {
        ethertype = says_or g.ethertype h.ethertype e m.ethertype k.ethertype;
        ip4 = says_or g.ip4_proto h.ip4_proto p m.ip4 k.ip4;
        ip6 = says_or g.ip6_nh h.ip6_nh n m.ip6 k.ip6;
        ports = says_or g.port_prereqs h.port_prereqs s m.ports k.ports;
      }

  pub intersect_left : GuardsSay e p n s g → GuardsSay e p n s (intersect g h)
  intersect_left m =
      record {
        ethertype = says_left eqb g.ethertype h.ethertype e m.ethertype;
        ip4 = says_left eqb g.ip4_proto h.ip4_proto p m.ip4;
        ip6 = says_left eqb g.ip6_nh h.ip6_nh n m.ip6;
        ports = says_left same_set g.port_prereqs h.port_prereqs s m.ports;
      }

  pub intersect_right : GuardsSay e p n s h → GuardsSay e p n s (intersect g h)
  intersect_right m =
      record {
        ethertype = says_right eqb eqb-true g.ethertype h.ethertype e m.ethertype;
        ip4 = says_right eqb eqb-true g.ip4_proto h.ip4_proto p m.ip4;
        ip6 = says_right eqb eqb-true g.ip6_nh h.ip6_nh n m.ip6;
        ports = says_right same_set same_set_eq g.port_prereqs h.port_prereqs s m.ports;
      }
