-- The port prologue decides whether the packet has ports of the wanted protocols, and then X is the length of the network header.
use Rattle.std.specs.Prelude.{Option, None, Some, IfSome}
use Prim.Native.Nat.{ℕ, ◌+◌, ◌*◌, ◌%◌, ◌^◌}
use mathlib.Core.Path.{◌≡◌, refl, sym, ap, ◌∙◌}
use mathlib.Core.List.{List, ◌++◌}
use mathlib.Core.Bool.{Bool, true, false, cond, ◌&&◌, and-true, or-false, false≢true, true≢false}
use lib.Dec.{eqb}
use borrow.Author.Tests.{eqb-true, eq-eqb}
use Rattle.std.proofs.lemmas.Bool.{and_parts, and_from}
use Rattle.error.proofs.All.{cases, either}
use Rattle.bpf.specs.Bytes.{be}
use Rattle.ast.specs.declared.LinkType.{LinkType}
use Rattle.ast.specs.declared.LinkType.TheVariants.{Ethernet, RawIp, LinuxSll}
use Rattle.direct.specs.Reading.{kind}
use Rattle.codegen.specs.declared.L4Set.{L4Set}
use Rattle.codegen.specs.declared.L4Set.TheVariants.{One, TcpOrUdp}
use Rattle.codegen.specs.declared.Facts.{Facts}
use Rattle.codegen.specs.Facts.{as_strict, contains, holds, ready_for, learn_ip4, learn_ip6, with_ports}
use Rattle.codegen.specs.declared.Width.TheVariants.{Byte, Half}
use Rattle.codegen.specs.declared.Test.TheVariants.{Jeq, Jset}
use Rattle.codegen.specs.Block.{Block}
use Rattle.codegen.specs.Emit.{net_offset, ether_proto_offset, Code, code, l4_set_check, l4_check, header4, header6, fork, dual_path, Prologue, pinned, version, learn_set, established, dual, port_prereqs}
use Rattle.codegen.proofs.Laws.{With, OfX, Never, Decides, seq, equal, given, learning, known, load, load_x, set_x, needed, barred, over, forked, supposing, lastly}
use Rattle.codegen.proofs.Numbers.{low_zero}
use Rattle.codegen.proofs.KnownLaws.{says_holds}
use Rattle.codegen.proofs.FactsHold.{Passes, Raw, first_part, has_ports, header_length, has_ports_grows, ready_at, Holds, holds_restored, holds_ip4, holds_ip6}

module _ {f : List ℕ} {G : ℕ → Type 0} where
  set_decides : (want : L4Set) (v : ℕ) → Decides f Never (With v G) (l4_set_check want) (contains want v) (OfX G)
  unfolding l4_set_check
  set_decides (One p) v = lastly Jeq p
  set_decides TcpOrUdp v = over Jeq 6 (lastly Jeq 17)

  l4_decides : (at : ℕ) (want : L4Set) → Decides f Never (OfX G) (l4_check at want) (contains want (be 1 at f)) (OfX G)
  unfolding l4_check
  l4_decides at want = load Byte at (set_decides want (be 1 at f))

  header4_decides : (n : ℕ) (H : ℕ → Type 0) → ((x : ℕ) → G x → H (4 * (be 1 n f % 16)))
      → Decides f Never (OfX G) (header4 n) (eqb (be 2 (n + 6) f % 2 ^ 13) 0) (OfX H)
  unfolding header4
  header4_decides n H w =
      equal (and-true _ ∙ low_zero (be 2 (n + 6) f) 13)
      (load Half (n + 6) (barred Jset 0x1fff (given (λ a x g. g.1) (load_x n w (known (λ a x h. (refl, h)))))))

  header6_decides : (H : ℕ → Type 0) → ((x : ℕ) → G x → H 40) → Decides f Never (OfX G) header6 true (OfX H)
  unfolding header6
  header6_decides H w = set_x 40 w (known (λ a x h. (refl, h)))

-- ---- the ethertype's place

-- h at the ethertype's place tells the kind
pub kind_at : (L : LinkType) (f : List ℕ) (off v : ℕ) → ether_proto_offset L ≡ Some off → eqb (be 2 off f) v ≡ kind L f v
unfolding kind
kind_at RawIp f off v e = cc
kind_at L f off v e = cc

-- a link with no ethertype knows its kind
raw_known : (L : LinkType) (k : Option ℕ) → ether_proto_offset L ≡ None → Raw L k → holds k 0x0800 ≡ false → ⊥
raw_known RawIp k e r h = true≢false (rw r at h)
raw_known L k e r h = cc

module _ (L : LinkType) (f : List ℕ) where
  -- the facts, and X is the length of the network header
  abbrev pub Ported : Facts → ℕ → Type 0
  Ported g x = Holds L f g x × (x ≡ header_length L f)

  -- ports are ready
  readied : (g : Facts) (set : L4Set) (x : ℕ) → Holds L f (with_ports g None) x → x ≡ header_length L f → has_ports L f set ≡ true → Ported (with_ports g (Some set)) x
  readied g set x h e p = (
    record {
      ethertype = h.ethertype;
      ip4 = h.ip4;
      ip6 = h.ip6;
      ports = and_from (has_ports L f set) (eqb x (header_length L f)) p (eq-eqb x (header_length L f) e);
    },
    e,
  )

  -- ---- one version: its protocol byte stands at `at`, its other condition is Z and its header's length is X

  module _ (at X : ℕ) (Z : Bool) (header : Block)
      (ends : (G H : ℕ → Type 0) → ((x : ℕ) → G x → H X) → Decides f Never (OfX G) header Z (OfX H))
      (has : (set : L4Set) → has_ports L f set ≡ (contains set (be 1 at f) && Z))
      (long : header_length L f ≡ X) where
    -- what a prologue leaves: the facts but for ports, X, and that a set passed
    abbrev Passed : Facts → L4Set → ℕ → Type 0
    Passed g set x = Holds L f (with_ports g None) x × (x ≡ X) × (has_ports L f set ≡ true)

    Base : Facts → ℕ → Type 0
    Base g x = Holds L f (with_ports g None) x × (x ≡ X)

    base : (g : Facts) → Decides f Never (OfX (Holds L f g)) header Z (OfX (Base g))
    unfolding Base
    base g = ends (Holds L f g) (Base g) (λ x h. (holds_restored L f true g x X h (λ e. absurd (true≢false e)), refl))

    fresh : (want : L4Set) (g : Facts) → Decides f Never (OfX (Holds L f g)) (l4_check at want ++ header) (has_ports L f want) (OfX (Passed g want))
    unfolding Base
    fresh want g = learning (λ a x e h. (h.0, h.1, e)) (equal (sym (has want)) (seq (l4_decides at want) (base g)))

    pinned_decides : (want : L4Set) (k : Option ℕ) (g : Facts) → ((x : ℕ) → Holds L f g x → IfSome k (Passes (eqb (be 1 at f))))
        → Decides f Never (OfX (Holds L f g)) (pinned k at want header).block (has_ports L f want) (OfX (Passed g (pinned k at want header).set))
    pinned_decides want None g i = fresh want g
    pinned_decides want (Some p) g i = go (contains want p) refl
      where
        go : (b : Bool) → contains want p ≡ b
            → let q = cond {A = Prologue} b (record { block = header; set = One p }) (record { block = l4_check at want ++ header; set = want }) in
            Decides f Never (OfX (Holds L f g)) q.block (has_ports L f want) (OfX (Passed g q.set))
        go true e =
            unfold Base in supposing (λ a x h. i x h)
            (λ q. learning (λ a x t h. (h.0, h.1, has (One p) ∙ and_from (eqb (be 1 at f) p) Z q (and_parts (contains want (be 1 at f)) Z (sym (has want) ∙ t)).1))
            (equal (sym (has want ∙ ap (λ n. contains want n && Z) (eqb-true (be 1 at f) p q) ∙ ap (λ b. b && Z) e)) (base g)))
        go false e = fresh want g

    version_block : (want : L4Set) (r : Option L4Set) (k : Option ℕ) (g : Facts)
        → ((x : ℕ) → Holds L f g x → IfSome r (Passes (ready_at L f x))) → ((x : ℕ) → Holds L f g x → IfSome k (Passes (eqb (be 1 at f))))
        → Decides f Never (OfX (Holds L f g)) (version r k at want header).block (has_ports L f want) (OfX (Passed g (version r k at want header).set))
    version_block want (Some have) k g i j =
        supposing (λ a x h. (and_parts (contains have (be 1 at f)) Z (sym (has have) ∙ (and_parts (has_ports L f have) (eqb x (header_length L f)) (i x h)).0)).1)
        (λ z. learning
        (λ a x e h. (
          holds_restored L f true g x x h (λ e. refl),
          eqb-true x (header_length L f) (and_parts (has_ports L f have) (eqb x (header_length L f)) (i x h)).1 ∙ long,
          e,
        ))
        (equal (sym (has want ∙ ap (λ b. contains want (be 1 at f) && b) z ∙ and-true _)) (l4_decides at want)))
    version_block want None k g i j = pinned_decides want k g j

    module _ (get : Facts → Option ℕ) (learn : Facts → ℕ → Facts)
        (gets : (g : Facts) (x : ℕ) → Holds L f g x → IfSome (get g) (Passes (eqb (be 1 at f))))
        (learns : (g : Facts) (p x : ℕ) → Holds L f g x → eqb (be 1 at f) p ≡ true → Holds L f (learn g p) x)
        (keeps : (g : Facts) (p : ℕ) (r : Option L4Set) → learn (with_ports g r) p ≡ with_ports (learn g p) r) where
      learned : (g : Facts) (set : L4Set) (x : ℕ) → Passed g set x → Ported (with_ports (learn_set learn g set) (Some set)) x
      learned g (One p) x h =
          let k = readied g (One p) x h.0 (h.1 ∙ sym long) h.2 in (
            rw (← keeps g p (Some (One p)))
                (learns (with_ports g (Some (One p))) p x k.0 (and_parts (eqb (be 1 at f) p) Z (sym (has (One p)) ∙ h.2)).0),
            k.1,
          )
      learned g TcpOrUdp x h = readied g TcpOrUdp x h.0 (h.1 ∙ sym long) h.2

      version_decides : (want : L4Set) (g : Facts)
          → let c = established learn g (version g.ports_ready (get g) at want header) in
          Decides f Never (OfX (Holds L f g)) c.block (has_ports L f want) (OfX (Ported c.facts))
      version_decides want g =
          learning (λ a x e h. learned g _ x h) (version_block want g.ports_ready (get g) g (λ x h. h.ports) (λ x h. gets g x h))

  -- ---- the kinds exclude one another

  pub kind_other : (v w : ℕ) → eqb v w ≡ false → kind L f v ≡ true → kind L f w ≡ false
  unfolding kind
  kind_other v w n e = go L e
    where
      known_other : (m : ℕ) → eqb m v ≡ true → eqb m w ≡ false
      known_other m q = rw (eqb-true m v q) n

      raw : (b : Bool) → eqb w 0x0800 ≡ b → eqb v 0x0800 ≡ true → b ≡ false
      raw true p q = absurd (true≢false (sym (eq-eqb v w (eqb-true v 0x0800 q ∙ sym (eqb-true w 0x0800 p))) ∙ n))
      raw false p q = refl

      go : (l : LinkType) → kind l f v ≡ true → kind l f w ≡ false
      go Ethernet q = known_other (be 2 12 f) q
      go RawIp q = raw (eqb w 0x0800) refl q
      go LinuxSll q = known_other (be 2 14 f) q

  ports_4 : kind L f 0x0800 ≡ true → (set : L4Set) → has_ports L f set ≡ (contains set (be 1 (net_offset L + 9) f) && first_part L f)
  unfolding has_ports
  ports_4 k set = rw (k, kind_other 0x0800 0x86dd refl k) (or-false _)

  header_4 : kind L f 0x0800 ≡ true → header_length L f ≡ 4 * (be 1 (net_offset L) f % 16)
  unfolding header_length
  header_4 k = rw k

  ports_6 : kind L f 0x86dd ≡ true → (set : L4Set) → has_ports L f set ≡ (contains set (be 1 (net_offset L + 6) f) && true)
  unfolding has_ports
  ports_6 k set = rw (k, kind_other 0x86dd 0x0800 refl k)

  header_6 : kind L f 0x86dd ≡ true → header_length L f ≡ 40
  unfolding header_length
  header_6 k = rw (kind_other 0x86dd 0x0800 refl k)

  -- ---- the prologue

  -- what a piece of code decides, and that X is then the header's length
  abbrev pub Readies : Facts → L4Set → Code → Type 0
  Readies g want c = Decides f Never (OfX (Holds L f g)) c.block (has_ports L f want) (OfX (Ported c.facts))

  already : (r : Option L4Set) (want : L4Set) (x : ℕ) → as_strict r want ≡ true → IfSome r (Passes (ready_at L f x)) → (has_ports L f want ≡ true) × (x ≡ header_length L f)
  already None want x e h = absurd (false≢true e)
  already (Some have) want x e h = (
    has_ports_grows L f have want e (and_parts (has_ports L f have) (eqb x (header_length L f)) h).0,
    eqb-true x (header_length L f) (and_parts (has_ports L f have) (eqb x (header_length L f)) h).1,
  )

  known_4 : (want : L4Set) (g : Facts) → holds g.ethertype 0x0800 ≡ true
      → Readies g want (established learn_ip4 g (version g.ports_ready g.ip4_proto (net_offset L + 9) want (header4 (net_offset L))))
  known_4 want g e =
      supposing (λ a x h. says_holds g.ethertype 0x0800 (Passes (kind L f)) h.ethertype e)
      (λ k. version_decides (net_offset L + 9) (4 * (be 1 (net_offset L) f % 16)) (first_part L f) (header4 (net_offset L))
      (λ G H w. header4_decides (net_offset L) H w) (ports_4 k) (header_4 k) (λ g. g.ip4_proto) learn_ip4
      (λ g x h. h.ip4) (λ g p x h. holds_ip4 L f g p x h) (λ g p r. refl) want g)

  known_6 : (want : L4Set) (g : Facts) → holds g.ethertype 0x86dd ≡ true
      → Readies g want (established learn_ip6 g (version g.ports_ready g.ip6_nh (net_offset L + 6) want header6))
  known_6 want g e =
      supposing (λ a x h. says_holds g.ethertype 0x86dd (Passes (kind L f)) h.ethertype e)
      (λ k. version_decides (net_offset L + 6) 40 true header6
      (λ G H w. header6_decides H w) (ports_6 k) (header_6 k) (λ g. g.ip6_nh) learn_ip6
      (λ g x h. h.ip6) (λ g p x h. holds_ip6 L f g p x h) (λ g p r. refl) want g)

  -- where nothing is known of the kind, it is tested
  module _ (g : Facts) (off : ℕ) (at_off : (v : ℕ) → eqb (be 2 off f) v ≡ kind L f v) (want : L4Set) where
    four : Bool
    four = contains want (be 1 (net_offset L + 9) f) && first_part L f

    dual_ports : cond (eqb (be 2 off f) 0x86dd) (contains want (be 1 (net_offset L + 6) f) && true) (eqb (be 2 off f) 0x0800 && four) ≡ has_ports L f want
    unfolding has_ports four
    dual_ports = go (eqb (be 2 off f) 0x86dd) refl
      where
        go : (b : Bool) → eqb (be 2 off f) 0x86dd ≡ b
            → cond b (contains want (be 1 (net_offset L + 6) f) && true) (eqb (be 2 off f) 0x0800 && four) ≡ has_ports L f want
        go true e = sym (ports_6 (sym (at_off 0x86dd) ∙ e) want)
        go false e = rw (← at_off 0x0800, ← at_off 0x86dd, e) (sym (or-false _))

    Bare : ℕ → ℕ → Type 0
    Bare n x = Holds L f (with_ports g None) x × (x ≡ n)

    bare : (n x : ℕ) → Holds L f g x → Bare n n
    unfolding Bare
    bare n x h = (holds_restored L f true g x n h (λ e. absurd (true≢false e)), refl)

    dual_decides : Readies g want (code (dual_path off (net_offset L) want) (with_ports g (Some want)))
    unfolding dual_path fork Bare four
    dual_decides =
        equal dual_ports
        (load Half off
        (forked Jeq 0x86dd
        (λ e. learning (λ a x p h. passed_4 x p h)
        (needed Jeq 0x0800
        (given (λ a x g. g.1)
        (seq (l4_decides (net_offset L + 9) want) (header4_decides (net_offset L) (Bare (4 * (be 1 (net_offset L) f % 16))) (bare (4 * (be 1 (net_offset L) f % 16))))))))
        (λ e. learning (λ a x p h. passed_6 (sym (at_off 0x86dd) ∙ e) x p h)
        (given (λ a x g. g.1) (seq (l4_decides (net_offset L + 6) want) (header6_decides (Bare 40) (bare 40)))))))
      where
        passed_4 : (x : ℕ) → (eqb (be 2 off f) 0x0800 && four) ≡ true → Bare (4 * (be 1 (net_offset L) f % 16)) x → Ported (with_ports g (Some want)) x
        passed_4 x p h =
            let k = sym (at_off 0x0800) ∙ (and_parts (eqb (be 2 off f) 0x0800) four p).0 in
            readied g want x h.0 (h.1 ∙ sym (header_4 k)) (ports_4 k want ∙ (and_parts (eqb (be 2 off f) 0x0800) four p).1)

        passed_6 : kind L f 0x86dd ≡ true → (x : ℕ) → (contains want (be 1 (net_offset L + 6) f) && true) ≡ true → Bare 40 x → Ported (with_ports g (Some want)) x
        passed_6 k x p h = readied g want x h.0 (h.1 ∙ sym (header_6 k)) (ports_6 k want ∙ p)

  pub prereqs_ready : (want : L4Set) (g : Facts) → Raw L g.ethertype → Readies g want (port_prereqs L want g)
  unfolding port_prereqs
  prereqs_ready want g r =
      cases (Readies g want) (ready_for g.ports_ready want)
      (λ e. known (λ a x h. let k = already g.ports_ready want x e h.ports in (k.0, (h, k.1))))
      (λ e. cases (Readies g want) (holds g.ethertype 0x0800) (known_4 want g)
      (λ n. cases (Readies g want) (holds g.ethertype 0x86dd) (known_6 want g) (λ m. go (ether_proto_offset L) refl n)))
    where
      go : (o : Option ℕ) → ether_proto_offset L ≡ o → holds g.ethertype 0x0800 ≡ false → Readies g want (dual o (net_offset L) want g)
      go None e n = absurd (raw_known L g.ethertype e r n)
      go (Some off) e n = dual_decides g off (λ v. kind_at L f off v e) want

  -- the ethertype stays as it was
  pub prereqs_ethertype : (want : L4Set) (g : Facts) → (port_prereqs L want g).facts.ethertype ≡ g.ethertype
  unfolding port_prereqs
  prereqs_ethertype want g =
      either Keeps (ready_for g.ports_ready want) refl
      (either Keeps (holds g.ethertype 0x0800) (learnt learn_ip4 (λ n. refl) (version g.ports_ready g.ip4_proto (net_offset L + 9) want (header4 (net_offset L))).set)
      (either Keeps (holds g.ethertype 0x86dd) (learnt learn_ip6 (λ n. refl) (version g.ports_ready g.ip6_nh (net_offset L + 6) want header6).set)
      (dual_keeps (ether_proto_offset L))))
    where
      Keeps : Code → Type 0
      Keeps c = c.facts.ethertype ≡ g.ethertype

      learnt : (learn : Facts → ℕ → Facts) → ((n : ℕ) → (learn g n).ethertype ≡ g.ethertype) → (set : L4Set) → (learn_set learn g set).ethertype ≡ g.ethertype
      learnt learn h (One n) = h n
      learnt learn h TcpOrUdp = refl

      dual_keeps : (o : Option ℕ) → (dual o (net_offset L) want g).facts.ethertype ≡ g.ethertype
      dual_keeps None = refl
      dual_keeps (Some off) = refl
