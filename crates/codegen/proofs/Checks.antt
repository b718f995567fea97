-- The blocks of addresses, segments, ranges and ether addresses decide what the direct reading says of them.
use Prim.Native.Nat.{ℕ, ◌+◌, ◌*◌, ◌-◌, ◌/◌, ◌^◌, ◌≤◌, ◌<◌}
use mathlib.Core.Path.{◌≡◌, refl, sym, ap, ap₂, ◌∙◌}
use mathlib.Core.List.{List, [], ◌∷◌, ◌++◌}
use mathlib.Core.Bool.{Bool, true, false, ◌&&◌, and-true, and_assoc}
use native.Mathlib.Omega.{arith}
use native.Mathlib.Nat.{add_assoc, add-zero, div-one, div-eq_of_lt}
use lib.ListN.{length}
use lib.Dec.{eqb, leb}
use lib.Bits.{bit_and}
use borrow.Author.Tests.{eqb-true, leb-true, leb-false}
use Rattle.error.proofs.All.{cases, either}
use Rattle.bpf.specs.Bytes.{be, AreBytes}
use Rattle.bpf.proofs.Bytes.{be_small, be_first}
use Rattle.bpf.specs.Program.{Each}
use Rattle.ast.specs.declared.Dir.{Dir}
use Rattle.ast.specs.declared.Dir.TheVariants.{SrcOrDst, Src, Dst, SrcAndDst}
use Rattle.ast.proofs.Proper.{Byte, Half, each_bytes}
use Rattle.direct.specs.Reading.{sides, first, segments_agree, bytes_are}
use Rattle.codegen.specs.declared.Width.{Width}
use Rattle.codegen.specs.declared.Width.TheVariants as W
use Rattle.codegen.specs.declared.Op.TheVariants.{LdAbs, LdhInd, AndK}
use Rattle.codegen.specs.declared.Test.TheVariants.{Jeq, Jgt, Jge}
use Rattle.codegen.specs.declared.Line.TheVariants.{Plain}
use Rattle.codegen.specs.Block.{bytes}
use Rattle.codegen.specs.Block.{Block, writes_x}
use Rattle.codegen.specs.Emit.{check, check_loads, check_blocks, check_ip6_addr, mask16, segment, check_net6, check_range, check_mac}
use Rattle.codegen.proofs.Semantics.{indexed}
use Rattle.codegen.proofs.Laws.{With, OfX, Never, Maybe, Decides, seq, else, equal, allow, given, known, load, load_indexed, masked, needed, barred, winning, lastly, kept}
use Rattle.codegen.proofs.Numbers.{not_lt, high_eqb, same_bytes, be_eqb}

-- A is loaded
abbrev pub Fetches : List ℕ → (ℕ → Type 0) → Block → ℕ → Type 0
Fetches f G b v = Decides f Never (OfX G) b true (With v G)

module _ {f : List ℕ} {G : ℕ → Type 0} where
  pub fetched : (w : Width) (k : ℕ) → Fetches f G (Plain (LdAbs w k) ∷ []) (be (bytes w) k f)
  fetched w k = load w k (known (λ a x g. (refl, g)))

  pub fetched_masked : (w : Width) (k m : ℕ) → Fetches f G (Plain (LdAbs w k) ∷ Plain (AndK m) ∷ []) (bit_and (be (bytes w) k f) m)
  fetched_masked w k m = load w k (masked m (known (λ a x g. (refl, g))))

  pub fetched_indexed : (k y : ℕ) → ((x : ℕ) → G x → indexed x k ≡ y) → Fetches f G (Plain (LdhInd k) ∷ []) (be 2 y f)
  fetched_indexed k y e = load_indexed k y e (known (λ a x g. (refl, g)))

  pub checked : (w : Width) (at k : ℕ) → Decides f Never (OfX G) (check w at k) (eqb (be (bytes w) at f) k) (OfX G)
  checked w at k = load w at (lastly Jeq k)

  -- ---- two places, by direction

  pub two_loads : (d : Dir) (k : ℕ) {s t : Block} {v w : ℕ} → Fetches f G s v → Fetches f G t w
      → Decides f Maybe (OfX G) (check_loads d k s t) (sides d (eqb v k) (eqb w k)) (OfX G)
  unfolding check_loads
  two_loads SrcOrDst k h j = seq h (winning Jeq k (given (λ a x g. g.1) (seq j (lastly Jeq k))))
  two_loads Src k h j = seq h (lastly Jeq k)
  two_loads Dst k h j = seq j (lastly Jeq k)
  two_loads SrcAndDst k h j = seq h (needed Jeq k (given (λ a x g. g.1) (seq j (lastly Jeq k))))

  pub two_blocks : (d : Dir) {s t : Block} {P Q : Bool} → writes_x s ≡ false → Decides f Never (OfX G) s P (OfX G) → Decides f Never (OfX G) t Q (OfX G)
      → Decides f Maybe (OfX G) (check_blocks d s t) (sides d P Q) (OfX G)
  unfolding check_blocks
  two_blocks SrcOrDst {s} w h j = else h (kept f s G G (λ x y g e. rw (e w) g)) (λ a x g. g) (allow j)
  two_blocks Src w h j = allow h
  two_blocks Dst w h j = allow j
  two_blocks SrcAndDst w h j = allow (seq h j)

  -- ---- ranges

  pub range_decides : (k y lo hi : ℕ) → ((x : ℕ) → G x → indexed x k ≡ y)
      → Decides f Never (OfX G) (check_range lo hi k) (leb lo (be 2 y f) && leb (be 2 y f) hi) (OfX G)
  unfolding check_range
  range_decides k y lo hi e =
      load_indexed k y e
      (equal (ap (λ b. leb lo (be 2 y f) && b) (and-true _ ∙ not_lt hi (be 2 y f))) (needed Jge lo (barred Jgt hi (known (λ a x h. (refl, h.1))))))

pub range_keeps : (lo hi at : ℕ) → writes_x (check_range lo hi at) ≡ false
unfolding check_range writes_x
range_keeps lo hi at = refl

-- ---- IPv6 addresses

-- all of a segment
whole : (p v : ℕ) → 16 ≤ p → first p v ≡ v
whole p v h = ap (λ k. v / 2 ^ k) none ∙ div-one v
  where
    none : 16 - p ≡ 0
    none = omega arith

-- none of it
nothing : (p v : ℕ) → p ≡ 0 → v < 2 ^ 16 → first p v ≡ 0
nothing p v e h = ap (λ q. v / 2 ^ (16 - q)) e ∙ div-eq_of_lt h

-- some of it, by the mask
part : (p v s : ℕ) → p < 16 → v < 2 ^ 16 → s < 2 ^ 16 → eqb (bit_and v (mask16 p)) (bit_and s (mask16 p)) ≡ eqb (first p v) (first p s)
part p v s h i j = rw sixteen at (high_eqb v s p (16 - p) (rw sixteen i) (rw sixteen j))
  where
    sixteen : p + (16 - p) ≡ 16
    sixteen = omega arith

pub addr_keeps : (at : ℕ) (ss : List ℕ) → writes_x (check_ip6_addr at ss) ≡ false
unfolding check_ip6_addr writes_x
addr_keeps at [] = refl
addr_keeps at (s ∷ ss) = addr_keeps (at + 2) ss

pub net_keeps : (p at : ℕ) (ss : List ℕ) → writes_x (check_net6 p at ss) ≡ false
unfolding check_net6 writes_x
net_keeps p at [] = refl
net_keeps p at (s ∷ ss) =
    let k = net_keeps (p - 16) (at + 2) ss in
    either (λ b. writes_x b ≡ false) (eqb p 0) refl (either (λ b. writes_x (b ++ check_net6 (p - 16) (at + 2) ss) ≡ false) (leb 16 p) k k)

module _ (f : List ℕ) (bytes_of : AreBytes f) where
  half_small : (at : ℕ) → be 2 at f < 2 ^ 16
  half_small at = be_small 2 at f bytes_of

  -- a prefix of 0 asks nothing
  pub agree_none : (p at : ℕ) (ss : List ℕ) → p ≡ 0 → Each Half ss → segments_agree f p at ss ≡ true
  unfolding segments_agree
  agree_none p at [] e h = refl
  agree_none p at (s ∷ ss) e h = rw (nothing p (be 2 at f) e (half_small at), nothing p s e h.0) (agree_none (p - 16) (at + 2) ss (omega arith) h.1)

  module _ {G : ℕ → Type 0} where
    pub addr_decides : (p at : ℕ) (ss : List ℕ) → 16 * length ss ≤ p → Decides f Never (OfX G) (check_ip6_addr at ss) (segments_agree f p at ss) (OfX G)
    unfolding check_ip6_addr segments_agree
    addr_decides p at [] h = known (λ a x g. (refl, g))
    addr_decides p at (s ∷ ss) h =
        seq (equal (sym (ap₂ eqb (whole p (be 2 at f) (omega arith)) (whole p s (omega arith)))) (checked W.Half at s)) (addr_decides (p - 16) (at + 2) ss (omega arith))

    segment_decides : (p at s : ℕ) → Half s → Decides f Never (OfX G) (segment p at s) (eqb (first p (be 2 at f)) (first p s)) (OfX G)
    segment_decides p at s h =
        cases (λ b. Decides f Never (OfX G) b (eqb (first p (be 2 at f)) (first p s)) (OfX G)) (leb 16 p)
        (λ e. equal (sym (ap₂ eqb (whole p (be 2 at f) (leb-true 16 p e)) (whole p s (leb-true 16 p e)))) (checked W.Half at s))
        (λ e. equal (part p (be 2 at f) s (leb-false 16 p e) (half_small at) h) (load W.Half at (masked (mask16 p) (lastly Jeq (bit_and s (mask16 p))))))

    pub net_decides : (p at : ℕ) (ss : List ℕ) → Each Half ss → Decides f Never (OfX G) (check_net6 p at ss) (segments_agree f p at ss) (OfX G)
    unfolding check_net6 segments_agree
    net_decides p at [] h = known (λ a x g. (refl, g))
    net_decides p at (s ∷ ss) h =
        let j = segment_decides p at s h.0 in
        let k = net_decides (p - 16) (at + 2) ss h.1 in
        cases (λ b. Decides f Never (OfX G) b (segments_agree f p at (s ∷ ss)) (OfX G)) (eqb p 0)
        (λ e. known (λ a x g. (agree_none p at (s ∷ ss) (eqb-true p 0 e) h, g))) (λ e. seq j k)

-- ---- ether addresses: four bytes and two are six

pub mac_keeps : (a : List ℕ) (at : ℕ) → writes_x (check_mac a at) ≡ false
unfolding check_mac writes_x
mac_keeps a at = refl

module _ (f : List ℕ) (bytes_of : AreBytes f) where
  mac_agrees : (at : ℕ) (a : List ℕ) → length a ≡ 6 → (same_bytes 4 at f 0 a && same_bytes 2 (at + 4) f 4 a) ≡ bytes_are f at a
  unfolding bytes_are
  mac_agrees at (a ∷ b ∷ c ∷ d ∷ u ∷ v ∷ []) e = simp (be_first, add_assoc, add-zero, and_assoc, and-true)
  mac_agrees at a e = absurd (omega arith)

  pub mac_decides : {G : ℕ → Type 0} (a : List ℕ) (at : ℕ) → length a ≡ 6 → Each Byte a → Decides f Never (OfX G) (check_mac a at) (bytes_are f at a) (OfX G)
  unfolding check_mac
  mac_decides a at e h =
      equal (ap₂ ◌&&◌ (be_eqb 4 at f 0 a bytes_of (each_bytes a h)) (be_eqb 2 (at + 4) f 4 a bytes_of (each_bytes a h)) ∙ mac_agrees at a e)
      (seq (checked W.Word at (be 4 0 a)) (checked W.Half (at + 4) (be 2 4 a)))
