-- T-02's page: a net's tests follow from its sixteen numbers and the address's place.
use Prim.Native.Nat.{ℕ, suc, ◌+◌, ◌*◌, ◌-◌, ◌^◌, ◌<◌, ◌≤◌}
use mathlib.Core.Path.{◌≡◌, refl, sym, ap, ap₂, ◌∙◌}
use mathlib.Core.List.{List, [], ◌∷◌}
use mathlib.Core.Bool.{Bool, true}
use native.Mathlib.Omega.{arith}
use borrow.Author.Tests.{eqb-true, ne_eqb, le-leb}
use lib.Bits.{bit_and, and_block}
use lib.Arith.{digits_lt}
use lib.Pow.{pow_pos, pow-add, pow-sub-lt}
use lib.Dec.{eqb, leb}
use lib.ListN.{length}
use Rattle.std.proofs.lemmas.Bool.{agree_below, agree_below_at}
use Rattle.error.proofs.All.{either}
use Rattle.bpf.specs.Program.{Each}
use Rattle.ast.proofs.Proper.{Half}
use Rattle.codegen.specs.declared.Op.{Op}
use Rattle.codegen.specs.declared.Test.{Test}
use Rattle.codegen.specs.declared.Side.TheVariants.{Failure}
use Rattle.codegen.specs.declared.Exit.{Exit}
use Rattle.codegen.specs.declared.Exit.TheVariants.{Leave}
use Rattle.codegen.specs.declared.Slot.{Slot}
use Rattle.codegen.specs.declared.Slot.TheVariants.{Jf}
use Rattle.codegen.specs.declared.Line.TheVariants.{Plain, Branch, Jump}
use Rattle.codegen.specs.Block.{Block}
use Rattle.codegen.specs.Emit.{net_offset, need, check_blocks, check_ip6_addr, mask16, check_net6, guarded, emit_primitive}
use Rattle.codegen.specs.Nets6.{tabulate, mask_of, masks, under, expected, last_test, tests, Address, joined, Aside, Nets6}
use Rattle.codegen.proofs.Segment.{step}

-- of any number of segments
net_tests : (p at : ℕ) (a : List ℕ) (f : ℕ → ℕ) → ((i : ℕ) → f i ≡ mask_of p i) → Each Half a
    → check_net6 p at a ≡ tests (tabulate (length a) f) (under a (tabulate (length a) f)) at
unfolding check_net6 tests tabulate under
net_tests p at [] f e h = refl
net_tests p at (s ∷ ss) f e h =
    let z : f 0 ≡ mask16 p = e 0 ∙ ap mask16 (omega arith) in
    let ms = tabulate (length ss) (λ i. f (suc i)) in
    let others = net_tests (p - 16) (at + 2) ss (λ i. f (suc i)) (λ i. e (suc i) ∙ ap mask16 (omega arith)) h.1 in
    rw z (step p at s ss ms (under ss ms) h.0 others (eqb p 0) (leb 16 p) refl refl)

pub follow : (p at : ℕ) (a : List ℕ) → Address a → check_net6 p at a ≡ tests (masks p) (expected p a) at
follow p at a h = net_tests p at a (mask_of p) (λ i. refl) h.1 ∙ ap (λ (n : ℕ). tests (tabulate n (mask_of p)) (under a (tabulate n (mask_of p))) at) h.0

-- past the shorter of two lists nothing is expected, and nothing tested
unmasked : (ss : List ℕ) (at : ℕ) → (under ss [] ≡ []) × (tests [] ss at ≡ [])
unfolding under tests
unmasked [] at = (refl, refl)
unmasked (s ∷ ss) at = (refl, refl)

unmatched : (ms : List ℕ) (at : ℕ) → (under [] ms ≡ []) × (tests ms [] at ≡ [])
unfolding under tests
unmatched [] at = (refl, refl)
unmatched (m ∷ ms) at = (refl, refl)

-- ---- the open exits

last_aside : (m e at : ℕ) → Aside (last_test m e at)
last_aside m e at = either Aside (eqb m 0) tt (refl, refl, tt)

aside : (ms es : List ℕ) (at : ℕ) → Aside (tests ms es at)
unfolding tests
aside [] es at = tt
aside (m ∷ ms) [] at = tt
aside (m ∷ ms) (e ∷ es) at = either Aside (eqb m 0xffff) (refl, refl, aside ms es (at + 2)) (last_aside m e at)

-- and nothing else passes for it, behind other lines too: no other field, no other way out, no distance, and no `ja`
no_others : (o : Op) (t : Test) (k j : ℕ) (s : Slot) (e : Exit) (b : Block)
    → (Aside (Plain o ∷ need k ∷ Branch t j s e ∷ b) → (s ≡ Jf) × (e ≡ Leave Failure)) × (Aside (Plain o ∷ need k ∷ Jump e ∷ b) → ⊥)
no_others o t k j s e b = (λ h. (h.2.0, h.2.1), λ h. h.2)

-- ---- hosts

-- a prefix that reaches over all segments
pub whole_prefix : (p at : ℕ) (ss : List ℕ) → 16 * length ss ≤ p → check_net6 p at ss ≡ check_ip6_addr at ss
unfolding check_net6 check_ip6_addr
whole_prefix p at [] h = refl
whole_prefix p at (s ∷ ss) h = rw (ne_eqb p 0 (λ e. omega arith), le-leb 16 p (omega arith), whole_prefix (p - 16) (at + 2) ss (omega arith))

-- ---- the masks as one number: each prefix byte is computed

abbrev is_netmask : ℕ → Bool
is_netmask p = eqb (joined (masks p)) (2 ^ 128 - 2 ^ (128 - p))

netmasks : agree_below is_netmask (λ p. true) 256 ≡ true
unfolding joined tabulate
netmasks = refl

netmask : (p : ℕ) → p < 256 → joined (masks p) ≡ 2 ^ 128 - 2 ^ (128 - p)
netmask p h = eqb-true _ _ (agree_below_at is_netmask (λ p. true) 256 p netmasks h)

-- ---- the expected segments as one number

mask_small : (p : ℕ) → Half (mask16 p)
mask_small p = pow-sub-lt 16 (pow_pos (16 - p))

joined_small : (ss : List ℕ) → Each Half ss → joined ss < 2 ^ (16 * length ss)
unfolding joined
joined_small [] h = omega arith
joined_small (s ∷ ss) h =
    let e : 2 ^ (16 * suc (length ss)) ≡ 2 ^ 16 * 2 ^ (16 * length ss) = ap (λ (n : ℕ). 2 ^ n) (omega arith) ∙ pow-add 2 16 (16 * length ss) in
    rw e (digits_lt h.0 (joined_small ss h.1))

under_length : (ss ms : List ℕ) → length ss ≡ length ms → length (under ss ms) ≡ length ms
unfolding under
under_length [] ms e = e
under_length (s ∷ ss) [] e = refl
under_length (s ∷ ss) (m ∷ ms) e = ap suc (under_length ss ms (omega (arith, e)))

under_joined : (ss ms : List ℕ) → length ss ≡ length ms → Each Half ss → Each Half ms → joined (under ss ms) ≡ bit_and (joined ss) (joined ms)
unfolding joined under
under_joined [] [] e h k = refl
under_joined [] (m ∷ ms) e h k = absurd (omega (arith, e))
under_joined (s ∷ ss) [] e h k = absurd (omega (arith, e))
under_joined (s ∷ ss) (m ∷ ms) e h k =
    let same : length ss ≡ length ms = omega (arith, e) in
    let low : joined ss < 2 ^ (16 * length ms) = rw (← same) (joined_small ss h.1) in
    rw (under_length ss ms same, same, under_joined ss ms same h.1 k.1)
    (sym (and_block (16 * length ms) s m (joined ss) (joined ms) low (joined_small ms k.1)))

masked : (p : ℕ) (a : List ℕ) → Address a → joined (expected p a) ≡ bit_and (joined a) (joined (masks p))
unfolding tabulate
masked p a h =
    let m : (i : ℕ) → Half (mask_of p i) = λ i. mask_small (p - 16 * i) in
    under_joined a (masks p) h.0 h.1 (m 0, (m 1, (m 2, (m 3, (m 4, (m 5, (m 6, (m 7, tt))))))))

pub nets6 : Nets6
unfolding emit_primitive
nets6 =
    record {
      netmask = netmask;
      masked = masked;
      follow = follow;
      same = λ p q at a b h k m x. follow p at a h ∙ ap₂ (λ ms es. tests ms es at) m x ∙ sym (follow q at b k);
      aside = aside;
      net = λ L d p a h. ap₂ (λ b c. guarded L 0x86dd (check_blocks d b c)) (follow p (net_offset L + 8) a h) (follow p (net_offset L + 24) a h);
      host =
          λ L d a h.
          let short : 16 * length a ≤ 128 = omega (arith, h.0) in
          let at : (o : ℕ) → check_ip6_addr o a ≡ tests (masks 128) (expected 128 a) o = λ o. sym (whole_prefix 128 o a short) ∙ follow 128 o a h in
          ap₂ (λ b c. guarded L 0x86dd (check_blocks d b c)) (at (net_offset L + 8)) (at (net_offset L + 24));
    }
