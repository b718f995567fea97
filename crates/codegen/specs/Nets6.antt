-- T-02, a net in sixteen numbers, in the customer's words. The generator's tests of a net are `check_net6` (Emit), which sees the prefix and
-- the address; `proofs/Nets6.antt` shows of it what the page below says.
use Rattle.std.specs.Prelude.{ℕ, zero, suc, ◌+◌, ◌*◌, ◌-◌, ◌^◌, ◌<◌, ◌≡◌, List, [], ◌∷◌, ◌++◌, cond, length, eqb}
use Rattle.std.specs.Int.Bits.{bit_and}
use Rattle.error.specs.Answer.{Out}
use Rattle.bpf.specs.Program.{Each}
use Rattle.ast.specs.declared.LinkType.{LinkType}
use Rattle.ast.specs.declared.Dir.{Dir}
use Rattle.ast.specs.declared.Primitive.TheVariants.{Host6, Net6}
use Rattle.codegen.specs.declared.Facts.{Facts}
use Rattle.codegen.specs.declared.Width.TheVariants.{Half}
use Rattle.codegen.specs.declared.Op.TheVariants.{LdAbs, AndK}
use Rattle.codegen.specs.declared.Side.TheVariants.{Failure}
use Rattle.codegen.specs.declared.Exit.TheVariants.{Leave}
use Rattle.codegen.specs.declared.Slot.TheVariants.{Jf}
use Rattle.codegen.specs.declared.Line.TheVariants.{Plain, Branch, Jump}
use Rattle.codegen.specs.Block.{Block}
use Rattle.codegen.specs.Emit.{net_offset, Code, need, check, check_blocks, mask16, check_net6, guarded, emit_primitive}

-- ---- "work out the eight masks and the eight expected segments once for a net, before the segments are walked"

-- so many numbers, by their place
unfoldable pub tabulate : ℕ → (ℕ → ℕ) → List ℕ
tabulate zero f = []
tabulate (suc n) f = f 0 ∷ tabulate n (λ i. f (suc i))

-- the mask of segment i: its first p - 16 i bits count, none where that is 0 and all from 16 on
abbrev pub mask_of : ℕ → ℕ → ℕ
mask_of p i = mask16 (p - 16 * i)

-- the eight masks
abbrev pub masks : ℕ → List ℕ
masks p = tabulate 8 (mask_of p)

-- segments, each under its mask
unfoldable pub under : List ℕ → List ℕ → List ℕ
under (s ∷ ss) (m ∷ ms) = bit_and s m ∷ under ss ms
under (s ∷ ss) [] = []
under [] ms = []

-- the eight expected segments: what the masks leave of the address
abbrev pub expected : ℕ → List ℕ → List ℕ
expected p a = under a (masks p)

-- ---- the tests by these numbers and a place

-- a segment whose mask is not full: the last one tested, and not even that under a mask of 0
abbrev pub last_test : ℕ → ℕ → ℕ → Block
last_test m e at = cond (eqb m 0) [] (Plain (LdAbs Half at) ∷ Plain (AndK m) ∷ need e ∷ [])

-- a plain compare while the mask is full
unfoldable pub tests : List ℕ → List ℕ → ℕ → Block
tests (m ∷ ms) (e ∷ es) at = cond (eqb m 0xffff) (check Half at e ++ tests ms es (at + 2)) (last_test m e at)
tests (m ∷ ms) [] at = []
tests [] es at = []

-- ---- the words

-- "IPv6 addresses are handled as eight 16-bit segments"
abbrev pub Address : List ℕ → Type 0
Address a = (length a ≡ 8) × Each (λ s. s < 2 ^ 16) a

-- segments one after another as one number
unfoldable pub joined : List ℕ → ℕ
joined [] = 0
joined (s ∷ ss) = s * 2 ^ (16 * length ss) + joined ss

-- "jt and jf aside": no jump of these lines has its distance yet. Each is a test that leaves by failure through jf, an open exit; what stands
-- around the lines gives the distance
abbrev pub Aside : Block → Type 0
Aside [] = Unit {0}
Aside (Plain o ∷ b) = Aside b
Aside (Branch t k s e ∷ b) = (s ≡ Jf) × (e ≡ Leave Failure) × Aside b
Aside (Jump e ∷ b) = ⊥

-- the tests of source and of destination by direction, behind the ethertype's
abbrev pub by_numbers : LinkType → Dir → List ℕ → List ℕ → Facts → Out Code
by_numbers L d ms es = guarded L 0x86dd (check_blocks d (tests ms es (net_offset L + 8)) (tests ms es (net_offset L + 24)))

-- ---- the page

pub record Nets6 : Type 0 where
  -- "the eight masks": the prefix's bits, and all 128 from 128 on
  pub netmask : (p : ℕ) → p < 256 → joined (masks p) ≡ 2 ^ 128 - 2 ^ (128 - p)
  -- "and the eight expected segments": the address under these masks
  pub masked : (p : ℕ) (a : List ℕ) → Address a → joined (expected p a) ≡ bit_and (joined a) (joined (masks p))
  -- "Shown for every prefix byte and address: the tests of source and of destination, .., follow from these sixteen numbers and the address's
  -- place in the frame alone.": `tests` sees nothing else
  pub follow : (p at : ℕ) (a : List ℕ) → Address a → check_net6 p at a ≡ tests (masks p) (expected p a) at
  -- so two nets with the same sixteen numbers have the same tests at the same place
  pub same : (p q at : ℕ) (a b : List ℕ) → Address a → Address b → masks p ≡ masks q → expected p a ≡ expected q b → check_net6 p at a ≡ check_net6 q at b
  -- ".. jt and jf aside, ..": whatever the numbers are
  pub aside : (ms es : List ℕ) (at : ℕ) → Aside (tests ms es at)
  -- "Each instruction .. is unchanged.": of the generator's own conditions, with the same numbers for source and destination
  pub net : (L : LinkType) (d : Dir) (p : ℕ) (a : List ℕ) → Address a → emit_primitive L (Net6 d p a) ≡ by_numbers L d (masks p) (expected p a)
  -- and a host is a net with prefix 128
  pub host : (L : LinkType) (d : Dir) (a : List ℕ) → Address a → emit_primitive L (Host6 d a) ≡ by_numbers L d (masks 128) (expected 128 a)
