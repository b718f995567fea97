-- The machine jumps where `targets` says and nowhere else: `skips_are_targets` and `targets_are_reached`.
use Prim.Native.Nat.{ℕ, zero, suc, ◌+◌, ◌*◌, ◌/◌, ◌%◌, ◌^◌, ◌<◌}
use mathlib.Core.Path.{◌≡◌, refl, sym, ◌∙◌}
use mathlib.Core.List.{List, [], ◌∷◌, Memᴰ}
use mathlib.Core.Bool.{Bool, true, false, cond, ◌&&◌, ◌||◌, or-true, true≢false}
use native.Mathlib.Omega.{arith}
use lib.Dec.{ltb, eqb}
use borrow.Author.Tests.{eq-eqb, le-ltb, eqb-true, eqb-false}
use Rattle.error.specs.Answer.{among}
use Rattle.bpf.specs.declared.Insn.{Insn}
use Rattle.bpf.specs.Program.{insn, targets, Each}
use Rattle.vm.specs.declared.Effect.TheVariants.{Skip}
use Rattle.vm.specs.Machine.{jmp, effect}
use Rattle.vm.proofs.Effects.{within, still}

-- an instruction of class JMP does what its operation says of A and its operand
jump_is : (f m : List ℕ) (x : Insn) (a b : ℕ) → x.code % 8 ≡ 5 → effect f m x a b ≡ jmp (x.code / 16 % 16) x a (cond (eqb (x.code / 8 % 2) 0) x.k b)
unfolding effect
jump_is f m x a b c = rw c

-- ---- every skip leads to a target

-- the targets of a known operation, and of any operation, in class JMP
abbrev known_targets : ℕ → ℕ → Insn → List ℕ
known_targets op i x = cond (eqb op 0) ((i + 1 + x.k) ∷ []) ((i + 1 + x.jt) ∷ (i + 1 + x.jf) ∷ [])

abbrev targets_by : ℕ → ℕ → Insn → List ℕ
targets_by op i x = cond (ltb op 5) (known_targets op i x) []

is_first : (n : ℕ) (l : List ℕ) → among (n ∷ l) n ≡ true
is_first n l = rw (eq-eqb n n refl)

one_way : (i t f : ℕ) (b : Bool) → within i ((i + 1 + t) ∷ (i + 1 + f) ∷ []) (Skip (cond b t f)) ≡ true
one_way i t f true = is_first (i + 1 + t) ((i + 1 + f) ∷ [])
one_way i t f false = rw (is_first (i + 1 + f) []) (or-true (eqb (i + 1 + f) (i + 1 + t)))

jump_within : (op i : ℕ) (x : Insn) (a v : ℕ) → within i (targets_by op i x) (jmp op x a v) ≡ true
unfolding jmp
jump_within zero i x a v = is_first (i + 1 + x.k) []
jump_within (suc (suc (suc (suc (suc op))))) i x a v = refl
jump_within op i x a v = simp one_way

-- any instruction
effect_within : (f m : List ℕ) (i : ℕ) (x : Insn) (a b : ℕ) → within i (targets i x) (effect f m x a b) ≡ true
effect_within f m i x a b = go (eqb (x.code % 8) 5) refl
  where
    go : (c : Bool) → eqb (x.code % 8) 5 ≡ c → within i (cond (c && ltb (x.code / 16 % 16) 5) (known_targets (x.code / 16 % 16) i x) []) (effect f m x a b) ≡ true
    go true e = rw (jump_is f m x a b (eqb-true (x.code % 8) 5 e)) (jump_within (x.code / 16 % 16) i x a _)
    go false e = still i [] f m x a b (x.code % 8) refl (eqb-false (x.code % 8) 5 e)

in_list : (n : ℕ) (l : List ℕ) → among l n ≡ true → Memᴰ n l
in_list n [] h = absurd (true≢false (sym h))
in_list n (m ∷ l) h = go (eqb n m) refl h (λ k. in_list n l k)
  where
    go : (b : Bool) → eqb n m ≡ b → (b || among l n) ≡ true → (among l n ≡ true → Memᴰ n l) → Memᴰ n (m ∷ l)
    go true e h later = Memᴰ.head (eqb-true n m e)
    go false e h later = Memᴰ.tail (later h)

-- What the instruction x at place i skips leads to one of its targets, whatever the frame f, the scratch words m, A and X are.
pub skips_are_targets : (f m : List ℕ) (i : ℕ) (x : Insn) (A X n : ℕ) → effect f m x A X ≡ Skip n → Memᴰ (i + 1 + n) (targets i x)
skips_are_targets f m i x A X n e = in_list (i + 1 + n) (targets i x) (rw e at (effect_within f m i x A X))

-- ---- every target is reached

-- the instruction x with its operand in X, since a constant can put one way of a test out of reach: jset 0 never goes by jt. To ja it is the same
abbrev pub by_x : Insn → Insn
by_x x = insn (x.code / 16 * 16 + 8 + x.code % 8) x.jt x.jf x.k

-- with some A and X of 32 bits the instruction at place i skips to place t, over every frame and with all scratch words
pub record Reached (i : ℕ) (x : Insn) (t : ℕ) : Type 0 where
  pub A : ℕ
  pub X : ℕ
  pub small : (A < 2 ^ 32) × (X < 2 ^ 32)
  pub over : ℕ
  pub skips : (f m : List ℕ) → effect f m x A X ≡ Skip over
  pub there : i + 1 + over ≡ t

module _ (i : ℕ) (x : Insn) where
  jumps_by : x.code % 8 ≡ 5 → (f m : List ℕ) (a v : ℕ) → effect f m (by_x x) a v ≡ jmp (x.code / 16 % 16) (by_x x) a v
  jumps_by c f m a v = jump_is f m (by_x x) a v (omega arith) ∙ rw (op, bit)
    where
      op : (x.code / 16 * 16 + 8 + x.code % 8) / 16 % 16 ≡ x.code / 16 % 16
      op = omega arith

      bit : (x.code / 16 * 16 + 8 + x.code % 8) / 8 % 2 ≡ 1
      bit = omega arith

  by : (a v : ℕ) {n : ℕ} → (a < 2) × (v < 2) → ((f m : List ℕ) → effect f m (by_x x) a v ≡ Skip n) → Reached i (by_x x) (i + 1 + n)
  by a v {n} l h = record { A = a; X = v; small = omega arith; over = n; skips = h; there = refl }

  reached_by : (op : ℕ) → ((f m : List ℕ) (a v : ℕ) → effect f m (by_x x) a v ≡ jmp op (by_x x) a v) → Each (Reached i (by_x x)) (targets_by op i x)
  unfolding jmp
  reached_by zero h = (by 0 0 (omega arith) (λ f m. h f m 0 0), tt)
  reached_by (suc zero) h = (by 0 0 (omega arith) (λ f m. h f m 0 0), (by 0 1 (omega arith) (λ f m. h f m 0 1), tt))
  reached_by (suc (suc zero)) h = (by 1 0 (omega arith) (λ f m. h f m 1 0), (by 0 1 (omega arith) (λ f m. h f m 0 1), tt))
  reached_by (suc (suc (suc zero))) h = (by 1 0 (omega arith) (λ f m. h f m 1 0), (by 0 1 (omega arith) (λ f m. h f m 0 1), tt))
  reached_by (suc (suc (suc (suc zero)))) h = (by 1 1 (omega arith) (λ f m. h f m 1 1), (by 0 0 (omega arith) (λ f m. h f m 0 0), tt))
  reached_by (suc (suc (suc (suc (suc op))))) h = rw (le-ltb (suc (suc (suc (suc (suc op))))) 5 (omega arith)) tt

  -- Each target of the instruction x at place i is reached.
  pub targets_are_reached : Each (Reached i (by_x x)) (targets i x)
  targets_are_reached = go (eqb (x.code % 8) 5) refl
    where
      go : (b : Bool) → eqb (x.code % 8) 5 ≡ b → Each (Reached i (by_x x)) (cond (b && ltb (x.code / 16 % 16) 5) (known_targets (x.code / 16 % 16) i x) [])
      go true e = reached_by (x.code / 16 % 16) (jumps_by (eqb-true (x.code % 8) 5 e))
      go false e = tt
