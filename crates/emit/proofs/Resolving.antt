-- One pending jump of a row after another.
use Rattle.std.proofs.Common.{◌≡◌, ℕ, ◌+◌, ◌-◌, ◌<◌, ◌≤◌, List, ◌∷◌, length, take, drop, get_or, ap, sym, ◌∙◌, subst, add-one, drop-cons, Ok, Err, arith}
use Rattle.std.proofs.lemmas.List.{drop_all, drop-take}
use borrow.Author.Tests.{lt-ltb, le-ltb}
use Rattle.error.specs.declared.Refusal.TheVariants.{FarJump}
use Rattle.bpf.specs.declared.Insn.{Insn}
use Rattle.emit.specs.declared.Patch.{Patch}
use Rattle.emit.specs.Lines.{place_of, resolved, resolve, Below}

pub far_cons : (q : Patch) (qs : List Patch) (T : ℕ) (I : List Insn) → 255 < T - place_of q - 1 → resolve (q ∷ qs) T I ≡ Err FarJump
unfolding resolve
far_cons q qs T I h = rw (lt-ltb 255 (T - place_of q - 1) h)

pub near_cons : (q : Patch) (qs : List Patch) (T : ℕ) (I : List Insn) → T - place_of q - 1 ≤ 255
    → resolve (q ∷ qs) T I ≡ resolve qs T (resolved q (T - place_of q - 1) I)
unfolding resolve
near_cons q qs T I h = rw (le-ltb 255 (T - place_of q - 1) h)

module _ (S : List Patch) (i : ℕ) (d : Patch) (h : i < length S) where
  uncons : drop i S ≡ get_or S i d ∷ drop (i + 1) S
  uncons = rw add-one (drop-cons S i d h)

  pub below_step : (T : ℕ) → Below T (drop i S) → Below T (drop (i + 1) S)
  below_step T b = (subst (Below T) uncons b).1

  pub resolve_far : (T : ℕ) (I : List Insn) → 255 < T - place_of (get_or S i d) - 1 → resolve (drop i S) T I ≡ Err FarJump
  resolve_far T I far = ap (λ (x : List Patch). resolve x T I) uncons ∙ far_cons (get_or S i d) (drop (i + 1) S) T I far

  pub resolve_step : (T : ℕ) (I : List Insn) → T - place_of (get_or S i d) - 1 ≤ 255
      → resolve (drop (i + 1) S) T (resolved (get_or S i d) (T - place_of (get_or S i d) - 1) I) ≡ resolve (drop i S) T I
  resolve_step T I near = sym (ap (λ (x : List Patch). resolve x T I) uncons ∙ near_cons (get_or S i d) (drop (i + 1) S) T I near)

pub resolve_end : (S : List Patch) (i T : ℕ) (I : List Insn) → length S ≤ i → resolve (drop i S) T I ≡ Ok I
unfolding resolve
resolve_end S i T I h = rw (drop_all i S h)

-- those of a stack since it was m long, as a part of its row
pub between : (m n : ℕ) (S : List Patch) → m ≤ n → take (n - m) (drop m S) ≡ drop m (take n S)
between m n S h = let e : m + (n - m) ≡ n = omega arith in sym (ap (λ (k : ℕ). drop m (take k S)) (sym e) ∙ drop-take m (n - m) S)
