-- T-03, "Cooked captures have no destination address", of what a call of `build` answers and leaves. What the trees are is codegen's
-- page of the same name; `proofs/Cooked.antt` proves this one of every tree file from what `build` promises.
use Rattle.std.specs.Prelude.{None, Some}
use Rattle.std.specs.Prelude.{Ok}
use Rattle.std.specs.Prelude.{ℕ, ◌≡◌, List, false, ◌⊎◌, replicate}
use Rattle.error.specs.declared.Refusal.{Refusal}
use Rattle.error.specs.declared.Refusal.TheVariants.{FarJump, ShortBuffer}
use Rattle.ast.specs.declared.LinkType.{LinkType}
use Rattle.ast.specs.declared.LinkType.TheVariants.{LinuxSll}
use Rattle.ast.specs.Tree.{Expr}
use Rattle.ast.specs.File.{parse}
use Rattle.codegen.specs.Cooked.{first_down, holds_ether, compile_before}
use Rattle.build.specs.Build.{into}
use Rattle.build.specs.Demands.{Calls, Refuses}

-- a tree file that passes 1 to 4, with its link and its tree
abbrev pub Reads : List ℕ → LinkType → Expr → Type 0
Reads T L t = parse T ≡ Ok (record { link = L; tree = t })

pub record CookedFile (T : List ℕ) (c : Calls) : Type 0 where
  -- "On LinuxSll, kind 17 is now accepted only with direction 1, and kind 19 is turned down." "15 .., met in the source's walk at that leaf and
  -- zeroing the buffer, like 7": the first condition that is turned down gives its number, 15 or 6, or it is 8
  pub turned : (t : Expr) (r : Refusal) → Reads T LinuxSll t → first_down t ≡ Some r → (lent : ℕ)
      → (Refuses c lent r ⊎ Refuses c lent FarJump) × (c.buffer lent ≡ replicate lent 0)
  -- a tree without one is accepted, unless a jump is too far or too little is lent
  pub free : (t : Expr) (r : Refusal) → Reads T LinuxSll t → first_down t ≡ None → (lent : ℕ) → Refuses c lent r → (r ≡ FarJump) ⊎ (r ≡ ShortBuffer)
  -- "Such trees no longer equal the Rust": any other file that passes 1 to 4 has the answer and leaves the bytes that it had
  pub kept : (L : LinkType) (t : Expr) → Reads T L t → (¬ (L ≡ LinuxSll)) ⊎ (holds_ether t ≡ false) → (lent : ℕ)
      → (c.answer lent ≡ (into lent (compile_before L t)).answer) × (c.buffer lent ≡ (into lent (compile_before L t)).buffer)
