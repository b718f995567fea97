-- The node of a record as the code finds it: by the kind of the record's number.
use Rattle.std.specs.Prelude.{Ok, Err}
use Prim.Native.Nat.{ℕ, ◌+◌}
use mathlib.Core.Path.{◌≡◌, refl, sym, ap, ◌∙◌}
use mathlib.Core.List.{List, [], ◌∷◌}
use mathlib.Core.Bool.{Bool, true, false, cond}
use native.Mathlib.Nat.{add-zero}
use lib.Dec.{eqb}
use Rattle.error.specs.declared.Refusal.TheVariants.{BadRecord}
use Rattle.error.specs.Answer.{Out, ◌>>=◌}
use Rattle.bpf.specs.Bytes.{be}
use Rattle.ast.specs.declared.Node.{Node}
use Rattle.ast.specs.Record.{Record, record_at, kinds, good, node_by, node_at}
use Rattle.ast.specs.Record as R
use Rattle.reader.specs.declared.Kind.{Kind}
use Rattle.error.specs.declared.Refusal.{Refusal}
use Rattle.std.specs.Prelude.{IsOk}
use Rattle.reader.specs.Checking.{all, row, kind_among, kind_of, passed}

-- the answer for a record of this kind
abbrev pub at_kind : Record → Kind → Out Node
at_kind r k = cond (good (row k) r) (Ok ((row k).node r)) (Err BadRecord)

rows : List Kind → List R.Kind
rows [] = []
rows (k ∷ ks) = row k ∷ rows ks

by_kind : (ks : List Kind) (r : Record) → node_by (rows ks) r ≡ (kind_among ks r.kind >>= at_kind r)
unfolding node_by rows
by_kind [] r = refl
by_kind (k ∷ ks) r = step (eqb r.kind (row k).number) (by_kind ks r)
  where
    step : (b : Bool) → node_by (rows ks) r ≡ (kind_among ks r.kind >>= at_kind r) → cond b (at_kind r k) (node_by (rows ks) r) ≡ (cond b (Ok k) (kind_among ks r.kind) >>= at_kind r)
    step true e = refl
    step false e = e

-- b is the record's first byte
module _ (s : List ℕ) (at : ℕ) {b : ℕ} (is : b ≡ be 1 (at + 0) s) where
  pub node_found : node_at at s ≡ (kind_of b >>= at_kind (record_at at s))
  unfolding rows record_at
  node_found = by_kind all (record_at at s) ∙ ap (λ n. kind_of n >>= at_kind (record_at at s)) (sym (is ∙ ap (λ a. be 1 a s) (add-zero at)))

  pub unknown_kind : {r : Refusal} → kind_of b ≡ Err r → Err r ≡ passed (node_at at s)
  unknown_kind e = rw (node_found, e)

  module _ {k : Kind} (known : kind_of b ≡ Ok k) where
    pub tested : {g : Bool} → g ≡ good (row k) (record_at at s) → cond g (Ok tt) (Err BadRecord) ≡ passed (node_at at s)
    tested {g} e = rw (node_found, known, ← e) (answer g)
      where
        answer : (t : Bool) → cond t (Ok tt) (Err BadRecord) ≡ passed (cond t (Ok ((row k).node (record_at at s))) (Err BadRecord))
        answer true = refl
        answer false = refl

    pub node_of_kind : IsOk (node_at at s) → node_at at s ≡ Ok ((row k).node (record_at at s))
    node_of_kind h = rw (node_found, known) (passes (good (row k) (record_at at s)) (rw (node_found, known) at h))
      where
        passes : (t : Bool) → IsOk (cond t (Ok ((row k).node (record_at at s))) (Err BadRecord)) → cond t (Ok ((row k).node (record_at at s))) (Err BadRecord) ≡ Ok ((row k).node (record_at at s))
        passes true q = refl
        passes false q = cc

  pub kind_known : IsOk (node_at at s) → IsOk (kind_of b)
  kind_known h = known (kind_of b) (rw node_found at h)
    where
      known : (o : Out Kind) → IsOk (o >>= at_kind (record_at at s)) → IsOk o
      known (Err r) q = cc
      known (Ok k) q = refl
