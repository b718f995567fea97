-- The records one after the other: forward for number 3, from the last back for number 4.
use Rattle.std.specs.Prelude.{Ok, Err, IsOk}
use Prim.Native.Nat.{ℕ, zero, suc, ◌+◌, ◌*◌, ◌-◌, ◌≤◌, ◌<◌}
use mathlib.Core.Path.{◌≡◌, refl, sym, ap, ◌∙◌}
use mathlib.Core.List.{List, [], ◌∷◌}
use native.Mathlib.Omega.{arith}
use lib.ListN.{length}
use Rattle.error.specs.declared.Refusal.{Refusal}
use Rattle.error.specs.declared.Refusal.TheVariants.{NotOneTree}
use Rattle.error.specs.Answer.{Out, ◌>>=◌}
use Rattle.ast.specs.Tree.{Expr}
use Rattle.ast.specs.declared.Node.{Node}
use Rattle.ast.specs.declared.Node.TheVariants.{AndNode, OrNode, NotNode, LeafNode}
use Rattle.ast.specs.Record.{node_at}
use Rattle.ast.specs.File.{count_of, nodes_at, grow, trees_of, only}
use Rattle.reader.specs.Reader.{place, forest}
use Rattle.reader.specs.Checking.{passed, asks, whole_tree, Good}

-- ---- number 3

both_passed : (o : Out Node) (p : Out (List Node)) → passed (o >>= λ x. p >>= λ xs. Ok (x ∷ xs)) ≡ (passed o >>= λ u. passed p)
both_passed (Err r) p = refl
both_passed (Ok x) (Err r) = refl
both_passed (Ok x) (Ok xs) = refl

nodes_next : (s : List ℕ) (m n at next : ℕ) → n ≡ suc m → next ≡ at + 24 → passed (nodes_at n at s) ≡ (passed (node_at at s) >>= λ u. passed (nodes_at m next s))
unfolding nodes_at
nodes_next s m n at next p q =
    ap (λ k. passed (nodes_at k at s)) p ∙ both_passed (node_at at s) (nodes_at m (at + 24) s)
    ∙ ap (λ a. passed (node_at at s) >>= λ u. passed (nodes_at m a s)) (sym q)

-- the answer for the records from i on, by that for record i
module _ (s : List ℕ) (n i : ℕ) (within : i < n) where
  turn : passed (nodes_at (n - i) (place i) s) ≡ (passed (node_at (place i) s) >>= λ u. passed (nodes_at (n - (i + 1)) (place (i + 1)) s))
  turn = nodes_next s (n - (i + 1)) (n - i) (place i) (place (i + 1)) (omega arith) (omega arith)

  pub turn_bad : {r : Refusal} → passed (node_at (place i) s) ≡ Err r → passed (nodes_at (n - i) (place i) s) ≡ Err r
  turn_bad e = turn ∙ ap (λ o. o >>= λ u. passed (nodes_at (n - (i + 1)) (place (i + 1)) s)) e

  pub turn_good : {u : Unit {0}} → passed (node_at (place i) s) ≡ Ok u → passed (nodes_at (n - i) (place i) s) ≡ passed (nodes_at (n - (i + 1)) (place (i + 1)) s)
  turn_good e = turn ∙ ap (λ o. o >>= λ u. passed (nodes_at (n - (i + 1)) (place (i + 1)) s)) e

-- none is left
pub nodes_end : (s : List ℕ) (n i : ℕ) → n ≤ i → Ok tt ≡ passed (nodes_at (n - i) (place i) s)
unfolding nodes_at
nodes_end s n i h = let e : n - i ≡ 0 = omega arith in rw e

passed_ok : {A : Type 0} (o : Out A) → passed o ≡ Ok tt → IsOk o
passed_ok (Err r) e = cc
passed_ok (Ok a) e = refl

first_passed : (o : Out (Unit {0})) (p : Out (Unit {0})) → (o >>= λ u. p) ≡ Ok tt → (o ≡ Ok tt) × (p ≡ Ok tt)
first_passed (Err r) p e = cc
first_passed (Ok tt) p e = (refl, e)

each_from : (s : List ℕ) (n at i : ℕ) → passed (nodes_at n at s) ≡ Ok tt → i < n → IsOk (node_at (at + 24 * i) s)
each_from s zero at i e h = absurd (omega arith)
each_from s (suc n) at zero e h =
    let k : at + 24 * 0 ≡ at = omega arith in
    rw k (passed_ok (node_at at s) (first_passed (passed (node_at at s)) (passed (nodes_at n (at + 24) s)) (sym (nodes_next s n (suc n) at (at + 24) refl refl) ∙ e)).0)
each_from s (suc n) at (suc i) e h =
    let k : at + 24 * suc i ≡ at + 24 + 24 * i = omega arith in
    rw k (each_from s n (at + 24) i (first_passed (passed (node_at at s)) (passed (nodes_at n (at + 24) s)) (sym (nodes_next s n (suc n) at (at + 24) refl refl) ∙ e)).1 (omega arith))

-- ---- number 4

-- a node before the nodes that follow it grows from their trees
grown : (x : Node) (o : Out (List Node)) → ((o >>= λ xs. Ok (x ∷ xs)) >>= trees_of) ≡ (o >>= trees_of >>= grow x)
unfolding trees_of
grown x (Err r) = refl
grown x (Ok xs) = refl

forest_next : (s : List ℕ) (m n at next : ℕ) (x : Node) → n ≡ suc m → next ≡ at + 24 → node_at at s ≡ Ok x
    → (nodes_at n at s >>= trees_of) ≡ (nodes_at m next s >>= trees_of >>= grow x)
unfolding nodes_at
forest_next s m n at next x p q e =
    ap (λ k. nodes_at k at s >>= trees_of) p ∙ ap (λ o. (o >>= λ x. nodes_at m (at + 24) s >>= λ xs. Ok (x ∷ xs)) >>= trees_of) e ∙ grown x (nodes_at m (at + 24) s)
    ∙ ap (λ a. nodes_at m a s >>= trees_of >>= grow x) (sym q)

-- how many trees there are
abbrev pub sizes : Out (List Expr) → Out ℕ
sizes (Err r) = Err r
sizes (Ok ts) = Ok (length ts)

grow_lacks : (x : Node) (ts : List Expr) → length ts < asks x → grow x ts ≡ Err NotOneTree
unfolding grow
grow_lacks AndNode [] h = refl
grow_lacks AndNode (l ∷ []) h = refl
grow_lacks AndNode (l ∷ r ∷ ts) h = absurd (omega arith)
grow_lacks OrNode [] h = refl
grow_lacks OrNode (l ∷ []) h = refl
grow_lacks OrNode (l ∷ r ∷ ts) h = absurd (omega arith)
grow_lacks NotNode [] h = refl
grow_lacks NotNode (t ∷ ts) h = absurd (omega arith)
grow_lacks (LeafNode p) ts h = absurd (omega arith)

grow_sizes : (x : Node) (ts : List Expr) → asks x ≤ length ts → sizes (grow x ts) ≡ Ok (length ts + 1 - asks x)
unfolding grow
grow_sizes AndNode [] h = absurd (omega arith)
grow_sizes AndNode (l ∷ []) h = absurd (omega arith)
grow_sizes AndNode (l ∷ r ∷ ts) h = ap Ok (omega arith)
grow_sizes OrNode [] h = absurd (omega arith)
grow_sizes OrNode (l ∷ []) h = absurd (omega arith)
grow_sizes OrNode (l ∷ r ∷ ts) h = ap Ok (omega arith)
grow_sizes NotNode [] h = absurd (omega arith)
grow_sizes NotNode (t ∷ ts) h = ap Ok (omega arith)
grow_sizes (LeafNode p) ts h = ap Ok (omega arith)

bind_lacks : (x : Node) (o : Out (List Expr)) (t : ℕ) → sizes o ≡ Ok t → t < asks x → (o >>= grow x) ≡ Err NotOneTree
bind_lacks x (Err r) t e h = cc
bind_lacks x (Ok ts) t e h = let q : length ts ≡ t = cc in grow_lacks x ts (omega arith)

bind_sizes : (x : Node) (o : Out (List Expr)) (t : ℕ) → sizes o ≡ Ok t → asks x ≤ t → sizes (o >>= grow x) ≡ Ok (t + 1 - asks x)
bind_sizes x (Err r) t e h = cc
bind_sizes x (Ok ts) t e h = let q : length ts ≡ t = cc in grow_sizes x ts (omega arith) ∙ ap (λ n. Ok (n + 1 - asks x)) q

-- one tree, or number 4
bind_one : (o : Out (List Expr)) (t : ℕ) → sizes o ≡ Ok t → t ≡ 1 → Ok tt ≡ passed (o >>= only)
bind_one (Err r) t e h = cc
bind_one (Ok []) t e h = let q : 0 ≡ t = cc in absurd (omega arith)
bind_one (Ok (u ∷ [])) t e h = refl
bind_one (Ok (u ∷ v ∷ ts)) t e h = let q : length (u ∷ v ∷ ts) ≡ t = cc in absurd (omega arith)

bind_other : (o : Out (List Expr)) (t : ℕ) → sizes o ≡ Ok t → (t ≡ 1 → ⊥) → Err NotOneTree ≡ passed (o >>= only)
bind_other (Err r) t e h = cc
bind_other (Ok []) t e h = refl
bind_other (Ok (u ∷ [])) t e h = let q : 1 ≡ t = cc in absurd (h (sym q))
bind_other (Ok (u ∷ v ∷ ts)) t e h = refl

module _ {s : List ℕ} {n : ℕ} (g : Good s n) where
  pub good_at : (j : ℕ) → j < n → IsOk (node_at (place j) s)
  good_at j h = each_from s n 8 j g.nodes h

  forest_step : (i j : ℕ) {x : Node} → i ≡ j + 1 → i ≤ n → node_at (place j) s ≡ Ok x → forest s j ≡ (forest s i >>= grow x)
  unfolding forest
  forest_step i j {x} e h is =
      forest_next s (count_of s - i) (count_of s - j) (place j) (place i) x (omega (arith, g.count)) (omega arith) is

  node_ok : (o : Out Node) → IsOk o → (x : Node) × (o ≡ Ok x)
  node_ok (Err r) h = cc
  node_ok (Ok x) h = (x, refl)

  fails_down : (i : ℕ) → i ≤ n → forest s i ≡ Err NotOneTree → forest s 0 ≡ Err NotOneTree
  fails_down zero h e = e
  fails_down (suc i) h e =
      let x = node_ok (node_at (place i) s) (good_at i (omega arith)) in
      fails_down i (omega arith) (forest_step (suc i) i (omega arith) h x.1 ∙ ap (λ o. o >>= grow x.0) e)

  -- no record yet, and all of them
  pub one_start : sizes (forest s n) ≡ Ok 0
  unfolding forest nodes_at trees_of
  one_start = let e : count_of s - n ≡ 0 = omega (arith, g.count) in ap (λ k. sizes (nodes_at k (place n) s >>= trees_of)) e

  pub one_end : {t : ℕ} → sizes (forest s 0) ≡ Ok t → t ≡ 1 → Ok tt ≡ passed (whole_tree s)
  unfolding whole_tree
  one_end {t} e h = bind_one (forest s 0) t e h

  pub other_end : {t : ℕ} → sizes (forest s 0) ≡ Ok t → (t ≡ 1 → ⊥) → Err NotOneTree ≡ passed (whole_tree s)
  unfolding whole_tree
  other_end {t} e h = bind_other (forest s 0) t e h

  -- record j, before which t trees stand from record i on, asks for a of them
  module _ (i j : ℕ) (follows : i ≡ j + 1) (within : i ≤ n) {t a : ℕ} {x : Node} (stand : sizes (forest s i) ≡ Ok t) (is : node_at (place j) s ≡ Ok x) (asked : a ≡ asks x) where
    pub one_lacks : t < a → Err NotOneTree ≡ passed (whole_tree s)
    unfolding whole_tree
    one_lacks h =
        let e : forest s 0 ≡ Err NotOneTree = fails_down j (omega arith) (forest_step i j follows within is ∙ bind_lacks x (forest s i) t stand (omega arith)) in
        rw e

    pub one_turn : a ≤ t → sizes (forest s j) ≡ Ok (t + 1 - a)
    one_turn h = ap sizes (forest_step i j follows within is) ∙ bind_sizes x (forest s i) t stand (omega arith) ∙ ap (λ b. Ok (t + 1 - b)) (sym asked)
