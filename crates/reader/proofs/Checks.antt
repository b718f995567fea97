-- The checks in their order, and what an answer of `check` says of the file.
use Rattle.std.specs.Prelude.{Ok, Err}
use Rattle.std.specs.Result.{IsErrAnd}
use Rattle.std.proofs.lemmas.Result.{err_from_is_err_and}
use Prim.Native.Nat.{ℕ, ◌-◌, ◌≤◌}
use mathlib.Core.Path.{◌≡◌, refl, sym, ap, ◌∙◌}
use mathlib.Core.List.{List, [], ◌∷◌}
use native.Mathlib.Omega.{arith}
use lib.Dec.{ltb}
use lib.ListN.{length}
use borrow.Author.Tests.{ltb-false}
use Rattle.error.specs.declared.Refusal.{Refusal}
use Rattle.error.specs.Answer.{Out, ◌>>=◌}
use Rattle.error.proofs.All.{All, all_cond, all_of}
use Rattle.error.proofs.Either.{neither}
use Rattle.bpf.specs.Bytes.{be}
use Rattle.ast.specs.declared.LinkType.{LinkType}
use Rattle.ast.specs.declared.Node.{Node}
use Rattle.ast.specs.Tree.{Expr}
use Rattle.ast.specs.File.{link_of, strange, header, count_of, count, nodes_at, trees_of, only, Filter, parse}
use Rattle.ast.proofs.Walk.{parsed, parse_records, counted}
use Rattle.reader.specs.Reader.{place, forest, tree_of, end_of, Here, checked}
use Rattle.reader.specs.Checking.{passed, whole_tree, Good}
use Rattle.reader.proofs.Here.{From, restand, from_tree, from_end, from_here}

-- ---- one check after the other

all_long : (s : List ℕ) → All (λ l. 8 ≤ length s) (header s)
unfolding header
all_long s = all_cond _ (strange s) _ _ (λ e. tt) (λ e. all_of _ (link_of (be 1 5 s)) (λ l q. ltb-false _ _ (neither (ltb (length s) 8) _ e).0))

pub header_long : (s : List ℕ) {l : LinkType} → header s ≡ Ok l → 8 ≤ length s
header_long s e = rw e at (all_long s)

-- the answer by the trees that the nodes make
module _ (l : LinkType) where
  by_tree : (o : Out Expr) → checked (o >>= λ t. Ok (record { link = l; tree = t })) ≡ (passed o >>= λ u. Ok l)
  by_tree (Err r) = refl
  by_tree (Ok t) = refl

  by_trees : (o : Out (List Expr)) → checked (o >>= λ ts. only ts >>= λ t. Ok (record { link = l; tree = t })) ≡ (passed (o >>= only) >>= λ u. Ok l)
  by_trees (Err r) = refl
  by_trees (Ok ts) = by_tree (only ts)

  by_nodes : (o : Out (List Node)) → checked (o >>= λ ns. trees_of ns >>= λ ts. only ts >>= λ t. Ok (record { link = l; tree = t })) ≡ (passed (o >>= trees_of >>= only) >>= λ u. Ok l)
  by_nodes (Err r) = refl
  by_nodes (Ok ns) = by_trees (trees_of ns)

-- an error that a `?` hands on
pub handed_on : {A : Type 0} (r : Out A) {x : Out A} {q : Refusal} → IsErrAnd r (λ y. y ≡ q) → Err q ≡ x → r ≡ x
handed_on r h e = let p = err_from_is_err_and r h in rw (p.1, p.2) e

err_of : {A : Type 0} (o : Out A) {r : Refusal} → passed o ≡ Err r → o ≡ Err r
err_of (Err q) e = ap Err cc
err_of (Ok a) e = cc

module _ (s : List ℕ) where
  pub header_refused : {r : Refusal} → header s ≡ Err r → Err r ≡ checked (parse s)
  unfolding parse
  header_refused e = rw e

  module _ {l : LinkType} (h : header s ≡ Ok l) where
    pub count_refused : {r : Refusal} → count s ≡ Err r → Err r ≡ checked (parse s)
    unfolding parse
    count_refused e = rw (h, e)

    module _ {n : ℕ} (k : count s ≡ Ok n) where
      pub records_refused : {r : Refusal} → passed (nodes_at n 8 s) ≡ Err r → Err r ≡ checked (parse s)
      unfolding parse
      records_refused e = rw (h, k, err_of (nodes_at n 8 s) e)

      whole : checked (parse s) ≡ (passed (whole_tree s) >>= λ u. Ok l)
      unfolding parse whole_tree forest
      whole =
          let z : n ≡ count_of s - 0 = omega (arith, (counted s n k).here) in
          rw (h, k, by_nodes l (nodes_at n 8 s)) (ap (λ m. passed (nodes_at m 8 s >>= trees_of >>= only) >>= λ u. Ok l) z)

      pub tree_refused : {r : Refusal} → passed (whole_tree s) ≡ Err r → Err r ≡ checked (parse s)
      tree_refused e = rw (whole, e)

      pub tree_passed : {u : Unit {0}} → passed (whole_tree s) ≡ Ok u → Ok l ≡ checked (parse s)
      tree_passed e = rw (whole, e)

pub few_records : (s : List ℕ) {n : ℕ} → count s ≡ Ok n → (n ≤ 128) × (place n ≤ length s)
few_records s {n} k = let c = counted s n k in (c.most, omega arith)

pub good_file : (s : List ℕ) {n : ℕ} {u : Unit {0}} → count s ≡ Ok n → passed (nodes_at n 8 s) ≡ Ok u → Good s n
good_file s {n} k e =
    let c = counted s n k in
    record { count = c.here; most = c.most; whole = c.whole; nodes = e }

-- ---- what the answer says

-- the file that a link was answered for
file_of_lem : (s : List ℕ) (f : Filter) → parse s ≡ Ok f → From s 0 (f.tree ∷ [])
file_of_lem s f e =
    let p = parsed s f e in
    let k = counted s (count_of s) p.number in
    record { most = k.most; whole = k.whole; last = omega arith; stands = restand (omega arith) refl p.tree }

of_link : (s : List ℕ) (L : LinkType) (f : Filter) → parse s ≡ Ok f → f.link ≡ L
    → Here s 0 × (end_of s 0 ≡ count_of s) × (parse s ≡ Ok (record { link = L; tree = tree_of s 0 }))
of_link s L f e q =
    let h = file_of_lem s f e in (
      from_here h,
      omega (arith, from_end h, parse_records s f e),
      e ∙ λ j. Ok (record { link = q j; tree = sym (from_tree h) j }),
    )

link_by : (s : List ℕ) (L : LinkType) (o : Out Filter) → parse s ≡ o → checked o ≡ Ok L
    → Here s 0 × (end_of s 0 ≡ count_of s) × (parse s ≡ Ok (record { link = L; tree = tree_of s 0 }))
link_by s L (Err r) e q = cc
link_by s L (Ok f) e q = of_link s L f e cc

pub check_link : (s : List ℕ) (L : LinkType) → checked (parse s) ≡ Ok L
    → Here s 0 × (end_of s 0 ≡ count_of s) × (parse s ≡ Ok (record { link = L; tree = tree_of s 0 }))
check_link s L e = link_by s L (parse s) refl e

refusal_by : (o : Out Filter) (r : Refusal) → checked o ≡ Err r → o ≡ Err r
refusal_by (Err q) r e = cc
refusal_by (Ok f) r e = cc

pub check_refused : (s : List ℕ) (r : Refusal) → checked (parse s) ≡ Err r → parse s ≡ Err r
check_refused s r e = refusal_by (parse s) r e
