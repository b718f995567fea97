-- The items of a phrase, put into order from the right, are its prefix order.
use Prim.Native.Nat.{ℕ, suc, ◌+◌, ◌≤◌, ◌<◌}
use mathlib.Core.Path.{◌≡◌, refl, sym, ap, ap₂, ◌∙◌}
use mathlib.Core.List.{List, [], ◌∷◌, ◌++◌, append_assoc, append-nil}
use mathlib.Core.Bool.{Bool, true, false}
use native.Mathlib.Omega.{arith}
use lib.Dec.{leb}
use borrow.Author.Tests.{le-leb, lt-leb, leb-true, leb-false}
use Rattle.typing.specs.declared.Join.{Join}
use Rattle.typing.specs.Phrase.{Operand, term, negated, brackets, Phrase, one, two, operand_depth, depth}
use Rattle.lines.specs.declared.Entry.{Entry}
use Rattle.lines.specs.declared.Entry.TheVariants.{Not, Both, Leaf}
use Rattle.lines.specs.declared.Item.{Item}
use Rattle.lines.specs.Reads.{item}
use Rattle.lines.specs.Items.{operand_items, phrase_items}
use Rattle.records.specs.Arrange.{Popped, popped, pop_from, pop, placed, put, order}
use Rattle.records.specs.Order.{is_join, deep, joins, arranged, operand_prefix, phrase_prefix}

-- ---- popping

pub pop_step : {A : Type 0} (f : A → ℕ) (t : ℕ) (d : List A) (y : A) (ys : List A) → t ≤ f y → pop_from f t d (y ∷ ys) ≡ pop_from f t (y ∷ d) ys
unfolding pop_from
pop_step f t d y ys h = rw (le-leb t (f y) h, pop_from)

pub pop_stop : {A : Type 0} (f : A → ℕ) (t : ℕ) (d : List A) (y : A) (ys : List A) → f y < t → pop_from f t d (y ∷ ys) ≡ popped d (y ∷ ys)
unfolding pop_from
pop_stop f t d y ys h = rw (lt-leb t (f y) h, pop_from)

Below : ℕ → List Item → Type 0
Below t [] = Unit {0}
Below t (y ∷ ys) = y.depth < t

pop_below : (t : ℕ) (d ys : List Item) → Below t ys → pop_from deep t d ys ≡ popped d ys
unfolding pop_from Below
pop_below t d [] h = refl
pop_below t d (y ∷ ys) h = pop_stop deep t d y ys h

below_more : (t : ℕ) (ys : List Item) → Below t ys → Below (suc t) ys
unfolding Below
below_more t [] h = tt
below_more t (y ∷ ys) h = omega arith

pop_pop : (t : ℕ) (ys d : List Item) → pop_from deep t d ys ≡ pop deep t (pop_from deep (suc t) d ys)
unfolding pop_from
pop_pop t [] d = refl
pop_pop t (y ∷ ys) d = by (leb (suc t) (y.depth)) refl (pop_pop t ys (y ∷ d))
  where
    by : (b : Bool) → leb (suc t) (y.depth) ≡ b → pop_from deep t (y ∷ d) ys ≡ pop deep t (pop_from deep (suc t) (y ∷ d) ys) → pop_from deep t d (y ∷ ys) ≡ pop deep t (pop_from deep (suc t) d (y ∷ ys))
    by true e ih =
        let h : suc t ≤ y.depth = leb-true (suc t) (y.depth) e in
        pop_step deep t d y ys (omega arith) ∙ (ih ∙ ap (pop deep t) (sym (pop_step deep (suc t) d y ys h)))
    by false e ih = ap (pop deep t) (sym (pop_stop deep (suc t) d y ys (leb-false (suc t) (y.depth) e)))

-- ---- items

item_depth : (d : ℕ) (e : Entry) → d < 256 → (item d e).depth ≡ d
item_depth d e h = omega arith

put_is : (x : Item) (d : ℕ) (b : Bool) (r q : Popped Item) → x.depth ≡ d → is_join x.entry ≡ b → pop deep (suc d) r ≡ q → put deep joins x r ≡ placed b x q
put_is x d b r q e f h =
    let n : x.depth + 1 ≡ suc d = omega arith in
    ap₂ (λ c s. placed c x s) f (ap (λ (t : ℕ). pop deep t r) n ∙ h)

joins_below : (d : ℕ) (j : Join) (pe : List Item) → d < 256 → Below (suc d) (item d (Both j) ∷ pe)
unfolding Below
joins_below d j pe h = omega (arith, item_depth d (Both j) h)

joins_first : (d : ℕ) (j : Join) (pe a b dn : List Item) → d < 256
    → pop deep d (popped (a ++ (b ++ dn)) (item d (Both j) ∷ pe)) ≡ pop deep d (popped ((item d (Both j) ∷ (a ++ b)) ++ dn) pe)
joins_first d j pe a b dn h =
    pop_step deep d (a ++ (b ++ dn)) (item d (Both j)) pe (omega (arith, item_depth d (Both j) h))
    ∙ ap (λ xs. pop_from deep d (item d (Both j) ∷ xs) pe) (sym (append_assoc a b dn))

-- ---- phrases

order_next : (x : Item) (d : ℕ) (b : Bool) (xs : List Item) (q : Popped Item) → x.depth ≡ d → is_join x.entry ≡ b → pop deep (suc d) (order deep joins xs) ≡ q → order deep joins (x ∷ xs) ≡ placed b x q
unfolding order
order_next x d b xs q e f h = put_is x d b (order deep joins xs) q e f h

leaf_order : (x : Item) (d : ℕ) (xs dn pe : List Item) → x.depth ≡ d → is_join x.entry ≡ false → Below (suc d) pe → pop deep (suc d) (order deep joins xs) ≡ popped dn pe
    → pop deep (suc d) (order deep joins (x ∷ xs)) ≡ popped (x ∷ dn) pe
leaf_order x d xs dn pe e f b h = ap (pop deep (suc d)) (order_next x d false xs (popped dn pe) e f h) ∙ pop_below (suc d) (x ∷ dn) pe b

mutual
  operand_order : (o : Operand) (d : ℕ) (xs dn pe : List Item) → order deep joins xs ≡ popped dn pe → Below (suc d) pe → d + operand_depth o < 256
      → pop deep (suc d) (order deep joins (operand_items d o ++ xs)) ≡ popped (operand_prefix d o ++ dn) pe
  operand_order (term t) d xs dn pe e b h =
      leaf_order (item d (Leaf t)) d xs dn pe (item_depth d (Leaf t) (omega arith)) refl b (ap (pop deep (suc d)) e ∙ pop_below (suc d) dn pe b)
  operand_order (negated o) d xs dn pe e b h =
      leaf_order (item d Not) d (operand_items d o ++ xs) (operand_prefix d o ++ dn) pe (item_depth d Not (omega arith))
      refl b (operand_order o d xs dn pe e b h)
  operand_order (brackets p) d xs dn pe e b h =
      phrase_order p (suc d) xs dn pe e (below_more (suc d) pe b) (omega arith) ∙ pop_below (suc d) (phrase_prefix (suc d) p ++ dn) pe b

  phrase_order : (p : Phrase) (d : ℕ) (xs dn pe : List Item) → order deep joins xs ≡ popped dn pe → Below (suc d) pe → d + depth p < 256
      → pop deep d (order deep joins (phrase_items d p ++ xs)) ≡ pop deep d (popped (phrase_prefix d p ++ dn) pe)
  phrase_order (one o) d xs dn pe e b h =
      pop_pop d _ _ ∙ ap (pop deep d) (operand_order o d xs dn pe e b h)
  phrase_order (two p j o) d xs dn pe e b h =
      ap (λ ys. pop deep d (order deep joins ys)) (append_assoc (phrase_items d p) (item d (Both j) ∷ operand_items d o) xs)
      ∙ (phrase_order p d (item d (Both j) ∷ (operand_items d o ++ xs)) (operand_prefix d o ++ dn) (item d (Both j) ∷ pe)
      (order_next (item d (Both j)) d true (operand_items d o ++ xs) (popped (operand_prefix d o ++ dn) pe) (item_depth d (Both j) (omega arith)) refl
      (operand_order o d xs dn pe e b (omega arith)))
      (joins_below d j pe (omega arith)) (omega arith)
      ∙ joins_first d j pe (phrase_prefix d p) (operand_prefix d o) dn (omega arith))

-- the items of a phrase, put into order, are its prefix order
pub ordered : (p : Phrase) → depth p ≤ 128 → arranged (phrase_items 0 p) ≡ phrase_prefix 0 p
unfolding order Below pop_from
ordered p h =
    ap (λ r. r.finished) (ap (λ xs. pop deep 0 (order deep joins xs)) (sym (append-nil (phrase_items 0 p))) ∙ phrase_order p 0 [] [] [] refl tt (omega arith)) ∙ append-nil (phrase_prefix 0 p)
