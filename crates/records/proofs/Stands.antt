-- The slots of items in prefix order stand for the items in prefix order.
use Prim.Native.Nat.{ℕ, zero, suc, ◌+◌, ◌-◌, ◌<◌, ◌≤◌}
use mathlib.Core.Path.{◌≡◌, refl, sym, ap, ap₂, ◌∙◌}
use mathlib.Core.List.{List, [], ◌∷◌, ◌++◌, append_assoc}
use mathlib.Core.Bool.{Bool, true, false}
use native.Mathlib.Omega.{arith}
use lib.Dec.{leb}
use lib.ListN.{length, get_or, take, drop, length-append, length-drop}
use lib.Seq.{take-length}
use borrow.Author.Tests.{leb-true, leb-false}
use Rattle.records.specs.declared.Slot.{Slot}
use Rattle.records.specs.Arrange.{Popped, pop_from, pop, placed, order, arranged, rows}
use Rattle.records.proofs.Ordered.{pop_step, pop_stop}
use Rattle.records.specs.Order.{slot, slot_deep, slot_joins, arranged_slots, slots_of, Inside, row_at, slot_rows}

module _ {T : Type 0} (deep : T → ℕ) (joins : T → Bool) (row : T → List ℕ) (items : List T) where
  -- a slot stands for an item
  record Stands (s : Slot) (x : T) : Type 0 where
    same_depth : s.depth ≡ deep x
    same_join : s.joins ≡ joins x
    inside : s.place < length items
    same_row : row_at row items s.place ≡ row x

  abbrev Each : List Slot → List T → Type 0
  Each [] [] = Unit {0}
  Each [] (x ∷ xs) = ⊥
  Each (s ∷ ss) [] = ⊥
  Each (s ∷ ss) (x ∷ xs) = Stands s x × Each ss xs

  abbrev Both : Popped Slot → Popped T → Type 0
  Both p q = Each p.finished q.finished × Each p.waiting q.waiting

  both_as : {o p : Popped Slot} {q r : Popped T} → o ≡ p → q ≡ r → Both p r → Both o q
  both_as e f h = rw (e, f) h

  each_pop : (t u : ℕ) → t ≡ u → (ds : List Slot) (dx : List T) (ss : List Slot) (xs : List T) → Each ds dx → Each ss xs → Both (pop_from slot_deep t ds ss) (pop_from deep u dx xs)
  unfolding pop_from
  each_pop t u e ds dx [] [] d h = (d, tt)
  each_pop t u e ds dx [] (x ∷ xs) d h = absurd h
  each_pop t u e ds dx (s ∷ ss) [] d h = absurd h
  each_pop t u e ds dx (s ∷ ss) (x ∷ xs) d h = by (leb u (deep x)) refl (each_pop t u e (s ∷ ds) (x ∷ dx) ss xs (h.0, d) h.1)
    where
      by : (b : Bool) → leb u (deep x) ≡ b → Both (pop_from slot_deep t (s ∷ ds) ss) (pop_from deep u (x ∷ dx) xs) → Both (pop_from slot_deep t ds (s ∷ ss)) (pop_from deep u dx (x ∷ xs))
      by true f ih =
          let k : u ≤ deep x = leb-true u (deep x) f in
          both_as (pop_step slot_deep t ds s ss (omega (arith, h.0.same_depth))) (pop_step deep u dx x xs k) ih
      by false f ih =
          let k : deep x < u = leb-false u (deep x) f in
          both_as (pop_stop slot_deep t ds s ss (omega (arith, h.0.same_depth))) (pop_stop deep u dx x xs k) (d, h)

  each_placed : (b c : Bool) → b ≡ c → (s : Slot) (x : T) (p : Popped Slot) (q : Popped T) → Stands s x → Both p q → Both (placed b s p) (placed c x q)
  each_placed true true e s x p q h k = (k.0, (h, k.1))
  each_placed true false e s x p q h k = cc
  each_placed false true e s x p q h k = cc
  each_placed false false e s x p q h k = ((h, k.0), k.1)

  each_put : (s : Slot) (x : T) (p : Popped Slot) (q : Popped T) → Stands s x → Both p q → Both (placed s.joins s (pop slot_deep (s.depth + 1) p)) (placed (joins x) x (pop deep (deep x + 1) q))
  each_put s x p q h k =
      let e : s.depth + 1 ≡ deep x + 1 = omega (arith, h.same_depth) in
      each_placed s.joins (joins x) h.same_join s x (pop slot_deep (s.depth + 1) p) (pop deep (deep x + 1) q) h
      (each_pop (s.depth + 1) (deep x + 1) e p.finished q.finished p.waiting q.waiting k.0 k.1)

  each_order : (ss : List Slot) (xs : List T) → Each ss xs → Both (order slot_deep slot_joins ss) (order deep joins xs)
  unfolding order
  each_order [] [] h = (tt, tt)
  each_order [] (x ∷ xs) h = absurd h
  each_order (s ∷ ss) [] h = absurd h
  each_order (s ∷ ss) (x ∷ xs) h = each_put s x (order slot_deep slot_joins ss) (order deep joins xs) h.0 (each_order ss xs h.1)

  each_arranged : (ss : List Slot) (xs : List T) → Each ss xs → Each (arranged_slots ss) (arranged deep joins xs)
  each_arranged ss xs h =
      let p = order slot_deep slot_joins ss in
      let q = order deep joins xs in
      let k = each_order ss xs h in
      (each_pop 0 0 refl p.finished q.finished p.waiting q.waiting k.0 k.1).0

  row_there : (front : List T) (x : T) (back : List T) → row_at row (front ++ (x ∷ back)) (length front) ≡ row x
  row_there [] x back = refl
  row_there (y ∷ front) x back = row_there front x back

  each_slots : (front back : List T) (i : ℕ) → items ≡ front ++ back → i ≡ length front → Each (slots_of deep joins i back) back
  each_slots front [] i e n = tt
  each_slots front (x ∷ back) i e n =
      let here : Stands (slot (deep x) (joins x) i) x =
      record {
        same_depth = refl;
        same_join = refl;
        inside = omega (arith, n, ap length e, length-append front (x ∷ back));
        same_row = rw (e, n) (row_there front x back);
      } in
      (here, each_slots (front ++ (x ∷ [])) back (suc i) (e ∙ sym (append_assoc front (x ∷ []) back)) (omega (arith, n, length-append front (x ∷ []))))

  each_inside : (ss : List Slot) (xs : List T) → Each ss xs → Inside (length items) ss
  each_inside [] xs h = tt
  each_inside (s ∷ ss) [] h = absurd h
  each_inside (s ∷ ss) (x ∷ xs) h = (h.0.inside, each_inside ss xs h.1)

  each_rows : (ss : List Slot) (xs : List T) → Each ss xs → slot_rows row items ss ≡ rows row xs
  each_rows [] [] h = refl
  each_rows [] (x ∷ xs) h = absurd h
  each_rows (s ∷ ss) [] h = absurd h
  each_rows (s ∷ ss) (x ∷ xs) h = ap₂ ◌++◌ h.0.same_row (each_rows ss xs h.1)

  stands : Each (arranged_slots (slots_of deep joins 0 items)) (arranged deep joins items)
  stands = each_arranged (slots_of deep joins 0 items) items (each_slots [] items 0 refl refl)

  pub slots_inside : Inside (length items) (arranged_slots (slots_of deep joins 0 items))
  slots_inside = each_inside (arranged_slots (slots_of deep joins 0 items)) (arranged deep joins items) stands

  pub slots_written : slot_rows row items (arranged_slots (slots_of deep joins 0 items)) ≡ rows row (arranged deep joins items)
  slots_written = each_rows (arranged_slots (slots_of deep joins 0 items)) (arranged deep joins items) stands

-- ---- the item at a slot's place

pub inside_at : (n : ℕ) (ss : List Slot) (i : ℕ) (d : Slot) → Inside n ss → i < length ss → (get_or ss i d).place < n
inside_at n [] i d h k = absurd (omega arith)
inside_at n (s ∷ ss) zero d h k = h.0
inside_at n (s ∷ ss) (suc i) d h k = inside_at n ss i d h.1 (omega arith)

pub row_here : {T : Type 0} (row : T → List ℕ) (items : List T) (i : ℕ) (d : T) → i < length items → row_at row items i ≡ row (get_or items i d)
row_here row [] i d h = absurd (omega arith)
row_here row (x ∷ xs) zero d h = refl
row_here row (x ∷ xs) (suc i) d h = row_here row xs i d (omega arith)

-- ---- the end of an array

pub inside_as : (n : ℕ) {ss ts : List Slot} → ss ≡ ts → Inside n ts → Inside n ss
inside_as n e h = rw e h

pub rest_whole : (l : List Slot) (i : ℕ) → take (length l - i) (drop i l) ≡ drop i l
rest_whole l i = ap (λ (k : ℕ). take k (drop i l)) (sym (length-drop i l)) ∙ take-length (drop i l)

pub rest_long : (l : List Slot) (i n : ℕ) → length l ≡ 128 → i + n ≡ 128 → length (take (length l - i) (drop i l)) ≡ n
rest_long l i n e h =
    let k : length (drop i l) ≡ n = omega (arith, length-drop i l) in
    ap length (rest_whole l i) ∙ k
