-- Popping and placing in an array.
use Prim.Native.Nat.{ℕ, zero, suc, ◌+◌, ◌-◌, ◌≤◌, ◌<◌}
use mathlib.Core.Path.{◌≡◌, refl, sym, ap, ap₂, ◌∙◌}
use mathlib.Core.List.{List, [], ◌∷◌}
use mathlib.Core.Bool.{Bool, true, false}
use native.Mathlib.Omega.{arith}
use lib.ListN.{length, get_or, set, take, drop, length-set}
use lib.Seq.{drop-cons, drop-set-lt, get_or-set_same, get_or-set_other, take-length, drop-length, get_or-take, length-take-le, take-take}
use Rattle.records.specs.declared.Order.{Order}
use Rattle.records.specs.declared.Slot.{Slot}
use Rattle.records.specs.Arrange.{popped, pop_from, pop, placed, order}
use Rattle.records.specs.Order.{slot, slot_deep, slot_joins, arranged_slots, slots_of, pend, held, Roomy, Pops, Places}
use Rattle.records.proofs.Ordered.{pop_step, pop_stop}

drop_set : (l : List Slot) (i : ℕ) (a : Slot) → i < length l → drop i (set l i a) ≡ a ∷ drop (suc i) l
drop_set l i a h =
    drop-cons (set l i a) i a (rw (length-set l i a) h)
    ∙ ap₂ ◌∷◌ (get_or-set_same l i a a h) (drop-set-lt (suc i) l i a (omega arith))

pend_set : (l : List Slot) (i : ℕ) (a : Slot) (n : ℕ) → n ≤ i → pend (set l i a) n ≡ pend l n
unfolding pend
pend_set l i a zero h = refl
pend_set l i a (suc n) h = ap₂ ◌∷◌ (get_or-set_other l i n a (slot 0 false 0) (λ e. omega arith)) (pend_set l i a n (omega arith))

pend_suc : (l : List Slot) (n m : ℕ) → n ≡ suc m → pend l n ≡ get_or l (n - 1) (slot 0 false 0) ∷ pend l (n - 1)
unfolding pend
pend_suc l n m e =
    let k : n - 1 ≡ m = omega arith in rw (k, e)

-- the last of those that wait
pub last_waits : (l : List Slot) (n : ℕ) → 0 < n → pend l n ≡ get_or l (n - 1) (slot 0 false 0) ∷ pend l (n - 1)
last_waits l n h = pend_suc l n (n - 1) (omega arith)

abbrev pub order_of : List Slot → ℕ → ℕ → Order
order_of l t f = record { slots = l; top = t; from = f }

-- ---- pop

-- the loop, whose order is p
pub record Popping (depth : ℕ) (o p : Order) : Type 0 where
  pub fewer : p.top ≤ o.top
  pub same : p.from + o.top ≡ o.from + p.top
  pub pops : pop slot_deep depth (held o) ≡ pop slot_deep depth (held p)

module _ {depth : ℕ} {o p : Order} (x : Slot) (h : Popping depth o p) (some : 0 < p.top) (last : get_or p.slots (p.top - 1) (slot 0 false 0) ≡ x) where
  first : pend p.slots p.top ≡ x ∷ pend p.slots (p.top - 1)
  first = last_waits p.slots p.top some ∙ ap (λ y. y ∷ pend p.slots (p.top - 1)) last

  pub popping_stop : x.depth < depth → Pops depth o p
  popping_stop k =
      record {
        pops = sym (h.pops ∙ (ap (pop_from slot_deep depth (drop p.from p.slots)) first ∙ (pop_stop slot_deep depth (drop p.from p.slots) x (pend p.slots (p.top - 1)) k
            ∙ ap (popped (drop p.from p.slots)) (sym first))));
        same = h.same;
        fewer = h.fewer;
      }

  pub popping_next : Roomy 0 o → length p.slots ≡ 128 → depth ≤ x.depth → Popping depth o (order_of (set p.slots (p.from - 1) x) (p.top - 1) (p.from - 1))
  popping_next r long k =
      let inside : p.from - 1 < length p.slots = omega (arith, r.room, r.inside, h.same, h.fewer) in
      let next : suc (p.from - 1) ≡ p.from = omega (arith, r.room, h.same, h.fewer) in
      record {
        fewer = omega (arith, h.fewer);
        same = omega (arith, h.same, r.room);
        pops = h.pops ∙ (ap (pop_from slot_deep depth (drop p.from p.slots)) first
            ∙ (pop_step slot_deep depth (drop p.from p.slots) x (pend p.slots (p.top - 1)) k
            ∙ ap₂ (pop_from slot_deep depth) (sym (drop_set p.slots (p.from - 1) x inside ∙ ap (λ (i : ℕ). x ∷ drop i p.slots) next))
            (sym (pend_set p.slots (p.from - 1) x (p.top - 1) (omega (arith, r.room, h.same, h.fewer))))));
      }

pub popping_end : {depth : ℕ} {o p : Order} → Popping depth o p → p.top ≤ 0 → Pops depth o p
unfolding pop_from pend
popping_end {depth} {o} {p} h k = let e : p.top ≡ 0 = omega arith in record { pops = sym (h.pops ∙ rw e); same = h.same; fewer = h.fewer }

-- ---- place

pub place_join : (x : Slot) (o : Order) → x.joins ≡ true → Roomy 1 o → length o.slots ≡ 128 → Places x o (order_of (set o.slots o.top x) (o.top + 1) o.from)
place_join x o e r long = record { places = sym (ap (λ b. placed b x (held o)) e ∙ ap₂ popped (sym (drop-set-lt o.from o.slots o.top x (omega (arith, r.room)))) waits); less = omega arith; most = omega arith }
  where
    inside : o.top < length o.slots
    inside = omega (arith, r.room, r.inside)

    waits : x ∷ pend o.slots o.top ≡ pend (set o.slots o.top x) (o.top + 1)
    waits = sym (last_waits (set o.slots o.top x) (o.top + 1) (omega arith) ∙ (ap (λ (k : ℕ). get_or (set o.slots o.top x) k (slot 0 false 0) ∷ pend (set o.slots o.top x) k) back
        ∙ ap₂ ◌∷◌ (get_or-set_same o.slots o.top x (slot 0 false 0) inside) (pend_set o.slots o.top x o.top (omega arith))))
      where
        back : o.top + 1 - 1 ≡ o.top
        back = omega arith

pub place_leaf : (x : Slot) (o : Order) → x.joins ≡ false → Roomy 1 o → length o.slots ≡ 128 → Places x o (order_of (set o.slots (o.from - 1) x) o.top (o.from - 1))
place_leaf x o e r long =
    let inside : o.from - 1 < length o.slots = omega (arith, r.room, r.inside) in
    let next : suc (o.from - 1) ≡ o.from = omega (arith, r.room) in
    record {
      places = sym (ap (λ b. placed b x (held o)) e ∙ ap₂ popped (sym (drop_set o.slots (o.from - 1) x inside ∙ ap (λ (i : ℕ). x ∷ drop i o.slots) next)) (sym (pend_set o.slots (o.from - 1) x o.top (omega (arith, r.room)))));
      less = omega (arith, r.room);
      most = omega arith;
    }

-- ---- all of them

pop_all : (ys d : List Slot) → (pop_from slot_deep 0 d ys).waiting ≡ []
unfolding pop_from
pop_all [] d = refl
pop_all (y ∷ ys) d = ap (λ r. r.waiting) (pop_step slot_deep 0 d y ys (omega arith)) ∙ pop_all ys (y ∷ d)

pend_none : (l : List Slot) (n : ℕ) → pend l n ≡ [] → n ≡ 0
unfolding pend
pend_none l zero e = refl
pend_none l (suc n) e = absurd (let z : ◌≡◌ {A = ℕ} 0 1 = cc in omega arith)

module _ {T : Type 0} (deep : T → ℕ) (joins : T → Bool) where
  -- the items up to a place are left
  pub record Arranging (items left : List T) (o : Order) : Type 0 where
    pub some : length left ≤ length items
    pub front : left ≡ take (length left) items
    pub so_far : held o ≡ order slot_deep slot_joins (slots_of deep joins (length left) (drop (length left) items))
    pub from : o.from + length items ≡ 128 + o.top + length left
    pub inside : o.from ≤ 128

  pub arranging_start : (items : List T) (o : Order) → o.from ≡ 128 → o.top ≡ 0 → length o.slots ≡ 128 → Arranging items items o
  unfolding order pend
  arranging_start items o f t long =
      record {
        some = omega arith;
        front = sym (take-length items);
        so_far = rw (f, t, ← long, drop-length) (ap (λ xs. order slot_deep slot_joins (slots_of deep joins (length items) xs)) (sym (drop-length items)));
        from = omega arith;
        inside = omega arith;
      }

  pub arranging_next : {items left before : List T} {o p q : Order} (x d : T) (s : Slot) → Arranging items left o → 1 ≤ length left → before ≡ take (length left - 1) left → x ≡ get_or left (length left - 1) d
      → s ≡ slot (deep x) (joins x) (length before) → Pops (s.depth + 1) o p → Places s p q → Arranging items before q
  unfolding order
  arranging_next {items} {left} {before} {o} {p} {q} x d s a some b e z u v =
      let n : length before ≡ length left - 1 = ap length b ∙ length-take-le (length left - 1) left (omega arith) in
      let back : suc (length left - 1) ≡ length left = omega arith in
      let here : x ≡ get_or items (length left - 1) d =
      e ∙ (ap (λ l. get_or l (length left - 1) d) a.front ∙ get_or-take (length left) items (length left - 1) d (omega arith)) in
      let rest : x ∷ drop (length left) items ≡ drop (length left - 1) items =
      sym (drop-cons items (length left - 1) d (omega (arith, a.some)) ∙ ap₂ (λ y (k : ℕ). y ∷ drop k items) (sym here) back) in
      let slots : s ∷ slots_of deep joins (length left) (drop (length left) items) ≡ slots_of deep joins (length left - 1) (x ∷ drop (length left) items) =
      ap₂ (λ y (k : ℕ). y ∷ slots_of deep joins k (drop (length left) items)) (z ∙ ap (λ (k : ℕ). slot (deep x) (joins x) k) n) (sym back) in
      record {
        some = omega (arith, n, a.some);
        front = b ∙ (ap (take (length left - 1)) a.front ∙ (take-take (length left - 1) (length left) items (omega arith) ∙ ap (λ (k : ℕ). take k items) (sym n)));
        so_far = v.places ∙ (ap (placed s.joins s) (u.pops ∙ ap (pop slot_deep (s.depth + 1)) a.so_far)
            ∙ (ap (order slot_deep slot_joins) (slots ∙ ap (slots_of deep joins (length left - 1)) rest)
            ∙ ap (λ (k : ℕ). order slot_deep slot_joins (slots_of deep joins k (drop k items))) (sym n)));
        from = omega (arith, n, a.from, u.same, v.less);
        inside = omega (arith, a.inside, u.same, u.fewer, v.most);
      }

  pub arranging_end : {items left : List T} {o p : Order} → Arranging items left o → length left < 1 → Pops 0 o p
      → (drop p.from p.slots ≡ arranged_slots (slots_of deep joins 0 items)) × (p.from + length items ≡ 128)
  arranging_end {items} {left} {o} {p} a h b =
      let n : length left ≡ 0 = omega arith in
      let all : held o ≡ order slot_deep slot_joins (slots_of deep joins 0 items) = rw n at a.so_far in
      let none-waits : pend p.slots p.top ≡ [] = ap (λ r. r.waiting) b.pops ∙ pop_all (pend o.slots o.top) (drop o.from o.slots) in
      (ap (λ r. r.finished) b.pops ∙ ap (λ r. (pop slot_deep 0 r).finished) all, omega (arith, a.from, b.same, pend_none p.slots p.top none-waits))
