-- The sum and the items follow the parser of the definition.
use Rattle.std.specs.Prelude.{Option, None, Some, Ok, Err}
use Prim.Native.Nat.{ℕ, zero, suc, ◌+◌, ◌-◌, max}
use mathlib.Core.Path.{◌≡◌, refl, sym, ap, ap₂, subst, ◌∙◌}
use mathlib.Core.List.{List, [], ◌∷◌, ◌++◌, append_assoc, append-nil}
use native.Mathlib.Omega.{arith}
use native.Mathlib.Numerals.{add-one}
use lib.ListN.{length, length-append, set}
use lib.Seq.{sets}
use lib.Dec.{eqb-suc-zero}
use Rattle.error.specs.declared.Refusal.TheVariants.{UnknownWord, Unfinished}
use Rattle.typing.specs.declared.Transport.{Transport}
use Rattle.typing.specs.declared.Side.{Side}
use Rattle.typing.specs.declared.Join.{Join}
use Rattle.typing.specs.declared.Word.{Word}
use Rattle.typing.specs.declared.Word.TheVariants.{Name as name, Over as over, Side as side, Host as host, Port as port, Opening as opening, Closing as closing, Negate as negate, Join as join, Address as address, Number as number}
use Rattle.typing.specs.declared.Term.{Term}
use Rattle.typing.specs.declared.Term.TheVariants.{Named as named, Bare as bare, Hosts as hosts, Ports as ports}
use Rattle.typing.specs.Words.{Placed, known, strange}
use Rattle.typing.specs.Phrase.{Operand, term, negated, brackets, Phrase, operand_depth, depth}
use Rattle.typing.specs.Finds.{Found, phrase, unknown, unfinished}
use Rattle.typing.specs.Parse.{Level, fresh, after, notted, nots, fill, State, want, lone, sided, hosted, ported, full, close, sided_host, step, ended, final, ends, scan}
use Rattle.typing.specs.Typed.{fault}
use Rattle.lines.specs.declared.Entry.TheVariants.{Not, Both, Leaf}
use Rattle.lines.specs.declared.Item.{Item}
use Rattle.lines.specs.declared.Spot.{Spot}
use Rattle.lines.specs.declared.Spot.TheVariants.{Want, Lone, Sided, Hosted, Ported, Full}
use Rattle.lines.specs.declared.Move.{Move}
use Rattle.lines.specs.declared.Move.TheVariants.{Go, Put, Open, Close}
use Rattle.lines.specs.declared.Sum.{Sum}
use Rattle.lines.specs.Reads.{item, size, sum, moved, stored, ready, ready_items, move, closed, rested, rest_items, Reading, reading, scans}
use Rattle.lines.specs.Items.{operand_items, phrase_items}

-- ---- the items and the depth of what has been read

unfoldable pub not_items : ℕ → ℕ → List Item
not_items d zero = []
not_items d (suc n) = item d Not ∷ not_items d n

unfoldable pub level_items : ℕ → Level → List Item
level_items d (fresh n) = not_items d n
level_items d (after p j n) = phrase_items d p ++ (item d (Both j) ∷ not_items d n)

unfoldable pub level_deep : Level → ℕ
level_deep (fresh n) = 0
level_deep (after p j n) = depth p

unfoldable pub outer_items : List Level → List Item
outer_items [] = []
outer_items (l ∷ ls) = outer_items ls ++ level_items (length ls) l

unfoldable pub outer_deep : List Level → ℕ
outer_deep [] = 0
outer_deep (l ∷ ls) = max (max (outer_deep ls) (length ls + level_deep l)) (length ls + 1)

abbrev pub want_items : Level → List Level → List Item
want_items l ls = outer_items ls ++ level_items (length ls) l

abbrev pub want_deep : Level → List Level → ℕ
want_deep l ls = max (outer_deep ls) (length ls + level_deep l)

abbrev pub full_items : Phrase → List Level → List Item
full_items p ls = outer_items ls ++ phrase_items (length ls) p

abbrev pub full_deep : Phrase → List Level → ℕ
full_deep p ls = max (outer_deep ls) (length ls + depth p)

abbrev pub state_items : State → List Item
state_items (want l ls) = want_items l ls
state_items (lone t l ls) = want_items l ls
state_items (sided t s l ls) = want_items l ls
state_items (hosted s l ls) = want_items l ls
state_items (ported t s l ls) = want_items l ls
state_items (full p ls) = full_items p ls

abbrev pub want_sum : Spot → Level → List Level → Sum
want_sum x l ls = sum x (length ls) (want_deep l ls) (length (want_items l ls))

abbrev pub full_sum : Phrase → List Level → Sum
full_sum p ls = sum Full (length ls) (full_deep p ls) (length (full_items p ls))

abbrev pub sum_of : State → Sum
sum_of (want l ls) = want_sum Want l ls
sum_of (lone t l ls) = want_sum (Lone t) l ls
sum_of (sided t s l ls) = want_sum (Sided t s) l ls
sum_of (hosted s l ls) = want_sum (Hosted s) l ls
sum_of (ported t s l ls) = want_sum (Ported t s) l ls
sum_of (full p ls) = full_sum p ls

-- ---- laws

not_snoc : (d n : ℕ) (r : List Item) → not_items d n ++ (item d Not ∷ r) ≡ item d Not ∷ (not_items d n ++ r)
unfolding not_items
not_snoc d zero r = refl
not_snoc d (suc n) r = ap (λ x. item d Not ∷ x) (not_snoc d n r)

nots_items : (d n : ℕ) (o : Operand) → operand_items d (nots n o) ≡ not_items d n ++ operand_items d o
unfolding not_items
nots_items d zero o = refl
nots_items d (suc n) o = nots_items d n (negated o) ∙ not_snoc d n (operand_items d o)

fill_items : (d : ℕ) (l : Level) (o : Operand) → phrase_items d (fill l o) ≡ level_items d l ++ operand_items d o
unfolding level_items
fill_items d (fresh n) o = nots_items d n o
fill_items d (after p j n) o =
    ap (λ x. phrase_items d p ++ (item d (Both j) ∷ x)) (nots_items d n o)
    ∙ sym (append_assoc (phrase_items d p) (item d (Both j) ∷ not_items d n) (operand_items d o))

nots_deep : (n : ℕ) (o : Operand) → operand_depth (nots n o) ≡ operand_depth o
nots_deep zero o = refl
nots_deep (suc n) o = nots_deep n (negated o)

fill_deep : (l : Level) (o : Operand) → depth (fill l o) ≡ max (level_deep l) (operand_depth o)
unfolding level_deep
fill_deep (fresh n) o = omega (arith, nots_deep n o)
fill_deep (after p j n) o = ap (max (depth p)) (nots_deep n o)

filled : (l : Level) (o : Operand) (ls : List Level) → full_items (fill l o) ls ≡ want_items l ls ++ operand_items (length ls) o
filled l o ls = ap (λ x. outer_items ls ++ x) (fill_items (length ls) l o) ∙ sym (append_assoc (outer_items ls) (level_items (length ls) l) (operand_items (length ls) o))

notted_items : (d : ℕ) (l : Level) → level_items d (notted l) ≡ level_items d l ++ (item d Not ∷ [])
unfolding level_items not_items
notted_items d (fresh n) = ap (λ x. item d Not ∷ x) (sym (append-nil (not_items d n))) ∙ sym (not_snoc d n [])
notted_items d (after p j n) =
    ap (λ x. phrase_items d p ++ (item d (Both j) ∷ x)) (ap (λ x. item d Not ∷ x) (sym (append-nil (not_items d n))) ∙ sym (not_snoc d n []))
    ∙ sym (append_assoc (phrase_items d p) (item d (Both j) ∷ not_items d n) (item d Not ∷ []))

notted_deep : (l : Level) → level_deep (notted l) ≡ level_deep l
unfolding level_deep
notted_deep (fresh n) = refl
notted_deep (after p j n) = refl

same_sum : {x : Spot} {d e m n a b : ℕ} → d ≡ e → m ≡ n → a ≡ b → sum x d m a ≡ sum x e n b
same_sum {x} p q r = λ i. sum x (p i) (q i) (r i)

sets_snoc : (l : List Item) (i : ℕ) (xs : List Item) (a : Item) → sets l i (xs ++ (a ∷ [])) ≡ set (sets l i xs) (i + length xs) a
sets_snoc l i [] a = ap (λ (k : ℕ). set l k a) (omega arith)
sets_snoc l i (x ∷ xs) a =
    let e : suc i + length xs ≡ i + suc (length xs) = omega arith in
    sets_snoc (set l i x) (suc i) xs a ∙ ap (λ (k : ℕ). set (sets (set l i x) (suc i) xs) k a) e

-- ---- the moves

module _ (l₀ : List Item) where
  unfoldable pub written : List Item → List Item
  written xs = sets l₀ 0 xs

  -- one item more
  one_more : (xs ys : List Item) (a : Item) → ys ≡ xs ++ (a ∷ []) → (length xs + 1 ≡ length ys) × (set (written xs) (length xs) a ≡ written ys)
  unfolding written
  one_more xs ys a e =
      let n : 0 + length xs ≡ length xs = omega arith in
      (omega (arith, length-append xs (a ∷ []), ap length e), sym (ap (sets l₀ 0) e ∙ (sets_snoc l₀ 0 xs a ∙ ap (λ (k : ℕ). set (sets l₀ 0 xs) k a) n)))

  leaf_sum : (l : Level) (ls : List Level) (t : Term) → sum Full (length ls) (want_deep l ls) (length (want_items l ls) + 1) ≡ full_sum (fill l (term t)) ls
  leaf_sum l ls t = same_sum refl (omega (arith, fill_deep l (term t))) (one_more (want_items l ls) (full_items (fill l (term t)) ls) (item (length ls) (Leaf t)) (filled l (term t) ls)).0

  leaf_items : (l : Level) (ls : List Level) (t : Term) → set (written (want_items l ls)) (length (want_items l ls)) (item (length ls) (Leaf t)) ≡ written (full_items (fill l (term t)) ls)
  leaf_items l ls t = (one_more (want_items l ls) (full_items (fill l (term t)) ls) (item (length ls) (Leaf t)) (filled l (term t) ls)).1

  open_sum : (l : Level) (ls : List Level) → sum Want (length ls + 1) (max (want_deep l ls) (length ls + 1)) (length (want_items l ls)) ≡ want_sum Want (fresh 0) (l ∷ ls)
  unfolding outer_items outer_deep level_items level_deep not_items
  open_sum l ls = same_sum (add-one (length ls)) (omega arith) (ap length (sym (append-nil (want_items l ls))))

  open_items : (l : Level) (ls : List Level) → written (want_items l ls) ≡ written (want_items (fresh 0) (l ∷ ls))
  unfolding outer_items level_items not_items
  open_items l ls = ap written (sym (append-nil (want_items l ls)))

  not_grows : (l : Level) (ls : List Level) → want_items (notted l) ls ≡ want_items l ls ++ (item (length ls) Not ∷ [])
  not_grows l ls = ap (λ x. outer_items ls ++ x) (notted_items (length ls) l) ∙ sym (append_assoc (outer_items ls) (level_items (length ls) l) (item (length ls) Not ∷ []))

  not_sum : (l : Level) (ls : List Level) → sum Want (length ls) (want_deep l ls) (length (want_items l ls) + 1) ≡ want_sum Want (notted l) ls
  not_sum l ls = same_sum refl (ap (λ (k : ℕ). max (outer_deep ls) (length ls + k)) (sym (notted_deep l))) (one_more (want_items l ls) (want_items (notted l) ls) (item (length ls) Not) (not_grows l ls)).0

  not_items_lem : (l : Level) (ls : List Level) → set (written (want_items l ls)) (length (want_items l ls)) (item (length ls) Not) ≡ written (want_items (notted l) ls)
  not_items_lem l ls = (one_more (want_items l ls) (want_items (notted l) ls) (item (length ls) Not) (not_grows l ls)).1

  join_grows : (p : Phrase) (j : Join) (ls : List Level) → want_items (after p j 0) ls ≡ full_items p ls ++ (item (length ls) (Both j) ∷ [])
  unfolding level_items not_items
  join_grows p j ls = sym (append_assoc (outer_items ls) (phrase_items (length ls) p) (item (length ls) (Both j) ∷ []))

  join_sum : (p : Phrase) (j : Join) (ls : List Level) → sum Want (length ls) (full_deep p ls) (length (full_items p ls) + 1) ≡ want_sum Want (after p j 0) ls
  unfolding level_deep
  join_sum p j ls = same_sum refl refl (one_more (full_items p ls) (want_items (after p j 0) ls) (item (length ls) (Both j)) (join_grows p j ls)).0

  join_items : (p : Phrase) (j : Join) (ls : List Level) → set (written (full_items p ls)) (length (full_items p ls)) (item (length ls) (Both j)) ≡ written (want_items (after p j 0) ls)
  join_items p j ls = (one_more (full_items p ls) (want_items (after p j 0) ls) (item (length ls) (Both j)) (join_grows p j ls)).1

  close_grows : (p : Phrase) (l : Level) (ls : List Level) → full_items p (l ∷ ls) ≡ full_items (fill l (brackets p)) ls
  unfolding outer_items
  close_grows p l ls = sym (filled l (brackets p) ls)

  close_sum : (p : Phrase) (l : Level) (ls : List Level) → sum Full (suc (length ls) - 1) (full_deep p (l ∷ ls)) (length (full_items p (l ∷ ls))) ≡ full_sum (fill l (brackets p)) ls
  unfolding outer_deep
  close_sum p l ls = same_sum (omega arith) (omega (arith, fill_deep l (brackets p))) (ap length (close_grows p l ls))

  -- what a word makes of a state: a move to another
  record Makes (st : State) (w : Word) (st' : State) (m : Move) : Type 0 where
    can : move (sum_of st) w ≡ Some m
    sums : moved (ready w (sum_of st)) m ≡ sum_of st'
    items : stored (ready w (sum_of st)) m (ready_items w (sum_of st) (written (state_items st))) ≡ written (state_items st')

  -- or that it cannot follow
  abbrev Agrees : State → Word → Option State → Type 0
  Agrees st w None = move (sum_of st) w ≡ None
  Agrees st w (Some st') = (m : Move) × Makes st w st' m

  goes : {st st' : State} {w : Word} (m : Move) → move (sum_of st) w ≡ Some m → moved (ready w (sum_of st)) m ≡ sum_of st'
      → stored (ready w (sum_of st)) m (ready_items w (sum_of st) (written (state_items st))) ≡ written (state_items st') → (m : Move) × Makes st w st' m
  goes m e f g = (m, record { can = e; sums = f; items = g })

  full_close : (p : Phrase) (ls : List Level) → Agrees (full p ls) closing (close p ls)
  full_close p [] = refl
  full_close p (l ∷ ls) = goes Close (rw (eqb-suc-zero (length ls))) (close_sum p l ls) (ap written (close_grows p l ls))

  lone_close : (t : Transport) (l : Level) (ls : List Level) → Agrees (lone t l ls) closing (close (fill l (term (bare t))) ls)
  lone_close t l [] = refl
  lone_close t l (k ∷ ls) =
      goes Close (rw (eqb-suc-zero (length ls))) (ap (λ x. moved x Close) (leaf_sum l (k ∷ ls) (bare t)) ∙ close_sum (fill l (term (bare t))) k ls)
      (leaf_items l (k ∷ ls) (bare t) ∙ ap written (close_grows (fill l (term (bare t))) k ls))

  lone_join : (t : Transport) (l : Level) (ls : List Level) (j : Join) → Agrees (lone t l ls) (join j) (Some (want (after (fill l (term (bare t))) j 0) ls))
  lone_join t l ls j =
      goes (Put (Both j)) refl (ap (λ x. moved x (Put (Both j))) (leaf_sum l ls (bare t)) ∙ join_sum (fill l (term (bare t))) j ls)
      (ap₂ (λ x y. stored x (Put (Both j)) y) (leaf_sum l ls (bare t)) (leaf_items l ls (bare t)) ∙ join_items (fill l (term (bare t))) j ls)

  sided_host_lem : (t : Option Transport) (s : Side) (l : Level) (ls : List Level) → Agrees (sided t s l ls) host (sided_host t s l ls)
  sided_host_lem None s l ls = goes (Go (Hosted (Some s))) refl refl refl
  sided_host_lem (Some t) s l ls = refl

  agrees : (st : State) (w : Word) → Agrees st w (step st w)
  agrees (want l ls) (name n) = goes (Put (Leaf (named n))) refl (leaf_sum l ls (named n)) (leaf_items l ls (named n))
  agrees (want l ls) (over t) = goes (Go (Lone t)) refl refl refl
  agrees (want l ls) (side s) = goes (Go (Sided None s)) refl refl refl
  agrees (want l ls) host = goes (Go (Hosted None)) refl refl refl
  agrees (want l ls) port = goes (Go (Ported None None)) refl refl refl
  agrees (want l ls) opening = goes Open refl (open_sum l ls) (open_items l ls)
  agrees (want l ls) closing = refl
  agrees (want l ls) negate = goes (Put Not) refl (not_sum l ls) (not_items_lem l ls)
  agrees (want l ls) (join j) = refl
  agrees (want l ls) (address a) = refl
  agrees (want l ls) (number k) = refl
  agrees (lone t₀ l ls) (name n) = refl
  agrees (lone t₀ l ls) (over t) = refl
  agrees (lone t₀ l ls) (side s) = goes (Go (Sided (Some t₀) s)) refl refl refl
  agrees (lone t₀ l ls) host = refl
  agrees (lone t₀ l ls) port = goes (Go (Ported (Some t₀) None)) refl refl refl
  agrees (lone t₀ l ls) opening = refl
  agrees (lone t₀ l ls) closing = lone_close t₀ l ls
  agrees (lone t₀ l ls) negate = refl
  agrees (lone t₀ l ls) (join j) = lone_join t₀ l ls j
  agrees (lone t₀ l ls) (address a) = refl
  agrees (lone t₀ l ls) (number k) = refl
  agrees (sided t₀ s₀ l ls) (name n) = refl
  agrees (sided t₀ s₀ l ls) (over t) = refl
  agrees (sided t₀ s₀ l ls) (side s) = refl
  agrees (sided t₀ s₀ l ls) host = sided_host_lem t₀ s₀ l ls
  agrees (sided t₀ s₀ l ls) port = goes (Go (Ported t₀ (Some s₀))) refl refl refl
  agrees (sided t₀ s₀ l ls) opening = refl
  agrees (sided t₀ s₀ l ls) closing = refl
  agrees (sided t₀ s₀ l ls) negate = refl
  agrees (sided t₀ s₀ l ls) (join j) = refl
  agrees (sided t₀ s₀ l ls) (address a) = refl
  agrees (sided t₀ s₀ l ls) (number k) = refl
  agrees (hosted s₀ l ls) (name n) = refl
  agrees (hosted s₀ l ls) (over t) = refl
  agrees (hosted s₀ l ls) (side s) = refl
  agrees (hosted s₀ l ls) host = refl
  agrees (hosted s₀ l ls) port = refl
  agrees (hosted s₀ l ls) opening = refl
  agrees (hosted s₀ l ls) closing = refl
  agrees (hosted s₀ l ls) negate = refl
  agrees (hosted s₀ l ls) (join j) = refl
  agrees (hosted s₀ l ls) (address a) = goes (Put (Leaf (hosts s₀ a))) refl (leaf_sum l ls (hosts s₀ a)) (leaf_items l ls (hosts s₀ a))
  agrees (hosted s₀ l ls) (number k) = refl
  agrees (ported t₀ s₀ l ls) (name n) = refl
  agrees (ported t₀ s₀ l ls) (over t) = refl
  agrees (ported t₀ s₀ l ls) (side s) = refl
  agrees (ported t₀ s₀ l ls) host = refl
  agrees (ported t₀ s₀ l ls) port = refl
  agrees (ported t₀ s₀ l ls) opening = refl
  agrees (ported t₀ s₀ l ls) closing = refl
  agrees (ported t₀ s₀ l ls) negate = refl
  agrees (ported t₀ s₀ l ls) (join j) = refl
  agrees (ported t₀ s₀ l ls) (address a) = refl
  agrees (ported t₀ s₀ l ls) (number k) = goes (Put (Leaf (ports t₀ s₀ k))) refl (leaf_sum l ls (ports t₀ s₀ k)) (leaf_items l ls (ports t₀ s₀ k))
  agrees (full p ls) (name n) = refl
  agrees (full p ls) (over t) = refl
  agrees (full p ls) (side s) = refl
  agrees (full p ls) host = refl
  agrees (full p ls) port = refl
  agrees (full p ls) opening = refl
  agrees (full p ls) closing = full_close p ls
  agrees (full p ls) negate = refl
  agrees (full p ls) (join j) = goes (Put (Both j)) refl (join_sum p j ls) (join_items p j ls)
  agrees (full p ls) (address a) = refl
  agrees (full p ls) (number k) = refl

  -- what is found, as the code has it
  abbrev pub Follows : Found → Reading → Type 0
  Follows (phrase p) r = r ≡ reading (Ok (size (length (phrase_items 0 p)) (depth p))) (written (phrase_items 0 p))
  Follows (unknown k) r = r.answer ≡ Err (fault UnknownWord k)
  Follows (unfinished k) r = r.answer ≡ Err (fault Unfinished k)

  full_ends : (end : ℕ) (p : Phrase) (ls : List Level) → Follows (ends end (ended p ls)) (reading (closed end (full_sum p ls)) (written (full_items p ls)))
  unfolding outer_items outer_deep
  full_ends end p [] = ap (λ (k : ℕ). reading (Ok (size (length (phrase_items 0 p)) k)) (written (phrase_items 0 p))) deep
    where
      deep : max 0 (0 + depth p) ≡ depth p
      deep = omega arith
  full_ends end p (l ∷ ls) = rw (eqb-suc-zero (length ls))

  ends_follow : (end : ℕ) (st : State) → Follows (ends end (final st)) (reading (closed end (rested (sum_of st))) (rest_items (sum_of st) (written (state_items st))))
  ends_follow end (want l ls) = refl
  ends_follow end (lone t l ls) =
      subst (Follows (ends end (ended (fill l (term (bare t))) ls))) (sym (ap₂ (λ x y. reading (closed end x) y) (leaf_sum l ls (bare t)) (leaf_items l ls (bare t)))) (full_ends end (fill l (term (bare t))) ls)
  ends_follow end (sided t s l ls) = refl
  ends_follow end (hosted s l ls) = refl
  ends_follow end (ported t s l ls) = refl
  ends_follow end (full p ls) = full_ends end p ls

  word_follows : (end k : ℕ) (w : Word) (ws : List Placed) (st : State) (o : Option State) → step st w ≡ o → Agrees st w o
      → ((st' : State) → Follows (scan end st' ws) (scans end (sum_of st') (written (state_items st')) ws))
      → Follows (scan end st (known k w ∷ ws)) (scans end (sum_of st) (written (state_items st)) (known k w ∷ ws))
  unfolding scan scans
  word_follows end k w ws st None e a ih = rw (e, scan, a, scans)
  word_follows end k w ws st (Some st') e a ih = rw (e, scan, a.1.can, scans, a.1.sums, a.1.items) (ih st')

  pub simulate : (end : ℕ) (ws : List Placed) (st : State) → Follows (scan end st ws) (scans end (sum_of st) (written (state_items st)) ws)
  unfolding scan scans
  simulate end [] st = ends_follow end st
  simulate end (strange k ∷ ws) st = refl
  simulate end (known k w ∷ ws) st = word_follows end k w ws st (step st w) refl (agrees st w) (simulate end ws)
