-- What holds of an answer: of its value, where there is one, or of its refusal.
use Rattle.std.specs.Prelude.{Ok, Err}
use mathlib.Core.Path.{◌≡◌, refl}
use mathlib.Core.Bool.{Bool, true, false, cond}
use Rattle.error.specs.declared.Refusal.{Refusal}
use Rattle.error.specs.Answer.{Out, ◌>>=◌}

-- what holds of the one where a test holds, and of the other where it does not
pub cases : {A : Type 0} (q : A → Type 0) (b : Bool) {x y : A} → (b ≡ true → q x) → (b ≡ false → q y) → q (cond b x y)
cases q true h j = h refl
cases q false h j = j refl

pub either : {A : Type 0} (q : A → Type 0) (b : Bool) {x y : A} → q x → q y → q (cond b x y)
either q b h j = cases q b (λ e. h) (λ e. j)

-- ---- what holds of a value

abbrev pub All : {A : Type 0} → (A → Type 0) → Out A → Type 0
All q (Err r) = Unit {0}
All q (Ok a) = q a

pub all_bind : {A B : Type 0} (q : A → Type 0) (r : B → Type 0) (o : Out A) (k : A → Out B) → All q o → ((a : A) → q a → All r (k a)) → All r (o >>= k)
all_bind q r (Err n) k h j = tt
all_bind q r (Ok a) k h j = j a h

pub all_cond : {A : Type 0} (q : A → Type 0) (b : Bool) (o o' : Out A) → (b ≡ true → All q o) → (b ≡ false → All q o') → All q (cond b o o')
all_cond q b o o' h j = cases (All q) b h j

pub all_map : {A : Type 0} (q r : A → Type 0) (o : Out A) → ((a : A) → q a → r a) → All q o → All r o
all_map q r (Err n) h j = tt
all_map q r (Ok a) h j = h a j

-- what holds of each value that the answer can be
pub all_of : {A : Type 0} (q : A → Type 0) (o : Out A) → ((a : A) → o ≡ Ok a → q a) → All q o
all_of q (Err r) h = tt
all_of q (Ok a) h = h a refl

-- ---- what holds of a refusal

abbrev pub Turned : {A : Type 0} → (Refusal → Type 0) → Out A → Type 0
Turned q (Err r) = q r
Turned q (Ok a) = Unit {0}

pub turned_bind : {A B : Type 0} (q : Refusal → Type 0) (o : Out A) (k : A → Out B) → Turned q o → ((a : A) → Turned q (k a)) → Turned q (o >>= k)
turned_bind q (Err r) k h j = h
turned_bind q (Ok a) k h j = j a

pub turned_cond : {A : Type 0} (q : Refusal → Type 0) (b : Bool) (o o' : Out A) → Turned q o → Turned q o' → Turned q (cond b o o')
turned_cond q b o o' h j = either (Turned q) b h j

pub turned_map : {A : Type 0} (q s : Refusal → Type 0) (o : Out A) → ((r : Refusal) → q r → s r) → Turned q o → Turned s o
turned_map q s (Err r) h j = h r j
turned_map q s (Ok a) h j = tt
