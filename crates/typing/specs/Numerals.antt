-- T-04, port numbers and addresses as they are written, said apart from `word_of`, which reads them.
use Rattle.std.specs.Prelude.{ℕ, ◌+◌, ◌*◌, ◌≤◌, ◌≡◌, List, [], ◌∷◌, ◌++◌}

-- A decimal "without leading zeros": a digit, or a decimal that is not 0 and a digit behind it
pub data Decimal : List ℕ → ℕ → Type 0 where
  single : (d : ℕ) → d ≤ 9 → Decimal ((48 + d) ∷ []) d
  longer : (s : List ℕ) (v d : ℕ) → Decimal s v → 1 ≤ v → d ≤ 9 → Decimal (s ++ ((48 + d) ∷ [])) (v * 10 + d)

-- "a port one up to 65,535"
abbrev pub PortNumber : List ℕ → ℕ → Type 0
PortNumber s n = Decimal s n × (n ≤ 65535)

-- "an address is four decimals up to 255", with dots between them
pub record Dotted (s : List ℕ) (v : ℕ) : Type 0 where
  pub s₁ : List ℕ
  pub s₂ : List ℕ
  pub s₃ : List ℕ
  pub s₄ : List ℕ
  pub v₁ : ℕ
  pub v₂ : ℕ
  pub v₃ : ℕ
  pub v₄ : ℕ
  pub first : Decimal s₁ v₁ × (v₁ ≤ 255)
  pub second : Decimal s₂ v₂ × (v₂ ≤ 255)
  pub third : Decimal s₃ v₃ × (v₃ ≤ 255)
  pub fourth : Decimal s₄ v₄ × (v₄ ≤ 255)
  pub text : s ≡ s₁ ++ (46 ∷ (s₂ ++ (46 ∷ (s₃ ++ (46 ∷ s₄)))))
  pub worth : v ≡ ((v₁ * 256 + v₂) * 256 + v₃) * 256 + v₄
