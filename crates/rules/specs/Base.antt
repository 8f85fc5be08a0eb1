-- Words that all the rules use: a choice, an answer or a refusal, the bytes of a written text.
use Prim.Native.String as S
use Rattle.std.specs.Prelude.{Bool, true, false, List, [], ◌∷◌, ℕ, eqb}
use Prim.Native.Char.{code}
use Prim.Native.String.{String}

-- a choice; only the part that is chosen is computed
abbrev pub pick : {A : Type 0} → Bool → (Unit {0} → A) → (Unit {0} → A) → A
pick true a b = a tt
pick false a b = b tt

-- an answer, or the refusal: its number and its place
pub data Res (A : Type 0) : Type 0 where
  ok : A → Res A
  refuse : ℕ → ℕ → Res A

unfoldable pub ◌>>=◌ : {A B : Type 0} → Res A → (A → Res B) → Res B
◌>>=◌ (ok a) f = f a
◌>>=◌ (refuse n p) f = refuse n p

-- go on if the test holds, else refuse
unfoldable pub need : Bool → ℕ → ℕ → Res (Unit {0})
need true n p = ok tt
need false n p = refuse n p

unfoldable pub same : List ℕ → List ℕ → Bool
same [] [] = true
same [] (y ∷ s) = false
same (x ∷ r) [] = false
same (x ∷ r) (y ∷ s) = pick (eqb x y) (λ _. same r s) (λ _. false)

unfoldable pub member : ℕ → List ℕ → Bool
member x [] = false
member x (y ∷ s) = pick (eqb x y) (λ _. true) (λ _. member x s)

-- the bytes of a text in quotes (each character one byte)
unfoldable pub bytes : String → List ℕ
bytes S.[] = []
bytes (S.◌∷◌ c s) = code c ∷ bytes s
