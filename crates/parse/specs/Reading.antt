-- What reading promises: the answer and the lent numbers say what the rules' reader says of the tokens that are left.
use Rattle.std.specs.Prelude.{⊤, ◌≡◌, List, [], ℕ, ◌+◌, ◌*◌, ◌≤◌, length, drop, take, Result}
use Rattle.std.proofs.lemmas.List.Edits.{sets}
use Rattle.rules.specs.Tokens.{Token}
use Rattle.rules.specs.Syntax.{Read, got, bad, Reader}
use Rattle.rules.specs.Cells.{cells}
use Rattle.rules.specs.declared.compiling.Refusal.{Refusal}
use Rattle.parse.specs.Steps.{Step, At, Bad, at, after, left_of}
use Rattle.parse.specs.declared.parser.Parser.{Parser}

-- of n tokens in m, those from the j-th on
pub record Ahead (n : ℕ) (m : List ℕ) (j : ℕ) (us : List Token) : Type 0 where
  pub lie : drop (3 * j) (take (3 * n) m) ≡ cells us

-- what was read is encoded from number `at` on, and the tokens left are ahead; or the refusals are one
pub data Done {A : Type 0} (encode : A → List ℕ) (n : ℕ) (entry exit : List ℕ) (at : ℕ) : Step → Read A → Type 0 where
  read : {j a : ℕ} (e : A) (us : List Token) → Ahead n entry j us → exit ≡ sets entry at (encode e) → a ≡ at + length (encode e) → Done encode n entry exit at (At n j a) (got e us)
  refusal : {x p : ℕ} → Done encode n entry exit at (Bad x p) (bad x p)

-- reading from s on did what the reader says; after a refusal nothing is read
pub data Did {A : Type 0} (encode : A → List ℕ) (entry exit : List ℕ) : Step → Step → Reader A → Type 0 where
  reads : {n j a : ℕ} {r : Step} {reader : Reader A} → ((us : List Token) → Ahead n entry j us → Done encode n entry exit a r (reader us)) → Did encode entry exit (At n j a) r reader
  stays : {x p : ℕ} {reader : Reader A} → Did encode entry exit (Bad x p) (Bad x p) reader

-- the rules' readers have fuel: so much for each token that is left, and so much
abbrev pub DidWith : ℕ → ℕ → {A : Type 0} → (A → List ℕ) → List ℕ → List ℕ → Step → Step → (ℕ → Reader A) → Type 0
DidWith each more encode entry exit s r reader = (f : ℕ) → each * left_of s + more ≤ f → Did encode entry exit s r (reader f)

-- what leaves no numbers
abbrev pub nothing : {A : Type 0} → A → List ℕ
nothing a = []

-- a parser's step did what the reader says
abbrev pub Reads : {A : Type 0} → (A → List ℕ) → Parser → Result ⊤ Refusal → Parser → Reader A → Type 0
Reads encode old result new reader = Did encode old.memory.now new.memory.now (at old) (after result new) reader

-- the same of a reader with fuel
abbrev pub ReadsWith : ℕ → ℕ → {A : Type 0} → (A → List ℕ) → Parser → Result ⊤ Refusal → Parser → (ℕ → Reader A) → Type 0
ReadsWith each more encode old result new reader = DidWith each more encode old.memory.now new.memory.now (at old) (after result new) reader
