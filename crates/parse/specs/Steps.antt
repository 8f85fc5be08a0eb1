-- Where reading stands: the next token, and the numbers that are free behind the tree; or why the text is refused.
use Rattle.std.specs.Prelude.{⊤, List, ℕ, Bool, true, false, ◌≡◌, ◌+◌, ◌*◌, ◌-◌, ◌≤◌, ◌<◌, ltb, get_or, take, length, Result, Ok, Err, OnOk, MatchBool, MatchResult}
use Rattle.std.proofs.lemmas.List.Edits.{sets}
use Rattle.rules.specs.Limits.{token_numbers}
use Rattle.rules.specs.Base.{pick}
use Rattle.rules.specs.Cells.{WHOLE}
use Rattle.rules.specs.Answers.{fault_number}
use Rattle.rules.specs.KindNumbers.{kind_number}
use Rattle.rules.specs.declared.compiling.Fault.TheVariants.{Unexpected}
use Rattle.rules.specs.declared.compiling.Refusal.{Refusal}
use Rattle.rules.specs.declared.kinds.Kind.{Kind}
use Rattle.parse.specs.declared.parser.Parser.{Parser}
use Rattle.cells.specs.declared.cell.Cell.{Cell}

-- of so many tokens at this one, with these numbers free; or refused, by this number of the list and at this place
pub data Step : Type 0 where
  At : ℕ → ℕ → ℕ → Step
  Bad : ℕ → ℕ → Step

-- where a parser stands
abbrev pub at : Parser → Step
at p = At p.count p.next p.free

-- where it stands after a step that may refuse
abbrev pub after : Result ⊤ Refusal → Parser → Step
after (Ok u) p = at p
after (Err e) p = Bad (fault_number e.fault) e.place

-- of so many tokens
abbrev pub count_of : Step → ℕ
count_of (At n j a) = n
count_of (Bad x p) = 0

-- so many tokens are left; none after a refusal
abbrev pub left_of : Step → ℕ
left_of (At n j a) = n - j
left_of (Bad x p) = 0

-- the first free number; a refusal writes no more
abbrev pub end_of : Step → ℕ
end_of (At n j a) = a
end_of (Bad x p) = 0

-- the tree lies behind the tokens
abbrev pub free_of : Step → ℕ
free_of (At n j a) = a
free_of (Bad x p) = token_numbers

-- the free numbers that may still be reached: six for each token that is left
abbrev pub room_of : Step → ℕ
room_of s = end_of s + 6 * left_of s

-- reading may go on, in the lent numbers, and with so many more
abbrev pub Fits : ℕ → Parser → Type 0
Fits more p = (3 * p.count ≤ token_numbers) × (p.next ≤ p.count) × (token_numbers ≤ p.free) × (p.free + 6 * (p.count - p.next) + more ≤ length p.memory.now)

-- the parser has the memory that it had, and as many tokens
abbrev pub Stays : Parser → Parser → Type 0
Stays old new = (new.memory.ghost_name ≡ old.memory.ghost_name) × (length new.memory.now ≡ length old.memory.now) × (new.count ≡ old.count)

-- a loop went on in the tokens, and wrote no more than the tokens pay for
abbrev pub Goes : Parser → Parser → Type 0
Goes old new =
    Stays old new × (new.next ≤ new.count) × (old.next ≤ new.next) × (token_numbers ≤ new.free)
    × (new.free + 6 * (new.count - new.next) ≤ old.free + 6 * (old.count - old.next))

-- reading went on in the tokens, and wrote so many numbers more than the tokens pay for at most
abbrev pub Moves : ℕ → Parser → Result ⊤ Refusal → Parser → Type 0
Moves more old result new =
    OnOk result (new.next ≤ new.count) × (left_of (after result new) ≤ left_of (at old)) × (token_numbers ≤ free_of (after result new))
    × (room_of (after result new) ≤ room_of (at old) + more)

-- the numbers of the next token; zeros behind the last and after a refusal
unfoldable pub token_at : List ℕ → Step → Cell
token_at m (At n j a) = record { tag = get_or (take (3 * n) m) (3 * j) 0; place = get_or (take (3 * n) m) (3 * j + 1) 0; datum = get_or (take (3 * n) m) (3 * j + 2) 0 }
token_at m (Bad x p) = record { tag = 0; place = 0; datum = 0 }

unfoldable pub kind_at : List ℕ → Step → ℕ
kind_at m s = (token_at m s).tag

-- past the next token
unfoldable pub skipped : Step → Step
skipped (At n j a) = pick (ltb j n) (λ _. At n (j + 1) a) (λ _. At n j a)
skipped (Bad x p) = Bad x p

-- past a cell that is written
unfoldable pub extended : Step → Step
extended (At n j a) = At n j (a + 3)
extended (Bad x p) = Bad x p

-- the numbers with that cell
unfoldable pub written : List ℕ → Step → List ℕ → List ℕ
written m (At n j a) cell = sets m a cell
written m (Bad x p) cell = m

-- the number of the next token's kind, and the token's place
abbrev pub kind_ahead : Parser → ℕ
kind_ahead p = kind_at p.memory.now (at p)

abbrev pub place_ahead : Parser → ℕ
place_ahead p = (token_at p.memory.now (at p)).place

-- the next token is of this kind; it is one of the tokens, unless the kind is that of the end
abbrev pub Next : Parser → ℕ → Type 0
Next p k = (kind_ahead p ≡ k) × (1 ≤ k → p.next < p.count)

-- whether the next token is of this kind
abbrev pub Sees : Parser → Kind → Bool → Type 0
Sees p kind b = MatchBool b (Next p (kind_number kind)) (kind_ahead p ≡ kind_number kind → ⊥)

-- the next token's kind; or no kind has its number, and it is unexpected
abbrev pub Meets : Parser → Result Kind Refusal → Type 0
Meets p r =
    MatchResult r (λ kind. Next p (kind_number kind) × (kind_ahead p ≤ WHOLE))
    (λ e. (WHOLE < kind_ahead p) × (e ≡ record { fault = Unexpected; place = place_ahead p }))

-- whether the next token's kind is one of those
abbrev pub Begins : (ℕ → Bool) → Parser → Bool → Type 0
Begins starts p b = MatchBool b ((starts (kind_ahead p) ≡ true) × (p.next < p.count) × (kind_ahead p ≤ WHOLE)) (starts (kind_ahead p) ≡ false)

-- a token was skipped
abbrev pub Skips : List ℕ → List ℕ → Step → Step → Type 0
Skips m m₁ s r = (r ≡ skipped s) × (m₁ ≡ m)

-- a cell was written at a step
abbrev pub Writes : List ℕ → List ℕ → List ℕ → Step → Step → Type 0
Writes cell m m₁ s r = (r ≡ extended s) × (m₁ ≡ written m s cell)
