-- The next token's kind, to the code and to the rules. Assumes nothing.
use Rattle.std.specs.Prelude.{Some, None, Result, Ok, Err, MatchResult}
use Rattle.std.specs.Result.{result_ok}
use mathlib.Core.Path.{◌≡◌, sym, ap, ◌∙◌}
use mathlib.Core.Bool.{Bool, true, false}
use mathlib.Core.List.{List}
use Prim.Native.Nat.{ℕ, ◌≤◌, ◌<◌}
use native.Mathlib.Omega.{arith}
use lib.Dec.{eqb}
use borrow.Author.Tests.{eqb-true, eqb-false}
use Rattle.rules.specs.KindNumbers.{kind_number}
use Rattle.rules.proofs.KindLaws.{small}
use Rattle.rules.specs.Cells.{WHOLE}
use Rattle.rules.specs.Tokens.{Token}
use Rattle.rules.specs.Syntax.{next}
use Rattle.rules.specs.declared.compiling.Refusal.{Refusal}
use Rattle.rules.specs.declared.kinds.Kind.{Kind}
use Rattle.parse.specs.Steps.{token_at, kind_at, at, Sees, Meets, Begins, kind_ahead, Step}
use Rattle.parse.specs.declared.parser.Parser.{Parser}
use Rattle.cells.specs.declared.cell.Cell.{Cell}
use Rattle.parse.proofs.Follow.{seen}
use Rattle.parse.proofs.Moves.{some-ahead}

-- of the tokens that are left to the rules
pub kind_left : (m : List ℕ) (s : Step) (us : List Token) → token_at m s ≡ seen (next us) → (next us).kind ≡ kind_at m s
unfolding kind_at
kind_left m s us e = ap (λ x. x.tag) (sym e)

-- the kind and the place that the code has are those of the rules' next token
pub kind-of : (m : List ℕ) (s : Step) {k : ℕ} → kind_at m s ≡ k → (us : List Token) → token_at m s ≡ seen (next us) → (next us).kind ≡ k
kind-of m s is us z = kind_left m s us z ∙ is

pub place_of : (m : List ℕ) (s : Step) {place : ℕ} → place ≡ (token_at m s).place → (u : Token) → token_at m s ≡ seen u → place ≡ u.place
place_of m s here u z = here ∙ ap (λ x. x.place) z

-- the code's test of the next token's kind
pub sees : (p : Parser) (kind : Kind) {t : Cell} {b : Bool} → t ≡ token_at p.memory.now (at p) → b ≡ eqb t.tag (kind_number kind) → Sees p kind b
unfolding kind_at
sees p kind {t} {b} e q = go b q
  where
    go : (b : Bool) → b ≡ eqb t.tag (kind_number kind) → Sees p kind b
    go true h = let is = ap (λ x. x.tag) (sym e) ∙ eqb-true _ _ (sym h) in (is, λ one. some-ahead p.memory.now p.count p.next p.free (omega (arith, is)))
    go false h = λ is. eqb-false _ _ (sym h) (ap (λ x. x.tag) e ∙ is)

-- the next token's kind by its number; or none has it
pub meets : (p : Parser) {t : Cell} (kind : Kind) → t ≡ token_at p.memory.now (at p) → kind_number kind ≡ t.tag → Meets p (Ok kind)
unfolding kind_at
meets p {t} kind e d =
    let is = ap (λ x. x.tag) (sym e) ∙ sym d in
    ((is, λ one. some-ahead p.memory.now p.count p.next p.free (omega (arith, is))), omega (arith, is, small kind))

-- the code's test of the next token's kind, by what such kinds are: not that of the end, and none whose number is no kind's
pub begins : (p : Parser) (starts : ℕ → Bool) (r : Result Kind Refusal) (b : Bool) → ((k : ℕ) → starts k ≡ true → 1 ≤ k) → ((k : ℕ) → WHOLE < k → starts k ≡ false) → Meets p r
    → MatchResult r (λ kind. b ≡ starts (kind_number kind)) (λ _. b ≡ false) → Begins starts p b
begins p starts (Err x) b token known m e = rw e (known _ m.0)
begins p starts (Ok kind) b token known m e = go b e
  where
    go : (b : Bool) → b ≡ starts (kind_number kind) → Begins starts p b
    go true e = let is = ap starts m.0.0 ∙ sym e in (is, m.0.1 (token _ (sym e)), m.1)
    go false e = ap starts m.0.0 ∙ sym e

-- a kind that is there, and one that is not
pub met : (p : Parser) (r : Result Kind Refusal) (kind : Kind) → Meets p r → Some kind ≡ result_ok r → Meets p (Ok kind)
met p (Ok k) kind m e = let same : kind ≡ k = cc in rw same m
met p (Err x) kind m e = cc

pub unmet : (p : Parser) (r : Result Kind Refusal) → Meets p r → None ≡ result_ok r → WHOLE < kind_ahead p
unmet p (Ok k) m e = cc
unmet p (Err x) m e = m.0
