-- What parsing left: the refusal, or the tree that the walk starts from. Assumes nothing.
use mathlib.Core.Path.{◌≡◌, refl, ap, ◌∙◌}
use mathlib.Core.Bool.{Bool, true, false}
use mathlib.Core.List.{List}
use Prim.Native.Nat.{ℕ, ◌≤◌}
use native.Mathlib.Omega.{arith}
use lib.Dec.{leb}
use lib.ListN.{length}
use lib.Seq.{sets}
use borrow.Author.Tests.{leb-true}
use Rattle.rules.specs.Limits.{text_limit, memory_numbers, token_numbers, tree_numbers}
use Rattle.rules.specs.Base.{Res, ok, refuse, ◌>>=◌, need}
use Rattle.rules.specs.Tokens.{Token, tokens}
use Rattle.rules.specs.Syntax.{Tree, parse}
use Rattle.rules.specs.Walk.{walk}
use Rattle.rules.specs.Cells.{cells, tree_cells, refused_lent, tokens_for, tree_left, parsed_left, parsed}
use Rattle.rules.specs.CoreCells.{program_for, program_left, walked}
use Rattle.rules.specs.Compile.{front}
use Rattle.std.specs.Prelude.{Result, Ok as Left, Err as Refused}
use Rattle.rules.specs.Answers.{fault_number, left, TreeFits}
use Rattle.rules.specs.declared.compiling.Refusal.{Refusal}

-- the program of a text: its tokens, its tree, the walk
program_for_lem : (lent : ℕ) (text : List ℕ) → program_for lent text ≡ ◌>>=◌ (tokens_for memory_numbers lent text) (λ ts. ◌>>=◌ (parse ts) walk)
unfolding program_for tokens_for front need ◌>>=◌
program_for_lem lent text = by (leb memory_numbers lent) (leb (length text) text_limit)
  where
    by : (b c : Bool) → ◌>>=◌ (need b 17 0) (λ _. ◌>>=◌ (need c 1 text_limit) (λ _. ◌>>=◌ (tokens text) (λ ts. ◌>>=◌ (parse ts) walk)))
        ≡ ◌>>=◌ (◌>>=◌ (need b 17 0) (λ _. ◌>>=◌ (need c 1 text_limit) (λ _. tokens text))) (λ ts. ◌>>=◌ (parse ts) walk)
    by true true = refl
    by true false = refl
    by false c = refl

-- where the text has a tree
pub program_of : (lent text : List ℕ) (ts : List Token) (t : Tree) → tokens_for memory_numbers (length lent) text ≡ ok ts → parse ts ≡ ok t → program_for (length lent) text ≡ walk t
unfolding ◌>>=◌
program_of lent text ts t e f = program_for_lem (length lent) text ∙ ap (λ o. ◌>>=◌ o (λ ts. ◌>>=◌ (parse ts) walk)) e ∙ ap (λ o. ◌>>=◌ o walk) f

-- a text that is not parsed has no program
pub unparsed : (text lent : List ℕ) {m : List ℕ} (w : Refusal) → left (Refused w) m ≡ parsed text lent → (left (Refused w) m ≡ walked text lent) × TreeFits (Refused w)
unfolding parsed parsed_left walked program_left tree_left ◌>>=◌
unparsed text lent {m} w q = (rw (program_for_lem (length lent) text) (go (tokens_for memory_numbers (length lent) text) q), tt)
  where
    by : (ts : List Token) (o : Res Tree) → left (Refused w) m ≡ tree_left o lent (sets lent 0 (cells ts)) → left (Refused w) m ≡ program_left (◌>>=◌ o walk) lent
    by ts (refuse x y) q = q
    by ts (ok t) q =
        let a : refuse (fault_number w.fault) w.place ≡ ok (length (tree_cells t)) = ap (λ l. l.answer) q in
        let z : ◌≡◌ {A = ℕ} 0 1 = cc in absurd (omega arith)

    go : (o : Res (List Token)) → left (Refused w) m ≡ parsed_left o lent → left (Refused w) m ≡ program_left (◌>>=◌ o (λ ts. ◌>>=◌ (parse ts) walk)) lent
    go (refuse x y) q = q
    go (ok ts) q = by ts (parse ts) q

-- the tree that parsing left
pub data Parsed (text lent m : List ℕ) : Type 0 where
  tree : (ts : List Token) (t : Tree) → tokens_for memory_numbers (length lent) text ≡ ok ts → parse ts ≡ ok t → length (tree_cells t) ≤ tree_numbers
      → m ≡ sets (sets lent 0 (cells ts)) token_numbers (tree_cells t) → Parsed text lent m

-- it left one if it did not refuse
pub was_parsed : (text lent : List ℕ) {r : Result ℕ Refusal} {m : List ℕ} (count : ℕ) → r ≡ Left count → (left r m ≡ parsed text lent) × TreeFits r → Parsed text lent m
unfolding parsed parsed_left tree_left refused_lent
was_parsed text lent {r} {m} count e q = go (tokens_for memory_numbers (length lent) text) refl q.0
  where
    fits : count ≤ tree_numbers
    fits = rw e at q.1

    none_left : {A : Type 0} (x y : ℕ) → left r m ≡ refused_lent x y lent → A
    none_left x y q =
        let a : ok count ≡ refuse x y = rw e at (ap (λ l. l.answer) q) in
        let z : ◌≡◌ {A = ℕ} 0 1 = cc in absurd (omega arith)

    by : (ts : List Token) → tokens_for memory_numbers (length lent) text ≡ ok ts → (o : Res Tree) → parse ts ≡ o → left r m ≡ tree_left o lent (sets lent 0 (cells ts)) → Parsed text lent m
    by ts f (refuse x y) g q = none_left x y q
    by ts f (ok t) g q =
        let a : ok count ≡ ok (length (tree_cells t)) = rw e at (ap (λ l. l.answer) q) in
        let same : count ≡ length (tree_cells t) = cc in
        tree ts t f g (let h = fits in omega arith) (ap (λ l. l.memory) q)

    go : (o : Res (List Token)) → tokens_for memory_numbers (length lent) text ≡ o → left r m ≡ parsed_left o lent → Parsed text lent m
    go (refuse x y) f q = none_left x y q
    go (ok ts) f q = by ts f (parse ts) refl q

-- memory has its length, and the tokens are the text's
pub tokens-told : (lent : ℕ) (text : List ℕ) (ts : List Token) → tokens_for memory_numbers lent text ≡ ok ts → (memory_numbers ≤ lent) × (tokens text ≡ ok ts)
unfolding tokens_for need ◌>>=◌
tokens-told lent text ts e = by (leb memory_numbers lent) (leb (length text) text_limit) refl e
  where
    by : (b c : Bool) → leb memory_numbers lent ≡ b → ◌>>=◌ (need b 17 0) (λ _. ◌>>=◌ (need c 1 text_limit) (λ _. tokens text)) ≡ ok ts → (memory_numbers ≤ lent) × (tokens text ≡ ok ts)
    by true true h e = (leb-true _ _ h, e)
    by true false h e = let z : ◌≡◌ {A = ℕ} 0 1 = cc in absurd (omega arith)
    by false c h e = let z : ◌≡◌ {A = ℕ} 0 1 = cc in absurd (omega arith)
