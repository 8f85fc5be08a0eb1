-- The whole of parsing: what scanning left, with the tree behind it, is what the rules say is left. Assumes nothing.
use Rattle.std.specs.Prelude.{Result, Ok, Err}
use Rattle.std.specs.Result.{IsErrAnd}
use mathlib.Core.Path.{◌≡◌, refl, sym, ap}
use mathlib.Core.Bool.{Bool, true, false}
use mathlib.Core.List.{List, [], ◌∷◌}
use Prim.Native.Nat.{ℕ, ◌+◌, ◌*◌, ◌-◌, ◌≤◌, ◌<◌}
use native.Mathlib.Omega.{arith}
use lib.Dec.{leb}
use lib.ListN.{length, replicate}
use lib.Seq.{sets, sets-eq, take_at}
use borrow.Author.Tests.{le-leb, lt-leb, ne_eqb}
use Rattle.rules.specs.Limits.{text_limit, memory_numbers, token_numbers}
use Rattle.rules.specs.Base.{Res, ok, refuse, ◌>>=◌, need}
use Rattle.rules.specs.Tokens.{Token, tokens}
use Rattle.rules.specs.Syntax.{Tree, Read, Reader, program, tree_of, parse}
use Rattle.rules.specs.Cells.{cell, token_cell, cells, tree_cells, refused_lent, tokens_for, tokens_left, scanned, tree_left, parsed_left, parsed}
use Rattle.rules.specs.Compile.{memory_after}
use Rattle.rules.specs.Answers.{fault_number, left}
use Rattle.rules.specs.declared.compiling.Fault.TheVariants.{ShortMemory}
use Rattle.rules.specs.declared.compiling.Refusal.{Refusal}
use Rattle.theorems.specs.Refusals.{Fine, f_ok, f_refuse}
use Rattle.theorems.specs.TokenPlaces.{tokens_in}
use Rattle.theorems.specs.Fuel.{program-fuel}
use Rattle.theorems.specs.ReadPlaces.{parse-refused}
use Rattle.parse.specs.Steps.{Step, At, Bad}
use Rattle.parse.specs.Reading.{Ahead, Done, read, refusal, Did, reads, DidWith}

-- too few lent numbers: 17
pub parsed_little : (text lent : List ℕ) → length lent < memory_numbers → left (Err (record { fault = ShortMemory; place = 0 })) lent ≡ parsed text lent
unfolding parsed parsed_left tokens_for need ◌>>=◌ refused_lent memory_after
parsed_little text lent h = rw (lt-leb memory_numbers (length lent) h)

-- The tokens lie at the beginning

cells_long : (ts : List Token) → length (cells ts) ≡ 3 * length ts
unfolding cells token_cell cell
cells_long [] = refl
cells_long (t ∷ ts) = let rest = cells_long ts in omega arith

begins : (n : ℕ) (lent : List ℕ) (ts : List Token) → length ts ≡ n → 3 * n ≤ length lent → Ahead n (sets lent 0 (cells ts)) 0 ts
begins n lent ts e h =
    let long = cells_long ts in
    record { lie = rw (sets-eq (cells ts) lent 0 (omega arith)) (take_at (cells ts) _ (3 * n) (omega arith)) }

-- Reading the program from the first token on

from : {A : Type 0} {encode : A → List ℕ} {n j a : ℕ} {m m₁ : List ℕ} {e : Step} {R : Reader A}
    → Did encode m m₁ (At n j a) e R → (us : List Token) → Ahead n m j us → Done encode n m m₁ a e (R us)
from (reads d) us h = d us h

-- it gave a tree
tree_left_lem : {n : ℕ} {m m₁ : List ℕ} {o : Read Tree} (lent : List ℕ) {c j a : ℕ} → Done tree_cells n m m₁ token_numbers (At c j a) o → left (Ok (a - token_numbers)) m₁ ≡ tree_left (tree_of o) lent m
unfolding tree_left tree_of
tree_left_lem lent {a} (read t us h q l) =
    let size : a - token_numbers ≡ length (tree_cells t) = omega arith in
    rw (size, q)

-- it was refused
tree-refused : {n : ℕ} {m m₁ : List ℕ} {o : Read Tree} {x p : ℕ} → Done tree_cells n m m₁ token_numbers (Bad x p) o → tree_of o ≡ refuse x p
unfolding tree_of
tree-refused refusal = refl

-- a result that is there has what its kind of results has
has : {A : Type 0} {N : ℕ} {Q : A → Type 0} {r : Res A} (a : A) → r ≡ ok a → Fine N Q r → Q a
has {Q} a e (f_ok {a = b} h) = let same : b ≡ a = cc in rw same at h
has a e (f_refuse n p h) = let z : ◌≡◌ {A = ℕ} 0 1 = cc in absurd (omega arith)

-- the whole of reading, with the fuel of the rules
read-program : {n : ℕ} {m m₁ : List ℕ} {e : Step} (lent : List ℕ) (ts : List Token) → length ts ≡ n → m ≡ sets lent 0 (cells ts) → 3 * n ≤ length lent
    → DidWith 3 3 tree_cells m m₁ (At n 0 token_numbers) e program → Done tree_cells n m m₁ token_numbers e (program (4 * length ts) ts)
read-program {n} lent ts many lie few did =
    rw (← (program-fuel ts (4 * length ts + 3) (omega arith))) (from (did (4 * length ts + 3) (omega arith)) ts (rw lie (begins n lent ts many few)))

-- what scanning left where it refused nothing
data Scanned (text lent m : List ℕ) (count : ℕ) : Type 0 where
  these : (ts : List Token) → tokens_for memory_numbers (length lent) text ≡ ok ts → length ts ≡ count → m ≡ sets lent 0 (cells ts) → Scanned text lent m count

module _ (text lent : List ℕ) (enough : memory_numbers ≤ length lent) where
  -- numbers enough for the tree are enough for the tokens
  enough_same : tokens_for token_numbers (length lent) text ≡ tokens_for memory_numbers (length lent) text
  unfolding tokens_for
  enough_same = rw (le-leb memory_numbers (length lent) enough, le-leb token_numbers (length lent) (omega arith))

  -- scanning refused: so does parsing
  pub parsed_unscanned : (r : Result ℕ Refusal) (e : Refusal) {m : List ℕ} → IsErrAnd r (λ x. x ≡ e) → left (Err e) m ≡ scanned text lent → left r m ≡ parsed text lent
  unfolding scanned tokens_left parsed parsed_left
  parsed_unscanned (Err x) e {m} same q = rw (same, ← enough_same) (go (tokens_for token_numbers (length lent) text) q)
    where
      go : (o : Res (List Token)) → left (Err e) m ≡ tokens_left o lent → left (Err e) m ≡ parsed_left o lent
      go (refuse x y) q = q
      go (ok ts) q =
          let a : refuse (fault_number e.fault) e.place ≡ ok (length ts) = ap (λ l. l.answer) q in
          let z : ◌≡◌ {A = ℕ} 0 1 = cc in absurd (omega arith)
  parsed_unscanned (Ok n) e same q = absurd same

  -- scanning left tokens
  left_tokens : {m : List ℕ} (count : ℕ) → left (Ok count) m ≡ scanned text lent → Scanned text lent m count
  unfolding scanned tokens_left refused_lent
  left_tokens {m} count q = go (tokens_for token_numbers (length lent) text) enough_same q
    where
      go : (o : Res (List Token)) → o ≡ tokens_for memory_numbers (length lent) text → left (Ok count) m ≡ tokens_left o lent → Scanned text lent m count
      go (ok ts) f q =
          let a : ok count ≡ ok (length ts) = ap (λ l. l.answer) q in
          these ts (sym f) (cc) (ap (λ l. l.memory) q)
      go (refuse x y) f q =
          let a : ok count ≡ refuse x y = ap (λ l. l.answer) q in
          let z : ◌≡◌ {A = ℕ} 0 1 = cc in absurd (omega arith)

  -- they are the text's
  text-tokens : (ts : List Token) → tokens_for memory_numbers (length lent) text ≡ ok ts → tokens text ≡ ok ts
  unfolding tokens_for need ◌>>=◌
  text-tokens ts e = go (leb (length text) text_limit) (rw (le-leb memory_numbers (length lent) enough) at e)
    where
      go : (b : Bool) → ◌>>=◌ (need b 1 text_limit) (λ _. tokens text) ≡ ok ts → tokens text ≡ ok ts
      go true e = e
      go false e = let z : ◌≡◌ {A = ℕ} 0 1 = cc in absurd (omega arith)

  module _ {m m₁ : List ℕ} {e : Step} (count : ℕ) (few : 3 * count ≤ token_numbers) (scan : left (Ok count) m ≡ scanned text lent)
      (reading : DidWith 3 3 tree_cells m m₁ (At count 0 token_numbers) e program) where
    done : (ts : List Token) → length ts ≡ count → m ≡ sets lent 0 (cells ts) → Done tree_cells count m m₁ token_numbers e (program (4 * length ts) ts)
    done ts many lie = read-program lent ts many lie (omega arith) reading

    -- the tree was read
    pub parsed-tree : {m₂ : List ℕ} {c j : ℕ} (a : ℕ) → e ≡ At c j a → m₂ ≡ m₁ → left (Ok (a - token_numbers)) m₂ ≡ parsed text lent
    unfolding parsed parsed_left parse
    parsed-tree {m₂} a same lies = go (left_tokens count scan)
      where
        go : Scanned text lent m count → left (Ok (a - token_numbers)) m₂ ≡ parsed text lent
        go (these ts found many lie) = rw (lies, found, ← lie) (tree_left_lem lent (rw same at (done ts many lie)))

    -- the program was refused
    pub parsed_unread : (m₂ : List ℕ) {m₃ : List ℕ} (r : Refusal) → e ≡ Bad (fault_number r.fault) r.place → m₃ ≡ replicate (length m₂) 0 → length m₂ ≡ length lent → left (Err r) m₃ ≡ parsed text lent
    unfolding parsed parsed_left parse tree_left refused_lent memory_after
    parsed_unread m₂ {m₃} r same zeros long = go (left_tokens count scan)
      where
        go : Scanned text lent m count → left (Err r) m₃ ≡ parsed text lent
        go (these ts found many lie) =
            let x = fault_number r.fault in
            let bad = tree-refused (rw same at (done ts many lie)) in
            let small = parse-refused ts x r.place (has ts (text-tokens ts found) (tokens_in text)) bad in
            rw (found, bad, ne_eqb x 17 (omega arith), zeros, long)
