-- The whole walk: what the declarations and the statements left is what the rules say. Assumes nothing.
use mathlib.Core.Path.{◌≡◌, refl, sym, ap, ◌∙◌}
use mathlib.Core.Bool.{false}
use mathlib.Core.List.{List, [], ◌++◌, append_assoc, append-nil}
use Prim.Native.Nat.{ℕ, ◌+◌, ◌-◌, ◌≤◌}
use native.Mathlib.Nat.{le_refl}
use native.Mathlib.Omega.{arith}
use lib.ListN.{length, length-take, take, drop, replicate, get_or-replicate}
use lib.Seq.{sets, sets-eq, length-sets, length-take-le, take-take, drop_at, slice, slice_empty, length-slice}
use borrow.Author.Tests.{ne_eqb}
use Rattle.rules.specs.Limits.{memory_numbers, token_numbers, tree_numbers}
use Rattle.rules.specs.Base.{Res, ok, refuse, ◌>>=◌, member}
use Rattle.rules.specs.Syntax.{Tree}
use Rattle.rules.specs.Core as Core
use Rattle.rules.specs.Core.{Program}
use Rattle.rules.specs.Walk.{Var, nameless, declare_all, list, walk}
use Rattle.rules.specs.Cells.{cells, list_cells, tree_cells, refused_lent, parsed}
use Rattle.rules.specs.CoreCells.{body_cells, variable_cells, program_cells, program_for, program_left, walked}
use Rattle.rules.specs.Compile.{memory_after}
use Rattle.std.specs.Prelude.{Result, Ok as Left, Err as Refused}
use Rattle.rules.specs.Answers.{fault_number, left, TreeFits}
use Rattle.rules.specs.declared.compiling.Refusal.{Refusal}
use Rattle.theorems.specs.Spelling.{Spelled, names-spelled}
use Rattle.theorems.specs.TreePlaces.{StmsIn, TreeIn}
use Rattle.names.specs.Rows.{rows_from}
use Rattle.names.specs.Laws.{plainly}
use Rattle.walk.specs.Steps.{stack_start, kept}
use Rattle.walk.specs.Walking.{Ready, Any}
use Rattle.walk.specs.Promises.{scope, Marks, ListMeans}
use Rattle.walk.specs.Declaring.{var_cells, Amid, midway, Behind, passed, refused, DeclarationsMean}
use Rattle.walk.specs.Cleared.{Cleared}
use Rattle.walk.specs.Program.{ProgramMeans, ended as ended_at}
use Rattle.walk.specs.Places.{Step, Ok, Bad, Declared, refused as refused_step}
use Rattle.walk.proofs.Stores.{take_of_sets}
use Rattle.walk.proofs.Onward.{After, came, lost, after, refusal-stays}
use Rattle.walk.proofs.ParsedTree.{program_of, Parsed, tree, was_parsed, tokens-told}
use Rattle.walk.proofs.WalkNumbers.{walk_refused}

-- The start

-- what is stored in a list lies in a beginning of it that is long enough
laid : (l : List ℕ) (i k : ℕ) (xs : List ℕ) → i + length xs ≤ k → k ≤ length l → drop i (take k (sets l i xs)) ≡ xs ++ drop (i + length xs) (take k l)
laid l i k xs h j =
    let e = length-take-le k l j in
    ap (drop i) (take_of_sets l i xs k ∙ sets-eq xs (take k l) i (omega arith) ∙ append_assoc (take i (take k l)) xs (drop (i + length xs) (take k l)))
    ∙ drop_at (take i (take k l)) (xs ++ drop (i + length xs) (take k l)) i (length-take-le i (take k l) (omega arith))

-- and it begins there
laid_within : (l : List ℕ) (i k : ℕ) (xs : List ℕ) → i ≤ k → k ≤ length l → i ≤ length (take k (sets l i xs))
laid_within l i k xs h j = let e = length-sets l i xs in let d = length-take-le k (sets l i xs) (omega arith) in omega arith

-- the tree of a text lies behind its tokens
module _ (text l : List ℕ) (t : Tree) (enough : memory_numbers ≤ length l) (short : length (tree_cells t) ≤ tree_numbers) where
  -- the walk may start
  start_ready : Ready (scope text 0 []) (sets l token_numbers (tree_cells t)) token_numbers token_numbers (tree_cells t)
  unfolding kept rows_from plainly
  start_ready =
      let long : memory_numbers ≤ length (sets l token_numbers (tree_cells t)) = let e = length-sets l token_numbers (tree_cells t) in omega arith in
      record {
        rest = drop (token_numbers + length (tree_cells t)) (take stack_start l);
        ahead = laid l token_numbers stack_start (tree_cells t) (omega arith) (omega arith);
        within = laid_within l token_numbers stack_start (tree_cells t) (omega arith) (omega arith);
        long = long;
        low = le_refl token_numbers;
        room = le_refl token_numbers;
        few = omega arith;
        table = refl;
      }

  -- before the first declaration
  starts : TreeIn (length text) (Spelled text) t → Amid text (list_cells t.body) (declare_all [] t.decls) (sets l token_numbers (tree_cells t)) 0 (Ok token_numbers token_numbers)
  unfolding var_cells tree_cells
  starts h = midway [] t.decls refl refl h.decls start_ready (slice_empty token_numbers (kept (sets l token_numbers (tree_cells t))))

-- The end

-- the program lies behind the tokens; or the refusals are one
pub data Ended (text lent m : List ℕ) : Step → Type 0 where
  done : {at free : ℕ} (p : Program) → program_for (length lent) text ≡ ok p → slice token_numbers free m ≡ program_cells p → (token_numbers ≤ free) × (free ≤ stack_start) → free ≤ length m → Ended text lent m (Ok at free)
  failed : {n p : ℕ} → program_for (length lent) text ≡ refuse n p → (1 ≤ n) × (n ≤ 16) → Ended text lent m (Bad n p)

-- no slot is taken
no_marks : Marks (replicate 64 false) []
unfolding member
no_marks = record { marks = λ i h. get_or-replicate 64 i false false h }

-- what lies before the stack is what lies there
part_kept : (m : List ℕ) (free : ℕ) → free ≤ stack_start → slice token_numbers free (kept m) ≡ slice token_numbers free m
unfolding kept
part_kept m free h = ap (drop token_numbers) (take-take free stack_start m h)

module _ (text lent m₁ m₂ : List ℕ) (t : Tree) (is : program_for (length lent) text ≡ walk t) (h : StmsIn (length text) (Spelled text) t.body) where
  -- behind the body's statements
  body_ended : {count free : ℕ} {end : Step} (vs : List Var) (o : Res Core.List) → declare_all [] t.decls ≡ ok vs → list vs t.body [] false ≡ o
      → slice token_numbers free (kept m₁) ≡ variable_cells (nameless vs) → After (scope text count vs) Any body_cells m₁ m₂ [] free end o → Ended text lent m₂ end
  unfolding walk ◌>>=◌ program_cells kept
  body_ended vs (ok l) e f part (came {at'} {free'} _ _ y more) =
      let w = length-take stack_start m₂ in
      let r = y.room in
      let i = y.within in
      done (record { vars = nameless vs; body = l }) (is ∙ rw (e, f)) (sym (part_kept m₂ free' (omega arith)) ∙ more ∙ ap (λ k. k ++ body_cells l) part) (y.low, omega arith) (omega arith)
  body_ended vs (refuse n p) e f part lost = let r : walk t ≡ refuse n p = rw (e, f) in failed (is ∙ r) (walk_refused t n p r)

  -- behind the declarations
  ends : {count : ℕ} {s end : Step} → Behind text (list_cells t.body) (declare_all [] t.decls) m₁ count s → ListMeans text count (replicate 64 false) false m₁ m₂ s end → Ended text lent m₂ end
  unfolding walk ◌>>=◌
  ends (passed vs e y part) means =
      body_ended vs (list vs t.body [] false) e refl part (after (list_cells t.body) [] (means vs [] t.body) (h, no_marks) (rw (append-nil (list_cells t.body)) y))
  ends (refused {n} {p} e) means = let r : walk t ≡ refuse n p = rw e in rw (refusal-stays (means [] [] t.body)) (failed (is ∙ r) (walk_refused t n p r))

-- the declarations and the statements were walked, and what was lent is as the walk leaves it
pub whole : {N : Type 0} {a b : N} {text m x y : List ℕ} {r : Result ℕ Refusal} (between : List ℕ) (names : Declared) (at : ℕ) → DeclarationsMean text m between (Ok token_numbers token_numbers) names
    → ListMeans text names.count (replicate 64 false) false between y names.step (ended_at at r) → b ≡ a → (a ≡ b → x ≡ y) → ProgramMeans text m x r
whole between names at d l e k = rw (k (sym e)) (record { between = between; names = names; at = at; declares = d; lists = l })

-- parsing left a tree, which was walked
pub ended : (text lent : List ℕ) {q : Result ℕ Refusal} {r : Result ℕ Refusal} {m m' : List ℕ} (count : ℕ) → q ≡ Left count → (left q m ≡ parsed text lent) × TreeFits q → (w : ProgramMeans text m m' r) → Ended text lent m' (ended_at w.at r)
ended text lent {q} {r} {m} {m'} count e p w = go (was_parsed text lent count e p)
  where
    go : Parsed text lent m → Ended text lent m' (ended_at w.at r)
    go (tree ts t f g short is) =
        let told = tokens-told (length lent) text ts f in
        let places = names-spelled text ts t told.1 g in
        let start = starts text (sets lent 0 (cells ts)) t (rw (length-sets lent 0 (cells ts)) told.0) short places in
        ends text lent w.between m' t (program_of lent text ts t f g) places.body (w.declares (list_cells t.body) (declare_all [] t.decls) (rw is start)) w.lists

-- the program's end
pub end_free : {text lent m : List ℕ} {end : Step} (at free : ℕ) → end ≡ Ok at free → Ended text lent m end → (token_numbers ≤ free) × (free ≤ stack_start)
end_free at free e (done {free = k} p q part room high) = let same : k ≡ free = cc in rw same at room
end_free at free e (failed q low) = let z : ◌≡◌ {A = ℕ} 0 1 = cc in absurd (omega arith)

-- the program is left
pub walk_left : {text lent m m' : List ℕ} {end : Step} (at free : ℕ) → end ≡ Ok at free → length m ≡ length lent → Ended text lent m end → Cleared m free m'
    → (left (Left (free - token_numbers)) m' ≡ walked text lent) × (free - token_numbers ≤ tree_numbers)
unfolding walked program_left
walk_left {lent} {m} {m'} at free e long (done {free = k} p q part room high) cleared =
    let same : k ≡ free = cc in
    let middle : slice token_numbers free m ≡ program_cells p = rw same at part in
    let size : length (slice token_numbers free m) ≡ free - token_numbers = length-slice token_numbers free m (rw same at high) in
    let program : m' ≡ sets (replicate (length m) 0) token_numbers (slice token_numbers free m) = cleared (rw same at room.0, rw same at high) in
    (rw (q, ← middle, size, program, long), omega (arith, room.1))
walk_left at free e long (failed q low) cleared = let z : ◌≡◌ {A = ℕ} 0 1 = cc in absurd (omega arith)

-- or the text is refused
pub walk-refuses : {text lent m m' : List ℕ} (e : Refusal) → length m ≡ length lent → Ended text lent m (refused_step e) → m' ≡ replicate (length m) 0 → left (Refused e) m' ≡ walked text lent
unfolding walked program_left refused_lent memory_after
walk-refuses e long (failed q low) zeros = rw (q, ne_eqb (fault_number e.fault) 17 (omega arith), zeros, long)
