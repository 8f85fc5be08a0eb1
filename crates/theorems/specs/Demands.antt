-- The demands, on one page: what holds of every text, table and budget. Each is proved here from the laws of the other files.
use Rattle.std.specs.Prelude.{◌≢◌, ◌≡◌, false, [], ◌∷◌, ◌++◌, ℕ, suc, ◌+◌, ◌*◌, ◌≤◌, ℤ, pos, ◌+ℤ◌, ◌-ℤ◌, ◌*ℤ◌, leb, length}
use Rattle.std.proofs.Math.Path.{refl}
use Rattle.std.proofs.Common.{sym, ap, arith}
use Rattle.std.proofs.Math.Bool.{true}
use mathlib.Core.List as L
use Rattle.std.proofs.Math.Option.{some}
use Rattle.std.specs.Int.Signed.{quot_z}
use Rattle.rules.specs.Limits.{stack_limit, text_limit, unbounded_mark}
use Rattle.rules.specs.Base.{Res, ok, ◌>>=◌}
use Rattle.rules.specs.Tokens.{fold, tokens_at, Token, tokens}
use Rattle.rules.specs.Numbers.{Ty, dint, is_zero}
use Rattle.rules.specs.Syntax.{program}
use Rattle.rules.specs.Core.{types, Program, Expr, List, while, repeat, Mod}
use Rattle.rules.specs.Meaning.{Table, fit, binop, passes, exec, loop_w, loop_r, loop_f, exec_l}
use Rattle.rules.specs.Worst.{pass_count}
use Rattle.rules.specs.Image.{image, Loaded, image_in}
use Rattle.rules.specs.Run.{run_loaded, run_image, valid_for}
use Rattle.rules.specs.Compile.{accepted, refused, compiled, compile}
use Rattle.rules.specs.Evaluate.{Told, told_by, evaluate}
use Rattle.theorems.specs.Remainder.{remainder}
use Rattle.theorems.specs.TicksFall.{exec_l-le}
use Rattle.theorems.specs.Total.{while_fuel, repeat-fuel, for_fuel}
use Rattle.theorems.specs.Passes.{count_none, count_last, count_more}
use Rattle.theorems.specs.Fuel.{tokens-fuel, program-fuel}
use Rattle.theorems.specs.Accepted.{Accepted}
use Rattle.theorems.specs.LetterCase.{same_compiled}
use Rattle.theorems.specs.Lines.{ends_line, same_answer_without}
use Rattle.theorems.specs.Listed.{listed}
use Rattle.theorems.specs.Placeless.{essence, placeless_answer, same_answer}
use Rattle.theorems.specs.Promise.{promised, by_program}
use Rattle.theorems.specs.Records.{reads_back}
use Rattle.theorems.specs.Octets.{AllBelow, bytes_only}
use Rattle.theorems.specs.Compiled.{evaluated-run, no_bad_code, few-ticks, table_kept, deep-enough, few-instructions}

-- Demand 1. Evaluating ends with one answer, and a text is refused with one number and one place

pub one_answer : (lent capacity : ℕ) (text : L.List ℕ) (B : ℕ) (t : Table) → (a : Res Told) × (evaluate lent capacity text B t ≡ a) × ((b : Res Told) → evaluate lent capacity text B t ≡ b → b ≡ a)
one_answer lent capacity text B t = (evaluate lent capacity text B t, refl, λ b e. sym e)

pub one_refusal : (lent capacity : ℕ) (text : L.List ℕ) (n p m q : ℕ) → compile lent capacity text ≡ refused n p → compile lent capacity text ≡ refused m q → (n ≡ m) × (p ≡ q)
one_refusal lent capacity text n p m q e f = (cc, cc)

-- that number is one of the list, and that place is in the text or at its end
pub refusal_is_listed : (lent capacity : ℕ) (text : L.List ℕ) (n p : ℕ) → compile lent capacity text ≡ refused n p → (1 ≤ n) × (n ≤ 17) × (p ≤ length text)
refusal_is_listed = listed

-- no answer comes of too little fuel: with more of it the tokens, the tree and the meaning of each loop are the same

pub tokens_need_no_more : (text : L.List ℕ) (f : ℕ) → suc (length text) ≤ f → tokens_at f 0 text ≡ tokens text
tokens_need_no_more = tokens-fuel

pub tree_needs_no_more : (ts : L.List Token) (f : ℕ) → 4 * length ts ≤ f → program f ts ≡ program (4 * length ts) ts
tree_needs_no_more = program-fuel

pub while_needs_no_more : (Γ : L.List Ty) (c : Expr) (l : List) (f : ℕ) (t : Table) (k : ℕ) → k ≤ f → loop_w c (λ u n. exec_l Γ l u n) f t k ≡ exec Γ (while c l) t k
unfolding exec
while_needs_no_more Γ c l f t k h = while_fuel (λ u n. exec_l Γ l u n) (λ u n. exec_l-le Γ l u n) c f k t k h (omega arith)

pub repeat_needs_no_more : (Γ : L.List Ty) (c : Expr) (l : List) (f : ℕ) (t : Table) (k : ℕ) → k ≤ f → loop_r c (λ u n. exec_l Γ l u n) f t k ≡ exec Γ (repeat l c) t k
unfolding exec
repeat_needs_no_more Γ c l f t k h = repeat-fuel (λ u n. exec_l Γ l u n) (λ u n. exec_l-le Γ l u n) c f k t k h (omega arith)

pub for_needs_no_more : (Γ : L.List Ty) (v : ℕ) (s e : ℤ) (l : List) (f : ℕ) (t : Table) (k : ℕ) → k ≤ f → loop_f Γ v s e (λ u n. exec_l Γ l u n) f t k ≡ loop_f Γ v s e (λ u n. exec_l Γ l u n) k t k
for_needs_no_more Γ v s e l f t k h = for_fuel (λ u n. exec_l Γ l u n) (λ u n. exec_l-le Γ l u n) Γ v s e f k t k h (omega arith)

-- Of any image, whoever wrote it: the instructions carried out are at most (ticks + 1) times the bytes of code
pub any_instructions : (bytes : L.List ℕ) (l : Loaded) → image_in bytes ≡ some l → (B : ℕ) (t : Table) → (run_image bytes B t).instructions ≤ ((run_image bytes B t).ticks + 1) * length l.code
unfolding run_image
any_instructions bytes l e B t = rw e (few-instructions l stack_limit B t)

-- Of an accepted text: i is its image, c the bytes of its code, d its depth, w its worst case

module _ (lent capacity : ℕ) (text i : L.List ℕ) (c d w : ℕ) (yes : compile lent capacity text ≡ accepted i c d w) where
  -- 1. its core program meets all that the laws ask
  pub meets : (p : Program) × (compiled lent capacity text ≡ ok p) × Accepted (types p.vars) p.body
  meets = by_program lent capacity text i c d w yes (λ i c d w. (p : Program) × (compiled lent capacity text ≡ ok p) × Accepted (types p.vars) p.body)
      (λ p e. (p, e, promised lent capacity text p e))

  -- 2. Demand 2: running its image gives the outcome, ticks and table that evaluating the text gives, for every table and budget
  pub runs_as_evaluated : (B : ℕ) (t : Table) → evaluate lent capacity text B t ≡ ok (told_by (run_image i B t))
  unfolding evaluate run_image ◌>>=◌
  runs_as_evaluated = by_program lent capacity text i c d w yes (λ i c d w. (B : ℕ) (t : Table) → evaluate lent capacity text B t ≡ ok (told_by (run_image i B t)))
      (λ p e B t. rw (e, reads_back lent capacity text p e) (ap ok (sym (evaluated-run p (promised lent capacity text p e) B t))))

  -- 3. no run of it ends in 25
  pub never_bad_code : (B : ℕ) (t : Table) → (run_image i B t).outcome ≢ 25
  unfolding run_image
  never_bad_code = by_program lent capacity text i c d w yes (λ i c d w. (B : ℕ) (t : Table) → (run_image i B t).outcome ≢ 25)
      (λ p e B t. rw (reads_back lent capacity text p e) (no_bad_code p (promised lent capacity text p e) B t))

  -- 4. Demand 3: the stack never passes the stated depth; with that limit every run is the same
  pub depth_is_enough : (B : ℕ) (t : Table) → run_loaded d (image_in i) B t ≡ run_image i B t
  unfolding run_image
  depth_is_enough = by_program lent capacity text i c d w yes (λ i c d w. (B : ℕ) (t : Table) → run_loaded d (image_in i) B t ≡ run_image i B t)
      (λ p e B t. rw (reads_back lent capacity text p e) (deep-enough p (promised lent capacity text p e) B t))

  -- 5. Demand 3: where it states a worst case, no table makes a run take more ticks
  pub within_worst_case : w ≢ unbounded_mark → (B : ℕ) (t : Table) → (run_image i B t).ticks ≤ w
  unfolding run_image
  within_worst_case = by_program lent capacity text i c d w yes (λ i c d w. w ≢ unbounded_mark → (B : ℕ) (t : Table) → (run_image i B t).ticks ≤ w)
      (λ p e n B t. rw (reads_back lent capacity text p e) (few-ticks p (promised lent capacity text p e) _ B t refl n))

  -- 6. Demand 3: the instructions carried out are at most (ticks + 1) times the bytes of code
  pub instructions_bounded : (B : ℕ) (t : Table) → (run_image i B t).instructions ≤ ((run_image i B t).ticks + 1) * c
  unfolding run_image
  instructions_bounded = by_program lent capacity text i c d w yes (λ i c d w. (B : ℕ) (t : Table) → (run_image i B t).instructions ≤ ((run_image i B t).ticks + 1) * c)
      (λ p e B t. any_instructions (image p) _ (reads_back lent capacity text p e) B t)

  -- 7. a run keeps a valid table valid
  pub table-stays-valid : (B : ℕ) (t : Table) → valid_for (image_in i) t ≡ true → valid_for (image_in i) (run_image i B t).table ≡ true
  unfolding run_image
  table-stays-valid = by_program lent capacity text i c d w yes (λ i c d w. (B : ℕ) (t : Table) → valid_for (image_in i) t ≡ true → valid_for (image_in i) (run_image i B t).table ≡ true)
      (λ p e B t. rw (reads_back lent capacity text p e) (table_kept p (promised lent capacity text p e) B t))

  -- and the image is bytes
  pub image_is_bytes : AllBelow 256 i
  image_is_bytes = bytes_only lent capacity text i c d w yes

-- 5, of a FOR between integers: the number of passes in its worst case is exact. From x to y by d it is none if x passes y, one if the next value
-- does, else one more than from the next value

pub passes_none : (x y d : ℤ) → passes d x y ≡ true → pass_count x y d ≡ 0
passes_none x y d e = count_none d y x e

pub passes_one : (x y d : ℤ) → passes d x y ≡ false → passes d (x +ℤ d) y ≡ true → pass_count x y d ≡ 1
passes_one x y d e f = count_last d y x e f

pub passes_one_more : (x y d : ℤ) → d ≢ pos 0 → passes d (x +ℤ d) y ≡ false → pass_count x y d ≡ suc (pass_count (x +ℤ d) y d)
passes_one_more x y d n e = count_more d y x n e

-- MOD, whose definition is the library's: the dividend less the truncated exact quotient times the divisor, within the range
pub remainder_is : (a b : ℤ) → is_zero b ≡ false → binop Mod a b ≡ fit dint (a -ℤ quot_z a b *ℤ b)
remainder_is = remainder

-- 8. Blanks, comments, letter case and the program's name: two texts whose tokens are the same up to places and the program's name have
-- the same answer but for the place of a refusal, so the same image byte for byte (both within the text limit, or both over it)
pub same_tokens_same_answer : (lent capacity : ℕ) (s s' : L.List ℕ) (ts ts' : L.List Token) → tokens s ≡ ok ts → tokens s' ≡ ok ts' → essence ts ≡ essence ts'
    → leb (length s) text_limit ≡ leb (length s') text_limit → placeless_answer (compile lent capacity s) ≡ placeless_answer (compile lent capacity s')
same_tokens_same_answer = same_answer

-- letter case, from the bytes: two texts that are the same in capitals have the same answer, places and all
pub letter_case_means_nothing : (lent capacity : ℕ) (s s' : L.List ℕ) → fold s ≡ fold s' → compile lent capacity s ≡ compile lent capacity s'
letter_case_means_nothing = same_compiled

-- blanks and comments, from the bytes: lines of nothing else (g), put in behind whole lines (a), change nothing but the place of a refusal
pub comment_lines_mean_nothing : (lent capacity : ℕ) (a g b : L.List ℕ) (ts : L.List Token) (e : Token) → tokens a ≡ ok ts → ends_line a ≡ true → tokens g ≡ ok (e ∷ []) → ends_line g ≡ true
    → leb (length (a ++ (g ++ b))) text_limit ≡ leb (length (a ++ b)) text_limit
    → placeless_answer (compile lent capacity (a ++ (g ++ b))) ≡ placeless_answer (compile lent capacity (a ++ b))
comment_lines_mean_nothing = same_answer_without
