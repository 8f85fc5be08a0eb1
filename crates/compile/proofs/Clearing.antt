-- What compiling leaves in working memory. Assumes nothing.
use mathlib.Core.Path.{◌≡◌, refl, sym, ap, ◌∙◌}
use mathlib.Core.Bool.{Bool, true, false}
use mathlib.Core.List.{List}
use Prim.Native.Nat.{ℕ}
use lib.Dec.{eqb, leb}
use lib.ListN.{length, replicate, length-replicate}
use lib.Seq.{sets, length-sets}
use native.Mathlib.Omega.{arith}
use denote.Enum.Bare.{sameb}
use Rattle.rules.specs.Limits.{code_limit, token_numbers}
use Rattle.rules.specs.Base.{pick, Res, ok, refuse, ◌>>=◌, need}
use Rattle.rules.specs.Core.{Program}
use Rattle.rules.specs.Translation.{code_of}
use Rattle.rules.specs.Image.{image}
use Rattle.rules.specs.Compile.{Answer, accepted, refused, answer, compile, memory_after}
use Rattle.rules.specs.Cells.{refused_lent}
use Rattle.rules.specs.CoreCells.{program_cells, program_for, program_left, walked}
use Rattle.std.specs.Prelude.{Result, Ok, Err}
use Rattle.rules.specs.Answers.{fault_number, answer_of, compiled_as}
use Rattle.rules.specs.declared.compiling.Fault.{Fault}
use Rattle.rules.specs.declared.compiling.Fault.TheVariants.{LongText, NoToken, BadName, BadInteger, Unexpected, Redeclared, Unknown, WrongType, ManyVariables, TooDeep, LoopVariable, ExitOutside, LongCode, ShortBuffer, StepZero, LabelOrder, ShortMemory}
use Rattle.rules.specs.declared.compiling.Refusal.{Refusal}
use Rattle.rules.specs.declared.compiling.Compiled.{Compiled}
use Rattle.rules.specs.contracts.compiling.Fault.{the_type}
use Rattle.compile.specs.Bare.{bare}
use Rattle.emit.specs.Records.{finished}
use Rattle.emit.proofs.Emitted.{compiled-finished}

-- Clearing, by the answer

-- the fault of too short a memory is the one of number 17
is_17 : (f : Fault) → sameb the_type f ShortMemory ≡ eqb (fault_number f) 17
is_17 LongText = refl
is_17 NoToken = refl
is_17 BadName = refl
is_17 BadInteger = refl
is_17 Unexpected = refl
is_17 Redeclared = refl
is_17 Unknown = refl
is_17 WrongType = refl
is_17 ManyVariables = refl
is_17 TooDeep = refl
is_17 LoopVariable = refl
is_17 ExitOutside = refl
is_17 LongCode = refl
is_17 ShortBuffer = refl
is_17 StepZero = refl
is_17 LabelOrder = refl
is_17 ShortMemory = refl

-- 17 leaves memory as it is
pub kept : (a : Result Compiled Refusal) (r : Refusal) (m : List ℕ) → a ≡ Err r → sameb the_type r.fault ShortMemory ≡ true → m ≡ memory_after (bare a) m
unfolding memory_after
kept a r m known same = rw (known, ← is_17 r.fault, same) refl

-- any other number leaves it all zero
pub cleared : (a : Result Compiled Refusal) (r : Refusal) (m m' : List ℕ) → a ≡ Err r → sameb the_type r.fault ShortMemory ≡ false → m' ≡ replicate (length m) 0 → m' ≡ memory_after (bare a) m
unfolding memory_after
cleared a r m m' known other did = rw (known, ← is_17 r.fault, other) did

-- so does an image
pub cleared-accepted : (a : Result Compiled Refusal) (c : Compiled) (m m' : List ℕ) → a ≡ Ok c → m' ≡ replicate (length m) 0 → m' ≡ memory_after (bare a) m
unfolding memory_after
cleared-accepted a c m m' known did = rw known did

-- Clearing what the walk leaves

-- the image's bytes make no difference to memory
any_bytes : (A : Answer) (a : Result Compiled Refusal) (m : List ℕ) → answer_of a ≡ compiled_as A → memory_after (bare a) m ≡ memory_after A m
unfolding memory_after
any_bytes (accepted i c d w) (Ok a) m means = refl
any_bytes (accepted i c d w) (Err r) m means = let z : ◌≡◌ {A = ℕ} 0 1 = cc in absurd (omega arith)
any_bytes (refused n p) (Ok a) m means = let z : ◌≡◌ {A = ℕ} 0 1 = cc in absurd (omega arith)
any_bytes (refused n p) (Err r) m means = let e : fault_number r.fault ≡ n = cc in rw e refl

-- zeros for each of so many zeros are the same zeros
zeros-again : (n : ℕ) → replicate (length (replicate {A = ℕ} n 0)) 0 ≡ replicate {A = ℕ} n 0
zeros-again n = ap (λ k. replicate {A = ℕ} k 0) (length-replicate {A = ℕ} n 0)

-- what a refusal leaves, it leaves again
refused-again : (n p : ℕ) (m : List ℕ) → memory_after (refused n p) (memory_after (refused n p) m) ≡ memory_after (refused n p) m
unfolding memory_after
refused-again n p m = by (eqb n 17)
  where
    by : (b : Bool)
        → pick b (λ _. pick b (λ _. m) (λ _. replicate (length m) 0)) (λ _. replicate (length (pick b (λ _. m) (λ _. replicate (length m) 0))) 0)
        ≡ pick b (λ _. m) (λ _. replicate (length m) 0)
    by true = refl
    by false = zeros-again (length m)

-- a program held to its limits, accepted or not, leaves memory all zero
zeroed : (capacity : ℕ) (text : List ℕ) (p : Program) (m : List ℕ) → memory_after (answer (finished capacity (length text) p)) m ≡ replicate (length m) 0
unfolding finished answer memory_after ◌>>=◌ need
zeroed capacity text p m = by (leb (length (code_of p.body)) code_limit) (leb (length (image p)) capacity)
  where
    by : (a b : Bool)
        → memory_after (answer (◌>>=◌ (need a 13 (length text)) (λ _. ◌>>=◌ (need b 14 (length text)) (λ _. ok p)))) m
        ≡ replicate (length m) 0
    by true true = refl
    by true false = refl
    by false b = refl

-- clearing what the walk leaves is clearing what was lent
cleared_left : (capacity : ℕ) (text lent : List ℕ) (R : Res Program)
    → memory_after (answer (◌>>=◌ R (finished capacity (length text)))) (program_left R lent).memory ≡ memory_after (answer (◌>>=◌ R (finished capacity (length text)))) lent
unfolding program_left refused_lent answer ◌>>=◌
cleared_left capacity text lent (ok p) =
    let n = length-sets (replicate (length lent) 0) token_numbers (program_cells p) ∙ length-replicate {A = ℕ} (length lent) 0 in
    zeroed capacity text p (sets (replicate (length lent) 0) token_numbers (program_cells p)) ∙ ap (λ k. replicate {A = ℕ} k 0) n ∙ sym (zeroed capacity text p lent)
cleared_left capacity text lent (refuse n p) = refused-again n p lent

cleared-walked : (text lent : List ℕ) (capacity : ℕ)
    → memory_after (compile (length lent) capacity text) (walked text lent).memory ≡ memory_after (compile (length lent) capacity text) lent
unfolding compile walked
cleared-walked text lent capacity = rw (compiled-finished (length lent) capacity text) (cleared_left capacity text lent (program_for (length lent) text))

-- memory ends as compiling leaves it
pub clears : (text lent m m' : List ℕ) (capacity : ℕ) (a : Result Compiled Refusal) → answer_of a ≡ compiled_as (compile (length lent) capacity text) → m ≡ (walked text lent).memory → m' ≡ memory_after (bare a) m
    → m' ≡ memory_after (compile (length lent) capacity text) lent
clears text lent m m' capacity a means leaves did =
    did ∙ rw leaves (any_bytes (compile (length lent) capacity text) a (walked text lent).memory means ∙ cleared-walked text lent capacity)
