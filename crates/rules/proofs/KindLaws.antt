-- Kinds and their numbers: what a test of one says of the other. Assumes nothing.
use Rattle.std.proofs.Common.{◌≡◌, refl, sym, ap, ◌∙◌, List, [], ◌∷◌, ℕ, ◌≤◌, false, eqb, get_or, arith, Result, Ok, Err}
use Rattle.std.proofs.lemmas.Bool.{ne_eqb}
use Rattle.rules.specs.Cells.{WHOLE}
use Rattle.rules.specs.KindNumbers.{kind_number, Decodes}
use Rattle.rules.specs.declared.kinds.Kind.{Kind}
use Rattle.rules.specs.declared.kinds.Kind.TheVariants.{Finish, Name, Int, And, Bool as Boolean, By, Case, Dint, Do, Else, Elsif, EndCase, EndFor, EndIf, EndProgram, EndRepeat, EndVar, EndWhile, Exit, False, For, If, Mod, Not, Of, Or, Program, Repeat, Then, To, True, Until, Var, While, Xor, Assign, Dots, LessEq, MoreEq, UnEq, Colon, Semi, Comma, Open, Close, Plus, Minus, Star, Slash, Less, More, Equal, Amp, Unary, Binary, Whole}
use Rattle.rules.specs.declared.kinds.UnknownKind.{UnknownKind}

-- all kinds, by their numbers
abbrev pub kinds : List Kind
kinds =
    Finish ∷ Name ∷ Int ∷ And ∷ Boolean ∷ By ∷ Case ∷ Dint ∷ Do ∷ Else ∷ Elsif ∷ EndCase ∷ EndFor ∷ EndIf ∷ EndProgram ∷ EndRepeat ∷ EndVar ∷ EndWhile ∷ Exit ∷ False ∷ For ∷ If ∷ Mod ∷ Not ∷ Of ∷ Or ∷ Program ∷ Repeat ∷ Then ∷ To ∷ True ∷ Until ∷ Var ∷ While ∷ Xor ∷ Assign ∷ Dots ∷ LessEq ∷ MoreEq ∷ UnEq ∷ Colon ∷ Semi ∷ Comma ∷ Open ∷ Close ∷ Plus ∷ Minus ∷ Star ∷ Slash ∷ Less ∷ More ∷ Equal ∷ Amp ∷ Unary ∷ Binary ∷ Whole ∷ []

of_number : (k : Kind) → get_or kinds (kind_number k) Finish ≡ k
of_number Finish = refl
of_number Name = refl
of_number Int = refl
of_number And = refl
of_number Boolean = refl
of_number By = refl
of_number Case = refl
of_number Dint = refl
of_number Do = refl
of_number Else = refl
of_number Elsif = refl
of_number EndCase = refl
of_number EndFor = refl
of_number EndIf = refl
of_number EndProgram = refl
of_number EndRepeat = refl
of_number EndVar = refl
of_number EndWhile = refl
of_number Exit = refl
of_number False = refl
of_number For = refl
of_number If = refl
of_number Mod = refl
of_number Not = refl
of_number Of = refl
of_number Or = refl
of_number Program = refl
of_number Repeat = refl
of_number Then = refl
of_number To = refl
of_number True = refl
of_number Until = refl
of_number Var = refl
of_number While = refl
of_number Xor = refl
of_number Assign = refl
of_number Dots = refl
of_number LessEq = refl
of_number MoreEq = refl
of_number UnEq = refl
of_number Colon = refl
of_number Semi = refl
of_number Comma = refl
of_number Open = refl
of_number Close = refl
of_number Plus = refl
of_number Minus = refl
of_number Star = refl
of_number Slash = refl
of_number Less = refl
of_number More = refl
of_number Equal = refl
of_number Amp = refl
of_number Unary = refl
of_number Binary = refl
of_number Whole = refl

pub small : (k : Kind) → kind_number k ≤ WHOLE
small Finish = omega arith
small Name = omega arith
small Int = omega arith
small And = omega arith
small Boolean = omega arith
small By = omega arith
small Case = omega arith
small Dint = omega arith
small Do = omega arith
small Else = omega arith
small Elsif = omega arith
small EndCase = omega arith
small EndFor = omega arith
small EndIf = omega arith
small EndProgram = omega arith
small EndRepeat = omega arith
small EndVar = omega arith
small EndWhile = omega arith
small Exit = omega arith
small False = omega arith
small For = omega arith
small If = omega arith
small Mod = omega arith
small Not = omega arith
small Of = omega arith
small Or = omega arith
small Program = omega arith
small Repeat = omega arith
small Then = omega arith
small To = omega arith
small True = omega arith
small Until = omega arith
small Var = omega arith
small While = omega arith
small Xor = omega arith
small Assign = omega arith
small Dots = omega arith
small LessEq = omega arith
small MoreEq = omega arith
small UnEq = omega arith
small Colon = omega arith
small Semi = omega arith
small Comma = omega arith
small Open = omega arith
small Close = omega arith
small Plus = omega arith
small Minus = omega arith
small Star = omega arith
small Slash = omega arith
small Less = omega arith
small More = omega arith
small Equal = omega arith
small Amp = omega arith
small Unary = omega arith
small Binary = omega arith
small Whole = omega arith

-- kinds of one number are one
pub one_kind : (a b : Kind) → kind_number a ≡ kind_number b → a ≡ b
one_kind a b e = sym (of_number a) ∙ ap (λ n. get_or kinds n Finish) e ∙ of_number b

-- two kinds have two numbers
pub two_kinds : (a b : Kind) → (a ≡ b → ⊥) → eqb (kind_number a) (kind_number b) ≡ false
two_kinds a b h = ne_eqb _ _ (λ e. h (one_kind a b e))

-- a number that does not decode to a kind is not that kind's
pub other_number : (n : ℕ) (r : Result Kind UnknownKind) (k : Kind) → Decodes n r → (r ≡ Ok k → ⊥) → eqb n (kind_number k) ≡ false
other_number n (Ok j) k d h = ne_eqb _ _ (λ e. h (ap Ok (one_kind j k (d ∙ e))))
other_number n (Err u) k d h = ne_eqb _ _ (λ e. omega (arith, small k, d.0, d.1, e))
