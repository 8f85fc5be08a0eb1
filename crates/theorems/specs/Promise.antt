-- What the walk guarantees of its program; and what the compiler accepts is what the theorems assume, from the text's bytes.
use mathlib.Core.List as L
use Rattle.std.specs.Prelude.{◌≡◌, refl, false, [], ◌∷◌, ℕ, suc, ◌≤◌, leb, length}
use Rattle.std.proofs.Common.{ap, subst, arith}
use Rattle.rules.specs.Limits.{memory_numbers, text_limit, code_limit, nesting_limit, for_limit, stack_limit}
use Rattle.rules.specs.Base.{Res, ok, refuse, need}
use Rattle.rules.specs.Core.{List, Program, Variable, types}
use Rattle.rules.specs.Tokens.{tokens}
use Rattle.rules.specs.Syntax.{Stms, Tree, parse}
use Rattle.rules.specs.Walk.{Var, nameless, declare_all, list, walk}
use Rattle.rules.specs.Translation.{code_of}
use Rattle.rules.specs.Depth.{depth_l}
use Rattle.rules.specs.Worst.{figure, worst_l}
use Rattle.rules.specs.Image.{image}
use Rattle.rules.specs.Compile.{accepted, refused, front, answer, compile, compiled, Answer}
use Rattle.theorems.specs.Tests.{leb-t}
use Rattle.theorems.specs.WorstCase.{WfL}
use Rattle.theorems.specs.Typing.{TyL}
use Rattle.theorems.specs.Levels.{fors_l, nest_l}
use Rattle.theorems.specs.Fields.{FitL}
use Rattle.theorems.specs.Sizes.{code-length}
use Rattle.theorems.specs.Accepted.{Accepted}
use Rattle.theorems.specs.WellTyped.{inv, ok_inj, needed}
use Rattle.theorems.specs.WalkAccepts.{ok_l}
use Rattle.theorems.specs.WalkNesting.{nested, fors-nested}
use Rattle.theorems.specs.Declarations.{Declared, declare_all_lem}

pub types-length : (vs : L.List Variable) → length (types vs) ≡ length vs
unfolding types
types-length [] = refl
types-length (v ∷ vs) = ap suc (types-length vs)

-- every number and slot fits its field, the stack suffices, types are right, rules 11 and 15; at most 64 variables, each with a value that its type holds
pub record Walked (p : Program) : Type 0 where
  pub fits : FitL p.body
  pub deep : depth_l p.body ≤ stack_limit
  pub typed : TyL (types p.vars) p.body
  pub wf : WfL p.body
  pub declared : Declared p.vars

walked : (vs : L.List Var) (l : Stms) (c : List) → Declared (nameless vs) → list vs l [] false ≡ ok c → Walked (record { vars = nameless vs; body = c })
walked vs l c d h =
    let few = d.few in
    let k = types-length (nameless vs) in
    let f = ok_l vs (omega arith) l [] false c h in
    record { fits = f.fit; deep = f.deep; typed = f.ty; wf = f.wf; declared = d }

pub walk_fits : (t : Tree) (p : Program) → walk t ≡ ok p → Walked p
unfolding walk nameless
walk_fits t p e =
    let a = inv (declare_all [] t.decls) _ e in
    let b = inv (list a.0 t.body [] false) _ a.2 in
    subst Walked (ok_inj b.2) (walked a.0 t.body b.0 (declare_all_lem t.decls [] a.0 (record { few = omega arith; held = tt }) a.1) b.1)

-- what passes tokens, syntax and the walk keeps the limits of nesting too
pub record Fronted (p : Program) : Type 0 where
  pub walked : Walked p
  pub nests : nest_l p.body ≤ nesting_limit
  pub fors : fors_l p.body ≤ for_limit

pub front_fits : (text : L.List ℕ) (p : Program) → front text ≡ ok p → Fronted p
unfolding front
front_fits text p e =
    let a = inv (tokens text) _ e in
    let b = inv (parse a.0) _ a.2 in
    record { walked = walk_fits b.0 p b.2; nests = nested a.0 b.0 p b.1 b.2; fors = fors-nested a.0 b.0 p b.1 b.2 }

-- if its code is short enough, it meets what the theorems ask
front_in : (text : L.List ℕ) (p : Program) → front text ≡ ok p → length (code_of p.body) ≤ 8192 → Accepted (types p.vars) p.body
unfolding code_of
front_in text p h s =
    let f = front_fits text p h in
    let w = f.walked in
    let c = code-length p.body in
    record { fits = w.fits; short = omega arith; fors = f.fors; deep = w.deep; typed = w.typed; wf = w.wf }

-- what is compiled comes from the text's own faults being none, and from code that is short enough
pub record Parts (text : L.List ℕ) (p : Program) : Type 0 where
  pub fronted : front text ≡ ok p
  pub short : length (code_of p.body) ≤ code_limit

pub parts : (lent capacity : ℕ) (text : L.List ℕ) (p : Program) → compiled lent capacity text ≡ ok p → Parts text p
unfolding compiled
parts lent capacity text p e =
    let a = inv (need (leb memory_numbers lent) 17 0) _ e in
    let b = inv (need (leb (length text) text_limit) 1 text_limit) _ a.2 in
    let c = inv (front text) _ b.2 in
    let d = inv (need (leb (length (code_of c.0.body)) code_limit) 13 (length text)) _ c.2 in
    let f = inv (need (leb (length (image c.0)) capacity) 14 (length text)) _ d.2 in
    subst (Parts text) (ok_inj f.2) (record { fronted = c.1; short = leb-t (length (code_of c.0.body)) code_limit (needed _ _ _ _ d.1) })

-- so it has all that the theorems ask of it
pub promised : (lent capacity : ℕ) (text : L.List ℕ) (p : Program) → compiled lent capacity text ≡ ok p → Accepted (types p.vars) p.body
promised lent capacity text p e = let c = parts lent capacity text p e in front_in text p c.fronted c.short

-- an answer that accepts comes from a program: what holds of that program's image and figures holds of the answer's
pub by_program : (lent capacity : ℕ) (text i : L.List ℕ) (c d w : ℕ) → compile lent capacity text ≡ accepted i c d w
    → (P : L.List ℕ → ℕ → ℕ → ℕ → Type 0)
    → ((p : Program) → compiled lent capacity text ≡ ok p → P (image p) (length (code_of p.body)) (depth_l p.body) (figure (worst_l p.body)))
    → P i c d w
unfolding compile answer
by_program lent capacity text i c d w e P f = by (compiled lent capacity text) refl e
  where
    Of : Answer → Type 0
    Of (accepted i c d w) = P i c d w
    Of (refused n p) = Unit {0}

    by : (r : Res Program) → compiled lent capacity text ≡ r → answer r ≡ accepted i c d w → P i c d w
    by (ok p) h q = subst Of q (f p h)
    by (refuse n p) h q = let z : ◌≡◌ {A = ℕ} 0 1 = cc in absurd (omega arith)
