-- The walk keeps the nesting of statements.
use mathlib.Core.List as L
use Rattle.std.specs.Prelude.{◌≡◌, refl, Bool, true, false, [], ◌∷◌, ℕ, suc, ◌≤◌, max}
use Rattle.std.proofs.Common.{ap, subst, arith}
use Rattle.rules.specs.Limits.{nesting_limit, for_limit}
use Rattle.rules.specs.Numbers.{dint, same_ty}
use Rattle.rules.specs.Core.{Stmt, List, Brs, Grps, Program}
use Rattle.rules.specs.Base.{ok, need}
use Rattle.rules.specs.Tokens.{Token}
use Rattle.rules.specs.Syntax.{Stm, assign_s, if_s, case_s, for_s, while_s, repeat_s, exit_s, Stms, empty, then, Branches, no_else, else_b, branch, Groups, no_other, else_g, group, Tree, parse}
use Rattle.rules.specs.Walk.{labels, step, placed, condition, selector, final, assigned, statement, list, branches, groups, Var, declare_all, walk}
use Rattle.theorems.specs.Levels.{levels_s as coreS, levels_l as coreL, levels_b as coreB, levels_g as coreG, only_fors, fors_l, nest_l}
use Rattle.theorems.specs.WellTyped.{inv, ok_inj}
use Rattle.theorems.specs.Nesting.{levels, levels_l, levels_b, levels_g, parse_low}

two : {a b c d : ℕ} → a ≡ b → c ≡ d → max a c ≡ max b d
two p q = rw (p, q)

-- up: how levels are counted
module _ (up : ℕ → ℕ) (vs : L.List Var) where
  mutual
    unfolding statement condition selector final levels coreS

    keep_s : (s : Stm) (taken : L.List ℕ) (n : Bool) (c : Stmt) → statement vs s taken n ≡ ok c → coreS up c ≡ levels up s
    keep_s (assign_s v e) taken n c h =
        let a = inv (assigned vs taken v) _ h in
        let b = inv (placed vs a.0.type v.place 0 e) _ a.2 in
        subst (λ y. coreS up y ≡ 0) (ok_inj b.2) refl
    keep_s (if_s b) taken n c h =
        let a = inv (branches vs b taken n) _ h in
        subst (λ y. coreS up y ≡ up (levels_b up b)) (ok_inj a.2) (ap up (keep_b b taken n a.0 a.1))
    keep_s (case_s e g) taken n c h =
        let a = inv (selector vs e) _ h in
        let b = inv (groups vs g taken n) _ a.2 in
        subst (λ y. coreS up y ≡ up (levels_g up g)) (ok_inj b.2) (ap up (keep_g g taken n b.0 b.1))
    keep_s (for_s v x y d l) taken n c h =
        let a = inv (assigned vs taken v) _ h in
        let b = inv (need (same_ty a.0.type dint) 8 v.place) _ a.2 in
        let p = inv (selector vs x) _ b.2 in
        let q = inv (final vs y) _ p.2 in
        let r = inv (step d) _ q.2 in
        let m = inv (list vs l (a.0.slot ∷ taken) true) _ r.2 in
        subst (λ y. coreS up y ≡ suc (levels_l up l)) (ok_inj m.2) (ap suc (keep_l l (a.0.slot ∷ taken) true m.0 m.1))
    keep_s (while_s e l) taken n c h =
        let a = inv (condition vs e) _ h in
        let b = inv (list vs l taken true) _ a.2 in
        subst (λ y. coreS up y ≡ up (levels_l up l)) (ok_inj b.2) (ap up (keep_l l taken true b.0 b.1))
    keep_s (repeat_s l e) taken n c h =
        let a = inv (list vs l taken true) _ h in
        let b = inv (condition vs e) _ a.2 in
        subst (λ y. coreS up y ≡ up (levels_l up l)) (ok_inj b.2) (ap up (keep_l l taken true a.0 a.1))
    keep_s (exit_s p) taken n c h =
        let a = inv (need n 12 p) _ h in
        subst (λ y. coreS up y ≡ 0) (ok_inj a.2) refl

    keep_l : (l : Stms) (taken : L.List ℕ) (n : Bool) (c : List) → list vs l taken n ≡ ok c → coreL up c ≡ levels_l up l
    keep_l empty taken n c h = subst (λ y. coreL up y ≡ 0) (ok_inj h) refl
    keep_l (then s l) taken n c h =
        let a = inv (statement vs s taken n) _ h in
        let b = inv (list vs l taken n) _ a.2 in
        subst (λ y. coreL up y ≡ max (levels up s) (levels_l up l)) (ok_inj b.2) (two (keep_s s taken n a.0 a.1) (keep_l l taken n b.0 b.1))

    keep_b : (b : Branches) (taken : L.List ℕ) (n : Bool) (c : Brs) → branches vs b taken n ≡ ok c → coreB up c ≡ levels_b up b
    keep_b no_else taken n c h = subst (λ y. coreB up y ≡ 0) (ok_inj h) refl
    keep_b (else_b l) taken n c h =
        let a = inv (list vs l taken n) _ h in
        subst (λ y. coreB up y ≡ levels_l up l) (ok_inj a.2) (keep_l l taken n a.0 a.1)
    keep_b (branch e l d) taken n c h =
        let a = inv (condition vs e) _ h in
        let b = inv (list vs l taken n) _ a.2 in
        let g = inv (branches vs d taken n) _ b.2 in
        subst (λ y. coreB up y ≡ max (levels_l up l) (levels_b up d)) (ok_inj g.2) (two (keep_l l taken n b.0 b.1) (keep_b d taken n g.0 g.1))

    keep_g : (g : Groups) (taken : L.List ℕ) (n : Bool) (c : Grps) → groups vs g taken n ≡ ok c → coreG up c ≡ levels_g up g
    keep_g no_other taken n c h = subst (λ y. coreG up y ≡ 0) (ok_inj h) refl
    keep_g (else_g l) taken n c h =
        let a = inv (list vs l taken n) _ h in
        subst (λ y. coreG up y ≡ levels_l up l) (ok_inj a.2) (keep_l l taken n a.0 a.1)
    keep_g (group ls l d) taken n c h =
        let a = inv (labels ls) _ h in
        let b = inv (list vs l taken n) _ a.2 in
        let g = inv (groups vs d taken n) _ b.2 in
        subst (λ y. coreG up y ≡ max (levels_l up l) (levels_g up d)) (ok_inj g.2) (two (keep_l l taken n b.0 b.1) (keep_g d taken n g.0 g.1))

-- the program's list is nested as deep as the tree's
pub keep : (up : ℕ → ℕ) (t : Tree) (p : Program) → walk t ≡ ok p → coreL up p.body ≡ levels_l up t.body
unfolding walk
keep up t p e =
    let a = inv (declare_all [] t.decls) _ e in
    let b = inv (list a.0 t.body [] false) _ a.2 in
    subst (λ y. coreL up y.body ≡ levels_l up t.body) (ok_inj b.2) (keep_l up a.0 t.body [] false b.0 b.1)

-- in an accepted text IF, CASE and loops are nested at most 16 deep
pub nested : (ts : L.List Token) (t : Tree) (p : Program) → parse ts ≡ ok t → walk t ≡ ok p → nest_l p.body ≤ nesting_limit
nested ts t p d e = let h = parse_low ts t d in let k = keep suc t p e in omega arith

-- and FORs at most 8 deep
pub fors-nested : (ts : L.List Token) (t : Tree) (p : Program) → parse ts ≡ ok t → walk t ≡ ok p → fors_l p.body ≤ for_limit
fors-nested ts t p d e = let h = parse_low ts t d in let k = keep only_fors t p e in omega arith
