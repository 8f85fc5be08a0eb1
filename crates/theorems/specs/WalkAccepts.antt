-- What the walk accepts is what the theorems assume: types, fields, depth, rules 11 and 15.
use mathlib.Core.List as L
use Rattle.std.specs.Prelude.{◌≡◌, refl, ◌≢◌, Bool, true, false, not, ◌&&◌, [], ◌∷◌, ℕ, zero, suc, ◌+◌, ◌<◌, ◌≤◌, ℤ, pos, eqb, leb, length, get_or}
use Rattle.std.proofs.Common.{◌∙◌}
use Rattle.std.proofs.Math.Path.{subst}
use Rattle.std.proofs.Math.Option.{Option, none, some}
use native.Mathlib.Omega.{arith}
use Rattle.rules.specs.Numbers.{Ty, bool, dint, of_bool, is_zero, same_ty}
use Rattle.rules.specs.Core.{Expr, Labels, Stmt, List, Brs, Grps, assign, if, case, for, while, repeat, exit, nil, cons, none as noB, els, elsif, other, grp}
use Rattle.rules.specs.Depth.{height, depth_s, depth_l, depth_b, depth_g}
use Rattle.rules.specs.Base.{ok, need, member}
use Rattle.rules.specs.Syntax.{Name, Sign, minus, plus, inverse, Exp, named, whole, truth, paren, unary, binary, Con, con_bool, con_int, Label, label, Stm, assign_s, if_s, case_s, for_s, while_s, repeat_s, exit_s, Stms, empty, then, Branches, no_else, else_b, branch, Groups, no_other, else_g, group}
use Rattle.rules.specs.Walk.{Slot, known, Typed, typed, takes, sign_ty, sign_core, expression, largest, exact, con_type, con_value, con_first, high_of, span, labels, step, placed, condition, selector, final, first, assigned, statement, list, branches, groups, Var, nameless}
use Rattle.rules.specs.Core.{types}
use Rattle.theorems.specs.Keeping.{StoresS, StoresL, StoresB, StoresG}
use Rattle.theorems.specs.WorstCase.{WfS, WfL, WfB, WfG}
use Rattle.theorems.specs.Fields.{Z32, FitE, FitLb, FitS, FitL, FitB, FitG}
use Rattle.theorems.specs.Typing.{HasTy, TyS, TyL, TyB, TyG}
use Rattle.theorems.specs.WellTyped.{inv, ok_inj, needed, same-ty, known_in, well}
use Rattle.theorems.specs.Tests.{leb-t, not-true, eq-eqb}

-- Constants

z32 : (below : Bool) (v : ℕ) → v ≤ largest below → (p q : ℕ) → Z32 (con_value (con_int p below q v))
unfolding largest con_value
z32 true zero h p q = omega arith
z32 true (suc v) h p q = omega arith
z32 false v h p q = omega arith

exact_fits : (c : Con) (u : Unit {0}) → exact c ≡ ok u → Z32 (con_value c)
unfolding exact con_value of_bool
exact_fits (con_bool p true) u e = omega arith
exact_fits (con_bool p false) u e = omega arith
exact_fits (con_int p below q v) u e = z32 below v (leb-t v (largest below) (needed _ _ _ _ e)) p q

labels-fit : (ls : L.List Label) (k : Labels) → labels ls ≡ ok k → FitLb k
unfolding labels span
labels-fit [] k e = subst (λ y. FitLb y) (ok_inj e) tt
labels-fit (label c d ∷ ls) k e =
    let a = inv (span c (high_of c d)) _ e in
    let b = inv (labels ls) _ a.2 in
    let f = inv (exact c) _ a.1 in
    let g = inv (exact (high_of c d)) _ f.2 in
    subst (λ y. FitLb y) (ok_inj b.2) (exact_fits c f.0 f.1, exact_fits (high_of c d) g.0 g.1, labels-fit ls b.0 b.1)

step_fits : (c : Option Con) (z : ℤ) → step c ≡ ok z → (is_zero z ≡ false) × Z32 z
unfolding step is_zero
step_fits none z e = subst (λ y. (is_zero y ≡ false) × Z32 y) (ok_inj e) (refl, omega arith)
step_fits (some c) z e =
    let a = inv (exact c) _ e in
    let b = inv (need (same_ty (con_type c) dint) 8 (con_first c)) _ a.2 in
    let d = inv (need (not (is_zero (con_value c))) 15 (con_first c)) _ b.2 in
    subst (λ y. (is_zero y ≡ false) × Z32 y) (ok_inj d.2) (not-true _ (needed _ _ _ _ d.1), exact_fits c a.0 a.1)

zero_no : (z : ℤ) → is_zero z ≡ false → z ≢ pos 0
unfolding is_zero
zero_no z h e = let q : ◌≡◌ {A = ℕ} 0 1 = zo z h e in omega arith
  where
    zo : (z : ℤ) → is_zero z ≡ false → z ≡ pos 0 → ◌≡◌ {A = ℕ} 0 1
    zo z h e = let w : is_zero (pos 0) ≡ false = rw e at h in cc

sign_fits : (p : ℕ) (s : Sign) (c : Expr) → FitE c → FitE (sign_core p s c)
unfolding sign_core
sign_fits p minus c h = h
sign_fits p plus c h = h
sign_fits p inverse c h = h

-- Stores, for a weaker test
mutual
  more_s : (P Q : ℕ → Type 0) → ((i : ℕ) → P i → Q i) → (s : Stmt) → StoresS P s → StoresS Q s
  more_s P Q f (assign i e) h = f i h
  more_s P Q f (if b) h = more_b P Q f b h
  more_s P Q f (case e g) h = more_g P Q f g h
  more_s P Q f (for v a e s l) h = (f v h.0, more_l P Q f l h.1)
  more_s P Q f (while c l) h = more_l P Q f l h
  more_s P Q f (repeat l c) h = more_l P Q f l h
  more_s P Q f exit h = tt

  more_l : (P Q : ℕ → Type 0) → ((i : ℕ) → P i → Q i) → (l : List) → StoresL P l → StoresL Q l
  more_l P Q f nil h = tt
  more_l P Q f (cons s l) h = (more_s P Q f s h.0, more_l P Q f l h.1)

  more_b : (P Q : ℕ → Type 0) → ((i : ℕ) → P i → Q i) → (b : Brs) → StoresB P b → StoresB Q b
  more_b P Q f noB h = tt
  more_b P Q f (els l) h = more_l P Q f l h
  more_b P Q f (elsif c l b) h = (more_l P Q f l h.0, more_b P Q f b h.1)

  more_g : (P Q : ℕ → Type 0) → ((i : ℕ) → P i → Q i) → (g : Grps) → StoresG P g → StoresG Q g
  more_g P Q f (other l) h = more_l P Q f l h
  more_g P Q f (grp ls l g) h = (more_l P Q f l h.0, more_g P Q f g h.1)

abbrev pub Free : L.List ℕ → ℕ → Type 0
Free taken i = member i taken ≡ false

free_tail : (s : ℕ) (taken : L.List ℕ) (i : ℕ) → Free (s ∷ taken) i → Free taken i
unfolding member
free_tail s taken i h = by (eqb i s) refl
  where
    by : (d : Bool) → eqb i s ≡ d → member i taken ≡ false
    by true w = let q : true ≡ false = simp w at h in let z : ◌≡◌ {A = ℕ} 0 1 = cc in absurd (omega arith)
    by false w = simp w at h

free_head : (s : ℕ) (taken : L.List ℕ) (i : ℕ) → Free (s ∷ taken) i → i ≢ s
unfolding member
free_head s taken i h e =
    let w : eqb i s ≡ true = eq-eqb i s e in
    let q : true ≡ false = simp w at h in
    let z : ◌≡◌ {A = ℕ} 0 1 = cc in omega arith

module _ (vs : L.List Var) (few : length (types (nameless vs)) ≤ 64) where
  abbrev pub Γ : L.List Ty
  Γ = types (nameless vs)

  -- operands that their fields can hold
  fits : (e : Exp) (x : Typed) → expression vs e ≡ ok x → FitE x.core
  unfolding expression typed largest
  fits (named v) x e =
      let a = inv (known vs v) _ e in
      let k = (known_in vs v a.0 a.1).0 in
      subst (λ y. FitE y.core) (ok_inj a.2) (omega arith)
  fits (whole p v) x e =
      let a = inv (need (leb v (largest false)) 4 p) _ e in
      let h = leb-t v (largest false) (needed _ _ _ _ a.1) in
      subst (λ y. FitE y.core) (ok_inj a.2) (omega arith)
  fits (truth p b) x e = subst (λ y. FitE y.core) (ok_inj e) tt
  fits (paren p c) x e =
      let a = inv (expression vs c) _ e in
      subst (λ y. FitE y.core) (ok_inj a.2) (fits c a.0 a.1)
  fits (unary p s c) x e =
      let a = inv (expression vs c) _ e in
      let b = inv (need (same_ty a.0.type (sign_ty s)) 8 p) _ a.2 in
      subst (λ y. FitE y.core) (ok_inj b.2) (sign_fits p s a.0.core (fits c a.0 a.1))
  fits (binary p o c d) x e =
      let a = inv (expression vs c) _ e in
      let b = inv (expression vs d) _ a.2 in
      let g = inv (need (same_ty a.0.type (takes o a.0.type) && same_ty b.0.type (takes o a.0.type)) 8 p) _ b.2 in
      subst (λ y. FitE y.core) (ok_inj g.2) (fits c a.0 a.1, fits d b.0 b.1)

  -- a whole expression in its place
  record Right (t : Ty) (more : ℕ) (c : Expr) : Type 0 where
    ty : HasTy Γ c t
    fit : FitE c
    low : height c + more ≤ 32

  right : (t : Ty) (p more : ℕ) (e : Exp) (c : Expr) → placed vs t p more e ≡ ok c → Right t more c
  unfolding placed
  right t p more e c h =
      let a = inv (expression vs e) _ h in
      let b = inv (need (same_ty a.0.type t) 8 p) _ a.2 in
      let d = inv (need (leb (height a.0.core + more) 32) 10 (first e)) _ b.2 in
      let q = same-ty a.0.type t (needed _ _ _ _ b.1) in
      subst (λ y. Right t more y) (ok_inj d.2) (record {
        ty = rw q at (well vs e a.0 a.1);
        fit = fits e a.0 a.1;
        low = leb-t _ 32 (needed _ _ _ _ d.1);
      })

  record Into (taken : L.List ℕ) (s : Slot) : Type 0 where
    inside : s.slot < length Γ
    type : get_or Γ s.slot dint ≡ s.type
    free : Free taken s.slot

  into : (taken : L.List ℕ) (v : Name) (s : Slot) → assigned vs taken v ≡ ok s → Into taken s
  unfolding assigned
  into taken v s e =
      let a = inv (known vs v) _ e in
      let b = inv (need (not (member a.0.slot taken)) 11 v.place) _ a.2 in
      let k = known_in vs v a.0 a.1 in
      subst (λ y. Into taken y) (ok_inj b.2) (record { inside = k.0; type = k.1; free = not-true _ (needed _ _ _ _ b.1) })

  -- what an accepted statement, list, … meets
  pub record FineS (taken : L.List ℕ) (s : Stmt) : Type 0 where
    pub ty : TyS Γ s
    pub fit : FitS s
    pub deep : depth_s s ≤ 32
    pub wf : WfS s
    pub apart : StoresS (Free taken) s

  pub record FineL (taken : L.List ℕ) (l : List) : Type 0 where
    pub ty : TyL Γ l
    pub fit : FitL l
    pub deep : depth_l l ≤ 32
    pub wf : WfL l
    pub apart : StoresL (Free taken) l

  pub record FineB (taken : L.List ℕ) (b : Brs) : Type 0 where
    pub ty : TyB Γ b
    pub fit : FitB b
    pub deep : depth_b b ≤ 32
    pub wf : WfB b
    pub apart : StoresB (Free taken) b

  pub record FineG (taken : L.List ℕ) (g : Grps) : Type 0 where
    pub ty : TyG Γ g
    pub fit : FitG g
    pub deep : depth_g g ≤ 32
    pub wf : WfG g
    pub apart : StoresG (Free taken) g

  -- one for each statement, from its parts
  fine_asg : (taken : L.List ℕ) (s : Slot) (c : Expr) → Into taken s → Right s.type 0 c → FineS taken (assign s.slot c)
  unfolding depth_s
  fine_asg taken s c i r =
      let n = i.inside in let h = r.low in
      record { ty = (i.inside, rw i.type r.ty); fit = (omega arith, r.fit); deep = omega arith; wf = tt; apart = i.free }

  fine_for : (taken : L.List ℕ) (s : Slot) (a e : Expr) (z : ℤ) (l : List) → Into taken s → s.type ≡ dint → Right dint 0 a → Right dint 1 e
      → (is_zero z ≡ false) × Z32 z → FineL (s.slot ∷ taken) l → FineS taken (for s.slot a e z l)
  unfolding depth_s
  fine_for taken s a e z l i d p q w f =
      let n = i.inside in let h = p.low in let k = q.low in let m = f.deep in
      record {
        ty = (i.inside, i.type ∙ d, w.0, p.ty, q.ty, f.ty);
        fit = (omega arith, p.fit, q.fit, w.1, f.fit);
        deep = omega arith;
        wf = (more_l _ _ (λ j b. free_head s.slot taken j b) l f.apart, zero_no z w.0, f.wf);
        apart = (i.free, more_l _ _ (λ j b. free_tail s.slot taken j b) l f.apart);
      }

  fine_cas : (taken : L.List ℕ) (c : Expr) (g : Grps) → Right dint 0 c → FineG taken g → FineS taken (case c g)
  unfolding depth_s
  fine_cas taken c g p f =
      let h = p.low in let m = f.deep in
      record { ty = (p.ty, f.ty); fit = (p.fit, f.fit); deep = omega arith; wf = f.wf; apart = f.apart }

  fine_whl : (taken : L.List ℕ) (c : Expr) (l : List) → Right bool 0 c → FineL taken l → FineS taken (while c l)
  unfolding depth_s
  fine_whl taken c l p f =
      let h = p.low in let m = f.deep in
      record { ty = (p.ty, f.ty); fit = (p.fit, f.fit); deep = omega arith; wf = f.wf; apart = f.apart }

  fine_rep : (taken : L.List ℕ) (l : List) (c : Expr) → Right bool 0 c → FineL taken l → FineS taken (repeat l c)
  unfolding depth_s
  fine_rep taken l c p f =
      let h = p.low in let m = f.deep in
      record { ty = (f.ty, p.ty); fit = (f.fit, p.fit); deep = omega arith; wf = f.wf; apart = f.apart }

  fine_cons : (taken : L.List ℕ) (s : Stmt) (l : List) → FineS taken s → FineL taken l → FineL taken (cons s l)
  unfolding depth_s
  fine_cons taken s l p f =
      let h = p.deep in let m = f.deep in
      record { ty = (p.ty, f.ty); fit = (p.fit, f.fit); deep = omega arith; wf = (p.wf, f.wf); apart = (p.apart, f.apart) }

  fine_elsif : (taken : L.List ℕ) (c : Expr) (l : List) (b : Brs) → Right bool 0 c → FineL taken l → FineB taken b → FineB taken (elsif c l b)
  unfolding depth_s
  fine_elsif taken c l b p f g =
      let h = p.low in let m = f.deep in let n = g.deep in
      record { ty = (p.ty, f.ty, g.ty); fit = (p.fit, f.fit, g.fit); deep = omega arith; wf = (f.wf, g.wf); apart = (f.apart, g.apart) }

  fine_grp : (taken : L.List ℕ) (k : Labels) (l : List) (g : Grps) → FitLb k → FineL taken l → FineG taken g → FineG taken (grp k l g)
  unfolding depth_s
  fine_grp taken k l g p f q =
      let m = f.deep in let n = q.deep in
      record { ty = (f.ty, q.ty); fit = (p, f.fit, q.fit); deep = omega arith; wf = (f.wf, q.wf); apart = (f.apart, q.apart) }

  mutual
    unfolding statement condition selector final depth_s

    pub ok_s : (s : Stm) (taken : L.List ℕ) (n : Bool) (c : Stmt) → statement vs s taken n ≡ ok c → FineS taken c
    ok_s (assign_s v e) taken n c h =
        let a = inv (assigned vs taken v) _ h in
        let b = inv (placed vs a.0.type v.place 0 e) _ a.2 in
        subst (λ y. FineS taken y) (ok_inj b.2) (fine_asg taken a.0 b.0 (into taken v a.0 a.1) (right a.0.type v.place 0 e b.0 b.1))
    ok_s (if_s b) taken n c h =
        let a = inv (branches vs b taken n) _ h in
        let f = ok_b b taken n a.0 a.1 in
        subst (λ y. FineS taken y) (ok_inj a.2) (record { ty = f.ty; fit = f.fit; deep = f.deep; wf = f.wf; apart = f.apart })
    ok_s (case_s e g) taken n c h =
        let a = inv (selector vs e) _ h in
        let b = inv (groups vs g taken n) _ a.2 in
        subst (λ y. FineS taken y) (ok_inj b.2) (fine_cas taken a.0 b.0 (right dint (first e) 0 e a.0 a.1) (ok_g g taken n b.0 b.1))
    ok_s (for_s v x y d l) taken n c h =
        let a = inv (assigned vs taken v) _ h in
        let b = inv (need (same_ty a.0.type dint) 8 v.place) _ a.2 in
        let p = inv (selector vs x) _ b.2 in
        let q = inv (final vs y) _ p.2 in
        let r = inv (step d) _ q.2 in
        let m = inv (list vs l (a.0.slot ∷ taken) true) _ r.2 in
        subst (λ y. FineS taken y) (ok_inj m.2)
        (fine_for taken a.0 p.0 q.0 r.0 m.0 (into taken v a.0 a.1) (same-ty a.0.type dint (needed _ _ _ _ b.1))
        (right dint (first x) 0 x p.0 p.1) (right dint (first y) 1 y q.0 q.1) (step_fits d r.0 r.1) (ok_l l (a.0.slot ∷ taken) true m.0 m.1))
    ok_s (while_s e l) taken n c h =
        let a = inv (condition vs e) _ h in
        let b = inv (list vs l taken true) _ a.2 in
        subst (λ y. FineS taken y) (ok_inj b.2) (fine_whl taken a.0 b.0 (right bool (first e) 0 e a.0 a.1) (ok_l l taken true b.0 b.1))
    ok_s (repeat_s l e) taken n c h =
        let a = inv (list vs l taken true) _ h in
        let b = inv (condition vs e) _ a.2 in
        subst (λ y. FineS taken y) (ok_inj b.2) (fine_rep taken a.0 b.0 (right bool (first e) 0 e b.0 b.1) (ok_l l taken true a.0 a.1))
    ok_s (exit_s p) taken n c h =
        let a = inv (need n 12 p) _ h in
        subst (λ y. FineS taken y) (ok_inj a.2) (record { ty = tt; fit = tt; deep = omega arith; wf = tt; apart = tt })

    pub ok_l : (l : Stms) (taken : L.List ℕ) (n : Bool) (c : List) → list vs l taken n ≡ ok c → FineL taken c
    ok_l empty taken n c h = subst (λ y. FineL taken y) (ok_inj h) (record { ty = tt; fit = tt; deep = omega arith; wf = tt; apart = tt })
    ok_l (then s l) taken n c h =
        let a = inv (statement vs s taken n) _ h in
        let b = inv (list vs l taken n) _ a.2 in
        subst (λ y. FineL taken y) (ok_inj b.2) (fine_cons taken a.0 b.0 (ok_s s taken n a.0 a.1) (ok_l l taken n b.0 b.1))

    pub ok_b : (b : Branches) (taken : L.List ℕ) (n : Bool) (c : Brs) → branches vs b taken n ≡ ok c → FineB taken c
    ok_b no_else taken n c h = subst (λ y. FineB taken y) (ok_inj h) (record { ty = tt; fit = tt; deep = omega arith; wf = tt; apart = tt })
    ok_b (else_b l) taken n c h =
        let a = inv (list vs l taken n) _ h in
        let f = ok_l l taken n a.0 a.1 in
        subst (λ y. FineB taken y) (ok_inj a.2) (record { ty = f.ty; fit = f.fit; deep = f.deep; wf = f.wf; apart = f.apart })
    ok_b (branch e l d) taken n c h =
        let a = inv (condition vs e) _ h in
        let b = inv (list vs l taken n) _ a.2 in
        let g = inv (branches vs d taken n) _ b.2 in
        subst (λ y. FineB taken y) (ok_inj g.2) (fine_elsif taken a.0 b.0 g.0 (right bool (first e) 0 e a.0 a.1) (ok_l l taken n b.0 b.1) (ok_b d taken n g.0 g.1))

    pub ok_g : (g : Groups) (taken : L.List ℕ) (n : Bool) (c : Grps) → groups vs g taken n ≡ ok c → FineG taken c
    ok_g no_other taken n c h = subst (λ y. FineG taken y) (ok_inj h) (record { ty = tt; fit = tt; deep = omega arith; wf = tt; apart = tt })
    ok_g (else_g l) taken n c h =
        let a = inv (list vs l taken n) _ h in
        let f = ok_l l taken n a.0 a.1 in
        subst (λ y. FineG taken y) (ok_inj a.2) (record { ty = f.ty; fit = f.fit; deep = f.deep; wf = f.wf; apart = f.apart })
    ok_g (group ls l d) taken n c h =
        let a = inv (labels ls) _ h in
        let b = inv (list vs l taken n) _ a.2 in
        let g = inv (groups vs d taken n) _ b.2 in
        subst (λ y. FineG taken y) (ok_inj g.2) (fine_grp taken a.0 b.0 g.0 (labels-fit ls a.0 a.1) (ok_l l taken n b.0 b.1) (ok_g d taken n g.0 g.1))
