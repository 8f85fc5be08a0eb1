-- The whole way: text to bytes to run.
use mathlib.Core.List as L
use Rattle.std.specs.Prelude.{◌≡◌, refl, true, false, ℕ, suc, ◌+◌, ◌≤◌, ◌<◌, ℤ, pos, negsuc}
use Rattle.std.proofs.Common.{arith}
use Rattle.std.specs.Int.Signed.{mag}
use Rattle.rules.specs.Numbers.{Ty, of_bool}
use Rattle.rules.specs.Core.{Expr, num, flag, var, un, bin, pls, par, Labels, lnil, lab, Stmt, List, Brs, Grps, assign, if, case, for, while, repeat, exit, nil, cons, none, els, elsif, other, grp}
use Rattle.rules.specs.Meaning.{Table, meaning}
use Rattle.rules.specs.Codes.{Instr, enc_all}
use Rattle.rules.specs.Machine.{view, run, code_in, start}
use Rattle.rules.specs.Translation.{code_e, code_lb, jmp, size_s, size_l, size_b, size_g, code_s, code_l, code_b, code_g, prog, code_of}
use Rattle.rules.specs.Depth.{depth_l}
use Rattle.theorems.specs.Levels.{levels_s, fors_s, fors_l, fors_b, fors_g}
use Rattle.theorems.specs.Decoding.{AllFit, stands}
use Rattle.theorems.specs.Simulation.{correct}

-- operands that their fields can hold
abbrev pub Z32 : ℤ → Type 0
Z32 z = mag z < 2147483648

-- a text writes no negative number: a minus before an integer is an operator
abbrev pub FitE : Expr → Type 0
FitE (num (pos n)) = n < 2147483648
FitE (num (negsuc n)) = ⊥
FitE (flag b) = Unit {0}
FitE (var i) = i < 256
FitE (un ι o a) = FitE a
FitE (bin ι o a b) = FitE a × FitE b
FitE (pls a) = FitE a
FitE (par a) = FitE a

abbrev pub FitLb : Labels → Type 0
FitLb lnil = Unit {0}
FitLb (lab lo hi ls) = Z32 lo × Z32 hi × FitLb ls

abbrev mutual
  pub FitS : Stmt → Type 0
  FitS (assign i e) = (i < 256) × FitE e
  FitS (if b) = FitB b
  FitS (case e g) = FitE e × FitG g
  FitS (for v a e s l) = (v < 256) × FitE a × FitE e × Z32 s × FitL l
  FitS (while c l) = FitE c × FitL l
  FitS (repeat l c) = FitL l × FitE c
  FitS exit = Unit {0}

  pub FitL : List → Type 0
  FitL nil = Unit {0}
  FitL (cons s l) = FitS s × FitL l

  pub FitB : Brs → Type 0
  FitB none = Unit {0}
  FitB (els l) = FitL l
  FitB (elsif c l b) = FitE c × FitL l × FitB b

  pub FitG : Grps → Type 0
  FitG (other l) = FitL l
  FitG (grp ls l g) = FitLb ls × FitL l × FitG g

fit_e : (e : Expr) (r : L.List Instr) → FitE e → AllFit r → AllFit (code_e e r)
unfolding code_e of_bool
fit_e (num (pos n)) r f g = (f, g)
fit_e (num (negsuc n)) r f g = absurd f
fit_e (flag true) r f g = (omega arith, g)
fit_e (flag false) r f g = (omega arith, g)
fit_e (var i) r f g = (f, g)
fit_e (pls a) r f g = fit_e a r f g
fit_e (par a) r f g = fit_e a r f g
fit_e (un ι o a) r f g = fit_e a _ f (tt, g)
fit_e (bin ι o a b) r f g = fit_e a _ f.0 (fit_e b _ f.1 (tt, g))

fit_lb : (ls : Labels) (a : ℕ) (r : L.List Instr) → a < 65536 → FitLb ls → AllFit r → AllFit (code_lb ls a r)
unfolding code_lb
fit_lb lnil a r b f g = g
fit_lb (lab lo hi ls) a r b f g = ((f.0, f.1), (b, fit_lb ls a r b f.2 g))

fit_j : (b : Brs) (a : ℕ) (r : L.List Instr) → a < 65536 → AllFit r → AllFit (jmp b a r)
unfolding jmp
fit_j none a r b g = g
fit_j (els l) a r b g = (b, g)
fit_j (elsif e l c) a r b g = (b, g)

mutual
  unfolding code_s size_s levels_s

  fit_s : (s : Stmt) (p x n : ℕ) (r : L.List Instr) → FitS s → p + size_s s < 65536 → x < 65536 → n + fors_s s ≤ 256 → AllFit r → AllFit (code_s s p x n r)
  fit_s (assign i e) p x n r f b y w g = (tt, fit_e e _ f.1 (f.0, g))
  fit_s (if c) p x n r f b y w g = (tt, fit_b c (p + 1) x n r f (omega arith) y w g)
  fit_s (case e q) p x n r f b y w g = (tt, fit_e e _ f.0 (fit_g q _ _ x n r f.1 (omega arith) (omega arith) y w g))
  fit_s (for v a e s l) p x n r f b y w g = (
    tt,
    fit_e a _ f.1 (fit_e e _ f.2 (
      omega arith,
      (
        f.0,
        (
          (omega arith, f.0, f.3, omega arith),
          (
            tt,
            fit_l l _ _ (suc n) _ f.4 (omega arith) (omega arith) (omega arith) ((omega arith, f.0, f.3, omega arith), g),
          ),
        ),
      ),
    )),
  )
  fit_s (while c l) p x n r f b y w g = (tt, fit_e c _ f.0 (omega arith, fit_l l _ _ n _ f.1 (omega arith) (omega arith) w (omega arith, g)))
  fit_s (repeat l c) p x n r f b y w g = (tt, fit_l l _ _ n _ f.0 (omega arith) (omega arith) w (fit_e c _ f.1 (omega arith, g)))
  fit_s exit p x n r f b y w g = (tt, (y, g))

  fit_l : (l : List) (p x n : ℕ) (r : L.List Instr) → FitL l → p + size_l l < 65536 → x < 65536 → n + fors_l l ≤ 256 → AllFit r → AllFit (code_l l p x n r)
  fit_l nil p x n r f b y w g = g
  fit_l (cons s l) p x n r f b y w g = fit_s s p x n _ f.0 (omega arith) y (omega arith) (fit_l l _ x n r f.1 (omega arith) y (omega arith) g)

  fit_b : (c : Brs) (p x n : ℕ) (r : L.List Instr) → FitB c → p + size_b c < 65536 → x < 65536 → n + fors_b c ≤ 256 → AllFit r → AllFit (code_b c p x n r)
  fit_b none p x n r f b y w g = g
  fit_b (els l) p x n r f b y w g = fit_l l p x n r f b y w g
  fit_b (elsif e l c) p x n r f b y w g = fit_e e _ f.0 (
    omega arith,
    fit_l l _ x n _ f.1 (omega arith) y (omega arith)
        (fit_j c _ _ (omega arith) (fit_b c _ x n r f.2 (omega arith) y (omega arith) g)),
  )

  fit_g : (q : Grps) (p z x n : ℕ) (r : L.List Instr) → FitG q → p + size_g q < 65536 → z < 65536 → x < 65536 → n + fors_g q ≤ 256 → AllFit r → AllFit (code_g q p z x n r)
  fit_g (other l) p z x n r f b u y w g = (tt, fit_l l _ x n r f (omega arith) y w g)
  fit_g (grp ls l q) p z x n r f b u y w g = fit_lb ls _ _ (omega arith) f.0 (
    omega arith,
    (
      tt,
      fit_l l _ x n _ f.1 (omega arith) y (omega arith)
          (u, fit_g q _ z x n r f.2 (omega arith) u y (omega arith) g),
    ),
  )

-- the whole code
pub code_fits : (l : List) → FitL l → size_l l < 8192 → fors_l l ≤ 8 → AllFit (prog l)
unfolding prog
code_fits l f b w = fit_l l 0 (size_l l) 0 _ f (omega arith) (omega arith) (omega arith) (tt, tt)

-- the central theorem
pub central : (Γ : L.List Ty) (l : List) (t : Table) (B cap : ℕ) → FitL l → size_l l < 8192 → fors_l l ≤ 8 → depth_l l ≤ cap
    → view (run (code_in Γ (code_of l) cap) B (start t)) ≡ meaning Γ l t B
unfolding code_of code_in
central Γ l t B cap f b w d = correct (code_in Γ (enc_all (prog l)) cap) l t B (stands Γ (enc_all (prog l)) cap (prog l) 0 (code_fits l f b w) refl) d w
