-- What is promised of an accepted text, on one page.
use mathlib.Core.List as L
use Rattle.std.specs.Prelude.{◌≢◌, ℕ, ◌+◌, ◌≤◌, ◌<◌}
use Rattle.std.proofs.Math.Path.{◌≡◌}
use native.Mathlib.Omega.{arith}
use Rattle.rules.specs.Numbers.{Ty}
use Rattle.rules.specs.Core.{List}
use Rattle.rules.specs.Meaning.{Table, Stop, ill, Out, go, left, halt, exec_l, ans_of, meaning}
use Rattle.rules.specs.Machine.{Ran, view, run, start, code_in}
use Rattle.rules.specs.Translation.{size_l, code_of}
use Rattle.rules.specs.Depth.{depth_l}
use Rattle.rules.specs.Worst.{fin, worst_l}
use Rattle.theorems.specs.Levels.{fors_l}
use Rattle.theorems.specs.TicksFall.{k_of}
use Rattle.theorems.specs.Fields.{FitL, central}
use Rattle.theorems.specs.WorstCase.{WfL, ok_l, un_fin}
use Rattle.theorems.specs.Typing.{Valid, TyL, Real, r_spent, r_range, r_divide, Snd, s_go, s_left, s_halt, snd_l}
use Rattle.theorems.specs.StackLimit.{run_like}

-- what an accepted text meets: fields hold their operands, code, nesting and depth keep their limits, types are right, and rules 11 and 15
pub record Accepted (Γ : L.List Ty) (l : List) : Type 0 where
  pub fits : FitL l
  pub short : size_l l < 8192
  pub fors : fors_l l ≤ 8
  pub deep : depth_l l ≤ 32
  pub typed : TyL Γ l
  pub wf : WfL l

not_ill : {o : Stop} → Real o → o ≡ ill → ⊥
not_ill r_spent e = let z : ◌≡◌ {A = ℕ} 0 1 = cc in omega arith
not_ill r_range e = let z : ◌≡◌ {A = ℕ} 0 1 = cc in omega arith
not_ill r_divide e = let z : ◌≡◌ {A = ℕ} 0 1 = cc in omega arith

module _ (Γ : L.List Ty) (l : List) (a : Accepted Γ l) (t : Table) (B : ℕ) (v : Valid Γ t) where
  abbrev pub ran : Ran
  ran = run (code_in Γ (code_of l) 32) B (start t)

  -- 1. the machine does what the text means
  pub same : view ran ≡ meaning Γ l t B
  same = central Γ l t B 32 a.fits a.short a.fors a.deep

  -- 2. it never meets rule 25
  pub never-ill : (n : ℕ) → depth_l l ≤ n → (run (code_in Γ (code_of l) n) B (start t)).out ≢ ill
  unfolding view meaning ans_of
  never-ill n d e = by (exec_l Γ l t B) (snd_l Γ l a.typed t B v) (central Γ l t B n a.fits a.short a.fors d)
    where
      by : (o : Out) → Snd Γ o → view (run (code_in Γ (code_of l) n) B (start t)) ≡ ans_of o → ⊥
      by (go t k) s q = let z : ◌≡◌ {A = ℕ} 0 1 = cc in omega arith
      by (left t k) s q = let z : ◌≡◌ {A = ℕ} 0 1 = cc in omega arith
      by (halt o t k) (s_halt r w) q = let z : o ≡ ill = cc in not_ill r z

  -- 3. the stack never grows past the stated depth: with that limit the whole run is the same
  pub depth_is_enough : ran ≡ run (code_in Γ (code_of l) (depth_l l)) B (start t)
  unfolding code_in
  depth_is_enough = run_like (code_in Γ (code_of l) (depth_l l)) 32 a.deep B (start t) (never-ill (depth_l l) (omega arith))

  -- 4. the worst case bounds the ticks
  pub within_worst : (w : ℕ) → worst_l l ≡ fin w → B ≤ ran.left + w
  unfolding view meaning ans_of
  within_worst w e = by (exec_l Γ l t B) (un_fin (rw e at (ok_l Γ l a.wf t B))).within same
    where
      by : (o : Out) → B ≤ k_of o + w → view ran ≡ ans_of o → B ≤ ran.left + w
      by (go t k) h q = let z : ran.left ≡ k = cc in omega arith
      by (left t k) h q = let z : ran.left ≡ k = cc in omega arith
      by (halt o t k) h q = let z : ran.left ≡ k = cc in omega arith

  -- 5. a valid table stays valid
  pub keeps-valid : Valid Γ ran.tab
  unfolding view meaning ans_of
  keeps-valid = by (exec_l Γ l t B) (snd_l Γ l a.typed t B v) same
    where
      by : (o : Out) → Snd Γ o → view ran ≡ ans_of o → Valid Γ ran.tab
      by (go t k) (s_go w) q = let z : t ≡ ran.tab = cc in rw z at w
      by (left t k) (s_left w) q = let z : t ≡ ran.tab = cc in rw z at w
      by (halt o t k) (s_halt r w) q = let z : t ≡ ran.tab = cc in rw z at w
