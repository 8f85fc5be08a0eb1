-- What a run of a compiled program's image is: 24 for a table that is not valid, else the run of its code.
use Rattle.std.specs.Prelude.{◌≢◌, Bool, ℕ, ◌+◌, ◌*◌, ◌≤◌, leb, length}
use Rattle.std.proofs.Math.Path.{◌≡◌, refl, ap}
use Rattle.std.proofs.Common.{sym, arith}
use Rattle.std.proofs.Math.Bool.{true, false}
use Rattle.std.proofs.Math.Option.{some}
use Rattle.rules.specs.Limits.{unbounded_mark, worst_limit}
use Rattle.rules.specs.Base.{pick}
use Rattle.rules.specs.Core.{types, Program}
use Rattle.rules.specs.Meaning.{Table, Stop, done, spent, range, divide, ill, Ans, ans, meaning}
use Rattle.rules.specs.Translation.{code_of}
use Rattle.rules.specs.Depth.{depth_l}
use Rattle.rules.specs.Worst.{Bound, fin, unb, worst_l, figure}
use Rattle.rules.specs.Machine.{Ran, view, run, code_in, start}
use Rattle.rules.specs.Image.{Loaded}
use Rattle.rules.specs.Run.{Report, number, report_of, refused_run, valid, valid_for, run_loaded}
use Rattle.rules.specs.Evaluate.{told_of, told_by, evaluated}
use Rattle.theorems.specs.Instructions.{instructions-bound}
use Rattle.theorems.specs.Typing.{Valid}
use Rattle.theorems.specs.ValidTable.{valid_is, is-valid}
use Rattle.theorems.specs.Accepted.{Accepted, same, never-ill, depth_is_enough, within_worst, keeps-valid}

-- an outcome that is not ill has a number other than 25
number-ill : (o : Stop) → o ≢ ill → number o ≢ 25
unfolding number
number-ill done n e = omega arith
number-ill spent n e = omega arith
number-ill range n e = omega arith
number-ill divide n e = omega arith
number-ill ill n e = n refl

told_by_lem : (B : ℕ) (r : Ran) (a : Ans) → view r ≡ a → told_by (report_of B r) ≡ told_of B a
unfolding view told_by report_of told_of
told_by_lem B r (ans o t k) e =
    let p : r.out ≡ o = cc in
    let q : r.tab ≡ t = cc in
    let u : r.left ≡ k = cc in
    rw (p, q, u)

-- a worst case that is no mark is the exact one
stated : (b : Bound) (w : ℕ) → figure b ≡ w → w ≢ unbounded_mark → b ≡ fin w
unfolding figure
stated unb w e n = absurd (n (sym e))
stated (fin v) w e n = by (leb v worst_limit) refl
  where
    by : (d : Bool) → leb v worst_limit ≡ d → fin v ≡ fin w
    by true h = ap fin (simp h at e)
    by false h = absurd (n (sym (simp h at e)))

module _ (p : Program) (a : Accepted (types p.vars) p.body) where
  abbrev pub loaded : Loaded
  loaded = record { vars = p.vars; code = code_of p.body }

  abbrev runs : ℕ → ℕ → Table → Report
  runs n B t = run_loaded n (some loaded) B t

  abbrev steps : ℕ → ℕ → Table → Ran
  steps n B t = run (code_in (types p.vars) (code_of p.body) n) B (start t)

  -- a property of the report holds if it holds of a refusal with 24, and of the run on a valid table
  module _ (n B : ℕ) (t : Table) (P : Report → Type 0) where
    either_way : P (refused_run 24 t) → (Valid (types p.vars) t → P (report_of B (steps n B t))) → P (runs n B t)
    unfolding run_loaded
    either_way bad good = by (valid (types p.vars) t) refl
      where
        by : (d : Bool) → valid (types p.vars) t ≡ d → P (pick d (λ _. report_of B (steps n B t)) (λ _. refused_run 24 t))
        by true e = good (valid_is (types p.vars) t e)
        by false e = bad

  pub evaluated-run : (B : ℕ) (t : Table) → told_by (runs 32 B t) ≡ evaluated p B t
  unfolding run_loaded evaluated refused_run told_by
  evaluated-run B t = by (valid (types p.vars) t) refl
    where
      by : (d : Bool) → valid (types p.vars) t ≡ d
          → told_by (pick d (λ _. report_of B (steps 32 B t)) (λ _. refused_run 24 t))
          ≡ pick d (λ _. told_of B (meaning (types p.vars) p.body t B)) (λ _. record { outcome = 24; ticks = 0; table = t })
      by true e = told_by_lem B (steps 32 B t) _ (same (types p.vars) p.body a t B (valid_is (types p.vars) t e))
      by false e = refl

  pub no_bad_code : (B : ℕ) (t : Table) → (runs 32 B t).outcome ≢ 25
  unfolding refused_run report_of
  no_bad_code B t = either_way 32 B t (λ r. r.outcome ≢ 25) (λ e. omega arith) (λ v. number-ill _ (never-ill (types p.vars) p.body a t B v 32 a.deep))

  pub few-ticks : (w B : ℕ) (t : Table) → figure (worst_l p.body) ≡ w → w ≢ unbounded_mark → (runs 32 B t).ticks ≤ w
  unfolding refused_run report_of
  few-ticks w B t e n = either_way 32 B t (λ r. r.ticks ≤ w) (omega arith) (λ v.
      let h = within_worst (types p.vars) p.body a t B v w (stated (worst_l p.body) w e n) in omega arith)

  pub table_kept : (B : ℕ) (t : Table) → valid_for (some loaded) t ≡ true → valid_for (some loaded) (runs 32 B t).table ≡ true
  unfolding valid_for refused_run report_of
  table_kept B t h = either_way 32 B t (λ r. valid (types p.vars) r.table ≡ true) h (λ v. is-valid (types p.vars) _ (keeps-valid (types p.vars) p.body a t B v))

  pub deep-enough : (B : ℕ) (t : Table) → runs (depth_l p.body) B t ≡ runs 32 B t
  unfolding run_loaded
  deep-enough B t = by (valid (types p.vars) t) refl
    where
      by : (d : Bool) → valid (types p.vars) t ≡ d
          → ◌≡◌ {A = Report} (pick d (λ _. report_of B (steps (depth_l p.body) B t)) (λ _. refused_run 24 t)) (pick d (λ _. report_of B (steps 32 B t)) (λ _. refused_run 24 t))
      by true e = ap (report_of B) (sym (depth_is_enough (types p.vars) p.body a t B (valid_is (types p.vars) t e)))
      by false e = refl

-- for any image, whether it was compiled or not
pub few-instructions : (i : Loaded) (n B : ℕ) (t : Table) → (run_loaded n (some i) B t).instructions ≤ ((run_loaded n (some i) B t).ticks + 1) * length i.code
unfolding run_loaded report_of refused_run code_in
few-instructions i n B t = by (valid (types i.vars) t)
  where
    ran_as : Report
    ran_as = report_of B (run (code_in (types i.vars) i.code n) B (start t))

    by : (d : Bool) → (pick d (λ _. ran_as) (λ _. refused_run 24 t)).instructions ≤ ((pick d (λ _. ran_as) (λ _. refused_run 24 t)).ticks + 1) * length i.code
    by true = instructions-bound (code_in (types i.vars) i.code n) B (start t)
    by false = omega arith
