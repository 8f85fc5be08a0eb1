-- A step of the machine against the rules' run: what it keeps, and that it brings the run nearer to its end. Assumes nothing.
use mathlib.Core.Path.{◌≡◌, refl, sym, ap, ◌∙◌}
use mathlib.Core.Bool.{Bool, true, false}
use mathlib.Core.List.{List}
use Prim.Native.Nat.{ℕ, suc, ◌+◌, ◌-◌, ◌*◌, ◌≤◌, ◌<◌}
use native.Mathlib.Nat.{mul-le-mul_left}
use native.Mathlib.Omega.{arith}
use lib.Dec.{ltb}
use lib.ListN.{length}
use borrow.Author.Tests.{ltb-true, ltb-false}
use Rattle.rules.specs.Limits.{code_limit, stack_limit}
use Rattle.rules.specs.Base.{pick}
use Rattle.rules.specs.Meaning.{Table, done, spent, range, divide, ill}
use Rattle.rules.specs.Machine.{State, state, Step as Deed, on as goOn, tk, end, Code, Ran, bump, step, run, finish, adv, is_tick, code_in, start}
use Rattle.rules.specs.Run.{Report, number, report_of}
use Rattle.theorems.specs.Running.{pc_of, run_on, run-tick, run-spent, run_end}
use Rattle.theorems.specs.StackLimit.{left_over, falls, falls-tick}
use Rattle.theorems.specs.Height.{keeps}
use Rattle.variables.specs.Slots.{types_in}
use Rattle.std.specs.Prelude.{None, Some, Result, Ok, Err}
use Rattle.machine.specs.Stepping.{View, After, view, move, only, on, halted, ticked, after, stepped, fresh}
use Rattle.machine.proofs.Stack.{down_length}
use Rattle.machine.proofs.Moves.{step_within}
use Rattle.machine.specs.declared.Machine.{Machine}
use Rattle.machine.specs.declared.Stop.{Stop}
use Rattle.machine.specs.declared.Stop.TheVariants.{Done, Spent, Range, Divide, Broken}
use Rattle.run.specs.Standing.{end_of, last_count, carried_out}

-- the code and the variables of an image, as the rules see them
abbrev pub seen : List ℕ → List ℕ → Code
seen vars code = code_in (types_in vars) code stack_limit

-- the state of the rules that a view and a table are
abbrev pub at : View → Table → State
at v t = state v.at v.stack v.held t

-- n instructions counted before
abbrev pub bumps : ℕ → Ran → Ran
bumps n r = record { out = r.out; tab = r.tab; left = r.left; offset = r.offset; count = n + r.count }

-- the end of a run, as the last step left it, n instructions counted before
abbrev pub last : ℕ → ℕ → Stop → After → Ran
last b n k a =
    record {
      out = end_of k;
      tab = a.table;
      left = b - a.move.next.ticks;
      offset = a.move.next.at;
      count = n + last_count k;
    }

module _ (c : Code) (b : ℕ) where
  -- a step that goes on
  pub record Better (v : View) (t : Table) (a : After) : Type 0 where
    pub stack : length a.move.next.stack ≤ c.cap
    pub ticks : a.move.next.ticks ≤ b
    pub less : left_over c (b - a.move.next.ticks) (at a.move.next a.table) < left_over c (b - v.ticks) (at v t)
    pub same : run c (b - v.ticks) (at v t) ≡ bump (run c (b - a.move.next.ticks) (at a.move.next a.table))

  -- a step that ends the run
  pub record Over (v : View) (t : Table) (k : Stop) (a : After) : Type 0 where
    pub ticks : a.move.next.ticks ≤ b
    pub same : (n : ℕ) → bumps n (run c (b - v.ticks) (at v t)) ≡ last b n k a

  module _ (v : View) (t : Table) (low : length v.stack ≤ c.cap) (early : v.ticks ≤ b) where
    ticks_on : step c (at v t) ≡ tk → v.ticks < b → Better v t (only t (on 1 (ticked v)))
    unfolding adv
    ticks_on e h =
        let k : b - v.ticks ≡ suc (b - (v.ticks + 1)) = omega arith in
        record {
          stack = low;
          ticks = omega arith;
          less = rw k (falls-tick c (b - (v.ticks + 1)) (at v t) e);
          same = rw k (run-tick c (b - (v.ticks + 1)) (at v t) e);
        }

    better_by : (d : Deed) → step c (at v t) ≡ d → (after b v t d).move.stop ≡ None → Better v t (after b v t d)
    unfolding after
    better_by (goOn (state p s h u)) e g =
        record {
          stack = keeps c (at v t) (state p s h u) low e;
          ticks = early;
          less = falls c (b - v.ticks) (at v t) (state p s h u) e;
          same = run_on c (b - v.ticks) (at v t) (state p s h u) e;
        }
    better_by tk e g = by (ltb v.ticks b) refl g
      where
        by : (d : Bool) → ltb v.ticks b ≡ d → (pick d (λ _. on 1 (ticked v)) (λ _. halted Spent v)).stop ≡ None
            → Better v t (only t (pick d (λ _. on 1 (ticked v)) (λ _. halted Spent v)))
        by true h g = ticks_on e (ltb-true v.ticks b h)
        by false h g = cc
    better_by (end done) e g = cc
    better_by (end spent) e g = cc
    better_by (end range) e g = cc
    better_by (end divide) e g = cc
    better_by (end ill) e g = cc

    pub better : {a : After} → a ≡ after b v t (step c (at v t)) → a.move.stop ≡ None → Better v t a
    better p g = rw p (better_by (step c (at v t)) refl (rw p at g))

    spent_out : step c (at v t) ≡ tk → b ≤ v.ticks → Over v t Spent (only t (halted Spent v))
    unfolding finish
    spent_out e h =
        let k : b - v.ticks ≡ 0 = omega arith in
        record { ticks = early; same = λ n. rw k (ap (bumps n) (run-spent c (at v t) e)) }

    over_by : (d : Deed) {k : Stop} → step c (at v t) ≡ d → (after b v t d).move.stop ≡ Some k → Over v t k (after b v t d)
    unfolding after finish
    over_by (goOn (state p s h u)) e g = cc
    over_by tk {k = k} e g = by (ltb v.ticks b) refl g
      where
        by : (d : Bool) → ltb v.ticks b ≡ d → (pick d (λ _. on 1 (ticked v)) (λ _. halted Spent v)).stop ≡ Some k
            → Over v t k (only t (pick d (λ _. on 1 (ticked v)) (λ _. halted Spent v)))
        by true h g = cc
        by false h g = let q : k ≡ Spent = cc in rw q (spent_out e (ltb-false v.ticks b h))
    over_by (end done) {k = k} e g = let q : k ≡ Done = cc in rw q (record { ticks = early; same = λ n. ap (bumps n) (run_end c (b - v.ticks) (at v t) done e) })
    over_by (end spent) {k = k} e g = let q : k ≡ Spent = cc in rw q (record { ticks = early; same = λ n. ap (bumps n) (run_end c (b - v.ticks) (at v t) spent e) })
    over_by (end range) {k = k} e g = let q : k ≡ Range = cc in rw q (record { ticks = early; same = λ n. ap (bumps n) (run_end c (b - v.ticks) (at v t) range e) })
    over_by (end divide) {k = k} e g = let q : k ≡ Divide = cc in rw q (record { ticks = early; same = λ n. ap (bumps n) (run_end c (b - v.ticks) (at v t) divide e) })
    over_by (end ill) {k = k} e g = let q : k ≡ Broken = cc in rw q (record { ticks = early; same = λ n. ap (bumps n) (run_end c (b - v.ticks) (at v t) ill e) })

    pub over : {a : After} {k : Stop} → a ≡ after b v t (step c (at v t)) → a.move.stop ≡ Some k → Over v t k a
    over p g = rw p (over_by (step c (at v t)) refl (rw p at g))

  -- what the loop keeps: `first` is the whole run, of which n instructions are counted
  pub record Sound (first : Ran) (n : ℕ) (v : View) (t : Table) : Type 0 where
    pub stack : length v.stack ≤ c.cap
    pub ticks : v.ticks ≤ b
    pub count : n + left_over c (b - v.ticks) (at v t) ≤ b * (c.len + 1) + c.len
    pub same : bumps n (run c (b - v.ticks) (at v t)) ≡ first

  one_more_lem : (n : ℕ) (r : Ran) → bumps n (bump r) ≡ bumps (n + 1) r
  unfolding bump
  one_more_lem n r = let e : n + suc r.count ≡ n + 1 + r.count = omega arith in rw e

  pub goes : (first : Ran) (n : ℕ) (v : View) (t : Table) {a : After} → Sound first n v t → Better v t a → Sound first (n + 1) a.move.next a.table
  goes first n v t {a = a} d g =
      record {
        stack = g.stack;
        ticks = g.ticks;
        count = let h = g.less in let i = d.count in omega arith;
        same =
            sym (one_more_lem n (run c (b - a.move.next.ticks) (at a.move.next a.table))) ∙ ap (bumps n) (sym g.same) ∙ d.same;
      }

  -- the report of a run that is over
  pub reports : (t : Table) (n : ℕ) (k : Stop) (a : After) {r : Report} → a.move.next.ticks ≤ b → last b n k a ≡ run c b (start t)
      → r ≡ record { outcome = number (end_of k); ticks = a.move.next.ticks; instructions = n + last_count k; offset = a.move.next.at; table = a.table }
      → r ≡ carried_out c b t
  unfolding carried_out report_of
  reports t n k a h e p =
      let left : b - (b - a.move.next.ticks) ≡ a.move.next.ticks = omega arith in
      rw (← e) (p ∙ rw left)

  at_first : (x : State) → left_over c b x ≤ b * (c.len + 1) + c.len
  unfolding left_over
  at_first x = by (is_tick (c.fetch (pc_of x)))
    where
      by : (d : Bool) → (elim d [ true ↦ b * (c.len + 1) | false ↦ b * (c.len + 1) + (c.len - pc_of x) ]) ≤ b * (c.len + 1) + c.len
      by true = omega arith
      by false = omega arith

  nothing : (r : Ran) → bumps 0 r ≡ r
  nothing r = let e : 0 + r.count ≡ r.count = omega arith in rw e

  pub begins : (t : Table) → Sound (run c b (start t)) 0 fresh t
  unfolding start
  begins t =
      let k : b - 0 ≡ b = omega arith in
      record {
        stack = omega arith;
        ticks = omega arith;
        count = rw k (omega (arith, at_first (at fresh t)));
        same = rw k (nothing (run c b (at fresh t)));
      }

-- a step of the machine that is sound is the rules', so one that goes on is better, and the last one is the end
module _ (vars code : List ℕ) (b : ℕ) {first : Ran} {n : ℕ} (m : Machine) (t : Table) (i : Sound (seen vars code) b first n (view m) t) where
  by_rules : {a : After} → a ≡ stepped (seen vars code) b m t → a ≡ after b (view m) t (step (seen vars code) (at (view m) t))
  unfolding code_in
  by_rules e = e ∙ step_within (types_in vars) code b m t (omega (arith, down_length m.stack m.height, i.stack))

  pub going_on : {u : Table} {r : Result Machine Stop} {o : Machine} → only u (move m r) ≡ stepped (seen vars code) b m t → r ≡ Ok o → Better (seen vars code) b (view m) t (only u (move m (Ok o)))
  going_on e s = better (seen vars code) b (view m) t i.stack i.ticks (by_rules (rw s at e)) refl

  pub ending : {u : Table} {r : Result Machine Stop} {k : Stop} → only u (move m r) ≡ stepped (seen vars code) b m t → r ≡ Err k → Over (seen vars code) b (view m) t k (only u (move m (Err k)))
  ending e s = over (seen vars code) b (view m) t i.stack i.ticks (by_rules (rw s at e)) refl

-- the count is a number of 64 bits
pub few : (b n k j : ℕ) → b < 4294967296 → n ≤ code_limit → k + j ≤ b * (n + 1) + n → k < 9223372036854775808
few b n k j h i e = let q : b * (n + 1) ≤ b * 8193 = mul-le-mul_left b (omega arith) in omega arith

pub at_most_one : (k : Stop) → last_count k ≤ 1
at_most_one Done = omega arith
at_most_one Spent = omega arith
at_most_one Range = omega arith
at_most_one Divide = omega arith
at_most_one Broken = omega arith
