-- Laws of what each instruction makes of a machine: one for each way that it can go. Assumes nothing.
use mathlib.Core.Path.{◌≡◌, refl, sym, ap, ◌∙◌}
use mathlib.Core.Bool.{Bool, true, false}
use mathlib.Core.List.{List, [], ◌∷◌}
use Prim.Native.Nat.{ℕ, ◌+◌, ◌≤◌, ◌<◌}
use native.Mathlib.Omega.{arith}
use lib.Dec.{ltb}
use lib.IntN.{ℤ, pos, ◌+ℤ◌}
use lib.ListN.{length, get_or, set, drop}
use borrow.Author.Tests.{ltb-true, lt-ltb, le-ltb, le-leb, lt-leb, not-true, not-false}
use Rattle.rules.specs.Limits.{stack_limit, for_limit}
use Rattle.rules.specs.Numbers.{Ty, dint, between, holds, of_bool, is_zero}
use Rattle.rules.specs.Core.{Un, Bin}
use Rattle.rules.specs.Meaning.{Ev, val, stop, ill, unop, binop, load, storable, load_d, passes}
use Rattle.rules.specs.Codes.{Instr, TICK, CONST, LOAD, STORE, UN, BIN, JUMP, JZ, JNZ, SPAN, DROP, HOLD, FIRST, NEXT, HALT, BAD, decode}
use Rattle.rules.specs.Machine.{state, end, push_e, Code, ok_jump, jump_to, push, push_r, first_on, next_on, act, step, code_in}
use Rattle.codes.specs.declared.Loop.{Loop}
use Rattle.std.specs.Prelude.{Result, Ok, Err}
use Rattle.arith.specs.Exact.{stop_of as trap_of}
use Rattle.arith.specs.declared.Trap.{Trap}
use Rattle.arith.specs.declared.Trap.TheVariants.{Range as TrapRange, Divide as TrapDivide, Bad}
use Rattle.machine.specs.Stepping.{View, After, view, move, over, ticked, holding, pushed, top_of, below, popped, halted, off, on, only, after, does, stepped, stop_for, branch_of, taken, may_count, may_land, Jumps}
use Rattle.machine.specs.declared.Machine.{Machine}
use Rattle.machine.proofs.Counting.{Allowed, allowed, loaded, unloaded}
use Rattle.machine.specs.declared.Stop.{Stop}
use Rattle.machine.specs.declared.Stop.TheVariants.{Done, Spent, Broken}

-- ---- the stack
uncons : (l : List ℤ) → 1 ≤ length l → l ≡ top_of l ∷ below l
uncons [] h = absurd (omega arith)
uncons (x ∷ l) h = refl

empty : (l : List ℤ) → length l < 1 → l ≡ []
empty [] h = refl
empty (x ∷ l) h = absurd (omega arith)

module _ (Γ : List Ty) (code : List ℕ) (b : ℕ) (s : View) (t : List ℤ) where
  abbrev c : Code
  c = code_in Γ code stack_limit

  pub one : (i : Instr) → 1 ≤ length s.stack → after b s t (act c i s.at (top_of s.stack ∷ below s.stack) s.held t) ≡ does c b i s t
  unfolding does
  one i h = sym (ap (λ (l : List ℤ). after b s t (act c i s.at l s.held t)) (uncons s.stack h))

  pub nil : (i : Instr) → length s.stack < 1 → after b s t (act c i s.at [] s.held t) ≡ does c b i s t
  unfolding does
  nil i h = sym (ap (λ (l : List ℤ). after b s t (act c i s.at l s.held t)) (empty s.stack h))

  -- ---- TICK, HALT
  pub tick_on : s.ticks < b → only t (on 1 (ticked s)) ≡ does c b TICK s t
  unfolding does act after
  tick_on h = rw (lt-ltb s.ticks b h, does, act, after)

  pub tick_out : b ≤ s.ticks → only t (halted Spent s) ≡ does c b TICK s t
  unfolding does act after
  tick_out h = rw (le-ltb s.ticks b h, does, act, after)

  pub halts : only t (halted Done s) ≡ does c b HALT s t
  unfolding does act after
  halts = refl

  -- ---- a push
  pub put_on : (n : ℕ) (v : ℤ) → length s.stack < stack_limit → only t (on n (pushed v s)) ≡ after b s t (push c v (s.at + n) s.stack s.held t)
  unfolding push after code_in
  put_on n v h = rw (lt-ltb (length s.stack) stack_limit h, push, after)

  pub put_out : (n : ℕ) (v : ℤ) → stack_limit ≤ length s.stack → only t (halted Broken s) ≡ after b s t (push c v (s.at + n) s.stack s.held t)
  unfolding push after code_in
  put_out n v h = rw (le-ltb (length s.stack) stack_limit h, push, after)

  pub const_is : (v : ℤ) → after b s t (push c v (s.at + 5) s.stack s.held t) ≡ does c b (CONST v) s t
  unfolding does act
  const_is v = refl

  load_in : (k : ℕ) → k < length t → load t k ≡ val (get_or t k (pos 0))
  unfolding load
  load_in k h = rw (lt-ltb k (length t) h, load)

  load-none : (k : ℕ) → length t ≤ k → load t k ≡ stop ill
  unfolding load
  load-none k h = rw (le-ltb k (length t) h, load)

  pub load_on : (k : ℕ) → k < length t → after b s t (push c (get_or t k (pos 0)) (s.at + 2) s.stack s.held t) ≡ does c b (LOAD k) s t
  unfolding does act push_r push push_e
  load_on k h = ap (λ (e : Ev). after b s t (push_r c e (s.at + 2) s.stack s.held t)) (sym (load_in k h))

  pub load_out : (k : ℕ) → length t ≤ k → only t (halted Broken s) ≡ does c b (LOAD k) s t
  unfolding does act push_r push_e after code_in
  load_out k h = by (ltb (length s.stack) stack_limit) ∙ ap (λ (e : Ev). after b s t (push_r c e (s.at + 2) s.stack s.held t)) (sym (load-none k h))
    where
      by : (d : Bool) → only t (halted Broken s) ≡ after b s t (elim d [ true ↦ end ill | false ↦ end ill ])
      by true = refl
      by false = refl

  pub span_is : (lo hi : ℤ) → 1 ≤ length s.stack → after b s t (push c (of_bool (between lo hi (top_of s.stack))) (s.at + 9) s.stack s.held t) ≡ does c b (SPAN lo hi) s t
  unfolding act
  span_is lo hi h = ap (λ (l : List ℤ). after b s t (push c (of_bool (between lo hi (top_of s.stack))) (s.at + 9) l s.held t)) (uncons s.stack h) ∙ one (SPAN lo hi) h

  pub span_none : (lo hi : ℤ) → length s.stack < 1 → only t (halted Broken s) ≡ does c b (SPAN lo hi) s t
  unfolding act after
  span_none lo hi h = nil (SPAN lo hi) h

  -- ---- DROP, HOLD
  pub drop_on : 1 ≤ length s.stack → only t (on 1 (popped s)) ≡ does c b DROP s t
  unfolding act after
  drop_on h = one DROP h

  pub drop-none : length s.stack < 1 → only t (halted Broken s) ≡ does c b DROP s t
  unfolding act after
  drop-none h = nil DROP h

  pub hold_on : (k : ℕ) → 1 ≤ length s.stack → k < length s.held → only t (on 2 (holding k (top_of s.stack) (popped s))) ≡ does c b (HOLD k) s t
  unfolding act after
  hold_on k h j = rw (← one (HOLD k) h, lt-ltb k (length s.held) j, act, after)

  pub hold_out : (k : ℕ) → 1 ≤ length s.stack → length s.held ≤ k → only t (halted Broken s) ≡ does c b (HOLD k) s t
  unfolding act after
  hold_out k h j = rw (← one (HOLD k) h, le-ltb k (length s.held) j, act, after)

  pub hold-none : (k : ℕ) → length s.stack < 1 → only t (halted Broken s) ≡ does c b (HOLD k) s t
  unfolding act after
  hold-none k h = nil (HOLD k) h

  -- ---- STORE
  pub store_on : (k : ℕ) → 1 ≤ length s.stack → k < length t → holds (get_or Γ k dint) (top_of s.stack) ≡ true → only (set t k (top_of s.stack)) (on 2 (popped s)) ≡ does c b (STORE k) s t
  unfolding act after storable code_in
  store_on k h j e = rw (← one (STORE k) h, lt-ltb k (length t) j, e, act, after, storable)

  pub store_not : (k : ℕ) → 1 ≤ length s.stack → k < length t → holds (get_or Γ k dint) (top_of s.stack) ≡ false → only t (halted Broken s) ≡ does c b (STORE k) s t
  unfolding act after storable code_in
  store_not k h j e = rw (← one (STORE k) h, lt-ltb k (length t) j, e, act, after, storable)

  pub store_out : (k : ℕ) → 1 ≤ length s.stack → length t ≤ k → only t (halted Broken s) ≡ does c b (STORE k) s t
  unfolding act after storable
  store_out k h j = rw (← one (STORE k) h, le-ltb k (length t) j, act, after, storable)

  pub store-none : (k : ℕ) → length s.stack < 1 → only t (halted Broken s) ≡ does c b (STORE k) s t
  unfolding act after
  store-none k h = nil (STORE k) h

  -- ---- operators
  pub answer_on : (v : ℤ) (l : List ℤ) → only t (on 1 (over (v ∷ l) s)) ≡ after b s t (push_e (val v) (s.at + 1) l s.held t)
  unfolding after push_e
  answer_on v l = refl

  pub answer_out : (e : Trap) (l : List ℤ) → only t (halted (stop_for e) s) ≡ after b s t (push_e (stop (trap_of e)) (s.at + 1) l s.held t)
  unfolding after push_e
  answer_out TrapRange l = refl
  answer_out TrapDivide l = refl
  answer_out Bad l = refl

  pub unary_on : (o : Un) → 1 ≤ length s.stack → after b s t (push_e (unop o (top_of s.stack)) (s.at + 1) (below s.stack) s.held t) ≡ does c b (UN o) s t
  unfolding act
  unary_on o h = one (UN o) h

  pub unary-none : (o : Un) → length s.stack < 1 → only t (halted Broken s) ≡ does c b (UN o) s t
  unfolding act after
  unary-none o h = nil (UN o) h

  short : (o : Bin) (l : List ℤ) → length l < 2 → only t (halted Broken s) ≡ after b s t (act c (BIN o) s.at l s.held t)
  unfolding act after
  short o [] h = refl
  short o (y ∷ []) h = refl
  short o (y ∷ x ∷ l) h = absurd (omega arith)

  long : (o : Bin) (l : List ℤ) → 2 ≤ length l → after b s t (push_e (binop o (top_of (below l)) (top_of l)) (s.at + 1) (below (below l)) s.held t) ≡ after b s t (act c (BIN o) s.at l s.held t)
  unfolding act
  long o [] h = absurd (omega arith)
  long o (y ∷ []) h = absurd (omega arith)
  long o (y ∷ x ∷ l) h = refl

  pub binary_on : (o : Bin) → 2 ≤ length s.stack → after b s t (push_e (binop o (top_of (below s.stack)) (top_of s.stack)) (s.at + 1) (below (below s.stack)) s.held t) ≡ does c b (BIN o) s t
  unfolding does
  binary_on o h = long o s.stack h

  pub binary_out : (o : Bin) → length s.stack < 2 → only t (halted Broken s) ≡ does c b (BIN o) s t
  unfolding does
  binary_out o h = short o s.stack h

  -- ---- jumps
  pub go_on : (to : ℕ) (l : List ℤ) (u : List ℤ) → may_land code s.at to ≡ true → only u (off to (over l s)) ≡ after b s t (jump_to c s.at to l s.held u)
  unfolding jump_to ok_jump after code_in
  go_on to l u e = rw (e, jump_to, ok_jump, after)

  pub go_out : (to : ℕ) (l : List ℤ) (u : List ℤ) → may_land code s.at to ≡ false → only t (halted Broken s) ≡ after b s t (jump_to c s.at to l s.held u)
  unfolding jump_to ok_jump after code_in
  go_out to l u e = rw (e, jump_to, ok_jump, after)

  pub jump_is : (to : ℕ) → after b s t (jump_to c s.at to s.stack s.held t) ≡ does c b (JUMP to) s t
  unfolding does act
  jump_is to = refl

  -- a branch: taken, not taken, and with nothing on the stack
  pub branch_on : (z : Bool) (a : ℕ) → 1 ≤ length s.stack → taken z (is_zero (top_of s.stack)) ≡ true
      → after b s t (jump_to c s.at a (below s.stack) s.held t) ≡ does c b (branch_of z a) s t
  unfolding act
  branch_on true a h e = rw (← one (JZ a) h, e, act)
  branch_on false a h e = rw (← one (JNZ a) h, not-true (is_zero (top_of s.stack)) e, act)

  pub branch_not : (z : Bool) (a : ℕ) → 1 ≤ length s.stack → taken z (is_zero (top_of s.stack)) ≡ false
      → only t (on 3 (popped s)) ≡ does c b (branch_of z a) s t
  unfolding act after
  branch_not true a h e = rw (← one (JZ a) h, e, act, after)
  branch_not false a h e = rw (← one (JNZ a) h, not-false (is_zero (top_of s.stack)) e, act, after)

  pub branch-none : (z : Bool) (a : ℕ) → length s.stack < 1 → only t (halted Broken s) ≡ does c b (branch_of z a) s t
  unfolding act after
  branch-none true a h = nil (JZ a) h
  branch-none false a h = nil (JNZ a) h

  -- ---- FIRST, NEXT: the machine has eight held values
  module _ (l : Loop) (eight : length s.held ≡ for_limit) where
    abbrev asks : Bool
    asks = may_count Γ t l.level l.slot l.step

    abbrev variable : ℤ
    variable = get_or t l.slot (pos 0)

    abbrev final : ℤ
    final = get_or s.held l.level (pos 0)

    held : Allowed Γ t l.level l.slot l.step → ltb l.level (length s.held) ≡ true
    held g = lt-ltb l.level (length s.held) (rw eight g.level)

    -- the level is too large, or the variable has no value for them
    data Cause : Type 0 where
      level : ltb l.level (length s.held) ≡ false → Cause
      other : ltb l.level (length s.held) ≡ true → load_d Γ t l.slot l.step ≡ stop ill → Cause

    cause : asks ≡ false → Cause
    cause e = by (ltb l.level (length s.held)) refl
      where
        by : (x : Bool) → ltb l.level (length s.held) ≡ x → Cause
        by false p = level p
        by true p = other p (unloaded Γ t l.level l.slot l.step (rw eight at (ltb-true l.level (length s.held) p)) e)

    pub first_bad : asks ≡ false → only t (halted Broken s) ≡ does c b (FIRST l.level l.slot l.step l.to) s t
    unfolding does act after first_on code_in
    first_bad e = elim (cause e) [ level p ↦ rw (p, does, act, after) | other p q ↦ rw (p, q, does, act, after, first_on) ]

    pub first_go : asks ≡ true → passes l.step variable final ≡ true
        → after b s t (jump_to c s.at l.to s.stack s.held t) ≡ does c b (FIRST l.level l.slot l.step l.to) s t
    unfolding does act first_on code_in
    first_go e f = let g = allowed Γ t l.level l.slot l.step e in rw (held g, loaded Γ t l.level l.slot l.step g, f, does, act, first_on)

    pub first_on_lem : asks ≡ true → passes l.step variable final ≡ false
        → only t (on 9 s) ≡ does c b (FIRST l.level l.slot l.step l.to) s t
    unfolding does act first_on code_in after
    first_on_lem e f = let g = allowed Γ t l.level l.slot l.step e in rw (held g, loaded Γ t l.level l.slot l.step g, f, does, act, first_on, after)

    pub next_bad : asks ≡ false → only t (halted Broken s) ≡ does c b (NEXT l.level l.slot l.step l.to) s t
    unfolding does act after next_on code_in
    next_bad e = elim (cause e) [ level p ↦ rw (p, does, act, after) | other p q ↦ rw (p, q, does, act, after, next_on) ]

    pub next_go : (x : ℤ) → asks ≡ true → passes l.step (variable +ℤ l.step) final ≡ false → variable +ℤ l.step ≡ x
        → after b s t (jump_to c s.at l.to s.stack s.held (set t l.slot x)) ≡ does c b (NEXT l.level l.slot l.step l.to) s t
    unfolding does act next_on code_in
    next_go x e f h = let g = allowed Γ t l.level l.slot l.step e in rw (held g, loaded Γ t l.level l.slot l.step g, f, h, does, act, next_on)

    pub next_on_lem : asks ≡ true → passes l.step (variable +ℤ l.step) final ≡ true
        → only t (on 9 s) ≡ does c b (NEXT l.level l.slot l.step l.to) s t
    unfolding does act next_on code_in after
    next_on_lem e f = let g = allowed Γ t l.level l.slot l.step e in rw (held g, loaded Γ t l.level l.slot l.step g, f, does, act, next_on, after)

-- a jump, if it may land there
pub jumps : (code : List ℕ) (m : Machine) (r : Result Machine Stop) (a : ℕ) → Jumps code r a m → (Γ : List Ty) (b : ℕ) (t : List ℤ)
    → only t (move m r) ≡ after b (view m) t (jump_to (code_in Γ code stack_limit) m.at a (view m).stack m.held t)
jumps code m (Ok n) a j Γ b t = rw j.1 (go_on Γ code b (view m) t a (view m).stack t j.0)
jumps code m (Err k) a j Γ b t = rw j.1 (go_out Γ code b (view m) t a (view m).stack t j.0)

-- ---- a whole step
module _ (Γ : List Ty) (code : List ℕ) (b : ℕ) (m : Machine) (t : List ℤ) where
  abbrev whole : Code
  whole = code_in Γ code stack_limit

  pub step_high : stack_limit < m.height → only t (halted Broken (view m)) ≡ stepped whole b m t
  unfolding stepped
  step_high h = rw (lt-leb m.height stack_limit h)

  pub step_none : m.height ≤ stack_limit → BAD ≡ decode (drop m.at code) → only t (halted Broken (view m)) ≡ stepped whole b m t
  unfolding stepped step act after code_in
  step_none k h = rw (le-leb m.height stack_limit k, step) (by (ltb m.at (length code)))
    where
      by : (d : Bool) → only t (halted Broken (view m)) ≡ after b (view m) t (elim d [ true ↦ act whole (decode (drop m.at code)) m.at (view m).stack m.held t | false ↦ end ill ])
      by true = rw (← h)
      by false = refl

  pub step_is : {a : After} {i : Instr} → m.height ≤ stack_limit → m.at < length code
      → a ≡ does whole b i (view m) t → i ≡ decode (drop m.at code) → a ≡ stepped whole b m t
  unfolding stepped step does after code_in
  step_is k h p q =
      rw (le-leb m.height stack_limit k, lt-ltb m.at (length code) h, step, after) (p ∙ ap (λ (i : Instr). does whole b i (view m) t) q)

  -- of a machine within the limit a step is the rules'
  pub step_within : m.height ≤ stack_limit → stepped whole b m t ≡ after b (view m) t (step whole (state m.at (view m).stack m.held t))
  unfolding stepped
  step_within k = rw (le-leb m.height stack_limit k)
