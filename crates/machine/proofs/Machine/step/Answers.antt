use mathlib.Core.Path.{◌≡◌, refl, sym, ap, ◌∙◌}
use mathlib.Core.List.{List}
use Prim.Native.Nat.{ℕ, ◌≤◌, ◌<◌}
use native.Mathlib.Omega.{arith}
use lib.ListN.{length, drop}
use mir.Syntax.{w32}
use mir.Val.{to_z, of_z}
use borrow.Author.Rules.{rules}
use Rattle.rules.specs.Limits.{stack_limit}
use Rattle.rules.specs.Codes.{Instr, CONST, length_of, decode}
use Rattle.rules.specs.Meaning.{Table}
use Rattle.rules.specs.Machine.{code_in}
use Rattle.variables.specs.Slots.{types_in}
use Rattle.codes.specs.Table.{instr_of}
use Rattle.codes.specs.declared.Instruction.{Instruction}
use Rattle.codes.proofs.Table.{within, there}
use Rattle.machine.specs.Stepping.{After, view, does, stepped, Ready}
use Rattle.machine.specs.declared.Machine.{Machine}
use Rattle.machine.proofs.Moves.{halts, const_is, jump_is, jumps, step_high, step_none, step_is}
use Rattle.machine.proofs.Machine.step.Goals as goal

-- the instruction that stands there may be carried out, as its bytes are there
may : (code : List ℕ) (m : Machine) (i : Instruction) {o : Instr} → m.height ≤ stack_limit → length code < 18446744073709551616
    → instr_of i ≡ decode (drop m.at code) → instr_of i ≡ o → Ready (length_of o) m
may code m i h f e p =
    let inside = within code m.at (there code m.at i e) in
    record { height = h; at = rw (← p, e) (omega (arith, inside, f)) }

-- what an arm came to is the step
did : (vars code : List ℕ) (b : ℕ) (m : Machine) (t : Table) {a : After} (i : Instruction) {o : Instr} → m.height ≤ stack_limit
    → instr_of i ≡ decode (drop m.at code) → instr_of i ≡ o → a ≡ does (code_in (types_in vars) code stack_limit) b o (view m) t
    → a ≡ stepped (code_in (types_in vars) code stack_limit) b m t
did vars code b m t i h e p q = step_is (types_in vars) code b m t h (there code m.at i e) q (sym p ∙ e)

pub returns-then-self-gt-STACK : goal.returns-then-self-gt-STACK
returns-then-self-gt-STACK c = step_high (types_in c.args.vars.now) c.args.code.now _ c.args.self _ c.if-self-gt-STACK.true

pub returns-in_default : goal.returns-in_default
returns-in_default c = step_none (types_in c.args.vars.now) c.args.code.now _ c.args.self _ c.if-self-gt-STACK.false c.in_default.ensures

pub tick-requires : goal.tick-requires
tick-requires c = may c.args.code.now c.args.self _ c.if-self-gt-STACK.false (search rules) c.in-Some.ensures (ap instr_of c.in-Tick.is)

pub put-requires : goal.put-requires
put-requires c = may c.args.code.now c.args.self _ c.if-self-gt-STACK.false (search rules) c.in-Some.ensures (ap instr_of c.in-Const.is)

pub load-requires : goal.load-requires
load-requires c = may c.args.code.now c.args.self _ c.if-self-gt-STACK.false (search rules) c.in-Some.ensures (ap instr_of c.in-Load.is)

pub store-requires : goal.store-requires
store-requires c = may c.args.code.now c.args.self _ c.if-self-gt-STACK.false (search rules) c.in-Some.ensures (ap instr_of c.in-Store.is)

pub unary-requires : goal.unary-requires
unary-requires c = may c.args.code.now c.args.self _ c.if-self-gt-STACK.false (search rules) c.in-Some.ensures (ap instr_of c.in-Unary.is)

pub binary-requires : goal.binary-requires
binary-requires c = may c.args.code.now c.args.self _ c.if-self-gt-STACK.false (search rules) c.in-Some.ensures (ap instr_of c.in-Binary.is)

pub branch-self-requires : goal.branch-self-requires
branch-self-requires c = may c.args.code.now c.args.self _ c.if-self-gt-STACK.false (search rules) c.in-Some.ensures (ap instr_of c.in-JumpZero.is)

pub branch-self-requires-in-JumpNot : goal.branch-self-requires-in-JumpNot
branch-self-requires-in-JumpNot c = may c.args.code.now c.args.self _ c.if-self-gt-STACK.false (search rules) c.in-Some.ensures (ap instr_of c.in-JumpNot.is)

pub span-requires : goal.span-requires
span-requires c = may c.args.code.now c.args.self _ c.if-self-gt-STACK.false (search rules) c.in-Some.ensures (ap instr_of c.in-Span.is)

pub discard-requires : goal.discard-requires
discard-requires c = may c.args.code.now c.args.self _ c.if-self-gt-STACK.false (search rules) c.in-Some.ensures (ap instr_of c.in-Drop.is)

pub keep-requires : goal.keep-requires
keep-requires c = may c.args.code.now c.args.self _ c.if-self-gt-STACK.false (search rules) c.in-Some.ensures (ap instr_of c.in-Hold.is)

pub first-requires : goal.first-requires
first-requires c = may c.args.code.now c.args.self _ c.if-self-gt-STACK.false (search rules) c.in-Some.ensures (ap instr_of c.in-First.is)

pub next-requires : goal.next-requires
next-requires c = may c.args.code.now c.args.self _ c.if-self-gt-STACK.false (search rules) c.in-Some.ensures (ap instr_of c.in-Next.is)

pub returns-in-Tick : goal.returns-in-Tick
returns-in-Tick c =
    did c.args.vars.now c.args.code.now c.args.budget c.args.self c.args.table.now _ c.if-self-gt-STACK.false c.in-Some.ensures (ap instr_of c.in-Tick.is) (c.tick.ensures _ _ _)

pub returns-in-Const : goal.returns-in-Const
returns-in-Const c =
    let z = c.in-Const.v in
    let v : to_z w32 (of_z w32 z) ≡ z = search rules in
    did c.args.vars.now c.args.code.now c.args.budget c.args.self c.args.table.now _ c.if-self-gt-STACK.false c.in-Some.ensures (ap instr_of c.in-Const.is ∙ ap CONST (sym v)) (c.put.ensures _ _ _ _ ∙ const_is (types_in c.args.vars.now) c.args.code.now c.args.budget (view c.args.self) c.args.table.now _)

pub returns-in-Load : goal.returns-in-Load
returns-in-Load c =
    did c.args.vars.now c.args.code.now c.args.budget c.args.self c.args.table.now _ c.if-self-gt-STACK.false c.in-Some.ensures (ap instr_of c.in-Load.is) (c.load.ensures _ _ _)

pub returns-in-Store : goal.returns-in-Store
returns-in-Store c =
    did c.args.vars.now c.args.code.now c.args.budget c.args.self c.args.table.now _ c.if-self-gt-STACK.false c.in-Some.ensures (ap instr_of c.in-Store.is) (c.store.ensures _ _)

pub returns-in-Unary : goal.returns-in-Unary
returns-in-Unary c =
    did c.args.vars.now c.args.code.now c.args.budget c.args.self c.args.table.now _ c.if-self-gt-STACK.false c.in-Some.ensures (ap instr_of c.in-Unary.is) (c.unary.ensures _ _ _ _)

pub returns-in-Binary : goal.returns-in-Binary
returns-in-Binary c =
    did c.args.vars.now c.args.code.now c.args.budget c.args.self c.args.table.now _ c.if-self-gt-STACK.false c.in-Some.ensures (ap instr_of c.in-Binary.is) (c.binary.ensures _ _ _ _)

pub returns-in-Jump : goal.returns-in-Jump
returns-in-Jump c =
    did c.args.vars.now c.args.code.now c.args.budget c.args.self c.args.table.now _ c.if-self-gt-STACK.false c.in-Some.ensures (ap instr_of c.in-Jump.is) (jumps c.args.code.now c.args.self _ _ c.jump.ensures _ _ _ ∙ jump_is (types_in c.args.vars.now) c.args.code.now c.args.budget (view c.args.self) c.args.table.now _)

pub returns-in-JumpZero : goal.returns-in-JumpZero
returns-in-JumpZero c =
    did c.args.vars.now c.args.code.now c.args.budget c.args.self c.args.table.now _ c.if-self-gt-STACK.false c.in-Some.ensures (ap instr_of c.in-JumpZero.is) (c.branch-self.ensures _ _ _)

pub returns-in-JumpNot : goal.returns-in-JumpNot
returns-in-JumpNot c =
    did c.args.vars.now c.args.code.now c.args.budget c.args.self c.args.table.now _ c.if-self-gt-STACK.false c.in-Some.ensures (ap instr_of c.in-JumpNot.is) (c.branch-self-in-JumpNot.ensures _ _ _)

pub returns-in-Span : goal.returns-in-Span
returns-in-Span c =
    let x = c.in-Span.lowest in
    let y = c.in-Span.highest in
    let v : to_z w32 (of_z w32 x) ≡ x = search rules in
    let w : to_z w32 (of_z w32 y) ≡ y = search rules in
    did c.args.vars.now c.args.code.now c.args.budget c.args.self c.args.table.now _ c.if-self-gt-STACK.false c.in-Some.ensures (ap instr_of c.in-Span.is ∙ rw (v, w) refl) (c.span.ensures _ _ _ _)

pub returns-in-Drop : goal.returns-in-Drop
returns-in-Drop c =
    did c.args.vars.now c.args.code.now c.args.budget c.args.self c.args.table.now _ c.if-self-gt-STACK.false c.in-Some.ensures (ap instr_of c.in-Drop.is) (c.discard.ensures _ _ _ _)

pub returns-in-Hold : goal.returns-in-Hold
returns-in-Hold c =
    did c.args.vars.now c.args.code.now c.args.budget c.args.self c.args.table.now _ c.if-self-gt-STACK.false c.in-Some.ensures (ap instr_of c.in-Hold.is) (c.keep.ensures _ _ _ _)

pub returns-in-First : goal.returns-in-First
returns-in-First c =
    did c.args.vars.now c.args.code.now c.args.budget c.args.self c.args.table.now _ c.if-self-gt-STACK.false c.in-Some.ensures (ap instr_of c.in-First.is) (c.first.ensures _)

pub returns-in-Next : goal.returns-in-Next
returns-in-Next c =
    did c.args.vars.now c.args.code.now c.args.budget c.args.self c.args.table.now _ c.if-self-gt-STACK.false c.in-Some.ensures (ap instr_of c.in-Next.is) (c.next.ensures _)

pub returns-in-Halt : goal.returns-in-Halt
returns-in-Halt c =
    did c.args.vars.now c.args.code.now c.args.budget c.args.self c.args.table.now _ c.if-self-gt-STACK.false c.in-Some.ensures (ap instr_of c.in-Halt.is) (halts (types_in c.args.vars.now) c.args.code.now c.args.budget (view c.args.self) c.args.table.now)
