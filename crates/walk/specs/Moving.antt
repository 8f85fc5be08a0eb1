-- What the methods of the walk leave of it.
use Rattle.std.specs.Prelude.{⊤, ◌≡◌, Bool, true, false, List, ℕ, Result, Ok, Err, length}
use Rattle.rules.specs.declared.compiling.Fault.{Fault}
use Rattle.rules.specs.declared.compiling.Refusal.{Refusal}
use Rattle.rules.specs.KindNumbers.{kind_number}
use Rattle.rules.specs.declared.kinds.Kind.{Kind}
use Rattle.rules.specs.declared.kinds.Kind.TheVariants.{Finish}
use Rattle.walk.specs.Places.{Step, at}
use Rattle.walk.specs.Steps.{skipped, extended, written, Moves}
use Rattle.walk.specs.Operands.{pushed, pushed_to}
use Rattle.walk.specs.declared.scope.Scope.{Scope}
use Rattle.walk.specs.declared.steps.Walk.{Walk}

-- the numbers that were lent are still those, and as many
pub record Keeps (old new : Walk) : Type 0 where
  pub lent : new.memory.ghost_name ≡ old.memory.ghost_name
  pub long : length new.memory.now ≡ length old.memory.now

-- past the cell ahead
pub record Skips (old new : Walk) : Type 0 where
  pub lent : new.memory.ghost_name ≡ old.memory.ghost_name
  pub numbers : new.memory.now ≡ old.memory.now
  pub step : at new ≡ skipped old.memory.now (at old)
  pub top : new.top ≡ old.top

-- a cell is written, from a step on
pub record Writes (old : Walk) (s : Step) (cell : List ℕ) (new : Walk) : Type 0 where
  pub lent : new.memory.ghost_name ≡ old.memory.ghost_name
  pub step : at new ≡ extended old.memory.now s
  pub numbers : new.memory.now ≡ written old.memory.now s cell
  pub long : length new.memory.now ≡ length old.memory.now
  pub top : new.top ≡ old.top

-- numbers are put where the stack of operands ends
pub record Pushes (old : Walk) (two : List ℕ) (new : Walk) : Type 0 where
  pub lent : new.memory.ghost_name ≡ old.memory.ghost_name
  pub numbers : new.memory.now ≡ pushed old.memory.now old.top two
  pub long : length new.memory.now ≡ length old.memory.now
  pub step : at new ≡ at old
  pub top : new.top ≡ pushed_to (length old.memory.now) old.top

-- a test: it holds, or this is the refusal
unfoldable pub tested : Bool → Fault → ℕ → Result ⊤ Refusal
tested true fault place = Ok tt
tested false fault place = Err (record { fault = fault; place = place })

-- a number is that of this kind, or of none
pub data Tells (tag : ℕ) : Kind → Type 0 where
  known : {kind : Kind} → kind_number kind ≡ tag → Tells tag kind
  unknown : ((kind : Kind) → tag ≡ kind_number kind → ⊥) → Tells tag Finish

-- from where it stood the walk went on to this end, by so many numbers, and did what is meant
abbrev pub Goes : ℕ → Walk → Walk → Step → (List ℕ → List ℕ → Step → Step → Type 0) → Type 0
Goes by old new end Means = Moves by old.memory.now new.memory.now (at old) end × Means old.memory.now new.memory.now (at old) end

-- what is meant within a scope: its text, its names, the slots that are taken, and whether a loop is around
abbrev pub Within : Scope → (List ℕ → ℕ → List Bool → Bool → List ℕ → List ℕ → Step → Step → Type 0) → List ℕ → List ℕ → Step → Step → Type 0
Within scope Means = Means scope.text.now scope.names scope.taken scope.inside
