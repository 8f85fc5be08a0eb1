-- What passes a refusal along: a test that fails, `?`, and the rest of a chain that is not run. Assumes nothing.
use mathlib.Core.Path.{◌≡◌, refl, sym, ap, ◌∙◌}
use mathlib.Core.Bool.{Bool, true, false}
use mathlib.Core.List.{List}
use Prim.Native.Nat.{ℕ, ◌-◌, ◌≤◌}
use native.Mathlib.Omega.{arith}
use lib.Dec.{eqb}
use lib.ListN.{length}
use borrow.Author.Tests.{eqb-true, eqb-false}
use Rattle.std.specs.Prelude.{⊤, Result, Ok as Done, Err, IsErrAnd}
use Rattle.rules.specs.Base.{Res}
use Rattle.rules.specs.Answers.{fault_number}
use Rattle.rules.specs.declared.compiling.Fault.{Fault}
use Rattle.rules.specs.declared.compiling.Refusal.{Refusal}
use Rattle.rules.specs.Bytes.{to_u}
use Rattle.rules.specs.Numbers.{of_bool}
use Rattle.rules.specs.KindNumbers.{kind_number}
use Rattle.rules.specs.declared.kinds.Kind.{Kind}
use Rattle.rules.specs.declared.kinds.Kind.TheVariants.{Finish}
use Rattle.rules.proofs.KindLaws.{one_kind}
use mir.Val.{bool_byte}
use Rattle.walk.specs.Places.{Step, Ok, Bad, at, refused}
use Rattle.walk.specs.declared.steps.Walk.{Walk}
use Rattle.walk.specs.Steps.{skipped, refused_at, checked, extended, written, left}
use Rattle.walk.specs.Moving.{tested, Tells, known, unknown, Keeps, Skips, Writes}
use Rattle.walk.specs.Walking.{Scope, Walked, fell, Did, walks, stays}

-- `?` passes the refusal along as it is
pub passed_on : {A : Type 0} {e : Refusal} (r : Result A Refusal) → IsErrAnd r (λ x. x ≡ e) → r ≡ Err e
passed_on (Done a) h = absurd h
passed_on (Err x) h = ap Err h

-- a test that held
pub held : (b : Bool) (f : Fault) (p : ℕ) {u : ⊤} (s : Step) → Done u ≡ tested b f p → s ≡ checked b (fault_number f) p s
unfolding checked tested
held true f p s e = refl
held false f p s e = let z : ◌≡◌ {A = ℕ} 0 1 = cc in absurd (omega arith)

pub told : (b : Bool) (f : Fault) (p : ℕ) {u : ⊤} → Done u ≡ tested b f p → b ≡ true
unfolding tested
told true f p e = refl
told false f p e = let z : ◌≡◌ {A = ℕ} 0 1 = cc in absurd (omega arith)

-- a test that failed
pub failed : (b : Bool) (f : Fault) (p : ℕ) {e : Refusal} (at free : ℕ) → Err e ≡ tested b f p → refused e ≡ checked b (fault_number f) p (Ok at free)
unfolding checked refused_at tested
failed true f p at free h = let z : ◌≡◌ {A = ℕ} 0 1 = cc in absurd (omega arith)
failed false f p at free h = by (cc)
  where
    by : {e : Refusal} → e ≡ record { fault = f; place = p } → refused e ≡ Bad (fault_number f) p
    by h = rw h

-- a refusal is as far as one comes
pub moved : (n p : ℕ) (m m' : List ℕ) (s : Step) → left m' (Bad n p) ≤ left m s - 3
unfolding left
moved n p m m' s = omega arith

pub ended : (n p : ℕ) (m m' : List ℕ) (s : Step) → left m' (Bad n p) ≤ left m s - 0
unfolding left
ended n p m m' s = omega arith

-- Behind a refusal nothing is done
module _ {n p : ℕ} where
  pub no_check : (b : Bool) (k q : ℕ) → Bad n p ≡ checked b k q (Bad n p)
  unfolding checked refused_at
  no_check true k q = refl
  no_check false k q = refl

  pub no_skip : (m : List ℕ) → Bad n p ≡ skipped m (Bad n p)
  unfolding skipped
  no_skip m = refl

  pub no_write : (m c : List ℕ) → (Bad n p ≡ extended m (Bad n p)) × (m ≡ written m (Bad n p) c)
  unfolding extended written
  no_write m c = (refl, refl)

  -- what is known of an answer, or of memory, does not matter
  pub any_answer : {σ : Scope} {Given : Type 0} {A : Type 0} {P Q : A → Type 0} {encode : A → List ℕ} {gain : ℕ} {cells m m' m₂ : List ℕ} {s : Step} {R : Res A}
      → Did σ Given P encode gain cells m m' s (Bad n p) R → Did σ Given Q encode gain cells m m₂ s (Bad n p) R
  any_answer {A} {P} {Q} {encode} {gain} {cells} {m} {m'} {m₂} (walks {at} {free} d) = walks (λ g y. go (d g y))
    where
      go : {R : Res A} → Walked P encode gain (length cells) m m' at free (Bad n p) R → Walked Q encode gain (length cells) m m₂ at free (Bad n p) R
      go fell = fell
  any_answer stays = stays

-- What a match on a kind says of the number
module _ {n : ℕ} where
  pub is_kind : {k : Kind} → Tells n k → (j : Kind) → k ≡ j → (j ≡ Finish → ⊥) → n ≡ kind_number j
  is_kind (known e) j f h = sym e ∙ ap kind_number f
  is_kind (unknown l) j f h = absurd (h (sym f))

  pub no_kind : {k : Kind} → Tells n k → (j : Kind) → (k ≡ j → ⊥) → n ≡ kind_number j → ⊥
  no_kind {k} (known e) j h f = h (one_kind k j (e ∙ f))
  no_kind (unknown l) j h f = l j f

-- TRUE is 1, and FALSE 0
pub truth_byte : (b : Bool) → bool_byte b ≡ to_u (of_bool b)
unfolding to_u of_bool
truth_byte true = refl
truth_byte false = refl

-- what a test of numbers says of them
pub same : {b : Bool} (i j : ℕ) → b ≡ eqb i j → b ≡ true → i ≡ j
same i j e h = eqb-true i j (sym e ∙ h)

pub other : {b : Bool} (i j : ℕ) → b ≡ eqb i j → b ≡ false → i ≡ j → ⊥
other i j e h = eqb-false i j (sym e ∙ h)

-- What was written and skipped, where memory was known to be m
pub wrote : {old new : Walk} {s : Step} {c : List ℕ} {m : List ℕ} → old.memory.now ≡ m → Writes old s c new → (at new ≡ extended m s) × (new.memory.now ≡ written m s c)
wrote e w = rw (← e) (w.step, w.numbers)

pub past : {old new : Walk} {m : List ℕ} → old.memory.now ≡ m → Skips old new → at new ≡ skipped m (at old)
past e k = rw (← e) k.step

-- what is kept by one after the other
pub keeps_on : {a b d : Walk} → Keeps a b → Keeps b d → Keeps a d
keeps_on h k = record { lent = k.lent ∙ h.lent; long = k.long ∙ h.long }

pub keeps_skip : {a b : Walk} → Skips a b → Keeps a b
keeps_skip k = record { lent = k.lent; long = ap (λ (l : List ℕ). length l) k.numbers }
