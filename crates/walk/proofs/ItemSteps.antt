-- Further laws on how the steps of the code follow the rules, for the cells of expressions: answers, what is known where the walk stands, and operands that are stacked. Assumes nothing.
use mathlib.Core.Path.{◌≡◌, refl, ap}
use mathlib.Core.List.{List, [], ◌∷◌, ◌++◌, append-nil}
use Prim.Native.Nat.{ℕ, ◌+◌, ◌≤◌}
use native.Mathlib.Nat.{add-zero}
use native.Mathlib.Omega.{arith}
use lib.ListN.{length, length-append, length-drop}
use lib.Seq.{sets}
use Rattle.rules.specs.Limits.{memory_numbers, token_numbers}
use Rattle.rules.specs.Base.{Res, ok, refuse, ◌>>=◌}
use Rattle.rules.specs.Cells.{cell, type_kind}
use Rattle.names.specs.Rows.{rows_from}
use Rattle.names.specs.Laws.{plainly}
use Rattle.walk.specs.Steps.{stack_start, kept, extended, written}
use Rattle.walk.specs.Operands.{capped, pushed, pushed_to}
use Rattle.walk.specs.Items.{Operand}
use Rattle.walk.specs.Walking.{Scope, Ready, Walked, went, fell, Did, walks, stays, Nothing, nothing, When}
use Rattle.walk.specs.Stacking.{Stack, Stacks}
use Rattle.walk.specs.Places.{Step, Ok, Bad, Inside}
use Rattle.walk.proofs.Moves.{kept_short}
use Rattle.walk.proofs.Follow.{Ends, on, off, bind, writes, still_written}
use Rattle.walk.proofs.Knowing.{knowing}
use Rattle.walk.proofs.OperandStack.{stack_top, stack-written, stack-pushed, kept_pushed, length-pushed, length-written}

-- What is asked of an answer

-- a part of the walk, of which it is also known that the rules give its answer
pub given : {σ : Scope} {Given : Type 0} {A : Type 0} {Q : A → Type 0} {encode : A → List ℕ} {gain : ℕ} {cells m m' : List ℕ} {s r : Step} {R : Res A}
    → Did σ Given Q encode gain cells m m' s r R → Did σ Given (λ x. Q x × (R ≡ ok x)) encode gain cells m m' s r R
given stays = stays
given {σ} {Given} {A} {Q} {encode} {gain} {cells} {m} {m'} {R} (walks {at} {free} {r} d) = walks (λ g y. go (d g y))
  where
    go : {r : Step} {S : Res A} → Walked Q encode gain (length cells) m m' at free r S → Walked (λ x. Q x × (S ≡ ok x)) encode gain (length cells) m m' at free r S
    go (went x q l k e) = went x (q, refl) l k e
    go fell = fell

-- of the answer less is asked
pub also : {σ : Scope} {Given : Type 0} {A : Type 0} {P Q : A → Type 0} {encode : A → List ℕ} {gain : ℕ} {cells m m' : List ℕ} {s r : Step} {R : Res A}
    → ((x : A) → P x → Q x) → Did σ Given P encode gain cells m m' s r R → Did σ Given Q encode gain cells m m' s r R
also h stays = stays
also {A} {P} {Q} {encode} {gain} {cells} {m} {m'} h (walks {at} {free} d) = walks (λ g y. go (d g y))
  where
    go : {r : Step} {S : Res A} → Walked P encode gain (length cells) m m' at free r S → Walked Q encode gain (length cells) m m' at free r S
    go (went x q l k e) = went x (h x q) l k e
    go fell = fell

-- the rules' answer tells what was written
pub answers : {σ : Scope} {Given : Type 0} {A B : Type 0} {Q : B → Type 0} {encode : B → List ℕ} {gain : ℕ} {cells m m' : List ℕ} {s r : Step} (f : A → B) (R : Res A)
    → Did σ Given Q encode gain cells m m' s r (◌>>=◌ R (λ a. ok (f a))) → Did σ Given (λ a. Q (f a)) (λ a. encode (f a)) gain cells m m' s r R
unfolding ◌>>=◌
answers f R stays = stays
answers {A} {B} {Q} {encode} {gain} {cells} {m} {m'} f R (walks {at} {free} d) = walks (λ g y. go R refl (d g y))
  where
    arrives : (a : A) (x : B) → f a ≡ x → Q x → length m' ≡ length m → kept m' ≡ sets (kept m) free (encode x) → length (encode x) + gain ≤ length cells
        → Walked (λ a. Q (f a)) (λ a. encode (f a)) gain (length cells) m m' at free (Ok (at + length cells) (free + length (encode x))) (ok a)
    arrives a x h q l k e = rw (← h) (went a (rw (← h) at q) l (rw (← h) at k) (rw (← h) at e))

    falls : {n p : ℕ} (o q : ℕ) → n ≡ o → p ≡ q → Walked (λ a. Q (f a)) (λ a. encode (f a)) gain (length cells) m m' at free (Bad n p) (refuse o q)
    falls o q h k = rw (h, k) fell

    go : {r : Step} (R : Res A) {S : Res B} → S ≡ ◌>>=◌ R (λ a. ok (f a)) → Walked Q encode gain (length cells) m m' at free r S → Walked (λ a. Q (f a)) (λ a. encode (f a)) gain (length cells) m m' at free r R
    go (ok a) s (went x q l k e) = arrives a x (cc) q l k e
    go (ok a) s fell = absurd cc
    go (refuse n p) s (went x q l k e) = absurd cc
    go (refuse n p) s fell = falls n p (cc) (cc)

-- What is known where the walk stands

-- what is ahead is no longer than a tree, and the names in memory are the variables'
pub record Known (σ : Scope) (m w : List ℕ) : Type 0 where
  pub short : token_numbers + length w ≤ stack_start
  pub table : rows_from σ.text m 0 σ.count ≡ plainly σ.vars

known : {σ : Scope} {m w : List ℕ} {at free : ℕ} → Ready σ m at free w → Known σ m w
known {σ} {m} {w} {at} {free} y = record { short = short; table = y.table }
  where
    short : token_numbers + length w ≤ stack_start
    short =
        let e = ap (λ (l : List ℕ). length l) y.ahead in
        let d = length-drop at (kept m) in
        let a = length-append w y.rest in
        let k = kept_short m in
        let b = y.low in
        let c = y.room in
        let f = y.within in
        omega arith

-- Operands

-- an operand's numbers are put where the stack ends, and there is room for them
pub record Puts (m : List ℕ) (end a b : ℕ) (o : Operand) (os : List Operand) : Type 0 where
  pub kind : a ≡ type_kind o.type
  pub height : b ≡ capped o.height
  pub stack : Stack m end os
  pub room : end + 2 ≤ memory_numbers

-- then they are the last one's
put : {σ : Scope} {m m₁ : List ℕ} {end top a b : ℕ} {o : Operand} {os : List Operand} (s : Step) → m₁ ≡ pushed m end (a ∷ b ∷ []) → top ≡ pushed_to (length m) end → When s (Puts m end a b o os)
    → Did σ Nothing (λ _. Stack m₁ top (o ∷ os)) nothing 0 [] m m₁ s s (ok (tt {0}))
put (Bad n p) e t h = stays
put {σ} {m} {m₁} {end} {top} {a} {b} {o} {os} (Ok at free) e t h = walks (λ g y. rw (add-zero at, add-zero free) at (ends (h at free refl) y))
  where
    ends : Puts m end a b o os → Ready σ m at free [] → Walked (λ _. Stack m₁ top (o ∷ os)) nothing 0 0 m m₁ at free (Ok (at + 0) (free + 0)) (ok (tt {0}))
    ends z y =
        let l = y.long in
        let r = z.room in
        let f = stack_top z.stack in
        went (tt {0}) (rw (e, t, z.kind, z.height) (stack-pushed m end o (omega arith) z.stack)) (rw e (length-pushed m end _)) (rw e (kept_pushed m end _ (omega arith))) (omega arith)

module _ {σ : Scope} {m₀ : List ℕ} {at₀ free₀ : ℕ} {B : Type 0} {Q : B → Type 0} {encode : B → List ℕ} {gain used : ℕ} {mₑ : List ℕ} {r : Step} where
  -- nothing follows
  pub alone : (a : List ℕ) {slack : ℕ} {v m : List ℕ} {s : Step} {R : Res B} → Ends σ m₀ at₀ free₀ Q encode gain used mₑ r slack v (a ++ []) m s R → Ends σ m₀ at₀ free₀ Q encode gain used mₑ r slack v a m s R
  alone a k = rw (append-nil a) at k

  -- where the walk can't be, the rules may say anything
  pub nowhere : {slack : ℕ} {v w m : List ℕ} {s : Step} {R S : Res B} → When s ⊥ → Ends σ m₀ at₀ free₀ Q encode gain used mₑ r slack v w m s R → Ends σ m₀ at₀ free₀ Q encode gain used mₑ r slack v w m s S
  nowhere h (on {at} {free} k) = absurd (h at free refl)
  nowhere h (off e) = off e

  -- what is known of memory, and of the cells ahead
  pub knows : {slack : ℕ} {v w m : List ℕ} {s : Step} {R : Res B} → (When s (Known σ m w) → Ends σ m₀ at₀ free₀ Q encode gain used mₑ r slack v w m s R)
      → Ends σ m₀ at₀ free₀ Q encode gain used mₑ r slack v w m s R
  knows = knowing (λ a f e y. known y.ready)

  -- a cell is written, and an operand put where the stack ends
  pub stacks : {slack : ℕ} {v w m m₁ c : List ℕ} {s : Step} {i : Inside} {R : Res B} {a b end : ℕ} (t p d : ℕ) (o : Operand) {os : List Operand}
      → Stacks m m₁ s end c (a ∷ b ∷ []) i → When s (c ≡ cell t p d) → When s (Puts m end a b o os)
      → (When i.step (Stack m₁ i.top (o ∷ os)) → Ends σ m₀ at₀ free₀ Q encode gain used mₑ r slack (v ++ cell t p d) w m₁ i.step R)
      → Ends σ m₀ at₀ free₀ Q encode gain used mₑ r (slack + 3) v w m s R
  unfolding ◌>>=◌
  stacks {slack} {v} {w} {m} {m₁} {c} {s} {i} {R} {a} {b} {end} t p d o {os} e h f k =
      writes {m₁ = written m s c} {c = c} {s₁ = extended m s} t p d (refl, refl) h
      (bind (tt {0}) {K = λ _. R} {a = []} (put (extended m s) e.numbers (rw (length-written m s c) e.top) (still_written m refl behind)) (λ _ _ _. tt)
      (λ x q. rw (add-zero slack, append-nil (v ++ cell t p d), ← e.step) (k (rw e.step q))))
    where
      behind : When s (Puts (written m s c) end a b o os)
      behind at free z = let y = f at free z in record { kind = y.kind; height = y.height; stack = rw (h at free z) (stack-written s t p d y.stack); room = y.room }
