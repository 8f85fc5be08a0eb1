-- The code for each kind of cell of an expression does what the rules say of it. Assumes nothing.
use mathlib.Core.Path.{◌≡◌, refl, sym, ap, ◌∙◌}
use mathlib.Core.Bool.{Bool, not, ◌&&◌}
use mathlib.Core.List.{List, [], ◌∷◌}
use mathlib.Core.Option.{Option, some}
use Prim.Native.Nat.{ℕ, suc, ◌+◌, ◌*◌, ◌-◌, ◌≤◌, max}
use native.Mathlib.Omega.{arith}
use lib.Dec.{eqb, leb, ltb}
use lib.ListN.{length, get_or}
use Rattle.rules.specs.Limits.{memory_numbers}
use Rattle.rules.specs.Base.{Res, ok, refuse, ◌>>=◌, need}
use Rattle.rules.specs.Numbers.{bool, dint, same_ty, of_bool}
use Rattle.rules.specs.Bytes.{to_u}
use Rattle.rules.specs.Kinds.{NAME, INT, BOOL, DINT, OPEN}
use Rattle.rules.specs.Core.{Bin, result}
use Rattle.rules.specs.Codes.{bin_code}
use Rattle.rules.specs.Syntax.{Name, Sign}
use Rattle.rules.specs.Walk.{Var, Slot, find, is_none, known, largest, takes, sign_ty}
use Rattle.rules.specs.Cells.{cell, name_cell, type_kind, truth_kind, sign_code, UNARY, BINARY}
use Rattle.names.specs.Rows.{spelling, type_of, rows_from}
use Rattle.walk.proofs.Slots.{slot_or}
use Rattle.names.specs.Laws.{found_type}
use Rattle.theorems.specs.WellTyped.{same-ty}
use Rattle.theorems.specs.Spelling.{Spelled}
use Rattle.walk.specs.Steps.{checked, extended, written}
use Rattle.walk.specs.Operands.{capped, higher}
use Rattle.walk.specs.Items.{name_i, whole_i, truth_i, paren_i, sign_i, binary_i, item_cell, Operand, operand, Stacked, stacked, sign_cell, item_does, taken_kind, given_kind, sign_kind}
use Rattle.walk.specs.Walking.{Scope, Did, When}
use Rattle.walk.specs.Promises.{scope}
use Rattle.walk.specs.Stacking.{Stack, Stacks, ItemIn, name_in, Before, Behind, ItemDone, Read, VariableMeans, SignMeans, OperationMeans, sign_place}
use Rattle.walk.specs.Places.{Step, Inside}
use Rattle.cells.specs.declared.cell.Cell.{Cell}
use Rattle.walk.proofs.Follow.{place_of, free_of, Ends, begin, gives, checks, looks, skips, writes, still_checked, still_skipped, still_written}
use Rattle.walk.proofs.Knowing.{passed}
use Rattle.walk.proofs.KindTables.{same_kind, sign-kind, sign-cell, taken-kind, given-kind, higher-height}
use Rattle.walk.proofs.KnownNames.{slot_in, known-need, is_found, found_same, found_below}
use Rattle.walk.proofs.OperandStack.{last_of, under_last, stack-written}
use Rattle.walk.proofs.ItemSteps.{nowhere, Known, knows, Puts, stacks}

-- A cell was read, and what follows begins behind it

module _ {σ : Scope} {Given : Type 0} {A : Type 0} {Q : A → Type 0} {encode : A → List ℕ} {m m' : List ℕ} {s r behind : Step} {R : Res A} {c : Cell} where
  opens : (t p d : ℕ) → Read m c behind s
      → (When behind Given → When behind (c ≡ record { tag = t; place = p; datum = d }) → When behind (Known σ m (cell t p d)) → Ends σ m (place_of s) (free_of s) Q encode 0 3 m' r 3 [] [] m behind R)
      → Did σ Given Q encode 0 (cell t p d) m m' s r R
  unfolding cell
  opens t p d y k =
      begin (λ g.
      looks t p d [] (λ l.
      knows (λ n.
      skips t p d y.step (k (still_skipped m y.step g) (still_skipped m y.step (λ a f e. y.cell ∙ l a f e)) (still_skipped m y.step n)))))

-- Operands

-- a cell that only stacks an operand
module _ {σ : Scope} {os : List Operand} {m m' : List ℕ} {s behind : Step} {top : ℕ} {r : Inside} {c : Cell} where
  pub truth_done : (p : ℕ) (b : Bool) → Read m c behind s → Stacks m m' behind top (cell (truth_kind b) 0 (to_u (of_bool b))) (BOOL ∷ 1 ∷ []) r → ItemDone σ (truth_i p b) os m m' s top r
  unfolding item_cell item_does stacked operand type_kind capped
  truth_done p b y w =
      opens (truth_kind b) p 0 y (λ g l n.
      stacks {slack = 0} (truth_kind b) 0 (to_u (of_bool b)) (operand bool 1) w (λ _ _ _. refl) (λ a f e. let h = g a f e in record { kind = refl; height = refl; stack = h.stack; room = h.room })
      (λ k. gives (stacked (operand bool 1 ∷ os) (cell (truth_kind b) 0 (to_u (of_bool b)))) (λ a f e. record { stack = k a f e; more = omega arith }) refl (omega arith)))

  pub whole_done : (p n : ℕ) {small : Step} → Read m c behind s → small ≡ checked (leb c.datum 2147483647) 4 c.place behind → Stacks m m' small top (cell INT 0 c.datum) (DINT ∷ 1 ∷ []) r
      → ItemDone σ (whole_i p n) os m m' s top r
  unfolding item_cell item_does stacked operand type_kind capped largest
  whole_done p n y t w =
      opens INT p n y (λ g l k.
      checks (leb c.datum 2147483647) (leb n 2147483647) 4 c.place p t (λ a f e. let q = l a f e in (ap (λ x. leb x.datum 2147483647) q, ap (λ x. x.place) q))
      (stacks {slack = 0} INT 0 n (operand dint 1) w (still_checked _ 4 _ t (λ a f e. ap (λ x. cell INT 0 x.datum) (l a f e)))
      (still_checked _ 4 _ t (λ a f e. let h = g a f e in record { kind = refl; height = refl; stack = h.stack; room = h.room }))
      (λ k. gives (stacked (operand dint 1 ∷ os) (cell INT 0 n)) (λ a f e. record { stack = k a f e; more = omega arith }) refl (omega arith))))

  pub paren_done : (p : ℕ) → Read m c behind s → (r.step ≡ extended m behind) × (m' ≡ written m behind (cell OPEN 0 0)) → r.top ≡ top → ItemDone σ (paren_i p) os m m' s top r
  unfolding item_cell item_does stacked
  paren_done p y w e =
      opens OPEN p 0 y (λ g l k.
      writes {slack = 0} OPEN 0 0 w (λ _ _ _. refl)
      (gives (stacked os (cell OPEN 0 0)) (still_written m w.0 (λ a f q. record { stack = rw (e, w.1) (stack-written behind OPEN 0 0 (g a f q).stack); more = omega arith })) refl (omega arith)))

-- Operators

-- what stands for an operand that isn't there
abbrev missing : Operand
missing = operand bool 0

module _ {m m' : List ℕ} {behind typed : Step} {top : ℕ} {r : Inside} {c : Cell} where
  module _ (t : typed ≡ checked (eqb (get_or m (top - 2) 0) (sign_kind c.datum)) 8 c.place behind)
      (w : (r.step ≡ extended m typed) × (m' ≡ written m typed (cell UNARY (sign_place c.datum c.place) c.datum)))
      (e : r.top ≡ top) (σ : Scope) (p : ℕ) (g : Sign) (s : Step) where
    -- a sign before the operand x; n operands were there
    signs : (x : Operand) (os n : List Operand) → length os ≤ length n → When behind (Stack m top (x ∷ os)) → When behind (c ≡ record { tag = UNARY; place = p; datum = sign_code g })
        → Ends σ m (place_of s) (free_of s) (Behind m' r.top n) (λ x. x.cell) 0 3 m' r.step 3 [] [] m behind
        (◌>>=◌ (need (same_ty x.type (sign_ty g)) 8 p) (λ _. ok (stacked (operand (sign_ty g) x.height ∷ os) (sign_cell p g))))
    unfolding stacked operand
    signs x os n h b l =
        checks {slack = 3} (eqb (get_or m (top - 2) 0) (sign_kind c.datum)) (same_ty x.type (sign_ty g)) 8 c.place p t (λ a f q. (same a f q, ap (λ d. d.place) (l a f q)))
        (writes {slack = 0} UNARY (sign_place (sign_code g) p) (sign_code g) w (still_checked _ 8 _ t (λ a f q. ap (λ d. cell UNARY (sign_place d.datum d.place) d.datum) (l a f q)))
        (gives (stacked (operand (sign_ty g) x.height ∷ os) (sign_cell p g)) (still_written m w.0 (λ a f q. record { stack = after a f q; more = omega arith })) (sym (sign-cell p g)) (omega arith)))
      where
        -- the code tests what the rules test
        same : When behind (eqb (get_or m (top - 2) 0) (sign_kind c.datum) ≡ same_ty x.type (sign_ty g))
        same a f q = rw (ap (λ d. sign_kind d.datum) (l a f q), (last_of (b a f q)).kind, sign-kind g) (same_kind x.type (sign_ty g))

        -- it takes what it gives
        after : When typed (Stack m' r.top (operand (sign_ty g) x.height ∷ os))
        after a f q =
            let z = same-ty x.type (sign_ty g) (sym (still_checked _ 8 _ t same a f q) ∙ passed _ 8 _ behind t a f q) in
            rw (e, w.1, ← z) (stack-written typed UNARY _ _ (still_checked _ 8 _ t b a f q))

    -- it finds its operand
    sign-item : (os : List Operand) → Read m c behind s → ItemDone σ (sign_i p g) os m m' s top r
    unfolding item_cell item_does
    sign-item [] y =
        opens UNARY p (sign_code g) y (λ b l k. nowhere (λ a f q. (b a f q).enough refl) (signs missing [] [] (omega arith) (λ a f q. absurd ((b a f q).enough refl)) l))
    sign-item (x ∷ os) y = opens UNARY p (sign_code g) y (λ b l k. signs x os (x ∷ os) (omega arith) (λ a f q. (b a f q).stack) l)

  pub sign_done : typed ≡ checked (eqb (get_or m (top - 2) 0) (sign_kind c.datum)) 8 c.place behind
      → (r.step ≡ extended m typed) × (m' ≡ written m typed (cell UNARY (sign_place c.datum c.place) c.datum)) → r.top ≡ top → SignMeans c behind m m' top r
  sign_done t w e σ p g os s y = sign-item t w e σ p g s os y

-- whether the two operands of an operator have the type that it takes
abbrev pub fits : List ℕ → ℕ → ℕ → Bool
fits m top code = eqb (get_or m (top - 4) 0) (taken_kind code (get_or m (top - 4) 0)) && eqb (get_or m (top - 2) 0) (taken_kind code (get_or m (top - 4) 0))

-- what it gives, and the height of that
abbrev pub value_numbers : List ℕ → ℕ → ℕ → List ℕ
value_numbers m top code = given_kind code ∷ higher (get_or m (top - 3) 0) (get_or m (top - 1) 0) ∷ []

module _ {m m' : List ℕ} {behind typed : Step} {top : ℕ} {r : Inside} {c : Cell} where
  module _ (t : typed ≡ checked (fits m top c.datum) 8 c.place behind) (w : Stacks m m' typed (top - 4) (cell BINARY c.place c.datum) (value_numbers m top c.datum) r)
      (σ : Scope) (p : ℕ) (o : Bin) (s : Step) where
    -- an operator between the operands x and y
    operates : (y x : Operand) (os n : List Operand) → length os ≤ length n → When behind (Stack m top (y ∷ x ∷ os)) → When behind (top + 2 ≤ memory_numbers)
        → When behind (c ≡ record { tag = BINARY; place = p; datum = bin_code o })
        → Ends σ m (place_of s) (free_of s) (Behind m' r.top n) (λ x. x.cell) 0 3 m' r.step 3 [] [] m behind
        (◌>>=◌ (need (same_ty x.type (takes o x.type) && same_ty y.type (takes o x.type)) 8 p)
        (λ _. ok (stacked (operand (result o) (max x.height (suc y.height)) ∷ os) (cell BINARY p (bin_code o)))))
    unfolding stacked operand
    operates y x os n h b room l =
        checks {slack = 3} (fits m top c.datum) (same_ty x.type (takes o x.type) && same_ty y.type (takes o x.type)) 8 c.place p t
        (λ a f q. (same a f q, ap (λ d. d.place) (l a f q)))
        (stacks {slack = 0} BINARY p (bin_code o) value w (still_checked _ 8 _ t (λ a f q. ap (λ d. cell BINARY d.place d.datum) (l a f q))) (still_checked _ 8 _ t puts)
        (λ k. gives (stacked (value ∷ os) (cell BINARY p (bin_code o))) (λ a f q. record { stack = k a f q; more = omega arith }) refl (omega arith)))
      where
        value : Operand
        value = operand (result o) (max x.height (suc y.height))

        -- the code tests what the rules test
        same : When behind (fits m top c.datum ≡ (same_ty x.type (takes o x.type) && same_ty y.type (takes o x.type)))
        same a f q =
            let u = under_last (b a f q) in
            rw (ap (λ d. d.datum) (l a f q), u.0, (last_of (b a f q)).kind, taken-kind o x.type, same_kind x.type (takes o x.type), same_kind y.type (takes o x.type))

        -- its value is put where the left one was
        puts : When behind (Puts m (top - 4) (given_kind c.datum) (higher (get_or m (top - 3) 0) (get_or m (top - 1) 0)) value os)
        puts a f q =
            let u = under_last (b a f q) in
            let k = room a f q in
            record {
              kind = rw (ap (λ d. d.datum) (l a f q)) (given-kind o);
              height = rw (u.1, (last_of (b a f q)).height) (higher-height x.height y.height);
              stack = u.2;
              room = omega arith;
            }

    -- fewer operands are never there
    too_few : (n : List Operand) {R : Res Stacked} → item_does σ.vars (binary_i p o) n ≡ refuse 0 0 → When behind (Before σ m top n (binary_i p o)) → When behind (c ≡ record { tag = BINARY; place = p; datum = bin_code o })
        → Ends σ m (place_of s) (free_of s) (Behind m' r.top n) (λ x. x.cell) 0 3 m' r.step 3 [] [] m behind R
    too_few n e b l =
        let z : When behind ⊥ = λ a f q. (b a f q).enough e in
        nowhere z (operates missing missing [] n (omega arith) (λ a f q. absurd (z a f q)) (λ a f q. absurd (z a f q)) l)

    operation-item : (os : List Operand) → Read m c behind s → ItemDone σ (binary_i p o) os m m' s top r
    unfolding item_cell item_does
    operation-item [] y = opens BINARY p (bin_code o) y (λ b l k. too_few [] refl b l)
    operation-item (y₀ ∷ []) y = opens BINARY p (bin_code o) y (λ b l k. too_few (y₀ ∷ []) refl b l)
    operation-item (y₀ ∷ x ∷ os) y = opens BINARY p (bin_code o) y (λ b l k. operates y₀ x os (y₀ ∷ x ∷ os) (omega arith) (λ a f q. (b a f q).stack) (λ a f q. (b a f q).room) l)

  pub operation_done : typed ≡ checked (fits m top c.datum) 8 c.place behind → Stacks m m' typed (top - 4) (cell BINARY c.place c.datum) (value_numbers m top c.datum) r → OperationMeans c behind m m' top r
  operation_done t w σ p o os s y = operation-item t w σ p o s os y

-- Variables

-- its letters stand in the text
spelled_of : {text : List ℕ} {v : Name} → ItemIn text (name_i v) → Spelled text v
spelled_of (name_in h) = h

module _ {text m m' : List ℕ} {count slot kind top : ℕ} {behind typed : Step} {r : Inside} {c : Cell} where
  module _ (e : slot ≡ slot_or count (find (spelling text c.place c.datum) 0 (rows_from text m 0 count))) (t : typed ≡ checked (ltb slot count) 7 c.place behind)
      (k : kind ≡ type_kind (type_of (get_or m (3 * slot) 0))) (w : Stacks m m' typed top (cell NAME 0 slot) (kind ∷ 1 ∷ []) r)
      (vs : List Var) (v : Name) (os : List Operand) (s : Step) where
    -- the slot that was found among the names is the variable's
    finds : When behind (Before (scope text count vs) m top os (name_i v)) → When behind (c ≡ record { tag = NAME; place = v.place; datum = length v.letters })
        → When behind (Known (scope text count vs) m (cell NAME v.place (length v.letters)))
        → Ends (scope text count vs) m (place_of s) (free_of s) (Behind m' r.top os) (λ x. x.cell) 0 3 m' r.step 3 [] [] m behind
        (◌>>=◌ (known vs v) (λ s. ok (stacked (operand s.type 1 ∷ os) (cell NAME 0 s.slot))))
    unfolding stacked operand capped known
    finds g l n =
        rw (known-need v.place o (λ s. ok (stacked (operand s.type 1 ∷ os) (cell NAME 0 s.slot))))
        (checks {slack = 3} (ltb slot count) (not (is_none o)) 7 c.place v.place t (λ a f q. (test a f q, ap (λ d. d.place) (l a f q)))
        (stacks {slack = 0} NAME 0 (slot_in o).slot value w (λ a f q. ap (cell NAME 0) (there a f q).0) puts
        (λ k. gives (stacked (value ∷ os) (cell NAME 0 (slot_in o).slot)) (λ a f q. record { stack = k a f q; more = omega arith }) refl (omega arith))))
      where
        o : Option Slot
        o = find v.letters 0 vs

        value : Operand
        value = operand (slot_in o).type 1

        -- it is looked for by the letters of its name
        slot_is : When behind (slot ≡ slot_or count o)
        slot_is a f q =
            e ∙ ap (slot_or count) (ap (λ d. find (spelling text d.place d.datum) 0 (rows_from text m 0 count)) (l a f q) ∙ found_same text count m vs (n a f q).table v (spelled_of (g a f q).spelled))

        -- and the test is whether there is one
        test : When behind (ltb slot count ≡ not (is_none o))
        test a f q = ap (λ z. ltb z count) (slot_is a f q) ∙ found_below text count m vs (n a f q).table v.letters o refl

        -- behind the test there is a variable
        there : When typed ((slot ≡ (slot_in o).slot) × (o ≡ some (slot_in o)))
        there a f q =
            let z = is_found count o (sym (still_checked _ 7 _ t test a f q) ∙ passed _ 7 _ behind t a f q) in
            (still_checked _ 7 _ t slot_is a f q ∙ z.0, z.1)

        -- whose type is put on the stack
        puts : When typed (Puts m top kind 1 value os)
        puts a f q =
            let z = there a f q in
            let h = still_checked _ 7 _ t g a f q in
            let y = still_checked _ 7 _ t n a f q in
            record {
              kind = k ∙ ap type_kind (ap (λ i. type_of (get_or m (3 * i) 0)) z.0 ∙ found_type v.letters text m count vs (slot_in o) y.table z.1);
              height = refl;
              stack = h.stack;
              room = h.room;
            }

  pub variable_done : slot ≡ slot_or count (find (spelling text c.place c.datum) 0 (rows_from text m 0 count)) → typed ≡ checked (ltb slot count) 7 c.place behind
      → kind ≡ type_kind (type_of (get_or m (3 * slot) 0)) → Stacks m m' typed top (cell NAME 0 slot) (kind ∷ 1 ∷ []) r → VariableMeans text count c behind m m' top r
  unfolding item_cell item_does name_cell
  variable_done e t k w vs v os s y = opens NAME v.place (length v.letters) y (finds e t k w vs v os s)
