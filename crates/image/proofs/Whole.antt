-- A whole image: what makes three records one, and what is read of it. Assumes nothing.
use Rattle.std.proofs.Common.{◌≡◌, refl, sym, ap, ◌∙◌, Bool, true, false, ◌&&◌, List, ℕ, ◌*◌, ◌≤◌, eqb, leb, length, arith}
use mathlib.Core.Option.{Option, none, some}
use borrow.Author.Tests.{leb-true, leb-false, le-leb, lt-leb}
use Rattle.rules.specs.Base.{pick}
use Rattle.rules.specs.Limits.{variable_limit, code_limit}
use Rattle.rules.specs.Bytes.{Record, record_in}
use Rattle.rules.specs.Core.{Variable, types, initials}
use Rattle.rules.specs.Image.{Loaded, variables_in, on_kind, loaded_of, image_in}
use Rattle.variables.specs.Slots.{is_some, types_in, values_in}
use Rattle.variables.proofs.Options.{clash, both, chosen}
use Rattle.variables.proofs.Reading.{Read, read}
use Rattle.image.specs.Parts.{Three, shaped, payload_of, rest_of, variables_part, code_part}

-- ---- a choice of something or nothing
chosen_or : {A : Type 0} (b : Bool) (x : Option A) → is_some (pick b (λ _. x) (λ _. none)) ≡ (b && is_some x)
unfolding is_some
chosen_or true x = refl
chosen_or false x = refl

-- ---- what is read behind a record
module _ {A : Type 0} (k : ℕ) {o : Option Record} (f : Record → Option A) where
  gone : o ≡ none → on_kind k o f ≡ none
  unfolding on_kind
  gone e = rw e

  module _ {r : Record} (e : o ≡ some r) where
    missing : f r ≡ none → on_kind k o f ≡ none
    unfolding on_kind
    missing h = rw (e, h) (either (eqb r.kind k))
      where
        either : (b : Bool) → pick {A = Option A} b (λ _. none) (λ _. none) ≡ none
        either true = refl
        either false = refl

    tested : is_some (on_kind k o f) ≡ (eqb r.kind k && is_some (f r))
    unfolding on_kind
    tested = rw e (chosen_or (eqb r.kind k) (f r))

-- a record that is cut off
module _ (b : List ℕ) where
  pub no_first : record_in b ≡ none → image_in b ≡ none
  unfolding image_in
  no_first p = gone 1 _ p

  module _ {one : Record} (p : record_in b ≡ some one) where
    pub no_second : record_in one.rest ≡ none → image_in b ≡ none
    unfolding image_in
    no_second q = missing 1 _ p (gone 2 _ q)

    pub no_third : {two : Record} → record_in one.rest ≡ some two → record_in two.rest ≡ none → image_in b ≡ none
    unfolding image_in
    no_third q r = missing 1 _ p (missing 2 _ q (gone 3 _ r))

-- ---- the tests that make three records an image
-- as many bytes as a limit of variables have
five_each : (m n : ℕ) → leb (5 * m) (5 * n) ≡ leb m n
five_each m n = go (leb m n) refl
  where
    go : (t : Bool) → leb m n ≡ t → leb (5 * m) (5 * n) ≡ t
    go true e = let l = leb-true m n e in le-leb (5 * m) (5 * n) (omega arith)
    go false e = let l = leb-false m n e in lt-leb (5 * m) (5 * n) (omega arith)

-- the variables are within the limit
few : (p code : List ℕ) → is_some (loaded_of (variables_in p) code) ≡ (leb (length p) (5 * variable_limit) && is_some (variables_in p))
unfolding is_some loaded_of
few p code = go (variables_in p) refl
  where
    neither : (t : Bool) → false ≡ (t && false)
    neither true = refl
    neither false = refl

    go : (o : Option (List Variable)) → variables_in p ≡ o → is_some (loaded_of o code) ≡ (leb (length p) (5 * variable_limit) && is_some o)
    go none e = neither (leb (length p) (5 * variable_limit))
    go (some vs) e = chosen_or (leb (length vs) variable_limit) _ ∙ rw ((read p vs e).long, five_each (length vs) variable_limit)

pub image_if : {b : List ℕ} {one two three : Record} → Three b one two three → is_some (image_in b) ≡ (shaped one two three && is_some (variables_in one.payload))
unfolding image_in
image_if {one = one} {two = two} {three = three} t =
    let tests = leb (length two.payload) code_limit && eqb (length three.payload) 6 && eqb (length three.rest) 0 in
    tested 1 _ t.first
    ∙ ap (λ x. eqb one.kind 1 && x)
    (tested 2 _ t.second ∙ ap (λ x. eqb two.kind 2 && x) (tested 3 _ t.third ∙ ap (λ x. eqb three.kind 3 && x) (chosen_or tests _ ∙ ap (λ x. tests && x) (few one.payload two.payload))))
    ∙ regroup (eqb one.kind 1) (eqb two.kind 2) (eqb three.kind 3) tests (leb (length one.payload) (5 * variable_limit)) _
  where
    regroup : (a b c d e f : Bool) → (a && (b && (c && (d && (e && f))))) ≡ ((a && (b && (c && (d && e)))) && f)
    regroup true true true true e f = refl
    regroup true true true false e f = refl
    regroup true true false d e f = refl
    regroup true false c d e f = refl
    regroup false b c d e f = refl

-- ---- what was read of an image, in terms of its bytes
of_kind : {A : Type 0} (k : ℕ) (o : Option Record) (f : Record → Option A) {a : A} → on_kind k o f ≡ some a → (r : Record) × (o ≡ some r) × (f r ≡ some a)
unfolding on_kind
of_kind k none f e = clash (cc)
of_kind k (some r) f e = (r, refl, (chosen (eqb r.kind k) (f r) e).1)

load_of : (o : Option (List Variable)) (code : List ℕ) (i : Loaded) → loaded_of o code ≡ some i → (o ≡ some i.vars) × (i.code ≡ code)
unfolding loaded_of
load_of none code i e = clash (cc)
load_of (some vs) code i e =
    let l : Loaded = record { vars = vs; code = code } in
    let f = chosen (leb (length vs) variable_limit) (some l) e in
    let g : l ≡ i = cc in
    rw (← g) (refl, refl)

record Image (b : List ℕ) (i : Loaded) : Type 0 where
  vars : Read (variables_part b) i.vars
  code : i.code ≡ code_part b
  short : length (code_part b) ≤ code_limit

image : (b : List ℕ) (i : Loaded) → image_in b ≡ some i → Image b i
unfolding image_in variables_part code_part payload_of rest_of
image b i e =
    let p = of_kind 1 (record_in b) _ e in
    let q = of_kind 2 (record_in p.0.rest) _ p.2 in
    let r = of_kind 3 (record_in q.0.rest) _ q.2 in
    let t = chosen _ _ r.2 in
    let v = both _ _ (both _ _ t.0).0 in
    let l = load_of _ _ i t.1 in
    let one = ap payload_of p.1 in
    let two = ap (λ o. payload_of (record_in (rest_of o))) p.1 ∙ ap payload_of q.1 in
    record { vars = rw one (read _ i.vars l.0); code = l.1 ∙ sym two; short = rw two (leb-true _ _ v.0) }

pub loaded-types : (b : List ℕ) (i : Loaded) → image_in b ≡ some i → types i.vars ≡ types_in (variables_part b)
loaded-types b i e = (image b i e).vars.kinds

pub loaded_values : (b : List ℕ) (i : Loaded) → image_in b ≡ some i → initials i.vars ≡ values_in (variables_part b)
loaded_values b i e = (image b i e).vars.inits

pub loaded-code : (b : List ℕ) (i : Loaded) → image_in b ≡ some i → i.code ≡ code_part b
loaded-code b i e = (image b i e).code

pub code_short : (b : List ℕ) (i : Loaded) → image_in b ≡ some i → length (code_part b) ≤ code_limit
code_short b i e = (image b i e).short
