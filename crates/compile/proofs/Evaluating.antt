-- What compiling and running gives, against evaluating the text. Assumes nothing.
use mathlib.Core.Path.{◌≡◌, refl, sym, ap, ◌∙◌}
use mathlib.Core.List.{List}
use Prim.Native.Nat.{ℕ, ◌≤◌}
use native.Mathlib.Omega.{arith}
use lib.ListN.{length, drop, take}
use lib.Seq.{take-append_seam}
use Rattle.std.specs.Prelude.{Result, Ok, Err, IfOk}
use Rattle.rules.specs.Base.{Res, ok, refuse, ◌>>=◌}
use Rattle.rules.specs.Core.{Program}
use Rattle.rules.specs.Meaning.{Table}
use Rattle.rules.specs.Run.{run_image}
use Rattle.rules.specs.Compile.{compiled, Answer, accepted, refused, answer, compile, buffer_after}
use Rattle.rules.specs.Evaluate.{told_by, evaluated, evaluate, table_after}
use Rattle.rules.specs.Answers.{fault_number, answer_of, compiled_as, reported, evaluated_as}
use Rattle.rules.specs.declared.compiling.Compiled.{Compiled}
use Rattle.rules.specs.declared.compiling.Refusal.{Refusal}
use Rattle.rules.specs.declared.running.Report.{Report}
use Rattle.theorems.specs.Demands.{runs_as_evaluated}
use Rattle.compile.proofs.Fitting.{in_room}

-- What an answer of the code says of the rules' answer

record Imaged (A : Answer) (c : Compiled) : Type 0 where
  bytes : List ℕ
  long : length bytes ≡ c.image
  is : A ≡ accepted bytes c.code c.depth c.worst

-- an image of so many bytes
imaged : (A : Answer) (c : Compiled) → ok c ≡ compiled_as A → Imaged A c
imaged (accepted bytes o e v) c means =
    let same : c ≡ record { image = length bytes; code = o; depth = e; worst = v } = cc in
    rw same (record { bytes = bytes; long = refl; is = refl })
imaged (refused m q) c means = let z : ◌≡◌ {A = ℕ} 0 1 = cc in absurd (omega arith)

-- the same refusal
refusal : (A : Answer) (r : Refusal) → refuse (fault_number r.fault) r.place ≡ compiled_as A → A ≡ refused (fault_number r.fault) r.place
refusal (accepted bytes o e v) r means = let z : ◌≡◌ {A = ℕ} 0 1 = cc in absurd (omega arith)
refusal (refused m q) r means =
    let x : fault_number r.fault ≡ m = cc in
    let y : r.place ≡ q = cc in
    rw (x, y) refl

-- the image's count of bytes is within the buffer
pub fits : (lent capacity : ℕ) (text : List ℕ) (a : Result Compiled Refusal) → answer_of a ≡ compiled_as (compile lent capacity text) → IfOk a (λ c. c.image ≤ capacity)
fits lent capacity text (Ok c) means =
    let m = imaged (compile lent capacity text) c means in
    rw (← m.long) (in_room lent capacity text m.bytes c.code c.depth c.worst m.is)
fits lent capacity text (Err r) means = tt

-- so many bytes of the buffer are the image
front_is_image : (A : Answer) (c : Compiled) (m : Imaged A c) (buffer buffer' : List ℕ) → buffer' ≡ buffer_after A buffer → take c.image buffer' ≡ m.bytes
unfolding buffer_after
front_is_image A c m buffer buffer' writes =
    let b = m.bytes in
    let e : buffer' ≡ buffer_after (accepted b c.code c.depth c.worst) buffer = rw m.is at writes in
    rw (e, sym m.long) (take-append_seam b (drop (length b) buffer))

-- Evaluating

-- a text that is not compiled is not evaluated
refused-alike : (lent capacity : ℕ) (text : List ℕ) (n p B : ℕ) (t : Table) → compile lent capacity text ≡ refused n p → evaluate lent capacity text B t ≡ refuse n p
unfolding compile answer evaluate ◌>>=◌
refused-alike lent capacity text n p B t e = by (compiled lent capacity text) e
  where
    by : (R : Res Program) → answer R ≡ refused n p → ◌>>=◌ R (λ q. ok (evaluated q B t)) ≡ refuse n p
    by (ok q) e = let z : ◌≡◌ {A = ℕ} 0 1 = cc in absurd (omega arith)
    by (refuse m r) e =
        let a : m ≡ n = cc in
        let b : r ≡ p = cc in
        rw (a, b)

-- the refusal is told, and the table is left alone
pub refused-tells : (lent capacity : ℕ) (text : List ℕ) (r : Refusal) (B : ℕ) (t : Table) → answer_of {A = Compiled} (Err r) ≡ compiled_as (compile lent capacity text)
    → (evaluated_as (Err r) t ≡ evaluate lent capacity text B t) × (t ≡ table_after (evaluate lent capacity text B t) t)
unfolding table_after
refused-tells lent capacity text r B t means =
    let e = refused-alike lent capacity text (fault_number r.fault) r.place B t (refusal (compile lent capacity text) r means) in
    rw e (refl, refl)

-- the run is told, and its table is evaluating's
pub run-tells : (lent capacity : ℕ) (text buffer buffer' : List ℕ) (c : Compiled) (B : ℕ) (t t' : Table) (r : Report) → answer_of (Ok c) ≡ compiled_as (compile lent capacity text)
    → buffer' ≡ buffer_after (compile lent capacity text) buffer → reported r t' ≡ run_image (take c.image buffer') B t
    → (evaluated_as (Ok (record { outcome = r.outcome; ticks = r.ticks })) t' ≡ evaluate lent capacity text B t) × (t' ≡ table_after (evaluate lent capacity text B t) t)
unfolding table_after told_by
run-tells lent capacity text buffer buffer' c B t t' r means writes ran =
    let m = imaged (compile lent capacity text) c means in
    let f = front_is_image (compile lent capacity text) c m buffer buffer' writes in
    let e = runs_as_evaluated lent capacity text m.bytes c.code c.depth c.worst m.is B t ∙ ap (λ x. ok (told_by x)) (sym (rw f at ran)) in
    rw e (refl, refl)
