-- Running and filling from what was read of an image: one law for each answer. Assumes nothing.
use mathlib.Core.Path.{◌≡◌, refl, sym, ap, ◌∙◌}
use mathlib.Core.Bool.{true, false}
use mathlib.Core.List.{List}
use mathlib.Core.Option.{Option, none, some}
use Prim.Native.Nat.{ℕ, ◌≤◌}
use lib.ListN.{length}
use borrow.Author.Tests.{eq-eqb, ne_eqb}
use Rattle.rules.specs.Limits.{code_limit, stack_limit}
use Rattle.rules.specs.Meaning.{Table}
use Rattle.rules.specs.Image.{Loaded, image_in}
use Rattle.rules.specs.Run.{Report, refused_run, valid, run_loaded, run_image, Filling, fill_loaded, fill_image}
use Rattle.theorems.specs.Promise.{types-length}
use Rattle.variables.specs.Slots.{is_some, types_in, values_in}
use Rattle.variables.proofs.Options.{clash}
use Rattle.variables.proofs.Values.{vars-length}
use Rattle.image.specs.Parts.{variables_part, code_part}
use Rattle.image.proofs.Whole.{loaded-types, loaded_values, loaded-code, code_short}
use Rattle.run.specs.Standing.{carried_out}
use Rattle.run.proofs.Progress.{seen}

-- an image was read, or none
data Read (b : List ℕ) : Option Loaded → Type 0 where
  nothing : Read b none
  loaded : (i : Loaded) → image_in b ≡ some i → Read b (some i)

reading : (b : List ℕ) → Read b (image_in b)
reading b = by (image_in b) refl
  where
    by : (o : Option Loaded) → image_in b ≡ o → Read b o
    by none e = nothing
    by (some i) e = loaded i e

pub short : (b : List ℕ) → is_some (image_in b) ≡ true → length (code_part b) ≤ code_limit
unfolding is_some
short b e = by (reading b) e
  where
    by : {o : Option Loaded} → Read b o → is_some o ≡ true → length (code_part b) ≤ code_limit
    by nothing e = clash (cc)
    by (loaded i p) e = code_short b i p

module _ (b : List ℕ) (budget : ℕ) (t : Table) {r : Report} where
  pub no_image : is_some (image_in b) ≡ false → r ≡ refused_run 23 t → r ≡ run_image b budget t
  unfolding run_image run_loaded is_some
  no_image e p = by (image_in b) e
    where
      by : (o : Option Loaded) → is_some o ≡ false → r ≡ run_loaded stack_limit o budget t
      by none e = p
      by (some i) e = clash (cc)

  pub bad_table : is_some (image_in b) ≡ true → valid (types_in (variables_part b)) t ≡ false → r ≡ refused_run 24 t → r ≡ run_image b budget t
  unfolding run_image run_loaded is_some
  bad_table e f p = by (reading b) e
    where
      by : {o : Option Loaded} → Read b o → is_some o ≡ true → r ≡ run_loaded stack_limit o budget t
      by nothing e = clash (cc)
      by (loaded i q) e = rw (loaded-types b i q, f) p

  pub all_good : is_some (image_in b) ≡ true → valid (types_in (variables_part b)) t ≡ true → r ≡ carried_out (seen (variables_part b) (code_part b)) budget t → r ≡ run_image b budget t
  unfolding run_image run_loaded is_some carried_out
  all_good e f p = by (reading b) e
    where
      by : {o : Option Loaded} → Read b o → is_some o ≡ true → r ≡ run_loaded stack_limit o budget t
      by nothing e = clash (cc)
      by (loaded i q) e = rw (loaded-types b i q, loaded-code b i q, f) p

-- ---- filling
pub as_many : (vars : List ℕ) → length (types_in vars) ≡ length (values_in vars)
as_many vars = (vars-length vars).0 ∙ sym (vars-length vars).1

module _ (b : List ℕ) (t : Table) {r : Filling} where
  pub fill_none : is_some (image_in b) ≡ false → r ≡ record { answer = 23; table = t } → r ≡ fill_image b t
  unfolding fill_image fill_loaded is_some
  fill_none e p = by (image_in b) e
    where
      by : (o : Option Loaded) → is_some o ≡ false → r ≡ fill_loaded o t
      by none e = p
      by (some i) e = clash (cc)

  pub fill_other : is_some (image_in b) ≡ true → (length t ≡ length (types_in (variables_part b)) → ⊥) → r ≡ record { answer = 24; table = t } → r ≡ fill_image b t
  unfolding fill_image fill_loaded is_some
  fill_other e f p = by (reading b) e
    where
      by : {o : Option Loaded} → Read b o → is_some o ≡ true → r ≡ fill_loaded o t
      by nothing e = clash (cc)
      by (loaded i q) e = rw (ne_eqb (length t) (length i.vars) (λ n. f (n ∙ sym (types-length i.vars) ∙ ap length (loaded-types b i q)))) p

  pub fill_done : is_some (image_in b) ≡ true → length t ≡ length (types_in (variables_part b)) → r ≡ record { answer = 0; table = values_in (variables_part b) } → r ≡ fill_image b t
  unfolding fill_image fill_loaded is_some
  fill_done e f p = by (reading b) e
    where
      by : {o : Option Loaded} → Read b o → is_some o ≡ true → r ≡ fill_loaded o t
      by nothing e = clash (cc)
      by (loaded i q) e =
          rw (eq-eqb (length t) (length i.vars) (f ∙ ap length (sym (loaded-types b i q)) ∙ types-length i.vars), loaded_values b i q) p
