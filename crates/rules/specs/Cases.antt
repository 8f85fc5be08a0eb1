-- Worked cases: a text or an image as bytes, a table, a budget, and what must come out.
use Rattle.std.specs.Prelude.{List, [], ◌++◌, ℕ}
use Prim.Native.String.{String}
use Rattle.rules.specs.Limits.{memory_numbers, image_limit}
use Rattle.rules.specs.Base.{Res, ok, refuse, bytes}
use Rattle.rules.specs.Meaning.{Table}
use Rattle.rules.specs.Compile.{Answer, accepted, refused, compile}
use Rattle.rules.specs.Run.{Report, run_image, Filling, fill_image}
use Rattle.rules.specs.Evaluate.{Told, evaluate, told_by}

-- what must come out
pub data Fact : Type 0 where
  -- of compiling the text: the answer
  answers : Answer → Fact
  -- the same with working memory of this many numbers and an image buffer of this many bytes
  answers_in : ℕ → ℕ → Answer → Fact
  -- of evaluating the text, and of running its image: outcome, ticks and table
  tells : Res Told → Res Told → Fact
  -- of running the text's image: the whole report
  reports : Res Report → Fact
  -- of running the bytes as an image
  runs : Report → Fact
  -- of filling a table from the bytes as an image
  fills : Filling → Fact

pub record Case : Type 0 where
  pub given : List ℕ
  pub table : Table
  pub budget : ℕ
  pub want : Fact

abbrev answered : List ℕ → Answer
answered text = compile memory_numbers image_limit text

abbrev running : Answer → ℕ → Table → Res Report
running (accepted i c d w) budget t = ok (run_image i budget t)
running (refused n p) budget t = refuse n p

abbrev tells_run : Res Report → Res Told
tells_run (ok r) = ok (told_by r)
tells_run (refuse n p) = refuse n p

-- what is found, of the kind that is wanted
abbrev pub like : Fact → List ℕ → ℕ → Table → Fact
like (answers a) text budget t = answers (answered text)
like (answers_in lent n a) text budget t = answers_in lent n (compile lent n text)
like (tells r s) text budget t = tells (evaluate memory_numbers image_limit text budget t) (tells_run (running (answered text) budget t))
like (reports r) text budget t = reports (running (answered text) budget t)
like (runs r) image budget t = runs (run_image image budget t)
like (fills f) image budget t = fills (fill_image image t)

abbrev pub found : Case → Fact
found c = like c.want c.given c.budget c.table

-- a text and the compiler's answer
abbrev pub compiling : List ℕ → Answer → Case
compiling text a = record { given = text; table = []; budget = 0; want = answers a }

-- a text, the length of the image buffer, and the compiler's answer
abbrev pub compiling_in : List ℕ → ℕ → Answer → Case
compiling_in text n a = record { given = text; table = []; budget = 0; want = answers_in memory_numbers n a }

-- a text, the length of working memory in numbers, and the compiler's answer
abbrev pub compiling_with : List ℕ → ℕ → Answer → Case
compiling_with text lent a = record { given = text; table = []; budget = 0; want = answers_in lent image_limit a }

-- a text, a table and a budget, and the compiler's refusal
abbrev pub refusing : List ℕ → Table → ℕ → ℕ → ℕ → Case
refusing text t budget n p = record { given = text; table = t; budget = budget; want = tells (refuse n p) (refuse n p) }

-- a text and a table, at a budget; outcome, ticks and table
abbrev pub meaning_at : ℕ → List ℕ → Table → ℕ → ℕ → Table → Case
meaning_at budget text t outcome ticks u = record {
  given = text;
  table = t;
  budget = budget;
  want = tells (ok (record { outcome = outcome; ticks = ticks; table = u })) (ok (record { outcome = outcome; ticks = ticks; table = u }));
}

-- the same at the largest budget
abbrev pub meaning : List ℕ → Table → ℕ → ℕ → Table → Case
meaning = meaning_at 4294967295

abbrev pub report : ℕ → ℕ → ℕ → ℕ → Table → Report
report outcome ticks instructions offset u = record { outcome = outcome; ticks = ticks; instructions = instructions; offset = offset; table = u }

-- a text and a table, at the largest budget; the whole report of its image's run
abbrev pub listing : List ℕ → Table → Report → Case
listing text t r = record { given = text; table = t; budget = 4294967295; want = reports (ok r) }

-- an image, a table and a budget; the report
abbrev pub image : List ℕ → Table → ℕ → Report → Case
image i t budget r = record { given = i; table = t; budget = budget; want = runs r }

-- an image and a table; the number, and the table afterwards
abbrev pub filling : List ℕ → Table → ℕ → Table → Case
filling i t n u = record { given = i; table = t; budget = 0; want = fills (record { answer = n; table = u }) }

-- statements over one variable A
abbrev pub over_a : String → List ℕ
over_a s = bytes "PROGRAM P VAR A:DINT; END_VAR " ++ (bytes s ++ bytes " END_PROGRAM")
