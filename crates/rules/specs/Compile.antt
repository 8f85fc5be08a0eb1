-- Compiling: from the text's bytes, the working memory's length and the image buffer's to the answer, and what the lent memory holds afterwards.
use Rattle.std.specs.Prelude.{List, ◌++◌, ℕ, eqb, leb, length, drop, replicate}
use Rattle.rules.specs.Limits.{text_limit, code_limit, memory_numbers}
use Rattle.rules.specs.Base.{pick, Res, ok, refuse, ◌>>=◌, need}
use Rattle.rules.specs.Tokens.{tokens}
use Rattle.rules.specs.Syntax.{parse}
use Rattle.rules.specs.Core.{Program}
use Rattle.rules.specs.Walk.{walk}
use Rattle.rules.specs.Translation.{code_of}
use Rattle.rules.specs.Depth.{depth_l}
use Rattle.rules.specs.Worst.{worst_l, figure}
use Rattle.rules.specs.Image.{image}

-- tokens, syntax, the walk
unfoldable pub front : List ℕ → Res Program
front text = do
  ts ← tokens text
  tree ← parse ts
  walk tree

-- 17; 1; tokens; syntax and nesting; the walk; last 13, 14
unfoldable pub compiled : ℕ → ℕ → List ℕ → Res Program
compiled lent capacity text = do
  _ ← need (leb memory_numbers lent) 17 0
  _ ← need (leb (length text) text_limit) 1 text_limit
  p ← front text
  _ ← need (leb (length (code_of p.body)) code_limit) 13 (length text)
  _ ← need (leb (length (image p)) capacity) 14 (length text)
  ok p

pub data Answer : Type 0 where
  -- the image's bytes, the code's length, depth, worst case
  accepted : List ℕ → ℕ → ℕ → ℕ → Answer
  -- number and place
  refused : ℕ → ℕ → Answer

unfoldable pub answer : Res Program → Answer
answer (ok p) = accepted (image p) (length (code_of p.body)) (depth_l p.body) (figure (worst_l p.body))
answer (refuse n p) = refused n p

-- lent: the length of working memory, in numbers of four bytes; capacity: the image buffer's, in bytes
unfoldable pub compile : ℕ → ℕ → List ℕ → Answer
compile lent capacity text = answer (compiled lent capacity text)

-- the image buffer afterwards: bytes past the image stay, and a refusal changes none
unfoldable pub buffer_after : Answer → List ℕ → List ℕ
buffer_after (accepted i c d w) buffer = i ++ drop (length i) buffer
buffer_after (refused n p) buffer = buffer

-- working memory afterwards: 17 leaves it untouched, else it ends all zero
unfoldable pub memory_after : Answer → List ℕ → List ℕ
memory_after (accepted i c d w) lent = replicate (length lent) 0
memory_after (refused n p) lent = pick (eqb n 17) (λ _. lent) (λ _. replicate (length lent) 0)
